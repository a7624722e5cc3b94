-- Ask 12, as specs/Orders.antt states it: an accepted posting is a change of one user of the book, two such changes add up where user and area are the same, and any two can change places. Assumes nothing.
use Rattle.base.specs.Basics.{◌≡◌, refl, sym, ap, ap₂, subst, ◌∙◌, true, Option, List, [], ◌∷◌, ◌++◌, append-nil, map, nil≢cons, cons≢nil}
use Rattle.base.specs.Basics.{head-eq_of_cons-eq, tail-eq_of_cons-eq, Permᴰ, Permᴰ-nil, Permᴰ-cons, Permᴰ-swap, Permᴰ-trans}
use Rattle.base.specs.Basics.{Permᴰ-symm, ℕ, arith, T, eqb→eq, leb→le, ℤ, nat_abs, ◌+ℤ◌, +ℤ_assoc, le-leb}
use Rattle.book_format.proofs.Passed.{passed_of}
use Rattle.book_format.specs.Book.{book_of, bytes_of}
use Rattle.book_format.specs.Questions.{book_number}
use Rattle.requests.specs.Carried.{Carried}
use Rattle.requests.specs.Request.{call, Act, Request, act_of, opening_with, setting_of}
use Rattle.base.proofs.Linear.{abs_parts, parts_add, pos_part_of}
use Rattle.base.specs.Parts.{pos_part, neg_part}
use Rattle.laws.proofs.Bounds.{entry_le}
use Rattle.base.proofs.Tests.{and_l, and_r}
use Rattle.laws.proofs.Users.{all-find}
use Rattle.orders.proofs.Accepted.{posted_book, Accepted, accepted, book_left, bytes_left, carried, opened}
use Rattle.orders.proofs.Changes.{change_swap, change_twice, entry_posted, find-change, posted_keeps, posted_swap, posted_twice}
use Rattle.orders.specs.Orders.{PostedTwice, PostingsAdd, Posting, Posts, no_more, next, AnyStores, acts_of, call_of, InOrder, OrderFree}
use Rattle.rules.specs.Book.{Book, User, at, find}
use Rattle.rules.specs.Calls.{posting, Answer, only}
use Rattle.rules.specs.Changes.{change, posted, with_users}
use Rattle.base.specs.Lists.{all}
use Rattle.rules.specs.Questions.{user_is_valid}
use Rattle.rules.specs.Signed.{within}
use Rattle.sequence.specs.Links.{Link, Linked, accepted_number, ended, is_accepted, then}

-- ---- two postings on one user and area

-- on a book of the rules
book_twice : (id area : ℕ) (x y : ℤ) (b : Book) → posted_book id area y (posted_book id area x b) ≡ posted_book id area (x +ℤ y) b
unfolding posted_book with_users
book_twice id area x y b =
    ap (λ (us : List User). with_users b us)
    (change_twice id (posted area x) (posted area y) (posted_keeps area x) b.users
    ∙ ap (λ (f : User → User). change id f b.users) (λ i u. posted_twice area x y u i))

module _ {store other log lent : Option (List ℕ)} {s t u : List ℕ} {id area : ℕ} {x y : ℤ} {a b : Answer} (w : PostedTwice store other log lent s t u id area x y a b) where
  -- the new entry of the second is the old one and both amounts
  both_range : T (within 1000000 (at (find (book_of s).users id).physical area +ℤ (x +ℤ y)))
  unfolding posted_book with_users
  both_range =
      let p = accepted store w.first w.first_accepted in
      let v = find (book_of s).users id in
      let q : T (within 1000000 (at (find (posted_book id area x (book_of s)).users id).physical area +ℤ y))
      = subst (λ (n : Book). T (within 1000000 (at (find n.users id).physical area +ℤ y))) (book_left store w.first w.first_accepted) (accepted other w.second w.second_accepted).range in
      let f : find (posted_book id area x (book_of s)).users id ≡ posted area x v = find-change id (posted area x) (posted_keeps area x) (book_of s).users p.user in
      let r : at (find (posted_book id area x (book_of s)).users id).physical area +ℤ y ≡ at v.physical area +ℤ (x +ℤ y)
      = ap (λ (n : User). at n.physical area +ℤ y) f ∙ ap (λ (z : ℤ). z +ℤ y) (entry_posted v area x p.area) ∙ +ℤ_assoc (at v.physical area) x y in
      subst (λ (z : ℤ). T (within 1000000 z)) r q

  -- store and log are the same, and so is the book that is given
  same_opening : opening_with (book_number s) (setting_of store) log s ≡ 0
  same_opening = opened store w.first w.first_accepted

  -- so the posting of the sum passes every question
  both_accepted : Accepted s id area (x +ℤ y)
  both_accepted = let p = accepted store w.first w.first_accepted in record { book = p.book; user = p.user; area = p.area; range = both_range }

  -- and leaves the bytes that the second leaves
  as_one : Carried (act_of store log (call (posting id area (x +ℤ y)))) s (only 0) u
  as_one =
      let e : u ≡ bytes_of (posted_book id area (x +ℤ y) (book_of s))
      = bytes_left other w.second w.second_accepted ∙ ap (λ (n : Book). bytes_of (posted_book id area y n)) (book_left store w.first w.first_accepted) ∙ ap bytes_of (book_twice id area x y (book_of s)) in
      subst (λ (v : List ℕ). Carried (act_of store log (call (posting id area (x +ℤ y)))) s (only 0) v) (sym e) (carried store same_opening both_accepted)

  -- an old and a new entry within ±1,000,000 differ by at most 2,000,000
  sum_fits : within 2000000 (x +ℤ y) ≡ true
  unfolding within
  sum_fits =
      let p = accepted store w.first w.first_accepted in
      let v = find (book_of s).users id in
      let o = at v.physical area in
      let e = entry_le v area p.area (all-find user_is_valid (book_of s).users id (passed_of s p.book).sound.users p.user) in
      let n = leb→le (nat_abs (o +ℤ (x +ℤ y))) 1000000 both_range in
      let z = x +ℤ y in
      le-leb (nat_abs (x +ℤ y)) 2000000
      (omega (arith, e, n, abs_parts z, abs_parts (o +ℤ z), parts_add o z, pos_part_of z (pos_part z) (neg_part z) refl))

pub postings_add : PostingsAdd
postings_add = record { sum = as_one; fits = sum_fits }

-- ---- any order

-- the book after postings, one after the other
unfoldable all_posted : List Posting → Book → Book
all_posted [] b = b
all_posted (p ∷ ps) b = all_posted ps (posted_book p.id p.area p.amount b)

-- two of them in either order
book_swap : (p q : Posting) (b : Book)
    → posted_book q.id q.area q.amount (posted_book p.id p.area p.amount b) ≡ posted_book p.id p.area p.amount (posted_book q.id q.area q.amount b)
unfolding posted_book with_users
book_swap p q b =
    ap (λ (us : List User). with_users b us)
    (change_swap p.id q.id (posted p.area p.amount) (posted q.area q.amount) (posted_keeps p.area p.amount) (posted_keeps q.area q.amount)
    (posted_swap p.area q.area p.amount q.amount) b.users)

-- and so all of them: a permutation is made of swaps
any_order : {ps qs : List Posting} → Permᴰ ps qs → (b : Book) → all_posted ps b ≡ all_posted qs b
unfolding all_posted
any_order Permᴰ-nil b = refl
any_order (Permᴰ-cons {a = p} {b = q} {l₁ = ps} {l₂ = qs} e d) b =
    any_order d (posted_book p.id p.area p.amount b) ∙ ap (λ (r : Posting). all_posted qs (posted_book r.id r.area r.amount b)) e
any_order (Permᴰ-swap {a = p} {b = q} {l = ps} e f) b =
    ap (all_posted ps) (book_swap p q b)
    ∙ ap₂ (λ (r w : Posting). all_posted ps (posted_book r.id r.area r.amount (posted_book w.id w.area w.amount b))) e f
any_order (Permᴰ-trans d e) b = any_order d b ∙ any_order e b

-- of no postings there is one order
no_other : {ps qs : List Posting} → Permᴰ ps qs → ps ≡ [] → qs ≡ []
no_other Permᴰ-nil e = refl
no_other (Permᴰ-cons g d) e = absurd (cons≢nil e)
no_other (Permᴰ-swap g f) e = absurd (cons≢nil e)
no_other (Permᴰ-trans d f) e = no_other f (no_other d e)

-- the bytes at the end of accepted postings; where there is none, those at the start, which must then be the bytes of a book
posts_left : {s t : List ℕ} {ps : List Posting} → Posts s ps t → (ps ≡ [] → s ≡ bytes_of (book_of s)) → t ≡ bytes_of (all_posted ps (book_of s))
unfolding all_posted call_of
posts_left no_more b = b refl
posts_left (next {ps = ps} {a = a} store log c h m) b =
    let n = book_left store c h in
    posts_left m (λ z. bytes_left store c h ∙ ap bytes_of (sym n)) ∙ ap (λ (w : Book). bytes_of (all_posted ps w)) n

-- no posting
posts_none : {s t : List ℕ} {ps : List Posting} → Posts s ps t → ps ≡ [] → t ≡ s
posts_none no_more e = refl
posts_none (next store log c h m) e = absurd (cons≢nil e)

-- the same postings in two orders, all accepted in both
pub posts_same : {s t u : List ℕ} (ps qs : List Posting) → Permᴰ ps qs → Posts s ps t → Posts s qs u → t ≡ u
posts_same [] [] d p q = posts_none p refl ∙ sym (posts_none q refl)
posts_same [] (y ∷ qs) d p q = absurd (cons≢nil (no_other d refl))
posts_same (x ∷ ps) [] d p q = absurd (cons≢nil (no_other (Permᴰ-symm d) refl))
posts_same {s} (x ∷ ps) (y ∷ qs) d p q =
    posts_left p (λ e. absurd (cons≢nil e)) ∙ ap bytes_of (any_order d (book_of s)) ∙ sym (posts_left q (λ e. absurd (cons≢nil e)))

pub any_stores : AnyStores
any_stores = record { same = λ {s} {t} {u} {ps} {qs} d p q. posts_same ps qs d p q }

-- ---- postings of a sequence

module _ (store : Option (List ℕ)) where
  -- its accepted links, before other postings
  linked_posts : {s t u : List ℕ} {ls : List Link} {qs : List Posting} (ps : List Posting) → Linked store s ls t → acts_of ls ≡ map (λ p. call (call_of p)) ps → T (all is_accepted ls)
      → Posts t qs u → Posts s (ps ++ qs) u
  unfolding acts_of call_of all is_accepted accepted_number
  linked_posts [] ended e t b = b
  linked_posts [] (then g o k n x m) e t b = absurd (cons≢nil e)
  linked_posts (p ∷ ps) ended e t b = absurd (nil≢cons e)
  linked_posts {s} (p ∷ ps) (then {l = l} {ls = ls} g o k w v m) e t b =
      let i : l.asked.act ≡ call (call_of p) = head-eq_of_cons-eq e in
      let r : l.asked ≡ act_of store l.asked.log (call (call_of p)) = λ j. record { setting = record { store = o j }; log = l.asked.log; act = i j } in
      let c : Carried (act_of store l.asked.log (call (call_of p))) s l.gave.answer l.gave.book
      = subst (λ (x : List ℕ). Carried (act_of store l.asked.log (call (call_of p))) x l.gave.answer l.gave.book) g
      (subst (λ (x : Request). Carried x l.given l.gave.answer l.gave.book) r k) in
      let q : T (accepted_number (call (call_of p)) l.gave.answer.number) = subst (λ (x : Act). T (accepted_number x l.gave.answer.number)) i (and_l (is_accepted l) (all is_accepted ls) t) in
      next store l.asked.log c (eqb→eq l.gave.answer.number 0 q) (linked_posts ps m (tail-eq_of_cons-eq e) (and_r (is_accepted l) (all is_accepted ls) t) b)

  pub order_posts : {s t u : List ℕ} {ps qs : List Posting} {ls : List Link} → InOrder store s ps ls t → T (all is_accepted ls) → Posts t qs u → Posts s (ps ++ qs) u
  order_posts {ps = ps} o a b = linked_posts ps o.linked o.acts a b

  -- by themselves
  alone_posts : {s t : List ℕ} {ps : List Posting} {ls : List Link} → InOrder store s ps ls t → T (all is_accepted ls) → Posts s ps t
  alone_posts {s} {t} {ps} o a = subst (λ (xs : List Posting). Posts s xs t) (append-nil ps) (order_posts o a no_more)

  -- the same postings in two orders, all accepted in both
  pub same_end : {s t u : List ℕ} (ps qs : List Posting) {ls ms : List Link} → Permᴰ ps qs → InOrder store s ps ls t → T (all is_accepted ls)
      → InOrder store s qs ms u → T (all is_accepted ms) → t ≡ u
  same_end ps qs d p v q w = posts_same ps qs d (alone_posts p v) (alone_posts q w)

  pub order_free : OrderFree store
  order_free = record { posts = order_posts; same = λ {s} {t} {u} {ps} {qs} {ls} {ms} d p v q w. same_end ps qs {ls = ls} {ms = ms} d p v q w }
