-- Ask 12, "Corrections in another order": of postings on a book in bytes, each given a store and a log of its own, or none, by the contract of the public function; of those of a
-- sequence, which are all given one store; and of the lines of a list. Assumes nothing.
use Rattle.std.specs.Prelude.{◌≡◌, ◌∷◌, ◌++◌, ◌+ℤ◌}
use Rattle.base.specs.Basics.{true, Option, List, [], Permᴰ, map, ℕ, T, eqb, ℤ}
use Rattle.requests.specs.Carried.{Carried}
use Rattle.requests.specs.Logged.{Posted}
use Rattle.requests.specs.Request.{call, Act, act_of}
use Rattle.rules.specs.Calls.{Call, posting, Answer, only}
use Rattle.base.specs.Lists.{all}
use Rattle.rules.specs.Signed.{within}
use Rattle.sequence.specs.Links.{Link, Linked, is_accepted}

-- ---- "Two accepted postings on one user and area, one straight after the other, leave the book that a single posting of their sum leaves, and that posting is accepted too."

-- two such postings, of an amount x with a store and a log, or none of them, and then of y with whatever others: from bytes s over t to u
pub record PostedTwice (store other log lent : Option (List ℕ)) (s t u : List ℕ) (id area : ℕ) (x y : ℤ) (a b : Answer) : Type 0 where
  pub first : Carried (act_of store log (call (posting id area x))) s a t
  pub first_accepted : a.number ≡ 0
  pub second : Carried (act_of other lent (call (posting id area y))) t b u
  pub second_accepted : b.number ≡ 0

pub record PostingsAdd : Type 0 where
  -- the posting of the sum, from s and with the first one's store and log, is accepted and leaves u
  pub sum : {store other log lent : Option (List ℕ)} {s t u : List ℕ} {id area : ℕ} {x y : ℤ} {a b : Answer} → PostedTwice store other log lent s t u id area x y a b
      → Carried (act_of store log (call (posting id area (x +ℤ y)))) s (only 0) u
  -- there always is such a posting: the sum is within ±2,000,000, and an amount has 64 bits
  pub fits : {store other log lent : Option (List ℕ)} {s t u : List ℕ} {id area : ℕ} {x y : ℤ} {a b : Answer} → PostedTwice store other log lent s t u id area x y a b
      → within 2000000 (x +ℤ y) ≡ true

-- ---- "For every list, any two orders of the same accepted postings, from one book with nothing between and all accepted in both, end in equal bytes."

-- a posting: the user's id, an area and a signed amount
pub record Posting : Type 0 where
  pub id : ℕ
  pub area : ℕ
  pub amount : ℤ

-- the call that it is
unfoldable pub call_of : Posting → Call
call_of p = posting p.id p.area p.amount

-- accepted postings one after the other and nothing between, from bytes s to bytes t, each with a store and a log of its own, or none
pub data Posts : List ℕ → List Posting → List ℕ → Type 0 where
  no_more : {s : List ℕ} → Posts s [] s
  next : {s t u : List ℕ} {p : Posting} {ps : List Posting} {a : Answer} (store log : Option (List ℕ)) → Carried (act_of store log (call (call_of p))) s a t → a.number ≡ 0
      → Posts t ps u → Posts s (p ∷ ps) u

-- the postings qs are the postings ps in another order: a permutation of the list, as mathlib defines it
pub record AnyStores : Type 0 where
  pub same : {s t u : List ℕ} {ps qs : List Posting} → Permᴰ ps qs → Posts s ps t → Posts s qs u → t ≡ u

-- ---- postings of a sequence, all with one store

-- what the links of a sequence ask for
unfoldable pub acts_of : List Link → List Act
acts_of ls = map (λ l. l.asked.act) ls

-- the postings ps, one after the other and nothing between, from bytes s to bytes t, each with whatever log
pub record InOrder (store : Option (List ℕ)) (s : List ℕ) (ps : List Posting) (ls : List Link) (t : List ℕ) : Type 0 where
  pub linked : Linked store s ls t
  pub acts : acts_of ls ≡ map (λ p. call (call_of p)) ps

-- they are such postings, and so their order is free
pub record OrderFree (store : Option (List ℕ)) : Type 0 where
  pub posts : {s t u : List ℕ} {ps qs : List Posting} {ls : List Link} → InOrder store s ps ls t → T (all is_accepted ls) → Posts t qs u → Posts s (ps ++ qs) u
  pub same : {s t u : List ℕ} {ps qs : List Posting} {ls ms : List Link} → Permᴰ ps qs
      → InOrder store s ps ls t → T (all is_accepted ls)
      → InOrder store s qs ms u → T (all is_accepted ms)
      → t ≡ u

-- ---- the lines of a list

-- the postings ps as the lines of a list: it is accepted, by the contract of the public function, with a log or none, and every place holds 0 after it
pub record InList (store : Option (List ℕ)) (s : List ℕ) (ps : List Posting) (places t left : List ℕ) : Type 0 where
  pub log : Option (List ℕ)
  pub lent : List ℕ
  pub handed : List ℕ
  pub posted : Posted store log (map (λ p. p.id) ps) (map (λ p. p.area) ps) (map (λ p. p.amount) ps) places s 0 t left lent handed
  pub zeros : T (all (λ n. eqb n 0) left)

-- accepted postings one after the other and nothing between
pub record Apart (store : Option (List ℕ)) (s : List ℕ) (ps : List Posting) (t : List ℕ) : Type 0 where
  pub links : List Link
  pub order : InOrder store s ps links t
  pub accepted : T (all is_accepted links)

pub record LinesOrderFree (store : Option (List ℕ)) : Type 0 where
  -- such lines are accepted postings one after the other, of which all the above holds, among postings and lists with whatever other stores too
  pub posts : {s t u places left : List ℕ} {ps qs : List Posting} → InList store s ps places t left → Posts t qs u → Posts s (ps ++ qs) u
  pub apart : {s t places left : List ℕ} {ps : List Posting} → InList store s ps places t left → Apart store s ps t
  -- the same lines in two orders, every place 0 after both lists
  pub lists : {s t u places left others gave : List ℕ} {ps qs : List Posting} → Permᴰ ps qs
      → InList store s ps places t left → InList store s qs others u gave → t ≡ u
  -- a list, and its lines as postings of their own in another order
  pub calls : {s t u places left : List ℕ} {ps qs : List Posting} {ms : List Link} → Permᴰ ps qs
      → InList store s ps places t left → InOrder store s qs ms u → T (all is_accepted ms) → t ≡ u
