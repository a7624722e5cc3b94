-- Any finite sequence of requests with one store and whatever logs from any bytes that pass the questions 1 to 7. One request on bytes is the request of the rules on the book that they
-- hold; what it does to the book composes over the sequence; positions come at the end from double counting. Assumes nothing.
use Rattle.base.specs.Basics.{◌≡◌, ◌∙◌, ap, ap₂, refl, subst, sym, not, Option, none, some, List, [], ◌∷◌, ◌++◌, ℕ, suc, zero, T, ℤ}
use Rattle.fields.specs.Field.{AllBytes}
use Rattle.book_format.proofs.Passed.{passed}
use Rattle.book_format.proofs.Round.{bytes_of_book_of}
use Rattle.book_format.proofs.Written.{all_bytes_bytes_of, book_of_bytes_of, written_number}
use Rattle.book_format.specs.Book.{book_of, bytes_of, trades_of, users_of}
use Rattle.book_format.specs.Questions.{book_number}
use Rattle.book_format.specs.Steps.{in_bytes}
use Rattle.base.specs.Sums.{sum_ℤ}
use Rattle.laws.proofs.Moved.{Moved, moved_refl, moved_trans}
use Rattle.laws.proofs.Positions.{positions_sum}
use Rattle.laws.specs.Statements.{AllCovered}
use Rattle.laws.specs.Trades.{Lowered, Pairwise}
use Rattle.requests.specs.Carried.{Carried}
use Rattle.log_format.specs.Log.{entries_of, log_bytes}
use Rattle.log_format.specs.Noted.{Entered, call_entered, has_entry, lastly, room, withdrawal_entered}
use Rattle.requests.specs.Request.{call, postings, withdrawal, Act, Outcome, Request, Setting, act_by, act_in, act_with, as_book, as_bytes, emptied_in, entered_in, limits_on, lines_in, outcome}
use Rattle.requests.specs.Request.{logged_after, opening_in, opening_lines, opening_with, opening_with_in, refused_given, request, request_given, request_in, step_in, withdrawal_after}
use Rattle.rules.specs.Book.{Book, Header}
use Rattle.rules.specs.Calls.{posting, Answer, Call, Result, about, call_after, effect, itself, result_in, unchanged}
use Rattle.rules.specs.Levels.{Limits}
use Rattle.rules.specs.Questions.{after, first_of, refusal}
use Rattle.sequence.proofs.Acts.{Acted, book_number_lem, step_law}
use Rattle.sequence.proofs.Entered.{request_law}
use Rattle.sequence.proofs.TradeBytes.{trade_bytes_lem}
use Rattle.sequence.specs.Claim.{as_none, as_also, each_none, each_also, AsDefined, Each, Kept, events, final, Claim}
use Rattle.sequence.specs.Links.{ended, then, Link, accepted_number, requests_of, is_accepted, Linked}
use Rattle.sequence.specs.Totals.{posted_in, reported_mwh, reported_worth}
use Rattle.store.specs.Store.{limits_of, store_number}

-- ---- one request on bytes

-- an act gives on bytes what it gives on the book that they hold
record Same (o : Outcome (List ℕ)) (e : Outcome Book) : Type 0 where
  answer : o.answer ≡ e.answer
  numbers : o.numbers ≡ e.numbers
  bytes : o.book ≡ bytes_of e.book
  log : o.log ≡ e.log

-- what the rules give is written as bytes, and the very bytes are left where it is refused
module _ {s : List ℕ} (e : s ≡ bytes_of (book_of s)) (log : Option (List ℕ)) where
  refused_same : (n : ℕ) → Same (refused_given log s n) (refused_given log (book_of s) n)
  unfolding refused_given
  refused_same n = record { answer = refl; numbers = refl; bytes = e; log = refl }

  after_same : (n : ℕ) {x : Outcome (List ℕ)} {y : Outcome Book} → Same x y → Same (after n (refused_given log s) x) (after n (refused_given log (book_of s)) y)
  unfolding after
  after_same zero w = w
  after_same (suc n) w = refused_same (suc n)

entered_same : (x : Entered) → Same (entered_in as_bytes x) (entered_in as_book x)
unfolding entered_in
entered_same x = record { answer = refl; numbers = refl; bytes = refl; log = refl }

emptied_same : {x : Outcome (List ℕ)} {y : Outcome Book} → Same x y → Same (emptied_in as_bytes x) (emptied_in as_book y)
unfolding emptied_in
emptied_same w = record { answer = w.answer; numbers = w.numbers; bytes = w.bytes; log = ap (λ (t : List ℕ). some (log_bytes [] t)) w.bytes }

module _ (g : Setting) where
  step_same : (n : ℕ) (s : List ℕ) (c : Call) → s ≡ bytes_of (book_of s) → Same (outcome (step_in as_bytes n g s c)) (outcome (step_in as_book n g (book_of s) c))
  unfolding step_in call_after opening_in after unchanged result_in outcome refused_given
  step_same n s c e = go (first_of n (store_number g.store b.header.date)) (refusal (about (limits_on g b) b c)) (effect (limits_on g b) b c)
    where
      b : Book
      b = book_of s

      go : (k m : ℕ) (r : Result Book)
          → Same (outcome (after k (unchanged s) (after m (unchanged s) (result_in in_bytes r)))) (outcome (after k (unchanged b) (after m (unchanged b) (result_in itself r))))
      go zero zero r = record { answer = refl; numbers = refl; bytes = refl; log = refl }
      go zero (suc m) r = refused_same e none (suc m)
      go (suc k) m r = refused_same e none (suc k)

  -- the lines of a list, one after another
  lines_same : (s ids areas : List ℕ) (amounts : List ℤ) → AllBytes s → book_number s ≡ 0 → Same (lines_in as_bytes g s ids areas amounts) (lines_in as_book g (book_of s) ids areas amounts)
  unfolding lines_in outcome
  lines_same s [] areas amounts b h = record { answer = refl; numbers = refl; bytes = sym (bytes_of_book_of s b (passed s h)); log = refl }
  lines_same s (id ∷ ids) [] amounts b h = record { answer = refl; numbers = refl; bytes = sym (bytes_of_book_of s b (passed s h)); log = refl }
  lines_same s (id ∷ ids) (area ∷ areas) [] b h = record { answer = refl; numbers = refl; bytes = sym (bytes_of_book_of s b (passed s h)); log = refl }
  lines_same s (id ∷ ids) (area ∷ areas) (z ∷ amounts) b h =
      let p = posting id area z in
      let held = book_of s in
      let same : book_number s ≡ as_book.number held = h ∙ sym (book_number_lem g held (passed s h).sound) in
      let t = (step_in as_bytes (book_number s) g s p).book in
      let n = (step_in as_book (as_book.number held) g held p).book in
      let c : Same (outcome (step_in as_bytes (book_number s) g s p)) (outcome (step_in as_book (as_book.number held) g held p))
      = subst (λ (k : ℕ). Same (outcome (step_in as_bytes (book_number s) g s p)) (outcome (step_in as_book k g held p))) same (step_same (book_number s) s p (sym (bytes_of_book_of s b (passed s h)))) in
      let sound = (step_law g held p (passed s h).sound).sound in
      let e : t ≡ bytes_of n = c.bytes in
      let r : Same (lines_in as_bytes g t ids areas amounts) (lines_in as_book g n ids areas amounts)
      = subst (λ (x : Book). Same (lines_in as_bytes g t ids areas amounts) (lines_in as_book g x ids areas amounts)) (ap book_of e ∙ book_of_bytes_of n sound)
      (lines_same t ids areas amounts (rw e (all_bytes_bytes_of n)) (ap book_number e ∙ written_number n sound)) in
      record {
        answer = refl;
        numbers = ap₂ (λ (k : ℕ) (ks : List ℕ). k ∷ ks) (ap (λ (a : Answer). a.number) c.answer) r.numbers;
        bytes = r.bytes;
        log = refl;
      }

module _ (n : ℕ) (g : Setting) (s : List ℕ) (b : AllBytes s) (h : book_number s ≡ 0) where
  abbrev held : Book
  held = book_of s

  -- the bytes are those of the book that they hold
  bytes_held : s ≡ bytes_of held
  bytes_held = sym (bytes_of_book_of s b (passed s h))

  act_same : (a : Act) → Same (act_in as_bytes n g s a) (act_in as_book n g held a)
  unfolding act_in opening_in
  act_same (call c) = step_same g n s c bytes_held
  act_same (postings v) =
      after_same bytes_held none (first_of (opening_lines n v) (store_number g.store held.header.date)) (lines_same g s v.ids v.areas v.amounts b h)
  act_same withdrawal = refused_same bytes_held none (first_of (first_of n (store_number g.store held.header.date)) 18)

  logged_same : (l : List ℕ) (a : Act) → Same (act_with as_bytes n g l s a) (act_with as_book n g l held a)
  unfolding act_with logged_after withdrawal_after opening_with_in opening_in
  logged_same l (call c) =
      let limits = limits_on g held in
      rw (bytes_of_book_of s b (passed s h))
      (after_same bytes_held (some l) (opening_with n g (some l) s)
      (after_same bytes_held (some l) (refusal (about limits held c ++ lastly (room l) c)) (entered_same (call_entered limits (room l) (entries_of s l) held c))))
  logged_same l (postings v) =
      rw (bytes_of_book_of s b (passed s h))
      (after_same bytes_held (some l) (opening_with (opening_lines n v) g (some l) s) (emptied_same (lines_same g s v.ids v.areas v.amounts b h)))
  logged_same l withdrawal =
      rw (bytes_of_book_of s b (passed s h))
      (after_same bytes_held (some l) (opening_with n g (some l) s)
      (after_same bytes_held (some l) (refusal (has_entry (entries_of s l) ∷ [])) (entered_same (withdrawal_entered (entries_of s l) held))))

  by_log : (log : Option (List ℕ)) (a : Act) → Same (act_by as_bytes n g log s a) (act_by as_book n g log held a)
  unfolding act_by
  by_log none a = act_same a
  by_log (some l) a = logged_same l a

request_same : (r : Request) (s : List ℕ) → AllBytes s → book_number s ≡ 0 → Same (request r s) (request_given r (book_of s))
unfolding request_in
request_same r s b h =
    subst (λ (n : ℕ). Same (request r s) (request_in as_book n r (book_of s))) (h ∙ sym (book_number_lem r.setting (book_of s) (passed s h).sound))
    (by_log (book_number s) r.setting s b h r.log r.act)

-- what the rules give for a request on the book that bytes hold
abbrev pub given_by : Request → List ℕ → Outcome Book
given_by r s = request_given r (book_of s)

-- what a link leaves
pub record Left (l : Link) : Type 0 where
  pub answer : l.gave.answer ≡ (given_by l.asked l.given).answer
  pub numbers : l.gave.numbers ≡ (given_by l.asked l.given).numbers
  pub bytes : l.gave.book ≡ bytes_of (given_by l.asked l.given).book
  pub log : l.gave.log ≡ (given_by l.asked l.given).log
  pub all_bytes : AllBytes l.gave.book
  pub number : book_number l.gave.book ≡ 0
  pub book : book_of l.gave.book ≡ (given_by l.asked l.given).book
  pub acted : Acted (limits_on l.asked.setting (book_of l.given)) (book_of l.given) l.asked.log l.asked.act (given_by l.asked l.given)

pub left_of : (l : Link) → AllBytes l.given → book_number l.given ≡ 0 → Carried l.asked l.given l.gave.answer l.gave.book
    → l.gave.numbers ≡ (request l.asked l.given).numbers → l.gave.log ≡ (request l.asked l.given).log → Left l
left_of l b h k w m =
    let n = (given_by l.asked l.given).book in
    let r = request_same l.asked l.given b h in
    let d = request_law l.asked (book_of l.given) (passed l.given h).sound in
    let e : l.gave.book ≡ bytes_of n = k.bytes ∙ r.bytes in
    record {
      answer = k.answer ∙ r.answer;
      numbers = w ∙ r.numbers;
      bytes = e;
      log = m ∙ r.log;
      all_bytes = rw e (all_bytes_bytes_of n);
      number = ap book_number e ∙ written_number n d.sound;
      book = ap book_of e ∙ book_of_bytes_of n d.sound;
      acted = d;
    }

-- ---- what is kept by a request

-- what the request added and what it reported, as the link has them
moved_by : (l : Link) → Left l → Moved (book_of l.given) (book_of l.gave.book) (λ a. posted_in a l) (reported_mwh l) (reported_worth l)
unfolding posted_in reported_mwh reported_worth is_accepted
moved_by l d = rw (d.answer, d.numbers, d.book) d.acted.moved

kept : (l : Link) → AllBytes l.given → book_number l.given ≡ 0 → Left l → Kept (limits_on l.asked.setting (book_of l.given)) l
unfolding is_accepted book_of
kept l b h d =
    record {
      accepted = d.number;
      lowered = λ w. subst (λ (n : Book). Pairwise Lowered (trades_of l.given) n.trades) (sym d.book) (d.acted.lowered w);
      refused = λ k.
          let q = d.acted.refused (subst (λ (a : Answer). T (not (accepted_number l.asked.act a.number))) d.answer k) in
          (d.bytes ∙ ap bytes_of q.0 ∙ bytes_of_book_of l.given b (passed l.given h), d.log ∙ q.1);
      covered = λ e k.
          subst (λ (n : Book). AllCovered (limits_on l.asked.setting (book_of l.given)) n) (sym d.book)
          (d.acted.covered e (sym (ap (λ (a : Answer). a.number) d.answer) ∙ k));
    }

-- ---- the sequence

record Played (limits : Limits) (b : Book) (ls : List Link) (t : List ℕ) : Type 0 where
  defined : AsDefined ls (events b (requests_of ls))
  book : book_of t ≡ final b (requests_of ls)
  all_bytes : AllBytes t
  number : book_number t ≡ 0
  each : Each limits ls
  moved : Moved b (book_of t) (λ a. sum_ℤ (posted_in a) ls) (sum_ℤ reported_mwh ls) (sum_ℤ reported_worth ls)

-- the figures of a link are those of the one store on the one date
one_limits : {store : Option (List ℕ)} (l : Link) {date : ℕ} → l.asked.setting.store ≡ store → (book_of l.given).header.date ≡ date → limits_on l.asked.setting (book_of l.given) ≡ limits_of store date
unfolding limits_on
one_limits l e d = rw (e, d)

played : {store : Option (List ℕ)} {s t : List ℕ} {ls : List Link} (date : ℕ) → Linked store s ls t → AllBytes s → book_number s ≡ 0 → (book_of s).header.date ≡ date
    → Played (limits_of store date) (book_of s) ls t
unfolding requests_of events final sum_ℤ
played {s = s} date ended b h z =
    record { defined = as_none; book = refl; all_bytes = b; number = h; each = each_none; moved = moved_refl (book_of s) }
played {store} {s} {t} date (then {l = l} {ls = ls} g st k ns lg m) b h z =
    let c : AllBytes l.given = subst (λ (x : List ℕ). AllBytes x) (sym g) b in
    let o : book_number l.given ≡ 0 = ap book_number g ∙ h in
    let w : (book_of l.given).header.date ≡ date = ap (λ (x : List ℕ). (book_of x).header.date) g ∙ z in
    let limits = limits_of store date in
    let d = left_of l c o k ns lg in
    let v = moved_by l d in
    let y : (book_of l.gave.book).header.date ≡ date = ap (λ (x : Header). x.date) v.header ∙ w in
    let n = (given_by l.asked l.given).book in
    let q : Played limits n ls t = subst (λ (x : Book). Played limits x ls t) d.book (played date m d.all_bytes d.number y) in
    let u : Moved (book_of l.given) n (λ a. posted_in a l) (reported_mwh l) (reported_worth l)
    = subst (λ (x : Book). Moved (book_of l.given) x (λ a. posted_in a l) (reported_mwh l) (reported_worth l)) d.book v in
    subst (λ (x : List ℕ). Played limits (book_of x) (l ∷ ls) t) g
    (record {
      defined = as_also d.answer d.numbers d.bytes d.log q.defined;
      book = q.book;
      all_bytes = q.all_bytes;
      number = q.number;
      each = each_also (subst (λ (x : Limits). Kept x l) (one_limits l st w) (kept l c o d)) q.each;
      moved = moved_trans u q.moved;
    })

-- The theorem.
pub sequence : {store : Option (List ℕ)} {s t : List ℕ} {ls : List Link} → AllBytes s → book_number s ≡ 0 → Linked store s ls t → Claim store s ls t
unfolding book_of
sequence {store} {s} {t} {ls} b h k =
    let q = played (book_of s).header.date k b h refl in
    let p = passed t q.number in
    let z = p.sound in
    record {
      defined = q.defined;
      book = q.book;
      bytes = sym (bytes_of_book_of t q.all_bytes p) ∙ ap bytes_of q.book;
      accepted = q.number;
      each = q.each;
      positions = λ a l. positions_sum (users_of t) (trades_of t) a l z.ids z.trades z.positions ∙ q.moved.physical a l;
      mwh = q.moved.mwh_left;
      worth = q.moved.worth_left;
      trades = trade_bytes_lem s t b (passed s h) q.all_bytes p q.moved.header q.moved.users q.moved.trades;
    }
