-- Header, users and trades of an accepted book as another version, from its bytes. Assumes nothing.
use Rattle.base.specs.Basics.{◌≡◌, refl, sym, ap, ap₂, ◌∙◌, false, cond, ◌&&◌, List, [], ◌∷◌, ◌++◌, append_assoc, append-nil, ℕ, ◌*◌, arith, T}
use Rattle.base.specs.Basics.{eqb, eqb→eq, length, take, drop, replicate, length-append, sets, drop_at, drop-drop, take_at}
use Rattle.base.proofs.Tests.{and_l, and_r, by_case, fails, or_second}
use Rattle.fields.specs.Field.{AllBytes, set_field, to_bytes}
use Rattle.fields.specs.Layout.{Every, bytes_of_records, pack, records_of, size}
use Rattle.fields.proofs.Field.{length_to_bytes}
use Rattle.fields.proofs.Pack.{length-pack}
use Rattle.fields.proofs.Records.{length-bytes_of_records}
use Rattle.fields.proofs.Sets.{sets_left}
use Rattle.book_records.specs.User.{manager_bytes, manager_values, manager_widths, record_bytes, user_bytes}
use Rattle.book_records.specs.Trade.{trade_bytes}
use Rattle.book_records.proofs.Users.{length-manager_bytes, length-user_bytes}
use Rattle.rules.specs.Areas.{Prices, managers_in, selling_in}
use Rattle.rules.specs.Book.{Book, Managers, User, manager_in}
use Rattle.base.specs.Lists.{all}
use Rattle.rules.specs.Questions.{most_selling}
use Rattle.laws.specs.Sound.{Sound}
use Rattle.laws.proofs.Bounds.{selling_le}
use Rattle.book_format.specs.Book.{book_of, bytes_of, header_bytes, size_of_header, header_values, header_widths, selling_bytes, selling_widths, trades_at, place_of_user, count_of_users, user_record, size_of_user, version_of}
use Rattle.book_format.specs.Questions.{book_number}
use Rattle.book_format.proofs.Offsets.{header_plain, header_selling, length-user_record, selling_none, selling_some, user_managed, user_plain}
use Rattle.book_format.proofs.Parts.{pack-set}
use Rattle.book_format.proofs.Passed.{length-users_of, passed}
use Rattle.book_format.proofs.Round.{bytes_of_book_of, header_back}
use Rattle.book_format.proofs.Written.{length-header}
use Rattle.conversions.specs.Conversion.{as_version, converted, kept, keeps_managers, keeps_tariffs, unmanaged_user}
use Rattle.conversions.proofs.Kept.{own_kept}
use Rattle.book_image.specs.Fitted.{fitted, refitted}
use Rattle.book_image.proofs.Fitted.{fitted_less, fitted_more, fitted_same}

-- of two lists the first, where it has the size
fitted_front : (k : ℕ) (p q : List ℕ) → length p ≡ k → fitted k (p ++ q) ≡ p
fitted_front k p q e = fitted_less k (p ++ q) (rw length-append (omega arith)) ∙ take_at p q k e

-- ---- the header

-- its fields up to I, in 32 bytes
abbrev start : Book → List ℕ
start b = pack header_widths (header_values b)

length-start : (b : Book) → length (start b) ≡ 32
unfolding header_widths header_values size
length-start b = length-pack header_widths (header_values b) refl

length_selling : (f : Prices) → length (pack selling_widths (f.s ∷ f.u ∷ [])) ≡ 8
unfolding selling_widths size
length_selling f = length-pack selling_widths (f.s ∷ f.u ∷ []) refl

-- with another version
start_as : (v : ℕ) (b : Book) → start (as_version v b) ≡ set_field 2 3 v (start b)
unfolding header_widths header_values as_version size
start_as v b = pack-set header_widths (header_values b) 1 v (omega arith) refl

-- the bytes of selling tariffs of 0
selling_zero : (f : Prices) → f.s ≡ 0 → f.u ≡ 0 → pack selling_widths (f.s ∷ f.u ∷ []) ≡ replicate 8 0
unfolding selling_widths pack to_bytes
selling_zero f s u = rw (s, u)

-- where a version has none, they are 0
selling_without : (b : Book) → Sound b → selling_in b.header.version ≡ false → (b.header.prices.s ≡ 0) × (b.header.prices.u ≡ 0)
unfolding most_selling
selling_without b s e =
    let l = selling_le b s in
    let m : most_selling b.header.version ≡ 0 = rw e in
    (omega (arith, l.0, m), omega (arith, l.1, m))

-- the selling tariffs of one version as those of another
selling_as : (v : ℕ) (b : Book) → Sound b → fitted (size_of_header v) (header_bytes b) ≡ start b ++ selling_bytes v b.header.prices
unfolding header_bytes
selling_as v b s =
    let f = b.header.prices in
    let w = b.header.version in
    let l = length-start b in
    by_case (selling_in v)
    (λ e. by_case (selling_in w)
    (λ d. rw (header_selling v e, selling_some v f e, selling_some w f d) (fitted_same 40 (start b ++ pack selling_widths (f.s ∷ f.u ∷ [])) (rw length-append (omega (arith, l, length_selling f)))))
    (λ d.
    let z = selling_without b s d in
    rw (header_selling v e, selling_some v f e, selling_none w f d, append-nil (start b), selling_zero f z.0 z.1) (fitted_more 40 8 (start b) (omega (arith, l)))))
    (λ e. rw (header_plain v e, selling_none v f e, append-nil (start b)) (fitted_front 32 (start b) (selling_bytes w f) l))

-- the header as another version
header_as : (v : ℕ) (b : Book) → Sound b → header_bytes (as_version v b) ≡ set_field 2 3 v (fitted (size_of_header v) (header_bytes b))
unfolding header_bytes as_version set_field
header_as v b s =
    let f = b.header.prices in
    ap (λ (x : List ℕ). x ++ selling_bytes v f) (start_as v b)
    ∙ sym (ap (λ (x : List ℕ). sets x 3 (to_bytes 2 v)) (selling_as v b s) ∙ sets_left (to_bytes 2 v) (start b) (selling_bytes v f) 3 (omega (arith, length-start b, length_to_bytes 2 v)))

-- ---- the users

-- records of one size, one after the other, as records of another
records_refitted : {R : Type 0} (record' : R → List ℕ) (k len : ℕ) → ((r : R) → length (record' r) ≡ len) → (rs : List R) (q : List ℕ)
    → refitted k len (length rs) (bytes_of_records record' rs ++ q) ≡ bytes_of_records (λ r. fitted k (record' r)) rs
unfolding refitted records_of bytes_of_records
records_refitted record' k len sized [] q = refl
records_refitted record' k len sized (r ∷ rs) q =
    let more = bytes_of_records record' rs ++ q in
    rw (append_assoc, take_at (record' r) more len (sized r), drop_at (record' r) more len (sized r), records_refitted record' k len sized rs q)

-- the bytes of nobody as manager
managers_zero : (ms : Managers) → ms.pvb ≡ 0 → ms.tvb ≡ 0 → ms.avb ≡ 0 → manager_bytes ms ≡ replicate 12 0
unfolding manager_bytes manager_widths manager_values pack to_bytes
managers_zero ms p t a = rw (p, t, a)

-- of an unmanaged user
zeros : (u : User) → T (unmanaged_user u) → manager_bytes u.party.managers ≡ replicate 12 0
unfolding unmanaged_user manager_in
zeros u h =
    let ms = u.party.managers in
    let p = eqb ms.pvb 0 in
    let t = eqb ms.tvb 0 in
    let a = eqb ms.avb 0 in
    managers_zero ms (eqb→eq ms.pvb 0 (and_l p (t && a) h)) (eqb→eq ms.tvb 0 (and_l t a (and_r p (t && a) h))) (eqb→eq ms.avb 0 (and_r t a (and_r p (t && a) h)))

-- nobody manages the user, where its version has no managers
abbrev Alone : ℕ → User → Type 0
Alone w u = managers_in w ≡ false → manager_bytes u.party.managers ≡ replicate 12 0

-- a user's record as that of another version
user_fitted : (w v : ℕ) (u : User) → Alone w u → fitted (size_of_user v) (user_record w u) ≡ user_record v u
unfolding user_record record_bytes
user_fitted w v u none =
    let p = user_bytes u in
    let l : length p ≡ 56 = length-user_bytes u in
    by_case (managers_in v)
    (λ e. by_case (managers_in w)
    (λ d. rw (user_managed v e, e, d) (fitted_same 68 (p ++ manager_bytes u.party.managers) (rw length-append (omega (arith, l, length-manager_bytes u.party.managers)))))
    (λ d. rw (user_managed v e, e, d, none d, append-nil p) (fitted_more 68 12 p (omega (arith, l)))))
    (λ e. rw (user_plain v e, e, append-nil p) (fitted_front 56 p (cond (managers_in w) (manager_bytes u.party.managers) []) l))

-- all users of a book
users_fitted : (w v : ℕ) (us : List User) → Every (Alone w) us → bytes_of_records (λ u. fitted (size_of_user v) (user_record w u)) us ≡ bytes_of_records (user_record v) us
unfolding bytes_of_records
users_fitted w v [] h = refl
users_fitted w v (u ∷ us) h = ap₂ (λ (x y : List ℕ). x ++ y) (user_fitted w v u h.0) (users_fitted w v us h.1)

-- nobody manages where no version has managers
alone_all : (w : ℕ) (us : List User) → T (keeps_managers w us) → Every (Alone w) us
unfolding keeps_managers all
alone_all w us k = go us (λ e. or_second (managers_in w) (all unmanaged_user us) (fails e) k)
  where
    go : (us : List User) → (managers_in w ≡ false → T (all unmanaged_user us)) → Every (Alone w) us
    go [] h = tt
    go (u ∷ us) h = (λ e. zeros u (and_l (unmanaged_user u) (all unmanaged_user us) (h e)), go us (λ e. and_r (unmanaged_user u) (all unmanaged_user us) (h e)))

-- ---- the parts of accepted bytes

module _ (s : List ℕ) (bytes : AllBytes s) (h : book_number s ≡ 0) where
  abbrev b : Book
  b = book_of s

  abbrev w : ℕ
  w = version_of s

  abbrev H : ℕ
  H = size_of_header w

  abbrev U : List ℕ
  U = bytes_of_records (user_record w) b.users

  abbrev T' : List ℕ
  T' = bytes_of_records trade_bytes b.trades

  header_part_lem : header_bytes b ≡ take H s
  header_part_lem = header_back s bytes (passed s h).form

  length_header_part : length (header_bytes b) ≡ H
  unfolding book_of
  length_header_part = length-header (book_of s)

  -- behind the header stand users and trades
  behind : U ++ T' ≡ drop H s
  unfolding bytes_of book_of
  behind = sym (drop_at (header_bytes b) (U ++ T') H length_header_part) ∙ ap (drop H) (bytes_of_book_of s bytes (passed s h))

  count : length b.users ≡ count_of_users s
  unfolding book_of
  count = length-users_of s

  length-U : length U ≡ size_of_user w * count_of_users s
  length-U = length-bytes_of_records (user_record w) (size_of_user w) (length-user_record w) b.users ∙ ap (λ (n : ℕ). size_of_user w * n) count

  trades_part_lem : T' ≡ drop (trades_at s) s
  unfolding trades_at place_of_user
  trades_part_lem =
      sym (drop_at U T' (size_of_user w * count_of_users s) length-U) ∙ ap (drop (size_of_user w * count_of_users s)) behind ∙ drop-drop (size_of_user w * count_of_users s) H s

  -- to its own version no manager is lost
  own : T (keeps_managers w b.users)
  unfolding kept book_of
  own =
      and_r (keeps_tariffs w (book_of s).header.prices) (keeps_managers w (book_of s).users) (own_kept (book_of s) (passed s h).sound)

  -- the users of another version
  users_as : (v : ℕ) → bytes_of_records (user_record v) b.users ≡ refitted (size_of_user v) (size_of_user w) (count_of_users s) (drop H s)
  users_as v =
      sym
      (ap₂ (λ (n : ℕ) (t : List ℕ). refitted (size_of_user v) (size_of_user w) n t) (sym count) (sym behind)
      ∙ records_refitted (user_record w) (size_of_user v) (size_of_user w) (length-user_record w) b.users T'
      ∙ users_fitted w v b.users (alone_all w b.users own))

  -- the whole: header, users and trades as another version, from the bytes
  pub converted_parts : (v : ℕ)
      → converted v s ≡ set_field 2 3 v (fitted (size_of_header v) (take H s)) ++ (refitted (size_of_user v) (size_of_user (version_of s)) (count_of_users s) (drop H s) ++ drop (trades_at s) s)
  unfolding converted bytes_of as_version
  converted_parts v =
      ap₂ (λ (x y : List ℕ). x ++ y) (header_as v b (passed s h).sound ∙ ap (λ (x : List ℕ). set_field 2 3 v (fitted (size_of_header v) x)) header_part_lem)
      (ap₂ (λ (x y : List ℕ). x ++ y) (users_as v) trades_part_lem)
