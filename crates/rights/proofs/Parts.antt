-- The records that a party may see, from bytes to the book: books in bytes that agree on what a party may see hold books with one view, and show the party one record of its own. Assumes nothing.
use Rattle.base.specs.Basics.{◌≡◌, ◌∙◌, ap, ap₂, refl, subst, sym, Bool, true, false, cond, ◌||◌, List, [], ◌∷◌, map, ℕ, suc, zero, ◌+◌, ◌*◌, ◌≤◌}
use Rattle.base.specs.Basics.{arith, T, eqb, eqb→eq, drop, take, drop-drop}
use Rattle.base.specs.Lists.{any}
use Rattle.base.proofs.Tests.{by_case}
use Rattle.fields.proofs.Field.{field_part}
use Rattle.fields.proofs.Records.{mul-suc_front}
use Rattle.fields.specs.Field.{field}
use Rattle.fields.specs.Layout.{records_of}
use Rattle.rules.specs.Areas.{selling_in}
use Rattle.rules.specs.Book.{User}
use Rattle.rules.specs.Questions.{known}
use Rattle.book_records.specs.Trade.{trade_of}
use Rattle.book_records.specs.User.{user_of}
use Rattle.book_format.proofs.Offsets.{header_range, header_selling}
use Rattle.book_format.specs.Book.{book_of, size_of_header, prices_of, selling_tariff_at, count_of_trades, trade_size, trades_at, trades_of, place_of_user, count_of_users, size_of_user, users_of, version_of}
use Rattle.book_format.specs.Questions.{parts_of}
use Rattle.book_format.specs.Steps.{place_of}
use Rattle.views.proofs.Kept.{map-kept}
use Rattle.views.proofs.Told.{own_sees}
use Rattle.laws_sales.specs.Kept.{kept}
use Rattle.views.specs.Views.{sees_trade, sees_user, trades_seen, view_of}
use Rattle.rights.specs.Seen.{Agree, header_shown, trades_shown, users_shown}

-- ---- the header

-- a field within the header is read from its bytes
header_field : (w at : ℕ) (s : List ℕ) → at + w ≤ size_of_header (version_of s) → field w at s ≡ field w at (header_shown s)
unfolding header_shown
header_field w at s h = sym (field_part w at 0 (size_of_header (version_of s)) s h ∙ ap (λ (i : ℕ). field w i s) (omega arith))

version_shown : (s : List ℕ) → version_of s ≡ version_of (header_shown s)
unfolding version_of
version_shown s = header_field 2 3 s (omega (arith, header_range (version_of s)))

selling_shown : (at : ℕ) (s : List ℕ) → at ≤ 36 → selling_tariff_at at s ≡ selling_tariff_at at (header_shown s)
unfolding selling_tariff_at
selling_shown at s h = subst (λ (v : ℕ). cond (selling_in (version_of s)) (field 4 at s) 0 ≡ cond (selling_in v) (field 4 at (header_shown s)) 0) (version_shown s) same
  where
    same : ◌≡◌ {A = ℕ} (cond (selling_in (version_of s)) (field 4 at s) 0) (cond (selling_in (version_of s)) (field 4 at (header_shown s)) 0)
    same =
        by_case (selling_in (version_of s))
        (λ e. ap (λ (n : ℕ). cond (selling_in (version_of s)) n 0) (header_field 4 at s (omega (arith, header_selling (version_of s) e))))
        (λ e. rw e)

header_shown_lem : (s : List ℕ) → (book_of s).header ≡ (book_of (header_shown s)).header
unfolding book_of prices_of
header_shown_lem s =
    let r = header_range (version_of s) in
    let v = version_shown s in
    let d = header_field 4 8 s (omega (arith, r)) in
    let p = header_field 4 12 s (omega (arith, r)) in
    let q = header_field 4 16 s (omega (arith, r)) in
    let l = header_field 4 20 s (omega (arith, r)) in
    let x = header_field 4 24 s (omega (arith, r)) in
    let n = header_field 4 28 s (omega (arith, r)) in
    let f = selling_shown 32 s (omega arith) in
    let u = selling_shown 36 s (omega arith) in
    λ i. record { version = v i; date = d i; prices = record { p = p i; q = q i; l = l i; x = x i; i = n i; s = f i; u = u i } }

-- ---- the records

-- records are read from their parts
pub records_parts : {R : Type 0} (len : ℕ) (one : List ℕ → R) (n : ℕ) (s : List ℕ) → records_of len one n s ≡ map one (parts_of len n s)
unfolding records_of parts_of
records_parts len one zero s = refl
records_parts {R} len one (suc n) s = ap (λ (rs : List R). one (take len s) ∷ rs) (records_parts len one n (drop len s))

users_shown_lem : (party : ℕ) (s : List ℕ) → map user_of (users_shown party s) ≡ kept (sees_user party) (users_of s)
unfolding users_shown users_of
users_shown_lem party s =
    let v = version_of s in
    map-kept (sees_user party) user_of (parts_of (size_of_user v) (count_of_users s) (drop (size_of_header v) s))
    ∙ ap (kept (sees_user party)) (sym (records_parts (size_of_user v) user_of (count_of_users s) (drop (size_of_header v) s)))

trades_shown_lem : (party : ℕ) (s : List ℕ) → map trade_of (trades_shown party s) ≡ trades_seen (book_of s) party
unfolding trades_shown trades_of trades_seen book_of
trades_shown_lem party s =
    let v = version_of s in
    map-kept (sees_trade (users_of s) party) trade_of (parts_of (trade_size v) (count_of_trades s) (drop (trades_at s) s))
    ∙ ap (kept (sees_trade (users_of s) party)) (sym (records_parts (trade_size v) trade_of (count_of_trades s) (drop (trades_at s) s)))

-- one view
pub view_agrees : (party : ℕ) (s t : List ℕ) → Agree party s t → view_of party (book_of s) ≡ view_of party (book_of t)
unfolding view_of book_of
view_agrees party s t a =
    let h = header_shown_lem s ∙ ap (λ (c : List ℕ). (book_of c).header) a.header ∙ sym (header_shown_lem t) in
    let u = sym (users_shown_lem party s) ∙ ap (map user_of) a.users ∙ users_shown_lem party t in
    let d = sym (trades_shown_lem party s) ∙ ap (map trade_of) a.trades ∙ trades_shown_lem party t in
    λ i. record { header = h i; users = u i; trades = d i }

-- ---- the party's own record

-- the first part that has the id
pub own_part : ℕ → List (List ℕ) → List ℕ
own_part party [] = []
own_part party (c ∷ cs) = cond (eqb (user_of c).party.id party) c (own_part party cs)

-- is seen
own_part_kept : (party : ℕ) (cs : List (List ℕ)) → own_part party (kept (λ c. sees_user party (user_of c)) cs) ≡ own_part party cs
unfolding own_part kept
own_part_kept party [] = refl
own_part_kept party (c ∷ cs) =
    go (sees_user party (user_of c)) (eqb (user_of c).party.id party) refl (λ t. own_sees party (user_of c) (eqb→eq (user_of c).party.id party t)) (own_part_kept party cs)
  where
    rest : List (List ℕ)
    rest = kept (λ d. sees_user party (user_of d)) cs

    go : (sees own : Bool) → eqb (user_of c).party.id party ≡ own → (T own → T sees) → own_part party rest ≡ own_part party cs
        → own_part party (cond sees (c ∷ rest) rest) ≡ cond own c (own_part party cs)
    go true own e f k = ap₂ (λ (x : Bool) (d : List ℕ). cond x c d) e k
    go false true e f k = absurd (f tt)
    go false false e f k = k

-- and stands at the user's place
own_part_at : (len party n : ℕ) (s : List ℕ) → T (known (records_of len user_of n s) party)
    → own_part party (parts_of len n s) ≡ take len (drop (len * place_of (records_of len user_of n s) party) s)
unfolding records_of parts_of place_of own_part known any
own_part_at len party zero s k = absurd k
own_part_at len party (suc n) s k = go (eqb (user_of (take len s)).party.id party) (own_part_at len party n (drop len s)) k
  where
    rest : List User
    rest = records_of len user_of n (drop len s)

    go : (own : Bool) → (T (known rest party) → own_part party (parts_of len n (drop len s)) ≡ take len (drop (len * place_of rest party) (drop len s))) → T (own || known rest party)
        → cond own (take len s) (own_part party (parts_of len n (drop len s))) ≡ take len (drop (len * cond own 0 (suc (place_of rest party))) s)
    go true f k = let e : ◌≡◌ {A = ℕ} 0 (len * 0) = omega arith in ap (λ (m : ℕ). take len (drop m s)) e
    go false f k =
        f k ∙ ap (take len) (drop-drop (len * place_of rest party) len s ∙ ap (λ (m : ℕ). drop m s) (sym (mul-suc_front len (place_of rest party))))

pub own_shown : (party : ℕ) (s : List ℕ) → T (known (book_of s).users party)
    → take (size_of_user (version_of s)) (drop (place_of_user s (place_of (book_of s).users party)) s) ≡ own_part party (users_shown party s)
unfolding users_shown users_of book_of place_of_user
own_shown party s k =
    let v = version_of s in
    let from = drop (size_of_header v) s in
    ap (take (size_of_user v)) (sym (drop-drop (size_of_user v * place_of (users_of s) party) (size_of_header v) s))
    ∙ sym (own_part_at (size_of_user v) party (count_of_users s) from k)
    ∙ sym (own_part_kept party (parts_of (size_of_user v) (count_of_users s) from))
