-- The entry of a reduction: the cuts of a user's sales as they are borne, noted at the places of their trades, are what each trade of the book loses. Assumes nothing.
use Rattle.base.specs.Basics.{◌≡◌, sym, ap, ap₂, subst, ◌∙◌, List, ◌∷◌, ℕ, ◌≤◌, ◌<◌, arith, ltb, ltb→lt, length, get_or, replicate}
use Rattle.base.proofs.Fronts.{all_at}
use Rattle.laws.proofs.Reduction.{cuts_lowered}
use Rattle.laws.proofs.Settle.{pairs_length}
use Rattle.laws.proofs.Trades.{framed}
use Rattle.laws.specs.Sound.{Sound}
use Rattle.laws_sales.proofs.Groups.{places_inside}
use Rattle.laws_sales.specs.Borne.{borne_book, borne_user}
use Rattle.laws_sales.specs.Groups.{places}
use Rattle.laws_sales.specs.Parts.{part}
use Rattle.laws_sales.specs.Reduced.{own_cuts}
use Rattle.laws_sales.specs.Sales.{own_sale}
use Rattle.log_format.proofs.Noted.{start, cut, cuts_bilateral, noted_fit}
use Rattle.log_format.proofs.Parts.{EntryFits}
use Rattle.rules.specs.Book.{Book, User}
use Rattle.rules.specs.Reduction.{cuts, with_trades}
use Rattle.log_entries.specs.Entries.{EntriesIn, NotedAt, entered}
use Rattle.log_entries.proofs.Entries.{entry_noted}
use Rattle.log_entries.proofs.Spread.{borne_many, cuts-entered}

module _ (b : Book) (u : User) (asked : ℕ) where
  abbrev is : List ℕ
  is = places (borne_book b).trades u.party.id

  entry_fits : Sound b → EntryFits (length b.trades) (cuts b u asked)
  unfolding with_trades
  entry_fits sound =
      let within = cuts_bilateral b u asked in
      subst (λ (m : ℕ). EntryFits m (cuts b u asked)) (pairs_length (framed (cuts_lowered (cuts b u asked) b.trades within)))
      (noted_fit (cut (cuts b u asked) (start sound) sound within)).0

  -- noted behind the entries of a log, which has room for it
  pub reduction_entered : {es : List (List ℕ)} {l l' origins ws : List ℕ} {have from to : ℕ} → Sound b → length b.trades ≤ 256 → EntriesIn (length b.trades) es l
      → length es ≡ have → have < 256 → part from to origins ≡ places (borne_book b).trades u.party.id → part from to ws ≡ own_cuts (borne_book b) (borne_user b.users u) asked
      → NotedAt have origins ws from to l l' → EntriesIn (length b.trades) (cuts b u asked ∷ es) l'
  reduction_entered {es} {l} {l'} {origins} {ws} {have} {from} {to} sound few h e room own_places own-cuts noted =
      let ts = (borne_book b).trades in
      let m = length b.trades in
      let inside : (j : ℕ) → j < length (part from to origins) → get_or (part from to origins) j 0 < m
      = λ j k. omega (
        arith,
        ltb→lt (get_or is j 0) (length ts) (all_at (λ i. ltb i (length ts)) is (places_inside (own_sale u.party.id) ts) j 0 (omega (arith, k, ap length own_places))),
        borne_many b,
        ap (λ (xs : List ℕ). get_or xs j 0) own_places,
      ) in
      let is_entry : entered (part from to origins) (part from to ws) (replicate m 0) ≡ cuts b u asked
      = ap₂ (λ (xs ys : List ℕ). entered xs ys (replicate m 0)) own_places own-cuts ∙ sym (cuts-entered b u asked) in
      entry_noted few h (omega (arith, e)) (subst (λ (i : ℕ). NotedAt i origins ws from to l l') (sym e) noted) inside (cuts b u asked) is_entry (entry_fits sound)
