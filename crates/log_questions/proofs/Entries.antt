-- The cuts of all entries together, and each trade with what is cut of it. Assumes nothing.
use Rattle.base.specs.Basics.{◌≡◌, refl, sym, ap, ap₂, subst, ◌∙◌, Bool, true, ◌&&◌, List, ℕ, ◌+◌, ◌*◌, ◌≤◌, ◌<◌, add-one, arith}
use Rattle.base.specs.Basics.{length, take, drop, get_or, replicate, length-replicate, get_or-replicate, drop_of_length-le, get_or-eq_default}
use Rattle.base.specs.Basics.{drop-cons, sets}
use Rattle.base.proofs.Linear.{by_order}
use Rattle.fields.proofs.Sets.{part_of_sets}
use Rattle.rules.specs.Book.{Trade, no_trade}
use Rattle.rules.specs.Reduction.{together}
use Rattle.book_format.specs.Book.{count_of_trades, trades_of}
use Rattle.log_format.proofs.Padded.{take-replicate}
use Rattle.log_format.specs.Log.{cuts_at, entries_in, entries_of, entry_at, count_of_entries}
use Rattle.log_format.specs.Fits.{all_cuts, cuts_rest, entries_rest, held_rest, raise_within, raises_within, rests_zero, unused_zero, zeros}
use Rattle.log_questions.proofs.Cuts.{added, length-added}
use Rattle.log_questions.specs.Form.{Sums, cuts_from}

-- ---- all entries

-- of the first entries: are the bytes behind the trades' cuts 0, and what all of them cut
pub record SummedTo (m : ℕ) (l : List ℕ) (so_far : Bool) (xs : List ℕ) (place : ℕ) : Type 0 where
  pub rests : so_far ≡ rests_zero m place l
  pub sums : take m xs ≡ all_cuts m (entries_in m place l)
  pub within : Sums xs (4294967296 * place)

module _ (m : ℕ) (l : List ℕ) (few : m ≤ 256) where
  pub summed_start : {xs : List ℕ} → xs ≡ replicate 256 0 → SummedTo m l true xs 0
  unfolding rests_zero all_cuts entries_in
  summed_start {xs} e =
      record {
        rests = refl;
        sums = ap (take m) e ∙ take-replicate m 256 few;
        within = record {
          room = ap length e ∙ length-replicate {A = ℕ} 256 0;
          each = λ k. subst (λ (ys : List ℕ). get_or ys k 0 ≤ 0) (sym e)
              (by_order k 256 (λ h. omega (arith, get_or-replicate {A = ℕ} 256 k 0 0 h)) (λ h. omega (arith, get_or-eq_default {A = ℕ} (replicate 256 0) 0 {n = k} (omega (arith, length-replicate {A = ℕ} 256 0)))));
        };
      }

  -- one entry more
  pub summed_next : {so_far : Bool} {xs ys : List ℕ} {place at : ℕ} (behind : Bool) → SummedTo m l so_far xs place → at ≡ entry_at place
      → ys ≡ sets xs 0 (added m at l xs) → Sums ys (4294967296 * place + 4294967296) → behind ≡ zeros (cuts_rest m l place)
      → SummedTo m l (behind && so_far) ys (place + 1)
  unfolding rests_zero all_cuts entries_in cuts_at
  summed_next {so_far} {xs} {ys} {place} {at} behind p e w q z =
      let here : added m at l xs ≡ together (cuts_at m l place) (all_cuts m (entries_in m place l))
      = ap₂ (λ (n : ℕ) (v : List ℕ). together (cuts_from m n l) v) e p.sums in
      record {
        rests = rw add-one (ap₂ (λ (a b : Bool). a && b) z p.rests);
        sums = rw add-one (ap (take m) w ∙ part_of_sets xs (added m at l xs) 0 m (length-added m at l xs few p.within.room) (omega (arith, p.within.room)) ∙ here);
        within = record { room = q.room; each = λ k. omega (arith, q.each k) };
      }

  -- none is left
  pub summed_end : {so_far : Bool} {xs : List ℕ} {place count : ℕ} → SummedTo m l so_far xs place → place ≡ count → count ≤ 256
      → (so_far ≡ rests_zero m count l) × (take m xs ≡ all_cuts m (entries_in m count l)) × Sums xs 1099511627776
  summed_end {so_far} {xs} p e few256 = (
    p.rests ∙ ap (λ (n : ℕ). rests_zero m n l) e,
    p.sums ∙ ap (λ (n : ℕ). all_cuts m (entries_in m n l)) e,
    record { room = p.within.room; each = λ k. omega (arith, p.within.each k) },
  )

-- ---- each trade with what is cut of it

pub raises_next : (cs : List ℕ) (ts : List Trade) (i : ℕ) → i < length cs → i < length ts
    → raises_within (drop i cs) (drop i ts) ≡ (raise_within (get_or cs i 0) (get_or ts i no_trade) && raises_within (drop (i + 1) cs) (drop (i + 1) ts))
unfolding raises_within
raises_next cs ts i h k = rw (add-one, drop-cons cs i 0 h, drop-cons ts i no_trade k)

pub raises_end : (cs : List ℕ) (ts : List Trade) (i : ℕ) → length cs ≤ i → length ts ≤ i → raises_within (drop i cs) (drop i ts) ≡ true
unfolding raises_within
raises_end cs ts i h k = rw (drop_of_length-le cs {i = i} h, drop_of_length-le ts {i = i} k)

-- ---- all of it

pub used_as_told : (s l xs : List ℕ) {count m : ℕ} {alone apart last within : Bool} → count ≡ count_of_entries l → m ≡ count_of_trades s
    → alone ≡ zeros (held_rest l) → apart ≡ rests_zero m count l → last ≡ zeros (entries_rest l)
    → take m xs ≡ all_cuts m (entries_in m count l) → within ≡ raises_within (take m xs) (trades_of s)
    → ((alone && (apart && last)) && within) ≡ (unused_zero (count_of_trades s) l && raises_within (all_cuts (count_of_trades s) (entries_of s l)) (trades_of s))
unfolding unused_zero entries_of
used_as_told s l xs n k a p z t w =
    ap₂ (λ (x y : Bool). x && y)
    (ap₂ (λ (x y : Bool). x && y) a (ap₂ (λ (x y : Bool). x && y) (p ∙ ap₂ (λ (i j : ℕ). rests_zero i j l) k n) z))
    (w ∙ ap (λ (v : List ℕ). raises_within v (trades_of s)) (t ∙ ap₂ (λ (i j : ℕ). all_cuts i (entries_in i j l)) k n))
