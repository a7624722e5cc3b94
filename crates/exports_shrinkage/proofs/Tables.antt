-- The loop that fills the table of a return: a user's share and remainder at each turn, from the first user on, where the other places hold 0. Assumes nothing.
use Rattle.base.specs.Basics.{◌≡◌, refl, sym, ap, ap₂, ◌∙◌, List, [], ◌∷◌, ◌++◌, append-nil, ℕ, zero, suc, ◌+◌, ◌-◌, ◌<◌, ◌≤◌, arith, length, take}
use Rattle.base.specs.Basics.{get_or, set, replicate, length-append, length-map, length-set, length-replicate, get_or-map, length-take-le}
use Rattle.base.specs.Basics.{set-append_left}
use Rattle.shrinkage.proofs.Places.{placed, placed_start, placed_more, placed_end}
use Rattle.shrinkage.specs.declared.Kwh.{Kwh}
use Rattle.shrinkage.specs.Answer.{kwh_of}
use Rattle.exports_shrinkage.specs.Numbers.{table_numbers}

-- ---- a store in the table

-- past the front of a list
set_past : (xs ys : List ℕ) (i j x : ℕ) → j ≡ length xs + i → set (xs ++ ys) j x ≡ xs ++ set ys i x
set_past [] ys i j x e = let f : j ≡ i = omega (arith, e) in rw f refl
set_past (y ∷ xs) ys i zero x e = absurd (omega (arith, e))
set_past (y ∷ xs) ys i (suc j) x e = ap (λ (l : List ℕ). y ∷ l) (set_past xs ys i j x (omega (arith, e)))

module _ (half odd rest : ℕ) (ss rs : List ℕ) (i x : ℕ) where
  set_share : i < length ss → set (table_numbers half odd rest ss rs) (3 + i) x ≡ table_numbers half odd rest (set ss i x) rs
  unfolding table_numbers
  set_share h =
      set_past (half ∷ (odd ∷ (rest ∷ []))) (ss ++ rs) i (3 + i) x refl
      ∙ ap (λ (l : List ℕ). half ∷ (odd ∷ (rest ∷ l))) (set-append_left ss rs i x h)

  set_remainder : length ss ≡ 64 → set (table_numbers half odd rest ss rs) (67 + i) x ≡ table_numbers half odd rest ss (set rs i x)
  unfolding table_numbers
  set_remainder e = set_past (half ∷ (odd ∷ (rest ∷ ss))) rs i (67 + i) x (omega (arith, e))

-- ---- the loop

length-placed : (vs : List ℕ) (i : ℕ) → length vs ≡ 64 → i ≤ 64 → length (placed 64 vs i) ≡ 64
unfolding placed
length-placed vs i e h =
    length-append (take i vs) (replicate (64 - i) 0) ∙ omega (arith, length-take-le i vs (omega arith), length-replicate {A = ℕ} (64 - i) 0)

-- all are filled in
placed_all : (vs : List ℕ) (i : ℕ) → length vs ≡ 64 → i ≡ 64 → placed 64 vs i ≡ vs
placed_all vs i e h =
    let n : 64 - length vs ≡ 0 = omega arith in
    placed_end 64 vs i (h ∙ sym e) ∙ rw n (append-nil vs)

-- where i users are filled in
pub record Filling (half odd rest : ℕ) (shares : List Kwh) (remainders numbers : List ℕ) (i : ℕ) : Type 0 where
  pub inside : i ≤ 64
  pub shares_long : length shares ≡ 64
  pub remainders_long : length remainders ≡ 64
  pub long : length numbers ≡ 131
  pub filled : numbers ≡ table_numbers half odd rest (placed 64 (kwh_of shares) i) (placed 64 remainders i)

module _ {half odd rest : ℕ} {shares : List Kwh} {remainders : List ℕ} where
  pub filling_start : length shares ≡ 64 → length remainders ≡ 64
      → Filling half odd rest shares remainders (half ∷ (odd ∷ (rest ∷ replicate 128 0))) 0
  unfolding table_numbers
  filling_start s r =
      record {
        inside = omega arith;
        shares_long = s;
        remainders_long = r;
        long = refl;
        filled = ap₂ (table_numbers half odd rest) (placed_start 64 (kwh_of shares)) (placed_start 64 remainders);
      }

  module _ {numbers : List ℕ} {i : ℕ} (p : Filling half odd rest shares remainders numbers i) where
    -- the shares as numbers
    numbers_long : length (kwh_of shares) ≡ 64
    unfolding kwh_of
    numbers_long = length-map shares (λ k. k.0) ∙ p.shares_long

    pub filling_more : (d : Kwh) → i < 64
        → Filling half odd rest shares remainders (set (set numbers (3 + i) (get_or shares i d).0) (67 + i) (get_or remainders i 0)) (i + 1)
    unfolding kwh_of
    filling_more d h =
        let ss = placed 64 (kwh_of shares) i in
        let rs = placed 64 remainders i in
        let n = numbers_long in
        let share : get_or (kwh_of shares) i d.0 ≡ (get_or shares i d).0 = get_or-map (λ k. k.0) shares i d in
        let ss_next : set ss i (get_or shares i d).0 ≡ placed 64 (kwh_of shares) (i + 1)
        = ap (λ (x : ℕ). set ss i x) (sym share) ∙ placed_more 64 (kwh_of shares) i d.0 h (omega arith) in
        let rs_next : set rs i (get_or remainders i 0) ≡ placed 64 remainders (i + 1) = placed_more 64 remainders i 0 h (omega (arith, p.remainders_long)) in
        record {
          inside = omega arith;
          shares_long = p.shares_long;
          remainders_long = p.remainders_long;
          long =
              length-set (set numbers (3 + i) (get_or shares i d).0) (67 + i) (get_or remainders i 0)
              ∙ length-set numbers (3 + i) (get_or shares i d).0
              ∙ p.long;
          filled =
              ap (λ (l : List ℕ). set (set l (3 + i) (get_or shares i d).0) (67 + i) (get_or remainders i 0)) p.filled
              ∙ ap (λ (l : List ℕ). set l (67 + i) (get_or remainders i 0))
              (set_share half odd rest ss rs i (get_or shares i d).0 (omega (arith, length-placed (kwh_of shares) i n p.inside))
              ∙ ap (λ (l : List ℕ). table_numbers half odd rest l rs) ss_next)
              ∙ set_remainder half odd rest (placed 64 (kwh_of shares) (i + 1)) rs i (get_or remainders i 0) (length-placed (kwh_of shares) (i + 1) n (omega arith))
              ∙ ap (table_numbers half odd rest (placed 64 (kwh_of shares) (i + 1))) rs_next;
        }

    pub filling_end : 64 ≤ i → numbers ≡ table_numbers half odd rest (kwh_of shares) remainders
    filling_end h =
        let e : i ≡ 64 = omega (arith, p.inside) in
        p.filled ∙ ap₂ (table_numbers half odd rest) (placed_all (kwh_of shares) i numbers_long e) (placed_all remainders i p.remainders_long e)
