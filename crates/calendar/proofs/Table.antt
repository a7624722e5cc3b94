-- A rule of a table: one test that antt computes over the whole table shows it at each place. Assumes nothing.
use mathlib.Core.Path.{◌∙◌, subst, sym}
use mathlib.Core.Bool.{Bool, true, ◌&&◌}
use mathlib.Core.List.{List, [], ◌∷◌}
use Prim.Native.Nat.{ℕ, zero, suc, ◌+◌, ◌<◌}
use native.Mathlib.Nat.{add-zero, zero-add, add-suc, suc-add, le_of_suc-le-suc, not-suc-le-zero}
use lib.Dec.{T}
use lib.ListN.{length, get_or}
use store.Enc.{and_l, and_r}

-- the test holds of each entry and its place, where the first entry's place is i
abbrev pub every : (ℕ → ℕ → Bool) → ℕ → List ℕ → Bool
every test i [] = true
every test i (x ∷ xs) = test i x && every test (suc i) xs

at_from : (test : ℕ → ℕ → Bool) (xs : List ℕ) (i : ℕ) → T (every test i xs) → (k : ℕ) → k < length xs → T (test (i + k) (get_or xs k 0))
at_from test [] i t k h = absurd (not-suc-le-zero h)
at_from test (x ∷ xs) i t zero h =
    subst (λ (n : ℕ). T (test n x)) (sym (add-zero i)) (and_l (test i x) (every test (suc i) xs) t)
at_from test (x ∷ xs) i t (suc k) h =
    subst (λ (n : ℕ). T (test n (get_or xs k 0))) (suc-add i k ∙ sym (add-suc i k))
    (at_from test xs (suc i) (and_r (test i x) (every test (suc i) xs) t) k (le_of_suc-le-suc h))

-- what holds of every entry holds at each place
pub every_at : (test : ℕ → ℕ → Bool) (xs : List ℕ) → T (every test 0 xs) → (k : ℕ) → k < length xs → T (test k (get_or xs k 0))
every_at test xs t k h = subst (λ (n : ℕ). T (test n (get_or xs k 0))) (zero-add k) (at_from test xs 0 t k h)
