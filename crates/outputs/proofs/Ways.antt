-- The ways out of a call that writes to an output: an opening question refuses, one of its own does, none does. Assumes nothing.
use mathlib.Core.List.{List, ◌++◌}
use mathlib.Core.Path.{◌≡◌, refl}
use Prim.Native.Nat.{ℕ, zero, suc}
use lib.Dec.{T, ltb}
use lib.ListN.{drop, length}
use Rattle.rules.specs.Questions.{Question, after, refusal}
use Rattle.outputs.specs.Output.{Wrote, accepted, refused, written, written_after}

module _ (questions : List Question) (bytes out : List ℕ) where
  -- an opening question refuses
  pub wrote_before : (number : ℕ) → (number ≡ 0 → ⊥) → Wrote (written_after number questions bytes out) number out
  unfolding written_after after refused
  wrote_before zero h = absurd (h refl)
  wrote_before (suc n) h = record { answer = refl; output = refl }

  -- none of them, but one of the call's own
  pub wrote_refused : {number n : ℕ} → number ≡ 0 → refusal questions ≡ n → T (ltb 0 n) → Wrote (written_after number questions bytes out) n out
  unfolding written_after written after refused
  wrote_refused {n = zero} e q k = absurd k
  wrote_refused {n = suc n} e q k = rw (e, q) (record { answer = refl; output = refl })

  -- none
  pub wrote_all : {number : ℕ} {after' : List ℕ} → number ≡ 0 → refusal questions ≡ 0 → after' ≡ bytes ++ drop (length bytes) out → Wrote (written_after number questions bytes out) 0 after'
  unfolding written_after written after accepted
  wrote_all {number} {after'} e q w = rw (e, q) (record { answer = refl; output = w })
