-- The ways out of a conversion. Assumes nothing.
use Rattle.base.specs.Basics.{◌≡◌, refl, sym, ◌∙◌, true, false, List, ◌++◌, ℕ, ◌<◌, ◌≤◌, arith, length, drop, le-leb, lt-leb}
use Rattle.base.proofs.Tests.{by_case, holds}
use Rattle.rules.specs.Questions.{after, refusal, version_known}
use Rattle.book_format.specs.Book.{book_of, length_by, count_of_trades, count_of_users}
use Rattle.book_format.proofs.Offsets.{known-lt}
use Rattle.book_format.proofs.Passed.{length-trades_of, length-users_of}
use Rattle.book_format.proofs.Written.{length_bytes_of}
use Rattle.outputs.specs.Output.{Wrote}
use Rattle.outputs.proofs.Ways.{wrote_all, wrote_refused}
use Rattle.conversions.specs.Conversion.{about_conversion, as_version, conversion_after, converted, kept}

-- no version has more than two bytes
pub unknown_above : (version : ℕ) → 65535 < version → false ≡ version_known version
unknown_above version h =
    by_case (version_known version) (λ e. absurd (omega (arith, known-lt version (holds e)))) (λ e. sym e)

-- the length of a converted book
pub length-converted : (v : ℕ) (s : List ℕ) → length (converted v s) ≡ length_by v (count_of_users s) (count_of_trades s)
unfolding converted as_version book_of
length-converted v s = length_bytes_of (as_version v (book_of s)) ∙ (rw (length-users_of s, length-trades_of s))

module _ (v : ℕ) (s out : List ℕ) {number : ℕ} (e : number ≡ 0) where
  pub unknown : version_known v ≡ false → Wrote (conversion_after number v s out) 23 out
  unfolding conversion_after about_conversion refusal after
  unknown k = wrote_refused (about_conversion v s out) (converted v s) out e (rw k) tt

  module _ (known : version_known v ≡ true) where
    pub lost : kept v (book_of s) ≡ false → Wrote (conversion_after number v s out) 21 out
    unfolding conversion_after about_conversion refusal after
    lost k = wrote_refused (about_conversion v s out) (converted v s) out e (rw (known, k)) tt

    module _ (lossless : kept v (book_of s) ≡ true) where
      pub no_room : length out < length_by v (count_of_users s) (count_of_trades s) → Wrote (conversion_after number v s out) 22 out
      unfolding conversion_after about_conversion refusal after
      no_room k =
          wrote_refused (about_conversion v s out) (converted v s) out e (rw (known, lossless, lt-leb (length (converted v s)) (length out) (rw length-converted k))) tt

      pub all_written : {part : List ℕ} {size : ℕ} → size ≡ length_by v (count_of_users s) (count_of_trades s) → size ≤ length out → part ≡ converted v s
          → Wrote (conversion_after number v s out) 0 (part ++ drop size out)
      unfolding conversion_after about_conversion refusal after
      all_written z k q =
          wrote_all (about_conversion v s out) (converted v s) out e (rw (known, lossless, le-leb (length (converted v s)) (length out) (rw (length-converted, ← z) k)))
          (rw (q, z, length-converted) refl)
