-- A part filled: bytes at its front, and 0 behind them. Assumes nothing.
use Rattle.base.specs.Basics.{◌≡◌, ap, ◌∙◌, List, ◌++◌, ℕ, ◌+◌, ◌≤◌, arith, length, take, drop, length-append}
use Rattle.base.specs.Basics.{length-replicate, sets}
use Rattle.fields.proofs.Sets.{part_sets, length_part}
use Rattle.book_image.specs.Image.{padded}

pub length-padded : (room : ℕ) (s : List ℕ) → length s ≤ room → length (padded room s) ≡ room
unfolding padded
length-padded room s h = rw (length-append, length-replicate) (omega (arith, h))

-- a part of k bytes that was lent and came back filled
pub part_filled : (l : List ℕ) (a k : ℕ) (vs front : List ℕ) → a + k ≤ length l → length front ≤ k → vs ≡ padded (length (take k (drop a l))) front → take a l ++ (vs ++ drop k (drop a l)) ≡ sets l a (padded k front)
part_filled l a k vs front inside fits e =
    let v : vs ≡ padded k front = e ∙ ap (λ (n : ℕ). padded n front) (length_part l a k inside) in
    rw v (part_sets l (padded k front) a k (length-padded k front fits) inside)
