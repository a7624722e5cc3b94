-- `apply_lost`: the fronts of two arrays are as long as there are sales that lose something. Assumes nothing.
use Rattle.base.specs.Basics.{◌≡◌, ◌≤◌, ℕ, List, length, take, replicate, zero, ap, refl, sym, length-take-le, length-replicate, arith}
use Rattle.cut_apply.proofs.Loop.{lent_room}
use Rattle.cut_apply.proofs.apply_lost.Goals as goal

-- a front of an array of n zeros is as long as it is to be
front_long : (zeros : List ℕ) {k n : ℕ} → zeros ≡ replicate n (zero) → k ≤ n → k ≡ length (take k zeros)
front_long zeros {k} {n} e h = sym (length-take-le k zeros (omega (arith, h, ap length e, length-replicate n zero)))

pub slice_bounds-apply_noting-end : goal.slice_bounds-apply_noting-end
slice_bounds-apply_noting-end g c = front_long _ refl c.requires.cutting.1

pub slice_bounds-apply_noting-end-2 : goal.slice_bounds-apply_noting-end-2
slice_bounds-apply_noting-end-2 g c = front_long _ refl c.requires.cutting.1

pub apply_noting-requires : goal.apply_noting-requires
apply_noting-requires g c = record { cutting = lent_room _ c.requires.cutting.0 c.requires.cutting.1; n_value = c.requires.n_value }
