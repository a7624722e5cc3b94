-- What is read so far has at most seven bytes, and one byte more makes it the field of one byte more.
use Rattle.std.proofs.Common.{◌≡◌, ◌+◌, ◌-◌, ◌<◌, ◌≤◌, ◌^◌, ◌∙◌, ℕ, List, ap, arith, add-zero, get_or}
use Rattle.std.proofs.Math.Nat.{sub_self}
use Rattle.fields.specs.Field.{field, AllBytes}
use Rattle.fields.proofs.Field.{field-zero, field_lt, field-lt_wider, field_step}
use Rattle.fields.proofs.get.Goals as goal

seven_bytes : (n k w at : ℕ) (s : List ℕ) → AllBytes s → k < w → w ≤ 8 → n ≡ field k (at + (w - k)) s → n < 256 ^ 7
seven_bytes n k w at s bytes below most e = rw e (field-lt_wider 7 k (at + (w - k)) s (omega arith) bytes)

pub loop-k-init : goal.loop-k-init
loop-k-init c = rw field-zero

pub overflow_mul-n : goal.overflow_mul-n
overflow_mul-n c =
    omega (arith, seven_bytes c.loop-k.n c.loop-k.k c.args.w c.args.at c.args.s.now (λ i. (c.type_inv.s i).fits) (omega arith) (omega arith) c.loop-k.invariant)

pub overflow_add-n-in-loop-k : goal.overflow_add-n-in-loop-k
overflow_add-n-in-loop-k c =
    omega (arith, seven_bytes c.loop-k.n c.loop-k.k c.args.w c.args.at c.args.s.now (λ i. (c.type_inv.s i).fits) (omega arith) (omega arith) c.loop-k.invariant)

pub loop-k-preserved : goal.loop-k-preserved
loop-k-preserved c =
    let e : c.args.w - (c.loop-k.k + 1) ≡ c.args.w - 1 - c.loop-k.k = omega arith in
    let s = c.args.s.now in
    omega (arith, field_step c.loop-k.k c.args.w c.args.at s (omega arith), ap (λ (i : ℕ). get_or s (c.args.at + i) 0) e)

pub returns : goal.returns
returns c =
    let k : c.loop-k.k ≡ c.args.w = omega arith in
    let e : c.loop-k.n ≡ field c.args.w c.args.at c.args.s.now = c.loop-k.invariant ∙ rw (k, sub_self, add-zero) in
    (e, rw e (field_lt c.args.w c.args.at c.args.s.now (λ i. (c.type_inv.s i).fits)))
