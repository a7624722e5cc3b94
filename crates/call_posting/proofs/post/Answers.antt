-- `post` asks the range of the new entry; where it is accepted, entry and position move by the same amount. Assumes nothing.
use Rattle.base.specs.Basics.{◌≡◌, ◌∙◌, ap, sym, true, ℤ, ◌+ℤ◌}
use mir.Syntax.{w64}
use mir.ValLaws.{to_z-of_z}
use Rattle.rules.specs.Signed.{bits_of, signed_of, within}
use Rattle.units.proofs.Amounts.{add_difference}
use Rattle.units.specs.Amounts.{net}
use Rattle.call_posting.proofs.post.Goals as goal

pub returns : goal.returns
returns c =
    let a = c.args in
    let z = signed_of 32 a.entry +ℤ a.amount in
    let e : (within 1000000 z ≡ true) × (net c.in_ok-new.new ≡ z) = rw (sym c.of_bits-old.ensures) (rw (to_z-of_z w64 a.amount c.ranges.amount) at c.in_ok-new.ensures) in
    record {
      test = sym e.0;
      entered = λ t. c.bits.ensures ∙ ap (bits_of 32) e.1;
      held = λ t.
          c.bits-2.ensures
          ∙ ap (bits_of 32)
          (c.moved-moved.ensures
          ∙ add_difference (net c.of_bits-held.result) (net c.of_bits-old.result) (net c.in_ok-new.new) a.amount (e.1 ∙ ap (λ (x : ℤ). x +ℤ a.amount) (sym c.of_bits-old.ensures))
          ∙ ap (λ (x : ℤ). x +ℤ a.amount) c.of_bits-held.ensures);
    }
