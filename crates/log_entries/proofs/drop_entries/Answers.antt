-- `drop_entries` lends the part that is made 0. Assumes nothing.
use Rattle.base.specs.Basics.{◌≡◌, ap, ◌∙◌, ℕ, ◌-◌, ◌*◌, arith}
use Rattle.log_entries.proofs.Parts.{part_cleared}
use Rattle.log_entries.specs.Entries.{cleared}
use Rattle.log_entries.proofs.drop_entries.Goals as goal

pub returns : goal.returns
returns c = let at = c.entry_offset-end in
    let n : at.result - 9524 ≡ 1024 * c.args.count = omega (arith, at.ensures.1) in
    part_cleared c.args.log.now c.clear.new.s 9524 (at.result - 9524) (omega (arith, at.ensures.1, c.requires.0, c.requires.1)) c.clear.ensures
    ∙ ap (λ (k : ℕ). cleared 9524 k c.args.log.now) n
