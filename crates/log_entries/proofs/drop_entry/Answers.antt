-- `drop_entry` lends the part that is made 0. Assumes nothing.
use Rattle.base.specs.Basics.{◌≡◌, ap₂, ◌∙◌, ℕ, ◌+◌, ◌-◌, arith}
use Rattle.log_entries.proofs.Parts.{part_cleared}
use Rattle.log_entries.specs.Entries.{cleared}
use Rattle.log_entries.proofs.drop_entry.Goals as goal

pub returns : goal.returns
returns c = let at = c.entry_offset-at in
    let n : (at.result + 1024) - at.result ≡ 1024 = omega arith in
    part_cleared c.args.log.now c.clear.new.s at.result ((at.result + 1024) - at.result) (omega (arith, at.ensures.1, c.requires.0, c.requires.1)) c.clear.ensures
    ∙ ap₂ (λ (i k : ℕ). cleared i k c.args.log.now) at.ensures.0 n
