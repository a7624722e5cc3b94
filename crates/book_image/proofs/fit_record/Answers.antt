-- `fit_record`: the first bytes eight at a time, then the others. Assumes nothing.
use Rattle.base.specs.Basics.{ap, ◌∙◌, ◌*◌, ◌/◌, ◌≤◌, arith, length, drop, take, length-sets}
use Rattle.book_image.proofs.Fitted.{fitted_twice}
use Rattle.book_image.proofs.fit_record.Goals as goal
use Rattle.book_image.proofs.fit_record.Goals.{Start}

-- the bytes that are copied eight at a time
few : (c : goal.Start) → 8 * (c.args.kept / 8) ≤ c.args.kept
few c = omega arith

pub fit-requires : goal.fit-requires
fit-requires c = let a = c.args in
    let k = 8 * (a.kept / 8) in
    let long = ap length c.copy_eights.ensures ∙ length-sets a.out.now a.to (take k (drop a.from a.s.now)) in
    (omega (arith, c.requires.0, few (goal.at.fit-requires c).Start), omega (arith, c.requires.1, c.requires.2, few (goal.at.fit-requires c).Start, long), omega (arith, c.requires.2, few (goal.at.fit-requires c).Start))

pub returns : goal.returns
returns c = let a = c.args in
    fitted_twice a.s.now a.out.now a.from a.kept a.to a.size (8 * (a.kept / 8)) c.requires.0 c.requires.2 (few (goal.at.returns c).Start) c.copy_eights.ensures c.fit.ensures

pub copy_eights-requires : goal.copy_eights-requires
copy_eights-requires c = (omega (arith, c.requires.0, few (goal.at.copy_eights-requires c).Start), omega (arith, c.requires.1, c.requires.2, few (goal.at.copy_eights-requires c).Start))

pub overflow_mul-k : goal.overflow_mul-k
overflow_mul-k c = omega (arith, few (goal.at.overflow_mul-k c).Start)

pub overflow_sub-kept : goal.overflow_sub-kept
overflow_sub-kept c = omega (arith, few (goal.at.overflow_sub-kept c).Start)
