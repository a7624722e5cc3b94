-- `current`: what serves is known; else no sale stands above the bounds. Assumes nothing.
use Rattle.cut_peaks.proofs.Keeping.{below_known}
use Rattle.cut_peaks.proofs.current.Goals as goal

pub returns-in-Some : goal.returns-in-Some
returns-in-Some c = let s = c.in-Some.ensures in
    (c.requires.kept_for _ s.0, s.1)

pub keep-requires : goal.keep-requires
keep-requires c = (c.requires.in_range.0, c.requires.in_range.1, c.requires.in_range.2, below_known c.requires.in_range.1 c.args.kept c.requires.kept_for c.bounds.result c.bounds.ensures)
