-- `chosen`: the cuts that what is kept tells. Assumes nothing.
use Rattle.run_turns.proofs.long.chosen.Goals as goal

pub choose-requires : goal.choose-requires
choose-requires c = record { in_range = (c.requires.in_range.0, c.requires.in_range.1, c.requires.in_range.2, c.requires.in_range.3, c.requires.in_range.4); kept_for = c.requires.kept_for }

pub returns : goal.returns
returns c = record {
  short = c.shorts_at-short.result;
  short_in_lem = c.shorts_at-short.ensures;
  none = c.args.cuts.now;
  none_cut = c.requires.in_range.3;
  chosen = c.choose.ensures;
}

pub shorts_at-short-requires : goal.shorts_at-short-requires
shorts_at-short-requires c = c.requires.in_range.5
