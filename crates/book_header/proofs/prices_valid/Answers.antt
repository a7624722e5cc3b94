-- `prices_valid` is the test of the rules, on the struct's own fields. Assumes nothing.
use mathlib.Core.Path.{refl}
use Rattle.rules.specs.Questions.{tariff_valid, toll_valid, prices_are_valid}
use Rattle.book_header.proofs.prices_valid.Goals as goal

pub returns : goal.returns
unfolding prices_are_valid tariff_valid toll_valid
returns c = refl
