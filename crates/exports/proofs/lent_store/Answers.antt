-- `lent_store` gives the lent part where the flag is not 0. Assumes nothing.
use Rattle.base.specs.Basics.{refl, eq-eqb, ne_eqb}
use Rattle.store.specs.Store.{given}
use Rattle.exports.specs.Answers.{is_yes}
use Rattle.exports.proofs.lent_store.Goals as goal

pub returns-then-with_store-ne0 : goal.returns-then-with_store-ne0
unfolding is_yes given
returns-then-with_store-ne0 c = rw (ne_eqb c.args.with_store 0 c.if-with_store-ne0.true) refl

pub returns-else-with_store-ne0 : goal.returns-else-with_store-ne0
unfolding is_yes given
returns-else-with_store-ne0 c = rw (eq-eqb c.args.with_store 0 c.if-with_store-ne0.false) refl
