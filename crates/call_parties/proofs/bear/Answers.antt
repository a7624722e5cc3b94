-- `bear`: by the version. Assumes nothing.
use Rattle.base.specs.Basics.{sym, ap, ◌∙◌, arith}
use Rattle.rules.specs.Areas.{managers_in}
use Rattle.call_parties.proofs.Borne.{plain_in, plain_sums}
use Rattle.call_parties.proofs.bear.Goals as goal

pub version-requires : goal.version-requires
version-requires c = omega (arith, c.requires.opened_parties.0.book.accepted.held.form.head)

pub bear_managed-requires : goal.bear_managed-requires
bear_managed-requires c = record { book_in = (c.requires.opened_parties.0.book, sym (c.has_managers.ensures ∙ ap managers_in c.version.ensures) ∙ c.if-has_managers.true); bearing_sellers_len = c.requires.bearing_sellers_len }

pub returns-else-has_managers-clause-borne_in : goal.returns-else-has_managers-clause-borne_in
returns-else-has_managers-clause-borne_in c = let b = c.requires.opened_parties.0.book in
    plain_in c.args.book.now b.accepted (sym (c.has_managers.ensures ∙ ap managers_in c.version.ensures) ∙ c.if-has_managers.false) b

pub returns-else-has_managers-clause-sums_of : goal.returns-else-has_managers-clause-sums_of
returns-else-has_managers-clause-sums_of c =
    plain_sums c.args.book.now c.requires.opened_parties.0.book.accepted (sym (c.has_managers.ensures ∙ ap managers_in c.version.ensures) ∙ c.if-has_managers.false) c.requires.opened_parties.1
