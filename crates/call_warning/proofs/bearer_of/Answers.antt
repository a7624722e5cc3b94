-- `bearer_of`: by the version. Assumes nothing.
use Rattle.base.specs.Basics.{sym, ap, ◌∙◌, arith}
use Rattle.book_format.specs.Places.{UserIn}
use Rattle.book_records.specs.Trade.{as_trade}
use Rattle.laws.proofs.Settle.{area-lt}
use Rattle.book_format.specs.Book.{users_of}
use Rattle.rules.specs.Areas.{managers_in}
use Rattle.call_warning.proofs.Ways.{seller_borne, seller_itself, seller-place}
use Rattle.call_warning.proofs.bearer_of.Goals as goal
use Rattle.call_warning.proofs.bearer_of.Goals.{After-place_of-place}

pub returns-then-not-has_managers : goal.returns-then-not-has_managers
unfolding as_trade
returns-then-not-has_managers c = seller_itself c.args.book.now c.requires.0 (as_trade c.args.t) c.requires.1 (sym (c.has_managers.ensures ∙ ap managers_in c.version.ensures) ∙ c.if-not-has_managers.true)

-- the seller at its place
there : (c : goal.After-place_of-place) → UserIn c.args.book.now c.place_of-place.result
unfolding as_trade
there c = record { form = c.requires.0.held.form; inside = seller-place c.args.book.now c.requires.0 (as_trade c.args.t) c.requires.1 c.place_of-place.ensures.0 }

pub bearer_of-requires : goal.bearer_of-requires
unfolding as_trade
bearer_of-requires c = (there (goal.at.bearer_of-requires c).After-place_of-place, sym (c.has_managers.ensures ∙ ap managers_in c.version.ensures) ∙ c.if-not-has_managers.false, area-lt (users_of c.args.book.now) (as_trade c.args.t) c.requires.1)

pub returns : goal.returns
unfolding as_trade
returns c = seller_borne c.args.book.now c.requires.0 (as_trade c.args.t) c.requires.1 c.place_of-place.ensures.0 c.bearer_of.ensures

pub version-requires : goal.version-requires
version-requires c = omega (arith, c.requires.0.held.form.head)

pub place_of-place-requires : goal.place_of-place-requires
place_of-place-requires c = c.requires.0.held.form
