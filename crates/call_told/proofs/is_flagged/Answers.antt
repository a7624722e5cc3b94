-- `is_flagged`: the user at the place is asked, by its positions with those of its members. Assumes nothing.
use Rattle.base.specs.Basics.{◌∙◌, subst, sym, arith, get_or}
use Rattle.rules.specs.Book.{nobody}
use Rattle.units.specs.Limits.{as_limits}
use Rattle.units.specs.Prices.{InRange}
use Rattle.book_format.proofs.Passed.{length-users_of}
use Rattle.book_format.proofs.Places.{header_lies}
use Rattle.book_format.specs.Book.{book_of, users_of}
use Rattle.risk_members.proofs.Members.{read_blocked}
use Rattle.risk_user.proofs.Accepted.{blocked_within, prices_within}
use Rattle.risk_user.proofs.Held.{flagged_row}
use Rattle.call_told.proofs.is_flagged.Goals as goal

pub user_at-user-requires : goal.user_at-user-requires
user_at-user-requires c = record { form = c.requires.0.accepted.held.form; inside = c.requires.1 }

pub read_prices-prices-requires : goal.read_prices-prices-requires
read_prices-prices-requires c = header_lies c.requires.0.accepted.held.form

pub positions_of-position-requires : goal.positions_of-position-requires
positions_of-position-requires c = (c.requires.0.accepted, c.requires.1, c.user_at-user.ensures)

pub flagged-requires : goal.flagged-requires
unfolding book_of
flagged-requires c = let b = c.args.book.now in
    let v = get_or (users_of b) c.args.place nobody in (
      c.requires.0.limits_in,
      subst InRange (sym c.read_prices-prices.ensures) (prices_within b c.requires.0.passes),
      omega (arith, read_blocked c.user_at-user.result v c.user_at-user.ensures, blocked_within b c.requires.0.passes c.requires.1),
    )

pub returns : goal.returns
unfolding book_of
returns c = let b = c.args.book.now in
    let v = get_or (users_of b) c.args.place nobody in
    c.flagged.ensures v (read_blocked c.user_at-user.result v c.user_at-user.ensures)
    ∙ flagged_row (book_of b) c.args.place (omega (arith, length-users_of b, c.requires.1)) (as_limits c.args.limits) c.read_prices-prices.ensures c.positions_of-position.result c.positions_of-position.ensures
