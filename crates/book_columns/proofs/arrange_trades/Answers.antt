-- `arrange_trades`: the widths are those of the version's fields. Assumes nothing.
use Rattle.base.specs.Basics.{refl, rules}
use Rattle.fields.specs.Layout.{size}
use Rattle.book_records.specs.Trade.{trade_widths}
use Rattle.book_columns.specs.Form.{trade_fields}
use Rattle.book_columns.proofs.arrange_trades.Goals as goal

pub arrange-requires : goal.arrange-requires
unfolding size
arrange-requires c = record { narrow = search rules; fields = refl; source = search rules; target = search rules }

pub returns : goal.returns
unfolding trade_fields trade_widths
returns c = c.arrange.ensures
