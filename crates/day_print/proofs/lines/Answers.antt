-- `day_print::lines`: an accepted book passes the questions again, which tell the sums of its users and the places of the parties of its trades. Assumes nothing.
use Rattle.std.proofs.Common.{◌∙◌, refl, arith}
use Rattle.book_format.proofs.Passed.{passed}
use Rattle.book_format.proofs.Places.{header_lies}
use Rattle.book_format.specs.Book.{book_of}
use Rattle.book_questions.proofs.Asked.{parties_opened, sums_told}
use Rattle.day_print.proofs.lines.Goals as goal

pub bear-requires-clause-opened_parties : goal.bear-requires-clause-opened_parties
bear-requires-clause-opened_parties g c =
    let told = c.ask.ensures in (
      parties_opened told.asked_of (λ j. (c.type_inv.book j).fits) c.requires c.ask.auto.sellers c.ask.auto.buyers,
      sums_told told.summed (told.asked_of.number ∙ c.requires),
    )

pub read_prices-requires : goal.read_prices-requires
read_prices-requires g c = header_lies (passed c.args.book.now c.requires).form

pub user_count-n-requires : goal.user_count-n-requires
user_count-n-requires g c = omega (arith, (passed c.args.book.now c.requires).form.head)

pub trade_count-m-requires : goal.trade_count-m-requires
trade_count-m-requires g c = omega (arith, (passed c.args.book.now c.requires).form.head)

pub fill_positions-requires : goal.fill_positions-requires
fill_positions-requires g c = (c.bear.ensures.borne_in.accepted, c.user_count-n.ensures, refl)

pub fill_below_notified-requires-clause-borne_in : goal.fill_below_notified-requires-clause-borne_in
fill_below_notified-requires-clause-borne_in g c = (c.bear.ensures.borne_in, c.user_count-n.ensures, c.trade_count-m.ensures)

pub lines_of-requires : goal.lines_of-requires
unfolding book_of
lines_of-requires g c =
    record {
      risk = record {
        opened = record { passes = c.requires; accepted = c.bear.ensures.borne_in.accepted; limits_in = c.today.ensures.limits_in_range };
        prices_are = c.read_prices.ensures;
        sums_are = c.bear.ensures.sums_of;
      };
      users_are = c.user_count-n.ensures;
      positions = c.fill_positions.ensures.0;
      below = c.fill_below_notified.ensures;
    }
