-- `trade` is refused by the entry, or gives the 20 bytes where the trade of the ordinal stands, or nothing past the last. Assumes nothing.
use Rattle.base.specs.Basics.{◌≡◌, ◌∙◌, refl, subst, ◌+◌, ◌-◌, arith}
use Rattle.std.proofs.Common.{IfOk}
use Rattle.refusals.proofs.Numbers.{handed_on, refused-nonzero}
use Rattle.book_format.specs.Questions.{Formed}
use Rattle.book_questions.specs.Opened.{OpenedParties}
use Rattle.call_told.proofs.Asked.{found_above}
use Rattle.call_told.proofs.Seen.{found_number, found_part, found_start, part_refused, shown_none, shown_trade, starts_at, starts_none}
use Rattle.call_told.proofs.trade.Goals as goal
use Rattle.call_told.proofs.trade.Goals.{In_ok-seek_shipper}

pub returns-in_err-seek_shipper-clause-told : goal.returns-in_err-seek_shipper-clause-told
returns-in_err-seek_shipper-clause-told c = let a = c.args in
    rw (handed_on c.from_residual.ensures.1) (part_refused _ a.book.now a.id a.ordinal c.in_err-seek_shipper.ensures.asked (refused-nonzero c.in_err-seek_shipper.field-0.0))

opened : (c : goal.In_ok-seek_shipper) → OpenedParties c.args.book.now c.args.sellers.now c.args.buyers.now
opened c = let a = c.args in
    subst (λ o. IfOk o (λ limits. OpenedParties a.book.now a.sellers.now a.buyers.now)) c.in_ok-seek_shipper.ensures.found.0 c.requires

pub place_seen-requires : goal.place_seen-requires
place_seen-requires c = ((opened c).book, found_above c.in_ok-seek_shipper.ensures.found.1)

pub returns-in_default-clause-told : goal.returns-in_default-clause-told
returns-in_default-clause-told c = let a = c.args in
    let s = a.book.now in
    let seen = c.in_default.ensures.seen in
    let asked = c.in_ok-seek_shipper.ensures.asked in
    let at = starts_none s a.id a.ordinal _ seen (omega arith) in
    record {
      asked = found_number _ s a.id a.ordinal asked refl;
      shows = λ limits. shown_none s a.id a.ordinal _ seen (omega arith) ∙ found_part _ s a.id a.ordinal asked refl limits;
      block = refl;
      offset = omega (arith, at, found_start _ s a.id a.ordinal asked refl);
    }

form : (c : goal.In_ok-seek_shipper) → Formed c.args.book.now
form c = (opened c).book.accepted.held.form

pub trade_offset-a-requires : goal.trade_offset-a-requires
trade_offset-a-requires c = (form (goal.at.trade_offset-a-requires c).In_ok-seek_shipper, c.in-Some.ensures.inside)

pub returns-clause-told : goal.returns-clause-told
returns-clause-told c = let a = c.args in
    let s = a.book.now in
    let at = c.trade_offset-a.result in
    let k : at + 20 - at ≡ 20 = omega arith in
    let begins = c.trade_offset-a.ensures.0 in
    let asked = c.in_ok-seek_shipper.ensures.asked in
    let seen = c.in-Some.ensures.seen in
    let inside = c.in-Some.ensures.inside in
    let from = starts_at s a.id a.ordinal c.in-Some.place seen inside in
    record {
      asked = found_number _ s a.id a.ordinal asked refl;
      shows = λ limits. rw (k, begins) (shown_trade s a.id a.ordinal c.in-Some.place seen inside ∙ found_part _ s a.id a.ordinal asked refl limits);
      block = refl;
      offset = omega (arith, begins, from, found_start _ s a.id a.ordinal asked refl);
    }
