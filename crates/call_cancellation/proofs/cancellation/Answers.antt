-- `cancellation` is refused by the opening questions, by 25 or by 8, or goes on with the user that the entry found. Assumes nothing.
use Rattle.base.specs.Basics.{◌≡◌, refl, ◌∙◌, sym, ◌<◌, arith}
use Rattle.std.specs.Prelude.{Ok}
use Rattle.std.proofs.lemmas.Result.{IfOk-at_ok, IfOk-weaker}
use Rattle.refusals.proofs.Numbers.{handed_on, refused-nonzero}
use Rattle.refusals.specs.Refusal.{number_in}
use Rattle.store.specs.Asked.{figures_in}
use Rattle.book_format.specs.Questions.{book_number}
use Rattle.call_entry.specs.Entered.{Found}
use Rattle.book_format.proofs.Places.{header_lies}
use Rattle.book_format.specs.Book.{book_of}
use Rattle.book_questions.specs.Opened.{Opened}
use Rattle.units.specs.Limits.{as_limits}
use Rattle.call_cancellation.proofs.Ways.{call_entered_lem, call_unentered, tries_within}
use Rattle.call_cancellation.proofs.cancellation.Goals as goal
use Rattle.call_cancellation.proofs.cancellation.Goals.{In_ok-limits}

-- neither the opening questions nor 25 refuse
ranged : (c : goal.In_ok-limits) → (c.args.opened ≡ Ok c.in_ok-limits.field-0.limits) × (0 < c.args.tries) × (c.args.tries < 65536)
ranged c = IfOk-at_ok (λ limits. (c.args.opened ≡ Ok limits) × (0 < c.args.tries) × (c.args.tries < 65536)) c.in_ok-limits.ensures.found.0 c.ask_tries.ensures.in_range

-- the user that the entry found
found : (c : goal.In_ok-limits) → Found c.args.book.now c.args.id c.in_ok-limits.field-0.place
found c = c.in_ok-limits.ensures.found.1

-- what the opening questions give
told : (c : goal.In_ok-limits) → let a = c.args in Opened (as_limits c.in_ok-limits.field-0.limits) a.book.now a.sellers.now a.buyers.now a.sums.now
told c = let a = c.args in IfOk-at_ok (λ limits. Opened (as_limits limits) a.book.now a.sellers.now a.buyers.now a.sums.now) (ranged c).0 c.requires

pub seek-requires : goal.seek-requires
seek-requires c = let a = c.args in
    IfOk-weaker _ (λ limits. (a.opened ≡ Ok limits) × (0 < a.tries) × (a.tries < 65536)) (λ limits. book_number a.book.now ≡ 0)
    (λ limits k. (IfOk-at_ok (λ l. Opened (as_limits l) a.book.now a.sellers.now a.buyers.now a.sums.now) k.0 c.requires).parties.passes) c.ask_tries.ensures.in_range

pub returns-in_err-limits : goal.returns-in_err-limits
returns-in_err-limits c = let a = c.args in
    rw (handed_on c.from_residual.ensures.1)
    (sym (call_unentered (number_in a.opened) (figures_in a.opened) a.book.now a.id a.tries c.ask_tries.ensures.asked c.in_err-limits.ensures.asked (refused-nonzero c.in_err-limits.field-0.0)))

pub read_prices-requires : goal.read_prices-requires
read_prices-requires c = header_lies (told (goal.at.read_prices-requires c).In_ok-limits).parties.book.accepted.held.form

pub bear-requires : goal.bear-requires
bear-requires c = let o = told (goal.at.bear-requires c).In_ok-limits in
    record { opened_parties = (o.parties, o.summed.sums_are); bearing_sellers_len = (refl, refl) }

pub cancel_user-requires : goal.cancel_user-requires
unfolding book_of
cancel_user-requires c = let t = ranged (goal.at.cancel_user-requires c).In_ok-limits in
    record {
      runnable = (
        record {
          risk = record {
            opened = (told (goal.at.cancel_user-requires c).In_ok-limits).summed.figures;
            prices_are = c.read_prices.ensures;
            sums_are
                = c.bear.ensures.sums_of;
          };
          book = c.bear.ensures.borne_in;
        },
        (found (goal.at.cancel_user-requires c).In_ok-limits).known,
      );
      tries_nonzero = (t.1, t.2);
    }

pub returns : goal.returns
returns c = let a = c.args in
    let p = (goal.at.returns c).In_ok-limits in
    let t = ranged p in
    rw t.0 (c.cancel_user.ensures ∙ sym (call_entered_lem 0 (as_limits c.in_ok-limits.field-0.limits) a.book.now a.id a.tries (sym (tries_within a.tries t.1 (omega (arith, t.2)))) (found p)))
