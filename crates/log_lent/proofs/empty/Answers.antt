-- `empty` leaves a log that is not given, or whose call was refused; else its entries are made 0, and it holds the book. Assumes nothing.
use Rattle.base.specs.Basics.{◌≡◌, ◌∙◌, sym, arith}
use Rattle.log_format.proofs.Read.{FitLog, fits_facts}
use Rattle.log_format.specs.Log.{count_of_entries}
use Rattle.log_lent.proofs.Ways.{carried_out, emptied, refused, stays_not_lent, stays_refused}
use Rattle.log_lent.specs.Lent.{Emptiable}
use Rattle.refusals.specs.Refusal.{number_in}
use Rattle.log_lent.proofs.empty.Goals as goal
use Rattle.log_lent.proofs.empty.Goals.{After-get_u32-count, Else-is_err, then-not-with_log-via-then-not-with_log, then-not-with_log-via-else-not-with_log+then-is_err}

-- the call is carried out
number : (c : goal.Else-is_err) → number_in c.args.outcome ≡ 0
number c = carried_out c.args.outcome (sym c.is_err.ensures.value ∙ c.if-is_err.false)

can : (c : goal.Else-is_err) → Emptiable c.args.log.now c.args.book.now
can c = c.requires c.if-not-with_log.false (number c)

facts : (c : goal.Else-is_err) → FitLog c.args.log.now (can c).before
facts c = fits_facts c.args.log.now (can c).before (can c).fits

count : (c : goal.After-get_u32-count) → c.get_u32-count.result ≡ count_of_entries c.args.log.now
unfolding count_of_entries
count c = c.get_u32-count.ensures

pub returns-then-not-with_log : goal.returns-then-not-with_log
returns-then-not-with_log c = let a = c.args in
    elim c.then-not-with_log.branch [
      | then-not-with_log-via-then-not-with_log w ↦ stays_not_lent a.log.now a.book.now (number_in a.outcome) w.if-not-with_log.true
      | then-not-with_log-via-else-not-with_log+then-is_err w ↦
          stays_refused a.log.now a.book.now (number_in a.outcome) w.if-not-with_log.false (refused a.outcome (sym w.is_err.ensures.value ∙ w.if-is_err.true))
    ]

pub get_u32-count-requires : goal.get_u32-count-requires
get_u32-count-requires c = omega (arith, (facts c).size)

pub drop_entries-requires : goal.drop_entries-requires
drop_entries-requires c = let d = (goal.at.drop_entries-requires c).Else-is_err in
    ((facts d).size, omega (arith, count (goal.at.drop_entries-requires c).After-get_u32-count, (facts d).count))

pub seal-requires : goal.seal-requires
seal-requires c = let d = (goal.at.seal-requires c).Else-is_err in (omega (arith, c.drop_entries.auto.log, (facts d).size), (can d).room)

pub returns : goal.returns
returns c = let a = c.args in
    let d = (goal.at.returns c).Else-is_err in
    emptied a.log.now a.book.now (number_in a.outcome) c.if-not-with_log.false (number d) (can d)
    (λ j. (c.slice_known-1.given j).fits) (count (goal.at.returns c).After-get_u32-count) c.drop_entries.ensures c.seal.ensures
