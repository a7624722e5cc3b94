-- `call` is refused by the entry, refused for a clearing house, or ends as the questions 11 and 12 leave it. Assumes nothing.
use Rattle.base.specs.Basics.{◌≡◌, refl, sym, ap, ◌∙◌, List, ℕ, arith, get_or}
use Rattle.std.proofs.lemmas.Result.{IfOk-at_ok}
use Rattle.refusals.proofs.Numbers.{handed_on, refused-nonzero}
use Rattle.store.specs.Asked.{figures_in}
use Rattle.rules.specs.Levels.{Limits}
use Rattle.units.specs.Limits.{as_limits}
use Rattle.call_entry.specs.Entered.{Found}
use Rattle.call_guarantee.specs.Times.{call_of}
use Rattle.call_entry.proofs.Calls.{called, found_at, found_user}
use Rattle.call_parties.proofs.Borne.{plain_in}
use Rattle.book_format.specs.Book.{book_of, users_of, version_of}
use Rattle.book_questions.specs.Opened.{Opened}
use Rattle.risk_members.proofs.Members.{read_role}
use Rattle.rules.specs.Areas.{managers_in}
use Rattle.rules.specs.Book.{User, find, nobody}
use Rattle.rules.specs.Calls.{Result, call_after}
use Rattle.call_guarantee.specs.Raised.{called_at}
use Rattle.call_guarantee.proofs.Ways.{both_right, call_ends, call_of_house, call_unentered, one_without}
use Rattle.book_format.specs.Steps.{in_bytes}
use Rattle.call_guarantee.proofs.call.Goals as goal
use Rattle.call_guarantee.proofs.call.Goals.{After-has_managers-managed, After-user_at-user, In_ok-limits}

-- the user that the entry found, and the figures
found : (c : goal.In_ok-limits) → Found c.args.book.now c.args.id c.in_ok-limits.field-0.place
found c = c.in_ok-limits.ensures.found.1

abbrev figures : goal.In_ok-limits → Limits
figures c = as_limits c.in_ok-limits.field-0.limits

-- what the opening questions give
told : (c : goal.In_ok-limits) → let a = c.args in Opened (as_limits c.in_ok-limits.field-0.limits) a.book.now a.sellers.now a.buyers.now a.sums.now
told c = let a = c.args in IfOk-at_ok (λ limits. Opened (as_limits limits) a.book.now a.sellers.now a.buyers.now a.sums.now) c.in_ok-limits.ensures.found.0 c.requires

pub returns-in_err-limits : goal.returns-in_err-limits
returns-in_err-limits c = let a = c.args in
    rw (handed_on c.from_residual.ensures.1)
    (called (call_of a.afternoon a.id) refl
    (call_unentered _ (figures_in a.opened) a.book.now a.id a.afternoon c.in_err-limits.ensures.asked (refused-nonzero c.in_err-limits.field-0.0)))

pub user_at-user-requires : goal.user_at-user-requires
user_at-user-requires c = found_user (found (goal.at.user_at-user-requires c).In_ok-limits)

-- the role that was read is that of the user of the id
role : (c : goal.After-user_at-user) → c.user_at-user.result.role ≡ (find (book_of c.args.book.now).users c.args.id).party.role
role c = read_role c.user_at-user.result (get_or (users_of c.args.book.now) c.in_ok-limits.field-0.place nobody) c.user_at-user.ensures
    ∙ ap (λ (v : User). v.party.role) (found_at (found (goal.at.After-user_at-user c).In_ok-limits))

pub returns-then-user-ne0 : goal.returns-then-user-ne0
returns-then-user-ne0 c = let a = c.args in
    rw c.in_ok-limits.ensures.found.0
    (called (call_of a.afternoon a.id) refl
    (call_of_house 0 (figures (goal.at.returns-then-user-ne0 c).In_ok-limits) a.book.now a.id a.afternoon refl (found (goal.at.returns-then-user-ne0 c).In_ok-limits)
    (λ h. c.if-user-ne0.true (role (goal.at.returns-then-user-ne0 c).After-user_at-user ∙ h))))

pub holdings_of-holdings-requires : goal.holdings_of-holdings-requires
holdings_of-holdings-requires c = let sums = (told (goal.at.holdings_of-holdings-requires c).In_ok-limits).summed in
    (sums.figures.accepted, sums.sums_are, (found (goal.at.holdings_of-holdings-requires c).In_ok-limits).known, c.user_at-user.ensures)

pub version-requires : goal.version-requires
version-requires c = omega (arith, (told (goal.at.version-requires c).In_ok-limits).parties.book.accepted.held.form.head)

-- whether the version has managers
managed : (h : goal.After-has_managers-managed) → h.has_managers-managed.result ≡ managers_in (version_of h.args.book.now)
managed h = h.has_managers-managed.ensures ∙ ap managers_in h.version.ensures

pub bear_managed-requires : goal.bear_managed-requires
bear_managed-requires c = record {
  book_in = (
    (told (goal.at.bear_managed-requires c).In_ok-limits).parties.book,
    sym (managed (goal.at.bear_managed-requires c).After-has_managers-managed)
        ∙ both_right c.args.afternoon c.has_managers-managed.result c.if-afternoon-managed.true,
  );
  bearing_sellers_len = (refl, refl);
}

pub call_at-requires : goal.call_at-requires
call_at-requires c = record {
  opened_figures = ((told (goal.at.call_at-requires c).In_ok-limits).summed.figures, (λ e. c.bear_managed.ensures.borne_in), (found (goal.at.call_at-requires c).In_ok-limits).known);
  user_value = (c.user_at-user.ensures, c.holdings_of-holdings.ensures);
}

-- the end of the call
ended : (h : goal.After-has_managers-managed) → called_at h.args.afternoon (figures (goal.at.After-has_managers-managed h).In_ok-limits) h.args.book.now h.in_ok-limits.field-0.place
    ≡ call_after in_bytes 0 (figures (goal.at.After-has_managers-managed h).In_ok-limits) h.args.book.now (call_of h.args.afternoon h.args.id)
ended h = call_ends 0 (figures (goal.at.After-has_managers-managed h).In_ok-limits) h.args.book.now h.args.id h.args.afternoon
    refl (found (goal.at.After-has_managers-managed h).In_ok-limits) (λ j. (h.slice_known-1.given j).fits) (sym (role (goal.at.After-has_managers-managed h).After-user_at-user) ∙ h.if-user-ne0.false)

pub returns-then-afternoon-managed : goal.returns-then-afternoon-managed
returns-then-afternoon-managed c = let x = ended (goal.at.returns-then-afternoon-managed c).After-has_managers-managed in
    rw c.in_ok-limits.ensures.found.0
    (record { answer = c.call_at.ensures.result_value ∙ ap (λ (y : Result (List ℕ)). y.answer) x; bytes = c.call_at.ensures.book_after ∙ ap (λ (y : Result (List ℕ)). y.book) x })

pub call_at-requires-else-afternoon-managed : goal.call_at-requires-else-afternoon-managed
call_at-requires-else-afternoon-managed c = let t = told (goal.at.call_at-requires-else-afternoon-managed c).In_ok-limits in
    let a = c.args.afternoon in record {
      opened_figures = (
        t.summed.figures,
        (λ e. plain_in c.args.book.now t.parties.book.accepted (sym (managed (goal.at.call_at-requires-else-afternoon-managed c).After-has_managers-managed)
            ∙ one_without a c.has_managers-managed.result c.if-afternoon-managed.false e) t.parties.book),
        (found (goal.at.call_at-requires-else-afternoon-managed c).In_ok-limits).known,
      );
      user_value = (c.user_at-user.ensures, c.holdings_of-holdings.ensures);
    }

pub returns-else-afternoon-managed : goal.returns-else-afternoon-managed
returns-else-afternoon-managed c = let x = ended (goal.at.returns-else-afternoon-managed c).After-has_managers-managed in
    let r = c.call_at-else-afternoon-managed in
    rw c.in_ok-limits.ensures.found.0
    (record { answer = r.ensures.result_value ∙ ap (λ (y : Result (List ℕ)). y.answer) x; bytes = r.ensures.book_after ∙ ap (λ (y : Result (List ℕ)). y.book) x })
