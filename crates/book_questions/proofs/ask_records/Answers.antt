-- `ask_records` asks the questions 5 to 7 in their order, and returns at the first that is answered by no. Assumes nothing.
use Rattle.base.specs.Basics.{◌≡◌, ap, refl, true, ◌&&◌, ℕ, arith, drop, rules}
use Rattle.base.specs.Lists.{all}
use Rattle.base.proofs.Tests.{holds}
use Rattle.fields.proofs.Records.{length-records_of}
use Rattle.book_records.specs.Trade.{trade_of}
use Rattle.rules.specs.Questions.{positions_are_valid}
use Rattle.book_parties.specs.Ids.{users_from, trades_from}
use Rattle.book_questions.specs.Zeros.{user_zeros_in}
use Rattle.book_questions.specs.Asked.{all_valid, Summed, UsersAsked, past_five, past_six}
use Rattle.book_questions.proofs.Asked.{records_5, records_6, records_sums, records_summed, summed_none, summed_6, records_7, records_0}
use Rattle.book_questions.proofs.Managers.{fields_groups, users_no, users_yes}
use Rattle.book_questions.proofs.ask_records.Goals as goal
use Rattle.book_questions.proofs.ask_records.Goals.{After-groups_valid, After-positions_valid}

pub returns-then-not-fields_valid : goal.returns-then-not-fields_valid
unfolding past_five past_six
returns-then-not-fields_valid c = let a = c.args in
    rw c.from.ensures
    (record { records_asked = records_5 a.version (user_zeros_in a.size 0 a.n a.s.now) (users_no a.version (user_zeros_in a.size 0 a.n a.s.now) c.fields_valid.ensures c.if-not-fields_valid.true) refl; summed = summed_none 5 (λ p. p) })

pub fill_guesses-requires : goal.fill_guesses-requires
fill_guesses-requires c = (c.fields_valid.ensures.padded (holds {c = c.fields_valid.result} c.if-not-fields_valid.false), c.requires.records_in.0.some, search rules)

pub groups_valid-requires : goal.groups_valid-requires
groups_valid-requires c = let a = c.args in
    fields_groups a.version (user_zeros_in a.size 0 a.n a.s.now) c.fields_valid.ensures a.s.now (ap (λ (size : ℕ). users_from size 0 a.n a.s.now) c.requires.records_in.1)
    (omega (arith, rw c.requires.records_in.1 at c.requires.records_in.0.users)) c.if-not-fields_valid.false c.fill_guesses.ensures

-- the answer to question 5, from its two parts
users : (c : goal.After-groups_valid) → let a = c.args in let us = users_from a.size 0 a.n a.s.now in
    UsersAsked us (user_zeros_in a.size 0 a.n a.s.now && all_valid a.version us) a.n c.groups_valid.result c.fields_valid.new.ids
users c = let a = c.args in
    users_yes a.version (user_zeros_in a.size 0 a.n a.s.now) c.fields_valid.ensures c.if-not-fields_valid.false
    {answer = c.groups_valid.result} (rw c.requires.records_in.1 c.groups_valid.ensures)

pub returns-then-not-groups_valid : goal.returns-then-not-groups_valid
unfolding past_five past_six
returns-then-not-groups_valid c = let a = c.args in
    rw c.from-then-not-groups_valid.ensures
    (record { records_asked = records_5 a.version (user_zeros_in a.size 0 a.n a.s.now) (users (goal.at.returns-then-not-groups_valid c).After-groups_valid) c.if-not-groups_valid.true; summed = summed_none 5 (λ p. p) })

pub valid_trades-requires : goal.valid_trades-requires
valid_trades-requires c = record {
  padded = (c.fields_valid.ensures.padded (holds {c = c.fields_valid.result} c.if-not-fields_valid.false), c.fill_guesses.ensures);
  m_bound
      = (c.requires.records_in.0.many, c.requires.records_in.0.trades, c.requires.sellers_len.0, c.requires.sellers_len.1, c.requires.sellers_len.2);
}

pub returns-in-Err : goal.returns-in-Err
returns-in-Err c = let a = c.args in record {
  records_asked = records_6 a.version (user_zeros_in a.size 0 a.n a.s.now) {ts = trades_from a.trades_at a.m a.s.now} (users (goal.at.returns-in-Err c).After-groups_valid) c.in-Err.ensures c.if-not-groups_valid.false refl;
  summed = summed_6 a.version (user_zeros_in a.size 0 a.n a.s.now) {ts = trades_from a.trades_at a.m a.s.now} (users (goal.at.returns-in-Err c).After-groups_valid) c.in-Err.ensures c.if-not-groups_valid.false;
}

pub positions_valid-requires : goal.positions_valid-requires
positions_valid-requires c = let p = c.requires.records_in.0 in (p.few, p.wide, p.users)

-- the answer to question 7 is that of the rules
positions-answer : (c : goal.After-positions_valid)
    → let a = c.args in
    c.positions_valid.result ≡ all (positions_are_valid (trades_from a.trades_at a.m a.s.now)) (users_from a.size 0 a.n a.s.now)
positions-answer c = let a = c.args in
    c.positions_valid.ensures.answer (trades_from a.trades_at a.m a.s.now)
    (records_sums a.version (user_zeros_in a.size 0 a.n a.s.now) {ts = trades_from a.trades_at a.m a.s.now} (users (goal.at.After-positions_valid c).After-groups_valid) c.in_default.ensures c.if-not-groups_valid.false tt)

-- the sums are told past question 6
summed : (number : ℕ) → past_five number ≡ true → (c : goal.After-positions_valid)
    → let a = c.args in
    Summed (users_from a.size 0 a.n a.s.now) (trades_from a.trades_at a.m a.s.now) a.m number a.m c.valid_trades.new.sums
summed number e c = let a = c.args in
    records_summed a.version (user_zeros_in a.size 0 a.n a.s.now) {ts = trades_from a.trades_at a.m a.s.now} (users (goal.at.After-positions_valid c).After-groups_valid) c.in_default.ensures c.if-not-groups_valid.false
    refl number e (length-records_of 20 trade_of a.m (drop a.trades_at a.s.now))

pub returns-then-not-positions_valid : goal.returns-then-not-positions_valid
unfolding past_five past_six
returns-then-not-positions_valid c = let a = c.args in record {
  records_asked = records_7 a.version (user_zeros_in a.size 0 a.n a.s.now) {ts = trades_from a.trades_at a.m a.s.now} (users (goal.at.returns-then-not-positions_valid c).After-groups_valid) c.in_default.ensures c.if-not-groups_valid.false
      refl (positions-answer (goal.at.returns-then-not-positions_valid c).After-positions_valid) c.if-not-positions_valid.true;
  summed = summed 7 refl (goal.at.returns-then-not-positions_valid c).After-positions_valid;
}

pub returns : goal.returns
unfolding past_five past_six
returns c = let a = c.args in record {
  records_asked = records_0 a.version (user_zeros_in a.size 0 a.n a.s.now) {ts = trades_from a.trades_at a.m a.s.now} (users (goal.at.returns c).After-groups_valid) c.in_default.ensures c.if-not-groups_valid.false
      refl (positions-answer (goal.at.returns c).After-positions_valid) c.if-not-positions_valid.false;
  summed = summed 0 refl (goal.at.returns c).After-positions_valid;
}
