-- `state_number`: each state has its number. Assumes nothing.
use Rattle.base.specs.Basics.{rules}
use Rattle.exports_users.specs.Numbers.{number_of_state}
use Rattle.exports_users.proofs.state_number.Goals as goal

pub returns-in-Clear : goal.returns-in-Clear
unfolding number_of_state
returns-in-Clear c = search rules

pub returns-in-Short : goal.returns-in-Short
unfolding number_of_state
returns-in-Short c = search rules

pub returns-in-Call : goal.returns-in-Call
unfolding number_of_state
returns-in-Call c = search rules

pub returns-in-Quiet : goal.returns-in-Quiet
unfolding number_of_state
returns-in-Quiet c = search rules
