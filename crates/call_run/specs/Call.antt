-- The call of the rules that the function `run` is. Assumes nothing.
use Rattle.rules.specs.Calls.{Call, run}

-- the call that the function `run` is
abbrev pub run_call : Call
run_call = run
