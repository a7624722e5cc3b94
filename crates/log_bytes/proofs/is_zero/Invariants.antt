use Rattle.base.specs.Basics.{drop}
use Rattle.log_bytes.proofs.Walks.{Answering}
use Rattle.log_format.specs.Fits.{zeros}
use Rattle.log_bytes.proofs.is_zero.Given as goal

abbrev pub invariant-loop-byte : goal.invariant-loop-byte
invariant-loop-byte l = Answering l.so_far (zeros (drop l.byte-index l.s)) (zeros l.s)
