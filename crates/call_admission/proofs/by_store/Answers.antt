-- `by_store` asks the store on the book's date. Assumes nothing.
use Rattle.base.specs.Basics.{arith}
use Rattle.book_format.proofs.Passed.{passed}
use Rattle.call_admission.proofs.Asked.{admitted_by_store}
use Rattle.call_admission.proofs.by_store.Goals as goal

pub get_u32-date-requires : goal.get_u32-date-requires
get_u32-date-requires c = omega (arith, (passed c.args.book.now c.requires).form.head)

pub returns-clause-admitted : goal.returns-clause-admitted
returns-clause-admitted c = admitted_by_store _ _ c.get_u32-date.ensures c.figures_on.ensures
