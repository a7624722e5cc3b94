-- `fill_users` writes the records, and clears the room behind them. Assumes nothing.
use Rattle.base.specs.Basics.{drop}
use Rattle.book_image.specs.Fitted.{refitted}
use Rattle.book_image.proofs.Copied.{users_filled}
use Rattle.book_image.proofs.Fitted.{length-refitted}
use Rattle.book_image.proofs.fill_users.Goals as goal

pub returns : goal.returns
returns c = let a = c.args in
    let d = drop a.from a.s.now in
    users_filled a.image.now (refitted 68 a.size a.n d) a.n c.requires.2 c.requires.0 (length-refitted 68 a.size a.n d) c.fit_records.ensures (c.fill.ensures.after (λ y e. e))
