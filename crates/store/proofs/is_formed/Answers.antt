-- `is_formed` looks at mark, version and count only where there are bytes for them, in the order of the definition. Assumes nothing.
use Rattle.base.specs.Basics.{lt-leb, le-leb}
use Rattle.store.specs.Store.{set_count, store_mark, store_formed}
use Rattle.store.proofs.is_formed.Goals as goal

pub returns-then-s-lt6 : goal.returns-then-s-lt6
unfolding store_formed
returns-then-s-lt6 c = simp (lt-leb _ _ c.if-s-lt6.true)

pub returns : goal.returns
unfolding store_formed store_mark set_count
returns c = rw (
  c.get_u8-n.ensures,
  c.get_u16-version.ensures,
  c.get-mark.ensures.0,
  le-leb _ _ c.if-s-lt6.false,
)
