-- `put_head` sets the four fields one after the other. Assumes nothing.
use Rattle.base.specs.Basics.{ap, ◌∙◌}
use Rattle.fields.specs.Field.{set_field}
use Rattle.log_entries.proofs.Parts.{head_put}
use Rattle.log_entries.proofs.put_head.Goals as goal

pub returns : goal.returns
returns c = c.put_u32-2.ensures ∙ ap (set_field 4 8 c.args.held) (c.put_u32.ensures
    ∙ ap (set_field 4 4 c.args.count) (c.put_u8.ensures
    ∙ ap (set_field 1 3 0) c.put.ensures)) ∙ head_put c.args.head.now c.args.count c.args.held c.requires
