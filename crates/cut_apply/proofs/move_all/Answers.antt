-- `move_all`: the positions of the parties of the sales passed are moved. Assumes nothing.
use Rattle.base.specs.Basics.{refl, ◌∙◌}
use Rattle.cut_apply.proofs.Loop.{loop_bytes, loop_end, loop_more, loop_room, loop_sale, loop_start}
use Rattle.cut_apply.proofs.move_all.Goals as goal

pub loop-k-init : goal.loop-k-init
loop-k-init c = loop_start c.requires.cutting.0.book c.requires.cutting.0.cuttable c.requires.cutting.0.count (c.requires.cutting.1 ∙ c.requires.cutting.0.count)

pub cut_sale-lost-requires : goal.cut_sale-lost-requires
cut_sale-lost-requires c = let p = c.requires.cutting.0 in
    let at = c.index-place.ensures.0 in
    let sells = c.index-seller.ensures.0 in
    let buys = c.index-buyer.ensures.0 in
    let q = c.loop-k.invariant in
    record { sale_in = loop_sale p.book p.cuttable q c.loop-k-test.true at sells buys refl c.requires.at_value; places_len_bound = loop_room p.book p.cuttable q c.loop-k-test.true at sells buys refl }

pub loop-k-preserved : goal.loop-k-preserved
loop-k-preserved c = let p = c.requires.cutting.0 in
    loop_more p.book p.cuttable c.loop-k.invariant c.loop-k-test.true
    c.index-place.ensures.0
    c.index-seller.ensures.0
    c.index-buyer.ensures.0 refl c.cut_sale-lost.ensures

pub shape_of-book : goal.shape_of-book
shape_of-book c = let p = c.requires.cutting.0 in
    loop_bytes p.book p.cuttable c.loop-k.invariant

pub returns : goal.returns
returns c = let p = c.requires.cutting.0 in
    loop_end p.book p.cuttable c.loop-k.invariant c.loop-k-test.false
