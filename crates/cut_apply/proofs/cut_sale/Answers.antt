-- `cut_sale`: where something is lost the parties move and two arrays are stored to. Assumes nothing.
use Rattle.base.specs.Basics.{ap, ◌∙◌, ◌≤◌, ◌<◌, arith, length}
use Rattle.book_records.specs.Trade.{as_trade}
use Rattle.rules.specs.Book.{Trade}
use Rattle.cut_apply.proofs.Parties.{sale_cut, sale_kept, sale_parties}
use Rattle.cut_apply.proofs.cut_sale.Goals as goal
use Rattle.cut_apply.proofs.cut_sale.Goals.{Then-cut-gt0}

pub move_parties-requires : goal.move_parties-requires
unfolding as_trade
move_parties-requires c = sale_parties c.requires.sale_in (c.index-area.ensures.0 ∙ ap (λ (t : Trade). t.terms.area) c.trade_at-t.ensures)

-- where something is lost, there is room to note it
room : (c : goal.Then-cut-gt0)
    → let a = c.args in
    (length a.places.now ≤ 256) × (a.lost < length a.places.now) × (a.lost < length a.amounts.now)
room c = let p = c.requires.places_len_bound in
    (p.0, (p.1 c.if-cut-gt0.true).0, (p.1 c.if-cut-gt0.true).1)

pub returns-then-cut-gt0 : goal.returns-then-cut-gt0
unfolding as_trade
returns-then-cut-gt0 c = sale_cut c.requires.sale_in
    c.if-cut-gt0.true
    (c.index-area.ensures.0 ∙ ap (λ (t : Trade). t.terms.area) c.trade_at-t.ensures)
    c.move_parties.ensures

pub bounds-places-lost : goal.bounds-places-lost
bounds-places-lost c = (room (goal.at.bounds-places-lost c).Then-cut-gt0).1

pub offset_bounds-amounts-lost : goal.offset_bounds-amounts-lost
offset_bounds-amounts-lost c = record { fits = omega (arith, room (goal.at.offset_bounds-amounts-lost c).Then-cut-gt0) }

pub bounds-amounts-lost : goal.bounds-amounts-lost
bounds-amounts-lost c = (room (goal.at.bounds-amounts-lost c).Then-cut-gt0).2

pub overflow_add-result : goal.overflow_add-result
overflow_add-result c = record { fits = omega (arith, room (goal.at.overflow_add-result c).Then-cut-gt0) }

pub returns : goal.returns
returns c = sale_kept c.requires.sale_in c.if-cut-gt0.false
