-- `eligible_at`: the trade is read where its seller is at the place and its buyer is not. Assumes nothing.
use Rattle.base.specs.Basics.{◌∙◌, ap, sym, Bool, ◌&&◌, ltb, eq-eqb, ne_eqb}
use Rattle.book_records.specs.Trade.{as_trade}
use Rattle.rules.specs.Book.{Trade, bilateral_for_day}
use Rattle.call_cancellation.proofs.eligible_at.Goals as goal

pub returns-then-index-place : goal.returns-then-index-place
returns-then-index-place c = let a = c.args in
    rw (ne_eqb a.seller a.place (λ e. c.if-index-place.true (c.index.ensures.0 ∙ e)))

pub returns-then-index-place-2 : goal.returns-then-index-place-2
returns-then-index-place-2 c = let a = c.args in
    rw (eq-eqb a.seller a.place (sym c.index.ensures.0 ∙ c.if-index-place.false), eq-eqb a.buyer a.place (sym c.index-2.ensures.0 ∙ c.if-index-place-2.true))

pub returns : goal.returns
unfolding as_trade
returns c = let a = c.args in
    rw (eq-eqb a.seller a.place (sym c.index.ensures.0 ∙ c.if-index-place.false), ne_eqb a.buyer a.place (λ e. c.if-index-place-2.false (c.index-2.ensures.0 ∙ e)))
    (ap (λ (x : Bool). x && ltb 0 c.trade_at-t.result.standing.0) c.is_bilateral_for_day.ensures
    ∙ ap (λ (x : Trade). bilateral_for_day x && ltb 0 x.standing) c.trade_at-t.ensures)
