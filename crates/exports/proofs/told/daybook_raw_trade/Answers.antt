-- `daybook_raw_trade` copies the part to the front of 20 zeros and stores its length where both lent parts are of their length, and leaves them as they are where one is not. Assumes nothing.
use Rattle.base.specs.Basics.{◌∙◌, ap, ap₂, List, [], ◌∷◌, ℕ, length, replicate}
use Rattle.book_image.specs.Image.{padded}
use Rattle.exports_answers.specs.Numbers.{trade_numbers}
use Rattle.exports.specs.Answers.{is_yes}
use Rattle.exports.proofs.Lent.{first_refused, second_refused, stored_both}
use Rattle.exports.proofs.Shown.{one_stored, trade_length}
use Rattle.exports.proofs.told.daybook_raw_trade.Goals as goal

pub returns-then-trade-ne-TRADE_SIZE : goal.returns-then-trade-ne-TRADE_SIZE
returns-then-trade-ne-TRADE_SIZE c = let a = c.args in
    first_refused 20 1 a.trade.now a.answer.now _ _ _ c.if-trade-ne-TRADE_SIZE.true

pub returns-then-answer-ne-TRADE_NUMBERS : goal.returns-then-answer-ne-TRADE_NUMBERS
returns-then-answer-ne-TRADE_NUMBERS c = let a = c.args in
    second_refused 20 1 a.trade.now a.answer.now _ _ _ c.if-trade-ne-TRADE_SIZE.false c.if-answer-ne-TRADE_NUMBERS.true

pub fill-requires : goal.fill-requires
unfolding is_yes
fill-requires c = let handed = (rw (c.from.ensures, c.lent_store-store.ensures, c.in-Ok-Some.is, c.in-Ok-Some.field-0-is) at c.trade.ensures.handed) in
    rw (handed.shows, c.if-trade-ne-TRADE_SIZE.false) (trade_length _ _ _ _ _)

pub returns-in-Ok-Some : goal.returns-in-Ok-Some
unfolding is_yes trade_numbers
returns-in-Ok-Some c = let handed = (rw (c.from.ensures, c.lent_store-store.ensures, c.in-Ok-Some.is, c.in-Ok-Some.field-0-is) at c.trade.ensures.handed) in
    stored_both 20 1 _ _ _ _ _ _ _ _ c.if-trade-ne-TRADE_SIZE.false c.if-answer-ne-TRADE_NUMBERS.false handed.asked (c.fill.ensures ∙ ap₂ padded c.if-trade-ne-TRADE_SIZE.false handed.shows)
    (one_stored c.args.answer.now _ c.if-answer-ne-TRADE_NUMBERS.false ∙ ap (λ (p : List ℕ). length p ∷ []) handed.shows)

pub returns-in-Ok-None : goal.returns-in-Ok-None
unfolding is_yes trade_numbers
returns-in-Ok-None c = let handed = (rw (c.from.ensures, c.lent_store-store.ensures, c.in-Ok-None.is, c.in-Ok-None.field-0-is) at c.trade.ensures.handed) in
    stored_both 20 1 _ _ _ _ _ _ _ _ c.if-trade-ne-TRADE_SIZE.false c.if-answer-ne-TRADE_NUMBERS.false handed.asked (c.fill-in-Ok-None.ensures ∙ ap₂ padded c.if-trade-ne-TRADE_SIZE.false handed.shows)
    (one_stored c.args.answer.now _ c.if-answer-ne-TRADE_NUMBERS.false ∙ ap (λ (p : List ℕ). length p ∷ []) handed.shows)

pub returns-in-Err : goal.returns-in-Err
unfolding is_yes trade_numbers
returns-in-Err c = let handed = (rw (c.from.ensures, c.lent_store-store.ensures, c.in-Err.is) at c.trade.ensures.handed) in
    stored_both 20 1 _ _ _ _ _ _ _ _ c.if-trade-ne-TRADE_SIZE.false c.if-answer-ne-TRADE_NUMBERS.false (c.store_refusal.ensures.number ∙ handed.asked)
    (c.fill-in-Err.ensures ∙ ap₂ padded c.if-trade-ne-TRADE_SIZE.false handed.shows)
    (c.store_refusal.ensures.numbers ∙ ap (λ (n : ℕ). replicate n 0) c.if-answer-ne-TRADE_NUMBERS.false ∙ ap (λ (p : List ℕ). length p ∷ []) handed.shows)
