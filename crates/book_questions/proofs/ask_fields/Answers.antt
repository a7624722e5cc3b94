-- `ask_fields` asks question 4, and then those of the users and trades. Assumes nothing.
use Rattle.base.specs.Basics.{◌≡◌, ap, ◌∙◌, ◌≤◌, arith}
use Rattle.book_format.proofs.Offsets.{users_end}
use Rattle.book_format.proofs.Places.{header_lies}
use Rattle.book_format.specs.Book.{size_of_user, version_of}
use Rattle.book_questions.specs.Asked.{past_five, past_six, RecordsIn}
use Rattle.book_questions.proofs.Asked.{formed_bytes, fields_4, fields_rest, fields_summed, records_from, records_within, summed_from, summed_none}
use Rattle.book_questions.proofs.ask_fields.Goals as goal
use Rattle.book_questions.proofs.ask_fields.Goals.{After-trades_offset-trades_at, After-user_size-size}

pub returns-then-not-header_valid : goal.returns-then-not-header_valid
unfolding past_five past_six
returns-then-not-header_valid c =
    rw c.from.ensures
    (record { fields_placed = fields_4 c.args.s.now c.version-version.ensures c.get_u32.ensures c.read_prices-prices.ensures c.header_valid.ensures c.if-not-header_valid.true; summed = summed_none 4 (λ p. p) })

-- the size of a record, of the version that was read
sized : (c : goal.After-user_size-size) → c.user_size-size.result ≡ size_of_user (version_of c.args.s.now)
sized c = c.user_size-size.ensures.value ∙ ap size_of_user c.version-version.ensures

-- where the records stand
placed : (c : goal.After-trades_offset-trades_at) → RecordsIn c.user_size-size.result c.users_offset-users_at.result c.user_count-n.result c.trades_offset-trades_at.result c.trade_count-m.result c.args.s.now
placed c = formed_bytes c.requires.0 c.user_count-n.ensures c.trade_count-m.ensures c.users_offset-users_at.ensures.value (sized (goal.at.After-trades_offset-trades_at c).After-user_size-size) c.trades_offset-trades_at.ensures

-- the users lie in the bytes, and the trades behind them
behind : (c : goal.After-trades_offset-trades_at) → c.users_offset-users_at.result ≤ c.trades_offset-trades_at.result
behind c = omega (arith, users_end _ c.users_offset-users_at.ensures.value (sized (goal.at.After-trades_offset-trades_at c).After-user_size-size) c.user_count-n.ensures, c.trades_offset-trades_at.ensures)

pub slice_bounds-ask_records-count : goal.slice_bounds-ask_records-count
slice_bounds-ask_records-count c = omega (arith, (placed c).users)

pub ask_records-requires : goal.ask_records-requires
ask_records-requires c = record {
  records_in = (
    records_within _ _ _ (behind (goal.at.ask_records-requires c).After-trades_offset-trades_at)
        (placed (goal.at.ask_records-requires c).After-trades_offset-trades_at),
    c.user_size-size.ensures.value,
  );
  sellers_len = (c.requires.1, c.requires.2, c.requires.3);
}

pub returns : goal.returns
returns c = let begin = c.users_offset-users_at.ensures.value in
    let end = c.trades_offset-trades_at.ensures in
    record {
      fields_placed = fields_rest c.args.s.now c.version-version.ensures c.get_u32.ensures c.read_prices-prices.ensures c.header_valid.ensures c.if-not-header_valid.false
          c.user_count-n.ensures c.trade_count-m.ensures begin (sized (goal.at.returns c).After-user_size-size) end (records_from _ _ _ (behind (goal.at.returns c).After-trades_offset-trades_at) _ _ _ _ c.ask_records.ensures.records_asked);
      summed = (fields_summed c.args.s.now c.user_count-n.ensures c.trade_count-m.ensures begin (sized (goal.at.returns c).After-user_size-size) end (summed_from _ _ _ (behind (goal.at.returns c).After-trades_offset-trades_at) _ _ _ c.ask_records.ensures.summed));
    }

pub read_prices-prices-requires : goal.read_prices-prices-requires
read_prices-prices-requires c = header_lies c.requires.0

pub overflow_sub-trades_at : goal.overflow_sub-trades_at
overflow_sub-trades_at c = behind (goal.at.overflow_sub-trades_at c).After-trades_offset-trades_at

pub slice_bounds-ask_records-start : goal.slice_bounds-ask_records-start
slice_bounds-ask_records-start c = omega (arith, (placed (goal.at.slice_bounds-ask_records-start c).After-trades_offset-trades_at).users)
