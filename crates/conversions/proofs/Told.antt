-- What is told of a converted book to who asks for a user: flag, count and trades are those of the book before. A trade's 20 bytes are the same in every version. Assumes nothing.
use Rattle.base.specs.Basics.{[], ◌∙◌, ◌∷◌, ◌≡◌, List, ℕ, ap, ap₂, arith, drop, false, get_or, length, length-drop, map, refl, suc, sym, zero}
use Rattle.fields.proofs.{Field.all_bytes_drop, Records.every_part_map}
use Rattle.fields.specs.{Field.AllBytes, Layout.EveryPart, Layout.records_of}
use Rattle.rules.specs.Book.{Book, Trade, User, find}
use Rattle.rules.specs.Calls.{id_known, is_shipper}
use Rattle.rules.specs.Levels.{Limits, flagged, holding}
use Rattle.rules.specs.Bearers.{borne}
use Rattle.rules.specs.Questions.{after, first_of, refusal}
use Rattle.laws_sales.specs.Kept.{kept}
use Rattle.views.specs.Views.{sees_trade, trades_seen}
use Rattle.book_records.proofs.Trades.{trade_bytes_of}
use Rattle.book_records.specs.Trade.{trade_bytes, trade_zeros}
use Rattle.book_records.specs.Trade as trade
use Rattle.book_format.proofs.Passed.{Passed, passed}
use Rattle.book_format.specs.Book.{book_of, count_of_trades, trades_at, trades_of, users_of}
use Rattle.book_format.specs.Questions.{parts_of}
use Rattle.store.specs.Store.{store_number}
use Rattle.requests.specs.Request.{Setting, limits_on, opening, opening_in}
use Rattle.rights.specs.Seen.{trades_shown}
use Rattle.rights.specs.Trades.{Asking, Told, about_user, count_of, flag_of, id_of, tells, told_after, told_in, told_number, trade_of}
use Rattle.conversions.specs.Conversion.{as_version, converted}
use Rattle.conversions.specs.Statements.{Convertible}
use Rattle.conversions.proofs.Conversions.{book_there, conversions}

-- the parts of trades are the bytes of the trades that they hold
parts_held : (n : ℕ) (s : List ℕ) → EveryPart (λ c. trade_bytes (trade.trade_of c) ≡ c) 20 n s → parts_of 20 n s ≡ map trade_bytes (records_of 20 trade.trade_of n s)
unfolding parts_of records_of
parts_held zero s h = refl
parts_held (suc n) s h = ap₂ (λ (c : List ℕ) (cs : List (List ℕ)). c ∷ cs) (sym h.0) (parts_held n (drop 20 s) h.1)

-- what a user is shown of the trades that a list holds
shown : ℕ → List User → List Trade → List (List ℕ)
shown id us ts = kept (λ c. sees_trade us id (trade.trade_of c)) (map trade_bytes ts)

trades_held : (id : ℕ) (s : List ℕ) → AllBytes s → Passed s → trades_shown id s ≡ shown id (book_of s).users (book_of s).trades
unfolding trades_shown shown trades_of book_of
trades_held id s b p =
    let from = drop (trades_at s) s in
    ap (kept (λ c. sees_trade (users_of s) id (trade.trade_of c)))
    (parts_held (count_of_trades s) from
    (every_part_map (λ c. trade_zeros c ≡ 0) (λ c. trade_bytes (trade.trade_of c) ≡ c) 20 (count_of_trades s) from trade_bytes_of (rw length-drop (omega (arith, p.form.whole)))
    (all_bytes_drop (trades_at s) s b) p.trade_zeros_lem))

-- what is told, by the book that the bytes hold
tells_on : Limits → Asking → Book → Told
tells_on limits (flag_of id) x = record { number = 0; flagged = flagged limits x (find x.users id); count = 0; part = [] }
tells_on limits (count_of id) x = record { number = 0; flagged = false; count = length (trades_seen x id); part = [] }
tells_on limits (trade_of id ordinal) x = record { number = 0; flagged = false; count = 0; part = get_or (shown id x.users x.trades) ordinal [] }

told_on : ℕ → Setting → Asking → Book → Told
told_on n g a x = after (first_of n (store_number g.store x.header.date)) told_number (after (refusal (about_user x (id_of a))) told_number (tells_on (limits_on g x) a x))

tells_held : (limits : Limits) (a : Asking) (s : List ℕ) → AllBytes s → Passed s → tells limits s a ≡ tells_on limits a (book_of s)
unfolding tells tells_on
tells_held limits (flag_of id) s b p = refl
tells_held limits (count_of id) s b p = refl
tells_held limits (trade_of id ordinal) s b p = ap (λ (cs : List (List ℕ)). record { number = 0; flagged = false; count = 0; part = get_or cs ordinal [] }) (trades_held id s b p)

told_held : (n : ℕ) (g : Setting) (a : Asking) (s : List ℕ) → AllBytes s → Passed s → told_in n g s a ≡ told_on n g a (book_of s)
unfolding told_in told_after told_on opening_in
told_held n g a s b p =
    ap (λ (r : Told). after (opening n g s) told_number (after (refusal (about_user (book_of s) (id_of a))) told_number r)) (tells_held (limits_on g (book_of s)) a s b p)

-- no rule that is asked here looks at the version
told_as : (n : ℕ) (g : Setting) (a : Asking) (v : ℕ) (b : Book) → told_on n g a (as_version v b) ≡ told_on n g a b
unfolding told_on tells_on about_user id_known is_shipper limits_on trades_seen flagged holding borne as_version
told_as n g (flag_of id) v b = refl
told_as n g (count_of id) v b = refl
told_as n g (trade_of id ordinal) v b = refl

pub told_alike : {v : ℕ} {s : List ℕ} (c : Convertible v s) (n : ℕ) (g : Setting) (a : Asking) → told_in n g (converted v s) a ≡ told_in n g s a
told_alike {v} {s} c n g a =
    let there = (conversions.round v s c).there in
    told_held n g a (converted v s) there.bytes (passed (converted v s) there.accepted)
    ∙ ap (told_on n g a) (book_there c) ∙ told_as n g a v (book_of s) ∙ sym (told_held n g a s c.bytes (passed s c.accepted))
