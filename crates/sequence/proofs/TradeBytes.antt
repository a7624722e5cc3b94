-- The bytes of trades that differ in what stands only. Assumes nothing.
use Rattle.laws.proofs.Settle.{pairs_length}
use Rattle.base.specs.Basics.{◌≡◌, ◌∙◌, ap, refl, sym, List, ◌*◌, ◌+◌, ◌<◌, ◌≤◌, suc, zero, ℕ, le_of_suc-le-suc, not-suc-le-zero, arith, drop, get_or}
use Rattle.base.specs.Basics.{length, length-drop, take, drop-drop}
use Rattle.fields.proofs.Field.{all_bytes_drop, all_bytes_part}
use Rattle.fields.proofs.Records.{every_part_at, get_or-records_of}
use Rattle.fields.proofs.Sets.{length_part}
use Rattle.fields.specs.Field.{AllBytes, to_bytes}
use Rattle.fields.specs.Layout.{pack, records_of, size}
use Rattle.book_format.proofs.Passed.{Passed, length-trades_of, length-users_of}
use Rattle.book_format.proofs.Round.{header_back}
use Rattle.book_format.proofs.Offsets.{same_begin}
use Rattle.book_format.specs.Book.{book_of, header_bytes, size_of_header, header_values, count_of_trades, trades_at, trades_of, count_of_users, users_of, version_of}
use Rattle.laws.specs.Trades.{ended, then, Framed, Pairwise}
use Rattle.book_records.proofs.Trades.{trade_bytes_of}
use Rattle.book_records.specs.Trade.{trade_bytes, trade_of, trade_values, trade_widths, trade_zeros}
use Rattle.rules.specs.Book.{Book, Header, Terms, Trade, at, no_trade}
use Rattle.sequence.specs.Claim.{TradeBytes, trade_bytes_at}

-- all but the last field of a trade's bytes are those of its terms
terms_bytes : (t n : Trade) → n.terms ≡ t.terms → take 16 (trade_bytes n) ≡ take 16 (trade_bytes t)
unfolding trade_bytes trade_widths trade_values pack to_bytes
terms_bytes t n e = ap (λ (r : Terms). take 16 (trade_bytes (record { terms = r; standing = n.standing }))) e ∙ refl

same_trade : (t n : Trade) → n.terms ≡ t.terms → n.standing ≡ t.standing → n ≡ t
same_trade t n e f = λ i. record { terms = e i; standing = f i }

-- the trade at a place, of two lists that are framed
pairs_at : {ts ns : List Trade} → Pairwise Framed ts ns → (i : ℕ) (d : Trade) → i < length ts → Framed (get_or ts i d) (get_or ns i d)
pairs_at ended i d h = absurd (not-suc-le-zero h)
pairs_at (then p ps) zero d h = p
pairs_at (then p ps) (suc i) d h = pairs_at ps i d (le_of_suc-le-suc h)

-- ---- books in bytes

module _ (s : List ℕ) (b : AllBytes s) (p : Passed s) where
  -- the bytes of the trade at a place are those of the trade that they hold
  trade_at : (i : ℕ) → i < count_of_trades s → trade_bytes_at s i ≡ trade_bytes (get_or (trades_of s) i no_trade)
  unfolding trade_bytes_at trades_of
  trade_at i h =
      let a = trades_at s in
      let c = take 20 (drop (20 * i) (drop a s)) in
      let e : c ≡ take 20 (drop (a + 20 * i) s) = ap (take 20) (drop-drop (20 * i) a s) in
      let g : get_or (records_of 20 trade_of (count_of_trades s) (drop a s)) i no_trade ≡ trade_of c = get_or-records_of 20 trade_of (count_of_trades s) i (drop a s) no_trade h in
      sym e ∙ sym (ap trade_bytes g ∙ trade_bytes_of c (length_part (drop a s) (20 * i) 20 (fits i h)) (all_bytes_part (20 * i) 20 (drop a s) (all_bytes_drop a s b)) (zeros_at i h))
    where
      fits : (i : ℕ) → i < count_of_trades s → 20 * i + 20 ≤ length (drop (trades_at s) s)
      fits i h = rw length-drop (omega (arith, p.form.whole))

      zeros_at : (i : ℕ) → i < count_of_trades s → trade_zeros (take 20 (drop (20 * i) (drop (trades_at s) s))) ≡ 0
      zeros_at i h = every_part_at (λ c. trade_zeros c ≡ 0) 20 (count_of_trades s) (drop (trades_at s) s) i p.trade_zeros_lem h

-- the trade that the bytes at a place hold
held : (s : List ℕ) → AllBytes s → Passed s → (i : ℕ) → i < count_of_trades s → trade_of (trade_bytes_at s i) ≡ get_or (trades_of s) i no_trade
unfolding trade_bytes_at trades_of
held s b p i h =
    sym (get_or-records_of 20 trade_of (count_of_trades s) i (drop (trades_at s) s) no_trade h ∙ ap (λ (l : List ℕ). trade_of (take 20 l)) (drop-drop (20 * i) (trades_at s) s))

same_start : (b n : Book) → b.header ≡ n.header → length b.users ≡ length n.users → length b.trades ≡ length n.trades → header_bytes b ≡ header_bytes n
unfolding header_bytes header_values
same_start b n e u m = rw (e, u, m)

-- the header's bytes are those of its fields and of the counts
header_bytes_lem : (s t : List ℕ) → AllBytes s → Passed s → AllBytes t → Passed t
    → (book_of t).header ≡ (book_of s).header → length (users_of t) ≡ length (users_of s) → length (trades_of t) ≡ length (trades_of s) → take (size_of_header (version_of s)) t ≡ take (size_of_header (version_of s)) s
unfolding book_of
header_bytes_lem s t b p c q e u m =
    ap (λ (h : Header). take (size_of_header h.version) t) (sym e) ∙ sym (header_back t c q.form) ∙ same_start (book_of t) (book_of s) e u m ∙ header_back s b p.form

same_version : (s t : List ℕ) → (book_of t).header ≡ (book_of s).header → version_of t ≡ version_of s
unfolding book_of
same_version s t e = ap (λ (h : Header). h.version) e

-- two books in bytes of which only what stands of trades differs, of kind 0 and day 0, and users in any way
pub trade_bytes_lem : (s t : List ℕ) → AllBytes s → Passed s → AllBytes t → Passed t
    → (book_of t).header ≡ (book_of s).header → length (users_of t) ≡ length (users_of s) → Pairwise Framed (trades_of s) (trades_of t) → TradeBytes s t
trade_bytes_lem s t b p c q e u f =
    let n : count_of_users t ≡ count_of_users s = sym (length-users_of t) ∙ u ∙ length-users_of s in
    let m : count_of_trades t ≡ count_of_trades s = sym (length-trades_of t) ∙ pairs_length f ∙ length-trades_of s in
    record {
      size = omega (arith, p.form.whole, q.form.whole, same_begin t s (same_version s t e) n);
      header = header_bytes_lem s t b p c q e u (pairs_length f);
      terms = λ i h.
          rw (trade_at t c q i (omega arith), trade_at s b p i h)
          (terms_bytes (get_or (trades_of s) i no_trade) (get_or (trades_of t) i no_trade) (pairs_at f i no_trade (rw (length-trades_of s) h)).terms);
      others = λ i h k.
          let x = get_or (trades_of s) i no_trade in
          let y = get_or (trades_of t) i no_trade in
          let r : Framed x y = pairs_at f i no_trade (rw (length-trades_of s) h) in
          rw (trade_at t c q i (omega arith), trade_at s b p i h)
          (ap trade_bytes (same_trade x y r.terms (r.other (rw (held s b p i h) at k))));
    }
