-- What an accepted book in bytes tells: where its trades stand, the range of the prices, and of the blocked guarantee of the user at a place. Assumes nothing.
use Rattle.base.specs.Basics.{◌≡◌, List, ℕ, ◌<◌, ◌≤◌, arith, drop, get_or}
use Rattle.rules.specs.Book.{Book, nobody}
use Rattle.rules.specs.Questions.{user_is_valid}
use Rattle.laws.proofs.Bounds.{blocked-le, prices-le, selling_le, selling_most_lem, tariffs_pos}
use Rattle.laws.specs.Sound.{Sound}
use Rattle.units.specs.Prices.{InRange}
use Rattle.fields.specs.Layout.{records_of}
use Rattle.book_records.specs.Trade.{trade_of}
use Rattle.base.proofs.Fronts.{all_at}
use Rattle.book_format.proofs.Passed.{length-users_of, passed}
use Rattle.book_format.specs.Book.{book_of, count_of_trades, trades_at, trades_of, count_of_users, users_of}
use Rattle.book_format.specs.Questions.{book_number}

module _ (s : List ℕ) where
  -- the trades, from where they begin
  pub trades_there : {at m : ℕ} → at ≡ trades_at s → m ≡ count_of_trades s → records_of 20 trade_of m (drop at s) ≡ (book_of s).trades
  unfolding book_of trades_of
  trades_there e k = rw (e, k)

pub prices_in : (b : Book) → Sound b → InRange b.header.prices
prices_in b s =
    let l = prices-le b s in
    let g = tariffs_pos b s in
    let m = selling_le b s in
    let most = selling_most_lem b.header.version in
    record {
      p_least = g.0;
      p_most = l.0;
      q_least = g.1;
      q_most = l.1;
      l_most = l.2;
      x_most = l.3;
      i_most = l.4;
      s_most = omega (arith, m.0, most);
      u_most = omega (arith, m.1, most);
    }

module _ (s : List ℕ) (h : book_number s ≡ 0) where
  pub prices_within : InRange (book_of s).header.prices
  prices_within = prices_in (book_of s) (passed s h).sound

  pub blocked_within : {place : ℕ} → place < count_of_users s → (get_or (users_of s) place nobody).blocked ≤ 1000000000000
  unfolding book_of
  blocked_within {place} k =
      blocked-le (get_or (users_of s) place nobody) (all_at user_is_valid (users_of s) (passed s h).sound.users place nobody (rw (length-users_of s) k))
