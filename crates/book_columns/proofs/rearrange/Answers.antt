-- `rearrange` writes header, users and trades one after the other. Assumes nothing.
use Rattle.base.specs.Basics.{◌≡◌, ap, ◌∙◌, ℕ, ◌+◌, ◌*◌, arith, length, rules}
use Rattle.book_format.specs.Book.{trade_size, size_of_user}
use Rattle.book_columns.proofs.Written.{all_written, parts_long}
use Rattle.book_columns.proofs.rearrange.Goals as goal
use Rattle.book_columns.proofs.rearrange.Goals.{After-header_size-users, After-user_size}

-- where the parts begin and end
lies : (c : goal.After-header_size-users)
    → let v = c.version-version.result in
    c.header_size-users.result + size_of_user v * c.user_count-n.result + trade_size v * c.trade_count-m.result ≡ length c.args.s.now
lies c = parts_long c.requires.0 c.version-version.ensures c.user_count-n.ensures c.trade_count-m.ensures c.header_size-users.ensures.value

-- the users by the size of their records
users-long : (c : goal.After-user_size)
    → c.user_size.result * c.user_count-n.result ≡ size_of_user c.version-version.result * c.user_count-n.result
users-long c = ap (λ (k : ℕ). k * c.user_count-n.result) c.user_size.ensures.value

pub overflow_mul-trades : goal.overflow_mul-trades
overflow_mul-trades c = omega (arith, lies (goal.at.overflow_mul-trades c).After-header_size-users, users-long c)

pub overflow_add-trades : goal.overflow_add-trades
overflow_add-trades c = omega (arith, lies (goal.at.overflow_add-trades c).After-header_size-users, users-long c)

pub copy_header-requires : goal.copy_header-requires
copy_header-requires c = (omega (arith, c.header_size-users.ensures.lower_bound), omega (arith, lies (goal.at.copy_header-requires c).After-header_size-users), omega (arith, lies (goal.at.copy_header-requires c).After-header_size-users, c.requires.1))

pub arrange_users-requires : goal.arrange_users-requires
arrange_users-requires c = let whole = lies (goal.at.arrange_users-requires c).After-header_size-users in
    let same = c.requires.1 in
    (omega arith, search rules)

pub arrange_trades-requires : goal.arrange_trades-requires
arrange_trades-requires c = let whole = lies (goal.at.arrange_trades-requires c).After-header_size-users in
    let same = c.requires.1 in
    let users = users-long (goal.at.arrange_trades-requires c).After-user_size in
    (omega arith, search rules)

pub returns : goal.returns
returns c = let a = c.args in
    let v = c.version-version.result in
    let n = c.user_count-n.result in
    c.arrange_trades.ensures
    ∙ rw (c.arrange_users.ensures, c.copy_header.ensures)
    (all_written a.out.now c.requires.0 c.requires.1 a.back a.mark c.version-version.ensures c.user_count-n.ensures c.trade_count-m.ensures c.header_size-users.ensures.value
    (ap (λ (k : ℕ). c.header_size-users.result + k * n) c.user_size.ensures.value))
