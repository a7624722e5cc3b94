-- Tests of the trades of the user of an id. Assumes nothing.
use Rattle.std.specs.Prelude.{◌&&◌, ◌||◌}
use Rattle.base.specs.Basics.{Bool, List, ℕ, eqb, ltb}
use Rattle.base.specs.Lists.{any}
use Rattle.rules.specs.Book.{Trade}

-- the user is party to the trade, and less stands than was notified
unfoldable pub is_cut : ℕ → Trade → Bool
is_cut id t = (eqb t.terms.seller id || eqb t.terms.buyer id) && ltb t.standing t.terms.notified

-- the user is party to a trade standing below notified
unfoldable pub cut_before : ℕ → List Trade → Bool
cut_before id ts = any (is_cut id) ts
