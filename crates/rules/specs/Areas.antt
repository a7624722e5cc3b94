-- Document 01, "Units and areas". Energy is whole MWh, money whole euro cents, a price cents per MWh: all naturals here; signed amounts are integers.
-- Areas: 0 PVB (pipeline hub), 1 TVB (LNG tank), 2 AVB (underground store).
use Rattle.std.specs.Prelude.{◌||◌, ◌∷◌, ◌+◌}
use Rattle.base.specs.Basics.{Bool, cond, List, [], ℕ, eqb}

-- P is the daily buying imbalance tariff of PVB, Q that of TVB and AVB; L, X, I are the tolls for liquefaction, PVB exit and injection.
-- S and U are, by document 02's ask 3, "the daily selling tariffs, S for PVB and U for the other two areas"; both 0 in a version that has none.
pub record Prices : Type 0 where
  pub p : ℕ
  pub q : ℕ
  pub l : ℕ
  pub x : ℕ
  pub i : ℕ
  pub s : ℕ
  pub u : ℕ

-- the versions of the book that have selling tariffs: "Version 2 of the book has a 40-byte header: after I come the daily selling tariffs"; "Version 3 reads as version 2, credit included"
unfoldable pub selling_in : ℕ → Bool
selling_in version = eqb version 2 || eqb version 3

-- the versions that have managers: "Version 3 .. ends each user record with three 32-bit manager ids"
unfoldable pub managers_in : ℕ → Bool
managers_in version = eqb version 3

-- each area
unfoldable pub areas : List ℕ
areas = 0 ∷ (1 ∷ (2 ∷ []))

-- The tariff t of an area: P; Q; Q.
unfoldable pub tariff : Prices → ℕ → ℕ
tariff f area = cond (eqb area 0) f.p f.q

-- The reference price w of an area: P; Q + L; Q + X + I.
unfoldable pub reference_price_of : Prices → ℕ → ℕ
reference_price_of f area = cond (eqb area 0) f.p (cond (eqb area 1) (f.q + f.l) (f.q + f.x + f.i))

-- The selling tariff of an area: S; U; U.
unfoldable pub selling_tariff_of : Prices → ℕ → ℕ
selling_tariff_of f area = cond (eqb area 0) f.s f.u
