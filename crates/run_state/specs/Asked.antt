-- What a reduction of a run touches: who is asked anew, and the positions that it moves. Assumes nothing.
use Rattle.std.specs.Prelude.{◌≡◌, ◌&&◌, ◌||◌, ◌∷◌, ◌+◌, ◌*◌, ◌-◌, ◌<◌}
use Rattle.base.specs.Basics.{Bool, false, cond, List, [], ℕ, eqb, ltb, length, get_or, set}
use Rattle.rules.specs.Book.{User, Book, nobody}

-- the user at a place of a book
abbrev pub member_at : Book → ℕ → User
member_at b i = get_or b.users i nobody

-- ---- what a reduction touches

-- the user at a place is the buyer of a sale that lost something: of each sale the place of the buyer and the cut
unfoldable pub touched : ℕ → List ℕ → List ℕ → Bool
touched i [] cs = false
touched i (b ∷ bs) [] = false
touched i (b ∷ bs) (c ∷ cs) = (eqb b i && ltb 0 c) || touched i bs cs

-- targets after each buyer of a sale that lost something is asked anew where it has an eligible trade; none of those before `least` is changed
pub record LookedAgain (now : ℕ → ℕ) (es : List Bool) (bs cs ts₀ ts : List ℕ) (least : ℕ) : Type 0 where
  pub room : length ts ≡ 64
  pub each : (j : ℕ) → j < 64 → get_or ts j 0 ≡ cond (touched j bs cs && get_or es j false) (now j) (get_or ts₀ j 0)
  pub before : (j : ℕ) → j < least → get_or ts j 0 ≡ get_or ts₀ j 0

-- positions after a cut in an area: the seller's rises and the buyer's falls
unfoldable pub moved_one : ℕ → ℕ → ℕ → ℕ → List ℕ → List ℕ
moved_one place buyer area c ps =
    let risen = set ps (3 * place + area) (get_or ps (3 * place + area) 0 + c) in
    set risen (3 * buyer + area) (get_or risen (3 * buyer + area) 0 - c)

-- after the cuts of a seller's sales, one after the other: of each the place of the buyer, the area and the cut
unfoldable pub moved_all : ℕ → List ℕ → List ℕ → List ℕ → List ℕ → List ℕ
moved_all place [] areas cs ps = ps
moved_all place (b ∷ bs) [] cs ps = ps
moved_all place (b ∷ bs) (a ∷ areas) [] ps = ps
moved_all place (b ∷ bs) (a ∷ areas) (c ∷ cs) ps = moved_all place bs areas cs (moved_one place b a c ps)
