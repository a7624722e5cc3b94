-- Postings one after the other, by the rules: two on one user and area are one of their sum, and any two change places. Assumes nothing.
use Rattle.base.specs.Basics.{◌≡◌, refl, sym, ap, ap₂, ◌∙◌, Bool, true, false, cond, ◌||◌, List, [], ◌∷◌, ℕ, zero, suc, ◌<◌, T, eqb, eqb_refl, ℤ, pos}
use Rattle.base.specs.Basics.{◌+ℤ◌, +ℤ_assoc, +ℤ_comm}
use Rattle.laws.proofs.Areas.{at-add}
use Rattle.laws.proofs.Changed.{keeps_party}
use Rattle.rules.specs.Book.{PerArea, Party, User, at, find}
use Rattle.rules.specs.Changes.{add, change, posted}
use Rattle.base.specs.Lists.{any}
use Rattle.rules.specs.Questions.{known}

-- ---- amounts added one after the other

-- two amounts in either order
swap_ℤ : (a x y : ℤ) → a +ℤ x +ℤ y ≡ a +ℤ y +ℤ x
swap_ℤ a x y = +ℤ_assoc a x y ∙ ap (λ (z : ℤ). a +ℤ z) (+ℤ_comm x y) ∙ sym (+ℤ_assoc a y x)

-- in one area
add-add : (v : PerArea) (a : ℕ) (x y : ℤ) → add (add v a x) a y ≡ add v a (x +ℤ y)
unfolding add
add-add v zero x y = λ i. record { pvb = +ℤ_assoc v.pvb x y i; tvb = v.tvb; avb = v.avb }
add-add v (suc zero) x y = λ i. record { pvb = v.pvb; tvb = +ℤ_assoc v.tvb x y i; avb = v.avb }
add-add v (suc (suc a)) x y = λ i. record { pvb = v.pvb; tvb = v.tvb; avb = +ℤ_assoc v.avb x y i }

-- in any two
add_swap : (v : PerArea) (a b : ℕ) (x y : ℤ) → add (add v a x) b y ≡ add (add v b y) a x
unfolding add
add_swap v zero zero x y = λ i. record { pvb = swap_ℤ v.pvb x y i; tvb = v.tvb; avb = v.avb }
add_swap v zero (suc zero) x y = refl
add_swap v zero (suc (suc b)) x y = refl
add_swap v (suc zero) zero x y = refl
add_swap v (suc zero) (suc zero) x y = λ i. record { pvb = v.pvb; tvb = swap_ℤ v.tvb x y i; avb = v.avb }
add_swap v (suc zero) (suc (suc b)) x y = refl
add_swap v (suc (suc a)) zero x y = refl
add_swap v (suc (suc a)) (suc zero) x y = refl
add_swap v (suc (suc a)) (suc (suc b)) x y = λ i. record { pvb = v.pvb; tvb = v.tvb; avb = swap_ℤ v.avb x y i }

-- two postings on one user: in one area they add up, in any two they change places
pub posted_twice : (a : ℕ) (x y : ℤ) (u : User) → posted a y (posted a x u) ≡ posted a (x +ℤ y) u
unfolding posted
posted_twice a x y u =
    λ i. record { party = u.party; physical = add-add u.physical a x y i; position = add-add u.position a x y i; blocked = u.blocked }

pub posted_swap : (a b : ℕ) (x y : ℤ) (u : User) → posted b y (posted a x u) ≡ posted a x (posted b y u)
unfolding posted
posted_swap a b x y u =
    λ i. record { party = u.party; physical = add_swap u.physical a b x y i; position = add_swap u.position a b x y i; blocked = u.blocked }

-- the physical entry after a posting, in its area
pub entry_posted : (u : User) (a : ℕ) (z : ℤ) → a < 3 → at (posted a z u).physical a ≡ at u.physical a +ℤ z
unfolding posted
entry_posted u a z h =
    at-add u.physical a z a h h ∙ ap (λ (c : Bool). at u.physical a +ℤ cond c z (pos 0)) (yes (eqb a a) (eqb_refl a))
  where
    yes : (c : Bool) → T c → c ≡ true
    yes true t = refl
    yes false t = absurd t

-- ---- users changed one after the other

-- what keeps the party keeps the id
unfoldable pub Keeps : (User → User) → Type 0
Keeps f = (u : User) → (f u).party ≡ u.party

pub posted_keeps : (a : ℕ) (z : ℤ) → Keeps (posted a z)
unfolding Keeps posted
posted_keeps a z u = refl

-- a test of the id after a change is one before it
same_id : (i j : ℕ) (f : User → User) → Keeps f → (u : User) → eqb (cond (eqb u.party.id j) (f u) u).party.id i ≡ eqb u.party.id i
unfolding Keeps
same_id i j f k u = ap (λ (p : Party). eqb p.id i) (keeps_party f k j u)

-- one user changed twice
pub change_twice : (id : ℕ) (f g : User → User) → Keeps f → (us : List User) → change id g (change id f us) ≡ change id (λ u. g (f u)) us
unfolding change
change_twice id f g k [] = refl
change_twice id f g k (u ∷ us) =
    ap₂ (λ (v : User) (vs : List User). v ∷ vs) (rw (same_id id id f k u) (both (eqb u.party.id id))) (change_twice id f g k us)
  where
    both : (c : Bool) → cond c (g (cond c (f u) u)) (cond c (f u) u) ≡ cond c (g (f u)) u
    both true = refl
    both false = refl

-- two changes, of one user or of two
pub change_swap : (i j : ℕ) (f g : User → User) → Keeps f → Keeps g → ((u : User) → g (f u) ≡ f (g u)) → (us : List User)
    → change j g (change i f us) ≡ change i f (change j g us)
unfolding change
change_swap i j f g k l e [] = refl
change_swap i j f g k l e (u ∷ us) =
    ap₂ (λ (v : User) (vs : List User). v ∷ vs) (rw (same_id j i f k u, same_id i j g l u) (both (eqb u.party.id i) (eqb u.party.id j)))
    (change_swap i j f g k l e us)
  where
    both : (c d : Bool) → cond d (g (cond c (f u) u)) (cond c (f u) u) ≡ cond c (f (cond d (g u) u)) (cond d (g u) u)
    both true true = e u
    both true false = refl
    both false true = refl
    both false false = refl

-- the changed user
pub find-change : (id : ℕ) (f : User → User) → Keeps f → (us : List User) → T (known us id) → find (change id f us) id ≡ f (find us id)
unfolding find change known any
find-change id f k [] h = absurd h
find-change id f k (u ∷ us) h =
    rw (same_id id id f k u) (go (eqb u.party.id id) (λ m. find-change id f k us m) h)
  where
    go : (c : Bool) → (T (known us id) → find (change id f us) id ≡ f (find us id)) → T (c || known us id)
        → cond c (cond c (f u) u) (find (change id f us) id) ≡ f (cond c u (find us id))
    go true ih m = refl
    go false ih m = ih m
