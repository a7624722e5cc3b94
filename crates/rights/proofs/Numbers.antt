-- The number of a party: ids are above 0 and below 2^32, so that no other number names a user of a book. Assumes nothing.
use Rattle.base.specs.Basics.{◌≡◌, ◌∙◌, ap, refl, ◌⊎◌, inl, inr, Bool, false, true, ◌&&◌, List, ℕ, ◌<◌, ◌^◌, arith, T, eqb, ltb→lt, ne_eqb}
use Rattle.base.proofs.Tests.{and_l, and_r}
use Rattle.laws.proofs.Users.{all-find, known-id}
use Rattle.rules.specs.Book.{User, find}
use Rattle.rules.specs.Levels.{shipper}
use Rattle.rules.specs.Questions.{known, user_is_valid}
use Rattle.book_format.proofs.Passed.{passed}
use Rattle.book_format.specs.Book.{book_of}
use Rattle.book_format.specs.Questions.{book_number}
use Rattle.views.proofs.Told.{known_above}
use Rattle.rights.proofs.Own.{and_no}
use Rattle.rights.specs.Claim.{PartyNumbers}
use Rattle.rights.specs.Party.{Matter, Party, is_shipper_in, may_do, operators, own, party_of, shipper_of}

shippers : (n : ℕ) → (n ≡ 2 ^ 32 → ⊥) → party_of n ≡ shipper_of n
unfolding party_of
shippers n h = rw (ne_eqb n (2 ^ 32) h) refl

id_below : (u : User) → T (user_is_valid u) → u.party.id < 2 ^ 32
unfolding user_is_valid
id_below u h = ltb→lt u.party.id (2 ^ 32) (search (and_l, and_r))

module _ (n : ℕ) (s : List ℕ) (passes : book_number s ≡ 0) (outside : (n ≡ 0) ⊎ (2 ^ 32 < n)) where
  not_operator : n ≡ 2 ^ 32 → ⊥
  not_operator e = go outside
    where
      go : (n ≡ 0) ⊎ (2 ^ 32 < n) → ⊥
      go (inl z) = omega (arith, e, z)
      go (inr h) = omega (arith, e, h)

  not_known : T (known (book_of s).users n) → ⊥
  not_known k = go outside (known_above (book_of s).users 0 n (passed s passes).sound.ids k) below
    where
      below : n < 2 ^ 32
      below =
          let v = all-find user_is_valid (book_of s).users n (passed s passes).sound.users k in
          let e = known-id (book_of s).users n k in
          omega (arith, id_below (find (book_of s).users n) v)

      go : (n ≡ 0) ⊎ (2 ^ 32 < n) → 0 < n → n < 2 ^ 32 → ⊥
      go (inl z) a b = omega (arith, a, z)
      go (inr h) a b = omega (arith, b, h)

  no_shipper : is_shipper_in (book_of s) n ≡ false
  unfolding is_shipper_in
  no_shipper = go (known (book_of s).users n) not_known
    where
      go : (k : Bool) → (T k → ⊥) → (k && shipper (find (book_of s).users n)) ≡ false
      go true f = absurd (f tt)
      go false f = refl

  no_right : (m : Matter) → may_do (book_of s) (party_of n) m ≡ false
  unfolding may_do
  no_right m = ap (λ (p : Party). may_do (book_of s) p m) (shippers n not_operator) ∙ go m
    where
      go : (k : Matter) → may_do (book_of s) (shipper_of n) k ≡ false
      go operators = refl
      go (own id) = ap (λ (x : Bool). eqb n id && x) no_shipper ∙ and_no (eqb n id)

pub party_numbers : PartyNumbers
unfolding party_of
party_numbers = record { of_operator = refl; of_shipper = shippers; of_nobody = no_right }
