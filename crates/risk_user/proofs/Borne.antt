-- The users of a book as its risk is borne, by their places. Assumes nothing.
use Rattle.base.specs.Basics.{◌≡◌, sym, ap, ◌∙◌, List, map, map-map, ℕ, ◌<◌, arith, length, get_or, length-map, get_or-map}
use Rattle.base.proofs.Fronts.{get_or_inside}
use Rattle.laws_sales.specs.Borne.{borne_book, borne_user}
use Rattle.rules.specs.Book.{Book, Party, User, nobody}

-- as many
pub members_borne : (b : Book) → length (borne_book b).users ≡ length b.users
unfolding borne_book
members_borne b = length-map b.users (borne_user b.users)

-- the user at a place
pub member_borne : (b : Book) (i : ℕ) → i < length b.users → get_or (borne_book b).users i nobody ≡ borne_user b.users (get_or b.users i nobody)
unfolding borne_book
member_borne b i h =
    let us = b.users in
    get_or_inside (map (borne_user us) us) i nobody (borne_user us nobody) (omega (arith, length-map us (borne_user us))) ∙ get_or-map (borne_user us) us i nobody

-- who they are, and their blocked guarantees
pub parties_borne : (b : Book) → map (λ u. u.party) (borne_book b).users ≡ map (λ u. u.party) b.users
unfolding borne_book borne_user
parties_borne b = map-map (λ (u : User). u.party) (borne_user b.users) b.users

pub blocked_borne : (b : Book) → map (λ u. u.blocked) (borne_book b).users ≡ map (λ u. u.blocked) b.users
unfolding borne_book borne_user
blocked_borne b = map-map (λ (u : User). u.blocked) (borne_user b.users) b.users

-- users of the same parties, at a place
pub party_same : (us vs : List User) → map (λ u. u.party) us ≡ map (λ u. u.party) vs → (i : ℕ) → (get_or us i nobody).party ≡ (get_or vs i nobody).party
party_same us vs e i =
    sym (get_or-map (λ (u : User). u.party) us i nobody) ∙ ap (λ (ps : List Party). get_or ps i nobody.party) e ∙ get_or-map (λ (u : User). u.party) vs i nobody

pub party_borne : (b : Book) (i : ℕ) → (get_or (borne_book b).users i nobody).party ≡ (get_or b.users i nobody).party
party_borne b i = party_same (borne_book b).users b.users (parties_borne b) i
