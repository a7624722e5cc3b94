-- The records of a struct into which bytes were read: the one at a place is the one that the bytes hold there. Assumes nothing.
use Rattle.base.specs.Basics.{◌≡◌, ◌∙◌, ap, sym, List, map, ◌<◌, ◌≤◌, ℕ, arith, get_or, length, take}
use Rattle.base.proofs.Fronts.{front_at, front_length, get_or_inside}
use Rattle.book_tables.specs.Book.{BookRead, as_book, kept_managers}
use Rattle.book_tables.specs.declared.Book.{Book}
use Rattle.book_format.specs.Book.{book_of, count_of_users, users_of}
use Rattle.book_tables.specs.Record.{as_record}
use Rattle.book_tables.specs.declared.Record.{Record}
use Rattle.rules.specs.Book as model

-- the element at a place of the first n, as what it is
taken_at : {A B : Type 0} (f : A → B) (xs : List A) (n i : ℕ) (d : A) (e : B) → i < n → n ≤ length xs → f (get_or xs i d) ≡ get_or (map f (take n xs)) i e
taken_at f xs n i d e h k = sym (front_at f n xs i d h) ∙ get_or_inside (map f (take n xs)) i (f d) e (rw (front_length f n xs k) h)

module _ (s : List ℕ) (b : Book) (r : BookRead s b) where
  pub user_at_lem : (i : ℕ) (d : Record) → i < count_of_users s → count_of_users s ≤ 64 → kept_managers b.version (as_record (get_or b.users i d)) ≡ get_or (users_of s) i model.nobody
  unfolding as_book book_of
  user_at_lem i d h k =
      taken_at (λ u. kept_managers b.version (as_record u)) b.users b.user_count i d model.nobody (omega (arith, r.users)) (omega (arith, r.users, r.user_room))
      ∙ ap (λ (n : model.Book). get_or n.users i model.nobody) r.book
