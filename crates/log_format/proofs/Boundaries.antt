-- What is at the boundaries of the questions of a log: 18, 20, and 19 at the start of one. Assumes nothing.
use Rattle.base.specs.Basics.{◌≡◌, refl, true, false, List, [], ◌∷◌, ℕ, length}
use Rattle.log_format.specs.{Fits.start_fits, Fits.start_number, Fits.started, Log.held_room, Log.log_bytes, Log.log_size, Noted.has_entry, Noted.has_room}

pub record Boundaries : Type 0 where
  -- "A withdrawal with an empty log" is 18
  pub no_entry : (has_entry []).holds ≡ false
  pub one_entry : (cs : List ℕ) → (has_entry (cs ∷ [])).holds ≡ true
  -- "a reduction with a full log" is 20
  pub no_room : (has_room 0).holds ≡ false
  pub room_for_one : (has_room 1).holds ≡ true
  -- "It starts empty from one book, only its length asked", else 19, and the lent log stays
  pub longest_book : (l s : List ℕ) → length l ≡ 271668 → length s ≡ 9512 → (start_number l s ≡ 0) × (started l s ≡ log_bytes [] s)
  pub longer_book : (l s : List ℕ) → length l ≡ 271668 → length s ≡ 9513 → (start_number l s ≡ 19) × (started l s ≡ l)
  pub shorter_log : (l s : List ℕ) → length l ≡ 271667 → length s ≡ 9512 → (start_number l s ≡ 19) × (started l s ≡ l)
  pub longer_log : (l s : List ℕ) → length l ≡ 271669 → length s ≡ 9512 → (start_number l s ≡ 19) × (started l s ≡ l)

pub boundaries : Boundaries
unfolding has_entry has_room start_number started start_fits log_size held_room
boundaries =
    record {
      no_entry = refl;
      one_entry = λ cs. refl;
      no_room = refl;
      room_for_one = refl;
      longest_book = λ l s h k. (rw (h, k), rw (h, k));
      longer_book = λ l s h k. (rw (h, k), rw (h, k));
      shorter_log = λ l s h k. (rw h, rw h);
      longer_log = λ l s h k. (rw h, rw h);
    }
