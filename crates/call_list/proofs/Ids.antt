-- The ids of a book's users, listed to be searched: filled in one by one, found, and the same after every line. Assumes nothing.
use Rattle.base.specs.Basics.{◌≡◌, ◌∙◌, ap, refl, sym, List, [], ◌∷◌, map, ℕ, suc, ◌+◌, ◌-◌, ◌<◌, ◌≤◌, mul-zero, arith, length, take, drop, get_or, set}
use Rattle.base.specs.Basics.{replicate, length-replicate}
use Rattle.fields.specs.Field.{field}
use Rattle.book_format.proofs.Passed.{length-users_of, passed}
use Rattle.book_format.proofs.Offsets.{user_next, user-there}
use Rattle.book_format.proofs.Places.{user_field}
use Rattle.book_format.specs.Book.{book_of, size_of_header, place_of_user, count_of_users, size_of_user, users_of, version_of}
use Rattle.book_format.specs.Places.{UserIn}
use Rattle.book_format.specs.Questions.{Formed, book_number}
use Rattle.book_parties.proofs.Rising.{rising_ids}
use Rattle.book_parties.specs.Ids.{ids_of}
use Rattle.fields.proofs.Sets.{rest_set}
use Rattle.book_questions.proofs.Loops.{Listed, listed_end, listed_start, listed_turn}
use Rattle.book_records.specs.User.{user_of}
use Rattle.requests.proofs.Lines.{Onward}
use Rattle.rules.specs.Book.{Header, Party, User, nobody}
use Rattle.call_list.specs.Lines.{Known}

-- ---- filled in

-- the ids of the first i users are listed, of which the next stands at a; the rest is as it was
pub record Filling (s : List ℕ) (n : ℕ) (known : List ℕ) (i a : ℕ) : Type 0 where
  pub place : a ≡ place_of_user s i
  pub within : i ≤ n
  pub listed : Listed (λ u. u.party.id) (users_of s) 64 known i
  pub rest : drop i known ≡ replicate (64 - i) 4294967295

module _ {s : List ℕ} {n : ℕ} where
  pub filling_start : {known : List ℕ} {a : ℕ} → known ≡ replicate 64 4294967295 → a ≡ size_of_header (version_of s) → Filling s n known 0 a
  filling_start e begin =
      record { place = omega (arith, mul-zero (size_of_user (version_of s)), user-there s 0 begin refl); within = omega arith; listed = listed_start (ap length e ∙ length-replicate {A = ℕ} 64 4294967295); rest = e }

  -- the id of the next user is the first field of its record
  pub filling_turn : {known : List ℕ} {i a x : ℕ} → Filling s n known i a → i < n → n ≡ count_of_users s → Formed s → x ≡ field 4 a s → Filling s n (set known i x) (i + 1) (a + size_of_user (version_of s))
  unfolding user_of
  filling_turn {known} {i} {a} {x} before h count form e =
      let at : a ≡ place_of_user s i + 0 = omega (arith, before.place) in
      let there : UserIn s i = record { form = form; inside = omega arith } in
      let id : x ≡ (get_or (users_of s) i nobody).party.id = e ∙ ap (λ (m : ℕ). field 4 m s) at ∙ user_field there 4 0 (λ u. u.party.id) (λ y. y) (omega arith) (λ c. refl) in
      record {
        place = omega (arith, before.place, user_next s i);
        within = omega arith;
        listed = listed_turn nobody before.listed (omega (arith, length-users_of s)) (omega (arith, form.users)) id;
        rest = rest_set 64 i 4294967295 x known before.rest;
      }

  pub filling_end : {known : List ℕ} {i a at size : ℕ} → Filling s n known i a → n ≤ i → n ≡ count_of_users s → at ≡ size_of_header (version_of s) → size ≡ size_of_user (version_of s) → book_number s ≡ 0 → Known known n at size s
  unfolding ids_of book_of
  filling_end {known} {i} before h count begin sized e =
      let over : i ≡ n = omega (arith, before.within) in
      let p = passed s e in
      let ids : take n known ≡ ids_of (users_of s) = rw over at (listed_end before.listed (omega (arith, length-users_of s))) in
      record {
        passes = e;
        begin = begin;
        sized = sized;
        count = count;
        listed = ids;
        padded = record {
          full = before.listed.full;
          few = omega (arith, p.form.users);
          rising = rw ids (rising_ids (users_of s) p.sound.ids);
          rest = rw over at before.rest;
        };
      }

-- ---- after a line

-- ids and their number are those of the parties
ids_parties : (us : List User) → ids_of us ≡ map (λ p. p.id) (map (λ u. u.party) us)
unfolding ids_of
ids_parties [] = refl
ids_parties (u ∷ us) = ap (λ (l : List ℕ). u.party.id ∷ l) (ids_parties us)

count_parties : (us : List User) → length us ≡ length (map (λ u. u.party) us)
count_parties [] = refl
count_parties (u ∷ us) = ap suc (count_parties us)

pub known_onward : {known : List ℕ} {n at size : ℕ} {s t : List ℕ} → Onward s t → Known known n at size s → Known known n at size t
unfolding book_of
known_onward {s = s} {t = t} w k =
    record {
      passes = w.number;
      begin = k.begin ∙ ap (λ (h : Header). size_of_header h.version) (sym w.header);
      sized = k.sized ∙ ap (λ (h : Header). size_of_user h.version) (sym w.header);
      count =
          k.count
          ∙ sym (length-users_of s)
          ∙ count_parties (users_of s)
          ∙ ap (λ (ps : List Party). length ps) (sym w.parties)
          ∙ sym (count_parties (users_of t))
          ∙ length-users_of t;
      listed =
          k.listed
          ∙ ids_parties (users_of s)
          ∙ ap (λ (ps : List Party). map (λ p. p.id) ps) (sym w.parties)
          ∙ sym (ids_parties (users_of t));
      padded = k.padded;
    }
