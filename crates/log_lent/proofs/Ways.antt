-- The number of question 19 by its answer, a log emptied, the room of a log, and a reduction noted. Assumes nothing.
use Rattle.base.specs.Basics.{◌≡◌, refl, sym, ap, subst, ◌∙◌, Bool, true, false, List, [], ℕ, ◌+◌, ◌-◌, ◌*◌, arith, T, ltb, le-ltb, lt-ltb}
use Rattle.base.proofs.Linear.{by_order}
use Rattle.fields.specs.Field.{AllBytes}
use Rattle.log_entries.proofs.Entries.{entries_dropped, log_sealed}
use Rattle.log_entries.proofs.Fitting.{fitting_count, fitting_entries}
use Rattle.log_entries.specs.Entries.{NotedAt, cleared, sealed}
use Rattle.log_format.proofs.Read.{fits_facts}
use Rattle.log_format.specs.Fits.{about_log, log_fits, log_number}
use Rattle.log_format.specs.Log.{entries_at, count_of_entries, entry_size, log_bytes}
use Rattle.log_format.specs.Noted.{emptied_by, room}
use Rattle.rules.specs.Questions.{after, refusal}
use Rattle.store.specs.Store.{given}
use Rattle.log_lent.specs.Lent.{Emptiable, NotedLent, room_in}
use Rattle.refusals.proofs.Numbers.{refused-nonzero}
use Rattle.refusals.specs.Refusal.{number_in}
use Rattle.refusals.specs.declared.Refusal.{Refusal}
use Rattle.std.specs.Prelude.{Ok, Err, Result, is_err}
use Rattle.laws.proofs.Refusals.{after_nonzero}

-- ---- a call's outcome

pub carried_out : {A : Type 0} (o : Result A Refusal) → is_err o ≡ false → number_in o ≡ 0
carried_out (Ok x) e = refl
carried_out (Err r) e = absurd (subst T e tt)

pub refused : {A : Type 0} (o : Result A Refusal) → is_err o ≡ true → number_in o ≡ 0 → ⊥
refused (Ok x) e = absurd (subst T (sym e) tt)
refused (Err r) e = refused-nonzero r

-- ---- question 19

module _ (l s : List ℕ) {lent : Bool} where
  pub not_lent : lent ≡ false → 0 ≡ log_number (given lent l) s
  unfolding given log_number about_log refusal after
  not_lent e = rw e

  pub log_fits_lem : lent ≡ true → log_fits l s ≡ true → 0 ≡ log_number (given lent l) s
  unfolding given log_number about_log refusal after
  log_fits_lem e f = rw (e, f)

  pub log_unfit : lent ≡ true → log_fits l s ≡ false → 19 ≡ log_number (given lent l) s
  unfolding given log_number about_log refusal after
  log_unfit e f = rw (e, f)

-- ---- emptied

module _ (l s : List ℕ) {lent : Bool} (number : ℕ) where
  pub stays_not_lent : lent ≡ false → l ≡ emptied_by lent number s l
  unfolding emptied_by
  stays_not_lent e = rw e

  pub stays_refused : lent ≡ true → (number ≡ 0 → ⊥) → l ≡ emptied_by lent number s l
  unfolding emptied_by
  stays_refused e h = rw e (sym (after_nonzero (λ n. l) (log_bytes [] s) h))

  pub emptied : lent ≡ true → number ≡ 0 → Emptiable l s → AllBytes l → {count : ℕ} → count ≡ count_of_entries l → {l' m : List ℕ} → l' ≡ cleared entries_at (entry_size * count) l → m ≡ sealed 0 s l'
      → m ≡ emptied_by lent number s l
  unfolding emptied_by after
  emptied e z p b {count} c {l'} {m} d k =
      let long = fitting_count l p.before b p.few p.fits in
      let same = c ∙ sym long in
      let left = entries_dropped p.few (fitting_entries l p.before b p.few p.fits) (omega (arith, long, (fits_facts l p.before p.fits).count)) (d ∙ ap (λ (n : ℕ). cleared entries_at (entry_size * n) l) same) in
      rw (e, z) (log_sealed s left refl k)

-- ---- the room of a log

below_room : (n : ℕ) → ltb n 256 ≡ ltb 0 (256 - n)
below_room n =
    by_order n 256 (λ h. lt-ltb n 256 h ∙ sym (lt-ltb 0 (256 - n) (omega arith))) (λ h. le-ltb n 256 h ∙ sym (le-ltb 0 (256 - n) (omega arith)))

module _ (l : List ℕ) {lent : Bool} where
  pub room_not_lent : lent ≡ false → true ≡ room_in lent l
  unfolding room_in
  room_not_lent e = rw e

  pub room_lent : lent ≡ true → {n : ℕ} → n ≡ count_of_entries l → ltb n 256 ≡ room_in lent l
  unfolding room_in room
  room_lent e k = rw (e, k) (below_room (count_of_entries l))

-- ---- a reduction noted

different : {A : Type 0} {lent : Bool} → lent ≡ false → lent ≡ true → A
different f t = absurd (subst T (sym t ∙ f) tt)

module _ {l s origins cuts : List ℕ} {from to : ℕ} {lent : Bool} where
  pub noted_not_lent : lent ≡ false → NotedLent lent l s origins cuts from to l
  noted_not_lent e = record { stays = λ f. refl; last = λ t. different e t }

  pub noted_lent : lent ≡ true → {n : ℕ} → n ≡ count_of_entries l → {l' m : List ℕ} → NotedAt n origins cuts from to l l' → m ≡ sealed (n + 1) s l' → NotedLent lent l s origins cuts from to m
  noted_lent e {n} k {l'} {m} p q =
      record {
        stays = λ f. different f e;
        last = λ t. record {
          noted = l';
          entry = subst (λ (i : ℕ). NotedAt i origins cuts from to l l') k p;
          whole = q ∙ ap (λ (i : ℕ). sealed i s l') (omega (arith, k));
        };
      }
