-- Positions as the risk is borne: without managers those of the records, else the sums over those whose risk each user bears. Assumes nothing.
use Rattle.base.specs.Basics.{◌≡◌, sym, ap, subst, ◌∙◌, false, List, ℕ, ◌+◌, ◌*◌, ◌/◌, ◌%◌, ◌≤◌, ◌<◌, ◌^◌, arith, length, get_or}
use Rattle.base.proofs.Fronts.{all_at}
use Rattle.base.specs.Parts.{neg_part, pos_part}
use Rattle.book_format.proofs.Passed.{length-users_of}
use Rattle.book_format.specs.Book.{book_of, count_of_users, users_of, version_of}
use Rattle.book_format.specs.Held.{Accepted}
use Rattle.laws.proofs.Bounds.{position_bound}
use Rattle.laws_sales.proofs.Alone.{own_risk}
use Rattle.laws_sales.proofs.Sums.{at_sums}
use Rattle.laws_sales.specs.Borne.{borne_user}
use Rattle.risk_bearers.proofs.Bearing.{bearers_in, borne_all}
use Rattle.risk_bearers.specs.Bearers.{BearersIn, BearersOf, users_in}
use Rattle.risk_bearers.specs.Rows.{Bearable, Rows, borne_to}
use Rattle.risk_user.proofs.Borne.{member_borne, members_borne}
use Rattle.risk_user.specs.UserAt.{PositionsOf}
use Rattle.rules.specs.Areas.{managers_in}
use Rattle.rules.specs.Book.{Book, User, at, nobody}
use Rattle.rules.specs.Questions.{positions_are_valid, user_is_valid}
use Rattle.units.proofs.Amounts.{parts_net}

module _ (s : List ℕ) (a : Accepted s) where
  -- without managers
  pub positions_plain : {ps : List ℕ} → managers_in (version_of s) ≡ false → PositionsOf (users_of s) ps → PositionsOf (users_in s) ps
  unfolding book_of
  positions_plain {ps} none p = subst (λ (b : Book). PositionsOf b.users ps) (sym (own_risk (book_of s) a.sound none).book) p

  module _ {own : List ℕ} (p : PositionsOf (users_of s) own) {table : List ℕ} (t : BearersOf (users_of s) table) {n : ℕ} (many : n ≡ count_of_users s) where
    -- a position is within what a book can have
    near : (i area : ℕ) → i < length (users_of s) → area < 3 → (2 ^ 31 ≤ get_or own (3 * i + area) 0 + 26600000) × (get_or own (3 * i + area) 0 ≤ 2 ^ 31 + 26600000)
    unfolding book_of
    near i area h l =
        let u = get_or (users_of s) i nobody in
        let bound = position_bound (book_of s) a.sound u (all_at user_is_valid (users_of s) a.sound.users i nobody h) (all_at (positions_are_valid (book_of s).trades) (users_of s) a.sound.positions i nobody h) area l in
        let x = parts_net (record { 0 = get_or own (3 * i + area) 0 }) in
        let e = p.each i area h l in
        (omega (arith, x, bound.0, bound.1, ap pos_part e, ap neg_part e), omega (arith, x, bound.0, bound.1, ap pos_part e, ap neg_part e))

    pub positions_bearable : Bearable n own table
    positions_bearable =
        record {
          few = omega (arith, many, a.held.form.users);
          bearers = subst (λ (k : ℕ). BearersIn k table) (sym many) (bearers_in s table a t);
          low = λ k h. (by_place k h).0;
          high = λ k h. (by_place k h).1;
        }
      where
        by_place : (k : ℕ) → k < 3 * n → (2 ^ 31 ≤ get_or own k 0 + 26600000) × (get_or own k 0 ≤ 2 ^ 31 + 26600000)
        by_place k h =
            let e : 3 * (k / 3) + k % 3 ≡ k = omega arith in
            subst (λ (j : ℕ). (2 ^ 31 ≤ get_or own j 0 + 26600000) × (get_or own j 0 ≤ 2 ^ 31 + 26600000)) e (near (k / 3) (k % 3) (omega (arith, length-users_of s, many)) (omega arith))

    -- with them
    pub positions_borne : {rows : List ℕ} → Rows n own table rows → PositionsOf (users_in s) rows × (length rows ≡ 192)
    unfolding book_of borne_user
    positions_borne r = (
      record {
        each = λ i area h l.
            let k : i < length (users_of s) = omega (arith, members_borne (book_of s)) in
            r.each i area (omega (arith, k, length-users_of s, a.held.form.users)) l
            ∙ ap (λ (m : ℕ). borne_to m own table i area) many
            ∙ borne_all s table a t (λ v. v.position) own p.each i area k l
            ∙ sym (at_sums (λ v. v.position) (users_of s) (get_or (users_of s) i nobody).party.id area)
            ∙ ap (λ (u : User). at u.position area) (sym (member_borne (book_of s) i k));
      },
      r.room,
    )
