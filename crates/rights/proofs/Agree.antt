-- "Over two books that pass the opening questions and agree on the header and, in book order, on what a party may see, its answers to the same call agree." Assumes nothing.
use Rattle.base.specs.Basics.{◌≡◌, ◌∙◌, ap, ap₂, refl, subst, sym, Bool, true, false, cond, ◌&&◌, List, [], ◌∷◌, ℕ, suc, zero, arith, T, eqb, eqb→eq}
use Rattle.base.specs.Basics.{drop, get_or, length, take}
use Rattle.base.proofs.Tests.{and_l, and_r}
use Rattle.rules.specs.Book.{Header, Trade, User, find}
use Rattle.rules.specs.Calls.{id_known, is_shipper}
use Rattle.rules.specs.Levels.{Limits, afternoon_level, flagged, morning_level, shipper}
use Rattle.rules.specs.Queries.{Query, Reply, a_level, a_record, about_query, afternoon_level_of, found, morning_level_of, only_number, reply_after, shown_record, warning}
use Rattle.rules.specs.Questions.{Question, after, ids_rise, known, refusal}
use Rattle.book_format.proofs.Passed.{passed}
use Rattle.book_format.specs.Book.{book_of, place_of_user, size_of_user, version_of}
use Rattle.book_format.specs.Questions.{book_number}
use Rattle.book_format.specs.Steps.{place_of}
use Rattle.requests.specs.Carried.{part_shown}
use Rattle.requests.specs.Request.{Outcome, Setting, enquiry_after, limits_on, opening_in, refused_given}
use Rattle.store.specs.Store.{limits_of, store_number}
use Rattle.views.proofs.Told.{same_afternoon, same_flag, same_header, same_known, same_morning, same_trades, same_user}
use Rattle.views.specs.Views.{view_of}
use Rattle.rights.proofs.Operator.{forbidden_claim}
use Rattle.rights.proofs.Parts.{own_shown, own_part, view_agrees}
use Rattle.rights.specs.Acting.{enquiry_by, entering_number, opening_number_by}
use Rattle.rights.specs.Party.{Matter, is_shipper_in, matter_of, may_do, operators, own, right_number, shipper_of}
use Rattle.rights.specs.Claim.{AgreementClaim, AnswersAgree}
use Rattle.rights.specs.Seen.{Agree}
use Rattle.rights.specs.Trades.{Asking, Told, about_user, count_of, flag_of, id_of, tells, told_after, told_by, told_in, told_number, trade_of}

-- where 26 is answered by no the number is not 0
never : (n m : ℕ) → after (after n (λ k. k) 26) (λ k. k) m ≡ 0 → ⊥
unfolding after
never zero m e = omega (arith, e)
never (suc n) m e = omega (arith, e)

module _ (party : ℕ) (s t : List ℕ) (passes : book_number s ≡ 0) (passed_too : book_number t ≡ 0) (agree : Agree party s t) where
  same_view : view_of party (book_of s) ≡ view_of party (book_of t)
  same_view = view_agrees party s t agree

  -- ---- the party and its rights

  header_same : (book_of s).header ≡ (book_of t).header
  header_same = same_header party (book_of s) (book_of t) (passed s passes).sound.ids (passed t passed_too).sound.ids same_view

  user_same : find (book_of s).users party ≡ find (book_of t).users party
  user_same = same_user party (book_of s) (book_of t) (passed s passes).sound.ids (passed t passed_too).sound.ids same_view

  known_same : known (book_of s).users party ≡ known (book_of t).users party
  known_same = same_known party (book_of s) (book_of t) (passed s passes).sound.ids (passed t passed_too).sound.ids same_view

  shipper_same : is_shipper_in (book_of s) party ≡ is_shipper_in (book_of t) party
  unfolding is_shipper_in
  shipper_same = ap₂ (λ (x : Bool) (u : User). x && shipper u) known_same user_same

  right_same : (m : Matter) → may_do (book_of s) (shipper_of party) m ≡ may_do (book_of t) (shipper_of party) m
  unfolding may_do
  right_same operators = refl
  right_same (own id) = ap (λ (x : Bool). eqb party id && x) shipper_same

  -- ---- an answer by the number of the opening questions

  -- one number
  number_same : (m : Matter) (g : Setting) → opening_number_by (shipper_of party) m g s ≡ opening_number_by (shipper_of party) m g t
  unfolding opening_in entering_number right_number
  number_same m g =
      ap₂ (λ (n : ℕ) (h : Header). after (after n (λ k. k) (right_number (book_of s) (shipper_of party) m)) (λ k. k) (store_number g.store h.date)) (passes ∙ sym passed_too) header_same
      ∙ ap (λ (r : Bool). after (after (book_number t) (λ k. k) (cond r 0 26)) (λ k. k) (store_number g.store (book_of t).header.date)) (right_same m)

  -- which is 0 for no matter of the operator's, and of the others only for who asks for itself and is a shipper of the book
  granted : (m : Matter) (g : Setting) → opening_number_by (shipper_of party) m g s ≡ 0 → T (may_do (book_of s) (shipper_of party) m)
  unfolding opening_in entering_number right_number
  granted m g e = go (book_number s) (may_do (book_of s) (shipper_of party) m) e
    where
      go : (n : ℕ) (may : Bool) → after (after n (λ k. k) (cond may 0 26)) (λ k. k) (store_number g.store (book_of s).header.date) ≡ 0 → T may
      go n true e = tt
      go n false e = absurd (never n (store_number g.store (book_of s).header.date) e)

  -- answers agree where they do for who may ask
  answer_same : {R : Type 0} (f : ℕ → R) (m : Matter) (g : Setting) (x y : R) → (T (may_do (book_of s) (shipper_of party) m) → x ≡ y)
      → after (opening_number_by (shipper_of party) m g s) f x ≡ after (opening_number_by (shipper_of party) m g t) f y
  unfolding after
  answer_same f m g x y h = go (opening_number_by (shipper_of party) m g s) refl ∙ ap (λ (n : ℕ). after n f y) (number_same m g)
    where
      go : (n : ℕ) → opening_number_by (shipper_of party) m g s ≡ n → after n f x ≡ after n f y
      go zero e = h (granted m g e)
      go (suc n) e = refl

  -- who may ask of an id has that id, and is in the book
  asks_own : (id : ℕ) → T (may_do (book_of s) (shipper_of party) (own id)) → (party ≡ id) × T (known (book_of s).users party)
  unfolding may_do is_shipper_in
  asks_own id h =
      let ships = known (book_of s).users party && shipper (find (book_of s).users party) in
      (eqb→eq party id (and_l (eqb party id) ships h), and_l (known (book_of s).users party) (shipper (find (book_of s).users party)) (and_r (eqb party id) ships h))

  -- so what agrees for the party agrees for the id
  own_same : {R : Type 0} (f : ℕ → R) (id : ℕ) (g : Setting) (x y : ℕ → R) → (T (known (book_of s).users party) → x party ≡ y party)
      → after (opening_number_by (shipper_of party) (own id) g s) f (x id) ≡ after (opening_number_by (shipper_of party) (own id) g t) f (y id)
  own_same f id g x y h =
      answer_same f (own id) g (x id) (y id) (λ may. let a = asks_own id may in subst (λ (i : ℕ). x i ≡ y i) a.0 (h a.1))

  -- ---- queries

  limits_same : (g : Setting) → limits_on g (book_of s) ≡ limits_on g (book_of t)
  unfolding limits_on
  limits_same g = ap (λ (h : Header). limits_of g.store h.date) header_same

  -- 8 and 9
  user_asked : about_user (book_of s) party ≡ about_user (book_of t) party
  unfolding about_user id_known is_shipper
  user_asked =
      ap₂ (λ (k : Bool) (u : User). record { number = 8; holds = k } ∷ (record { number = 9; holds = shipper u } ∷ [])) known_same user_same

  ids_rise_lem : (u : List ℕ) → book_number u ≡ 0 → T (ids_rise 0 (book_of u).users)
  ids_rise_lem u e = (passed u e).sound.ids

  module _ (g : Setting) where
    answered : List ℕ → Query → Reply
    answered u q = after (refusal (about_query (book_of u) q)) only_number (found (limits_on g (book_of u)) (book_of u) q)

    module _ (k : T (known (book_of s).users party)) where
      morning_answered : answered s (morning_level_of party) ≡ answered t (morning_level_of party)
      unfolding answered about_query about_user found
      morning_answered =
          ap₂ (λ (qs : List Question) (n : ℕ). after (refusal qs) only_number (a_level n)) user_asked
          (same_morning party (book_of s) (book_of t) (ids_rise_lem s passes) (ids_rise_lem t passed_too) same_view k (limits_on g (book_of s))
          ∙ ap (λ (l : Limits). morning_level l (book_of t) (find (book_of t).users party)) (limits_same g))

      afternoon_answered : answered s (afternoon_level_of party) ≡ answered t (afternoon_level_of party)
      unfolding answered about_query about_user found
      afternoon_answered =
          ap₂ (λ (qs : List Question) (n : ℕ). after (refusal qs) only_number (a_level n)) user_asked
          (same_afternoon party (book_of s) (book_of t) (ids_rise_lem s passes) (ids_rise_lem t passed_too) same_view k (limits_on g (book_of s))
          ∙ ap (λ (l : Limits). afternoon_level l (book_of t) (find (book_of t).users party)) (limits_same g))

      record_answered : answered s (shown_record party) ≡ answered t (shown_record party)
      unfolding answered about_query id_known found
      record_answered =
          ap₂ (λ (x : Bool) (u : User). after (refusal (record { number = 8; holds = x } ∷ [])) only_number (a_record u)) known_same user_same

      flag_told_lem : after (refusal (about_user (book_of s) party)) told_number (tells (limits_on g (book_of s)) s (flag_of party))
          ≡ after (refusal (about_user (book_of t) party)) told_number (tells (limits_on g (book_of t)) t (flag_of party))
      unfolding tells
      flag_told_lem =
          ap₂ (λ (qs : List Question) (x : Bool). after (refusal qs) told_number (record { number = 0; flagged = x; count = 0; part = [] })) user_asked
          (same_flag party (book_of s) (book_of t) (ids_rise_lem s passes) (ids_rise_lem t passed_too) same_view k (limits_on g (book_of s))
          ∙ ap (λ (l : Limits). flagged l (book_of t) (find (book_of t).users party)) (limits_same g))

      count_told_lem : after (refusal (about_user (book_of s) party)) told_number (tells (limits_on g (book_of s)) s (count_of party))
          ≡ after (refusal (about_user (book_of t) party)) told_number (tells (limits_on g (book_of t)) t (count_of party))
      unfolding tells
      count_told_lem =
          ap₂ (λ (qs : List Question) (ts : List Trade). after (refusal qs) told_number (record { number = 0; flagged = false; count = length ts; part = [] })) user_asked
          (same_trades party (book_of s) (book_of t) (ids_rise_lem s passes) (ids_rise_lem t passed_too) same_view)

      trade_told : (ordinal : ℕ) → after (refusal (about_user (book_of s) party)) told_number (tells (limits_on g (book_of s)) s (trade_of party ordinal))
          ≡ after (refusal (about_user (book_of t) party)) told_number (tells (limits_on g (book_of t)) t (trade_of party ordinal))
      unfolding tells
      trade_told ordinal =
          ap₂ (λ (qs : List Question) (cs : List (List ℕ)). after (refusal qs) told_number (record { number = 0; flagged = false; count = 0; part = get_or cs ordinal [] })) user_asked agree.trades

    by_query : (q : Query) → after (opening_number_by (shipper_of party) (matter_of q) g s) only_number (answered s q) ≡ after (opening_number_by (shipper_of party) (matter_of q) g t) only_number (answered t q)
    unfolding matter_of may_do
    by_query (morning_level_of id) = own_same only_number id g (λ i. answered s (morning_level_of i)) (λ i. answered t (morning_level_of i)) morning_answered
    by_query (afternoon_level_of id) = own_same only_number id g (λ i. answered s (afternoon_level_of i)) (λ i. answered t (afternoon_level_of i)) afternoon_answered
    by_query (warning id) = answer_same only_number operators g (answered s (warning id)) (answered t (warning id)) (λ may. absurd may)
    by_query (shown_record id) = own_same only_number id g (λ i. answered s (shown_record i)) (λ i. answered t (shown_record i)) record_answered

    query_same : (q : Query) → enquiry_by (shipper_of party) g s q ≡ enquiry_by (shipper_of party) g t q
    unfolding enquiry_after reply_after answered
    query_same q = by_query q

    -- ---- flag and trades

    asked : List ℕ → Asking → Told
    asked u a = after (refusal (about_user (book_of u) (id_of a))) told_number (tells (limits_on g (book_of u)) u a)

    by_asking : (a : Asking) → after (opening_number_by (shipper_of party) (own (id_of a)) g s) told_number (asked s a) ≡ after (opening_number_by (shipper_of party) (own (id_of a)) g t) told_number (asked t a)
    unfolding id_of asked
    by_asking (flag_of id) = own_same told_number id g (λ i. asked s (flag_of i)) (λ i. asked t (flag_of i)) flag_told_lem
    by_asking (count_of id) = own_same told_number id g (λ i. asked s (count_of i)) (λ i. asked t (count_of i)) count_told_lem
    by_asking (trade_of id ordinal) = own_same told_number id g (λ i. asked s (trade_of i ordinal)) (λ i. asked t (trade_of i ordinal)) (λ k. trade_told k ordinal)

    told_same : (a : Asking) → told_by (shipper_of party) g s a ≡ told_by (shipper_of party) g t a
    unfolding told_in told_after asked
    told_same a = by_asking a

    -- ---- the bytes of the shown record

    shown_number : (id : ℕ) → (enquiry_by (shipper_of party) g s (shown_record id)).number ≡ 0 → opening_number_by (shipper_of party) (own id) g s ≡ 0
    unfolding enquiry_after reply_after after only_number answered matter_of
    shown_number id e = go (opening_number_by (shipper_of party) (own id) g s) e
      where
        go : (n : ℕ) → (after n only_number (answered s (shown_record id))).number ≡ 0 → n ≡ 0
        go zero e = refl
        go (suc n) e = absurd (omega (arith, e))

    own_bytes : (id : ℕ) → opening_number_by (shipper_of party) (own id) g s ≡ 0
        → take (size_of_user (version_of s)) (drop (place_of_user s (place_of (book_of s).users id)) s) ≡ take (size_of_user (version_of t)) (drop (place_of_user t (place_of (book_of t).users id)) t)
    own_bytes id e =
        let a = asks_own id (granted (own id) g e) in
        subst (λ (i : ℕ). take (size_of_user (version_of s)) (drop (place_of_user s (place_of (book_of s).users i)) s) ≡ take (size_of_user (version_of t)) (drop (place_of_user t (place_of (book_of t).users i)) t)) a.0
        (own_shown party s a.1 ∙ ap (own_part party) agree.users ∙ sym (own_shown party t (subst (λ (x : Bool). T x) known_same a.1)))

    shown_same : (id : ℕ)
        → part_shown (enquiry_by (shipper_of party) g s (shown_record id)).number s id ≡ part_shown (enquiry_by (shipper_of party) g t (shown_record id)).number t id
    unfolding part_shown after
    shown_same id =
        go (enquiry_by (shipper_of party) g s (shown_record id)).number refl
        ∙ ap (λ (r : Reply). part_shown r.number t id) (query_same (shown_record id))
      where
        go : (n : ℕ) → (enquiry_by (shipper_of party) g s (shown_record id)).number ≡ n → part_shown n s id ≡ part_shown n t id
        go zero e = own_bytes id (shown_number id e)
        go (suc n) e = refl

  all_agree : AnswersAgree party s t
  unfolding refused_given
  all_agree =
      let x = forbidden_claim party s passes in
      let y = forbidden_claim party t passed_too in
      record {
        right = right_same;
        query = query_same;
        shown = shown_same;
        told = told_same;
        read = λ r q.
            let a = x.read r in
            let b = y.read q in (a.0 ∙ sym b.0, a.1 ∙ sym b.1);
        written = λ ps qs xs ys out. x.write ps xs out ∙ sym (y.write qs ys out);
        cancelled = λ g id tries. x.cancel g id tries ∙ sym (y.cancel g id tries);
        answer = λ r. ap (λ (o : Outcome (List ℕ)). o.answer) (x.act r) ∙ sym (ap (λ (o : Outcome (List ℕ)). o.answer) (y.act r));
        numbers = λ r. ap (λ (o : Outcome (List ℕ)). o.numbers) (x.act r) ∙ sym (ap (λ (o : Outcome (List ℕ)). o.numbers) (y.act r));
        log = λ r. ap (λ (o : Outcome (List ℕ)). o.log) (x.act r) ∙ sym (ap (λ (o : Outcome (List ℕ)). o.log) (y.act r));
      }

pub agreement_claim : AgreementClaim
agreement_claim = all_agree
