-- What is its own a shipper is told as the operator is; what is not is refused with 26. Assumes nothing.
use Rattle.base.specs.Basics.{◌≡◌, ◌∙◌, ap, refl, sym, inl, inr, Bool, true, false, cond, ◌&&◌, List, ℕ, eqb, eq-eqb, ne_eqb}
use Rattle.rules.specs.Queries.{Query, only_number, afternoon_level_of, morning_level_of, shown_record, warning}
use Rattle.rules.specs.Questions.{after}
use Rattle.book_format.specs.Book.{book_of}
use Rattle.book_format.specs.Questions.{book_number}
use Rattle.requests.specs.Request.{Setting, enquiry, enquiry_after}
use Rattle.rights.proofs.Entered.{enquiry_stopped, told_stopped}
use Rattle.rights.proofs.Operator.{operator_claim}
use Rattle.rights.specs.Acting.{enquiry_by, entering_number}
use Rattle.rights.specs.Party.{Matter, is_shipper_in, matter_of, may_do, operator, own, right_number, shipper_of}
use Rattle.rights.specs.Claim.{GrantedClaim, NotIts, WithheldClaim}
use Rattle.rights.specs.Trades.{Asking, id_of, told_by, told_in, told_number}

-- ---- what is not its own

pub and_no : (x : Bool) → (x && false) ≡ false
and_no true = refl
and_no false = refl

may_not : (party : ℕ) (s : List ℕ) (id : ℕ) → NotIts party s id → may_do (book_of s) (shipper_of party) (own id) ≡ false
unfolding may_do
may_not party s id (inl h) = rw (ne_eqb party id h) refl
may_not party s id (inr h) = ap (λ (x : Bool). eqb party id && x) h ∙ and_no (eqb party id)

module _ (party : ℕ) (s : List ℕ) (passes : book_number s ≡ 0) where
  stopped : (m : Matter) → may_do (book_of s) (shipper_of party) m ≡ false → entering_number (shipper_of party) m s ≡ 26
  unfolding entering_number right_number after
  stopped m h = rw (passes, h) refl

  not_replied : (g : Setting) (q : Query) → may_do (book_of s) (shipper_of party) (matter_of q) ≡ false → enquiry_by (shipper_of party) g s q ≡ only_number 26
  not_replied g q h = ap (λ (n : ℕ). enquiry_after n g s q) (stopped (matter_of q) h) ∙ enquiry_stopped g s q 25

  not_told : (g : Setting) (a : Asking) → NotIts party s (id_of a) → told_by (shipper_of party) g s a ≡ told_number 26
  not_told g a h = ap (λ (n : ℕ). told_in n g s a) (stopped (own (id_of a)) (may_not party s (id_of a) h)) ∙ told_stopped g s a 25

pub withheld_claim : WithheldClaim
unfolding matter_of may_do
withheld_claim party s passes =
    record {
      morning = λ g id h. not_replied party s passes g (morning_level_of id) (may_not party s id h);
      afternoon = λ g id h. not_replied party s passes g (afternoon_level_of id) (may_not party s id h);
      shown = λ g id h. not_replied party s passes g (shown_record id) (may_not party s id h);
      warned = λ g id. not_replied party s passes g (warning id) refl;
      told = not_told party s passes;
    }

-- ---- what is

module _ (party : ℕ) (s : List ℕ) (ships : is_shipper_in (book_of s) party ≡ true) where
  may : may_do (book_of s) (shipper_of party) (own party) ≡ true
  unfolding may_do
  may = rw (eq-eqb party party refl, ships) refl

  -- one number
  granted : (m : Matter) → m ≡ own party → entering_number (shipper_of party) m s ≡ entering_number operator m s
  unfolding entering_number right_number may_do
  granted m e =
      ap (λ (k : Matter). entering_number (shipper_of party) k s) e ∙ ap (λ (x : Bool). after (book_number s) (λ n. n) (cond x 0 26)) may ∙ sym (ap (λ (k : Matter). entering_number operator k s) e)

  replied : (g : Setting) (q : Query) → matter_of q ≡ own party → enquiry_by (shipper_of party) g s q ≡ enquiry g s q
  replied g q e = ap (λ (n : ℕ). enquiry_after n g s q) (granted (matter_of q) e) ∙ operator_claim.query g s q

  told : (g : Setting) (a : Asking) → id_of a ≡ party → told_by (shipper_of party) g s a ≡ told_by operator g s a
  told g a e = ap (λ (n : ℕ). told_in n g s a) (granted (own (id_of a)) (ap own e))

pub granted_claim : GrantedClaim
unfolding matter_of
granted_claim party s ships =
    record {
      morning = λ g. replied party s ships g (morning_level_of party) refl;
      afternoon = λ g. replied party s ships g (afternoon_level_of party) refl;
      shown = λ g. replied party s ships g (shown_record party) refl;
      told = told party s ships;
    }
