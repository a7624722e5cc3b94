-- A lent part of the length that is asked for holds what is stored in it; one of another length gets the number 255 and is left as it is. Assumes nothing.
use Rattle.base.specs.Basics.{◌≡◌, sym, ap, ◌∙◌, Bool, cond, List, ℕ, length, eq-eqb, ne_eqb}
use Rattle.rules.specs.Calls.{Answer}
use Rattle.requests.specs.Logged.{lent_log}
use Rattle.requests.specs.Request.{Request}
use Rattle.rights.specs.Acting.{request_by}
use Rattle.rights.specs.Logged.{LoggedBy}
use Rattle.rights.specs.Party.{Party}
use Rattle.exports.specs.Lent.{by_length, wrong_length, Given, StoredBoth}
use Rattle.exports.specs.Answers.{Answered}

module _ (n : ℕ) (lent : List ℕ) where
  -- by the length: the one where it is that of the part, the other where it is not
  pub of_length : {A : Type 0} (given other : A) → length lent ≡ n → given ≡ by_length n lent given other
  unfolding by_length
  of_length given other e = sym (ap (λ (t : Bool). cond t given other) (eq-eqb (length lent) n e))

  pub of_other : {A : Type 0} (given other : A) → (length lent ≡ n → ⊥) → other ≡ by_length n lent given other
  unfolding by_length
  of_other given other e = sym (ap (λ (t : Bool). cond t given other) (ne_eqb (length lent) n e))

  -- the part is of the length that is asked for
  pub stored : (asked : ℕ) (values before : List ℕ) (result : ℕ) (after : List ℕ) → length lent ≡ n → result ≡ asked → after ≡ values → Given n lent asked values before result after
  stored asked values before result after e number part =
      record { number = number ∙ of_length asked wrong_length e; part = part ∙ of_length values before e }

  -- it is of another length
  pub refused : (asked : ℕ) (values before : List ℕ) → (length lent ≡ n → ⊥) → Given n lent asked values before wrong_length before
  refused asked values before e = record { number = of_other asked wrong_length e; part = of_other values before e }

  -- an answer, its number and its values, was stored: what is stored is a function of what is asked for
  pub replied : {R : Type 0} (number_of_lem : R → ℕ) (numbers : R → List ℕ) (asked r : R) (result : ℕ) (after : List ℕ) → length lent ≡ n → r ≡ asked → result ≡ number_of_lem r → after ≡ numbers r
      → Given n lent (number_of_lem asked) (numbers asked) lent result after
  replied number_of_lem numbers asked r result after e reply number part = stored _ _ lent result after e (number ∙ ap number_of_lem reply) (part ∙ ap numbers reply)

  module _ (numbers : Answer → List ℕ) (actor : Party) (r : Request) (s l : List ℕ) where
    -- a call whose answer was stored
    pub answered : (a : Answer) (result : ℕ) (after t m : List ℕ) → length lent ≡ n → LoggedBy actor r s a t l m → result ≡ a.number → after ≡ numbers a → Answered n numbers actor r s lent result after t l m
    answered a result after t m e called number part =
        let made = called.carried in
        record {
          answer = stored _ _ lent result after e (number ∙ ap (λ (b : Answer). b.number) made.answer) (part ∙ ap numbers made.answer);
          book = made.bytes ∙ of_length (request_by actor r s).book s e;
          log = called.log ∙ of_length (lent_log (request_by actor r s).log l) l e;
        }

    -- a call that was not made
    pub not_called : (length lent ≡ n → ⊥) → Answered n numbers actor r s lent wrong_length lent s l l
    not_called e = record { answer = refused _ _ lent e; book = of_other (request_by actor r s).book s e; log = of_other (lent_log (request_by actor r s).log l) l e }

-- ---- two parts

module _ (n m : ℕ) (first second : List ℕ) where
  -- the first part is of another length, or the second
  pub first_refused : (asked : ℕ) (values numbers : List ℕ) → (length first ≡ n → ⊥) → StoredBoth n m first second asked values numbers wrong_length first second
  first_refused asked values numbers e = record { number = of_other n first _ wrong_length e; one = of_other n first _ first e; other = of_other n first _ second e }

  pub second_refused : (asked : ℕ) (values numbers : List ℕ) → length first ≡ n → (length second ≡ m → ⊥) → StoredBoth n m first second asked values numbers wrong_length first second
  second_refused asked values numbers e f =
      record {
        number = of_other m second _ wrong_length f ∙ of_length n first _ wrong_length e;
        one = of_other m second _ first f ∙ of_length n first _ first e;
        other = of_other m second _ second f ∙ of_length n first _ second e;
      }

  -- both are of the length that is asked for
  pub stored_both : (asked : ℕ) (values numbers : List ℕ) (result : ℕ) (first-after second-after : List ℕ) → length first ≡ n → length second ≡ m → result ≡ asked
      → first-after ≡ values → second-after ≡ numbers → StoredBoth n m first second asked values numbers result first-after second-after
  stored_both asked values numbers result first-after second-after e f number one other =
      record {
        number = number ∙ of_length m second _ wrong_length f ∙ of_length n first _ wrong_length e;
        one = one ∙ of_length m second _ first f ∙ of_length n first _ first e;
        other = other ∙ of_length m second _ second f ∙ of_length n first _ second e;
      }
