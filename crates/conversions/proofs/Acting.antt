-- The converter by a party, and a party's calls on a converted book: users and trades are the same in every version, and so are rights. Assumes nothing.
use Rattle.base.specs.Basics.{◌≡◌, ◌∙◌, ap, ap₂, refl, sym, Bool, cond, Option, none, List, ℕ, suc, zero}
use Rattle.rules.specs.Book.{Book}
use Rattle.rules.specs.Queries.{Query}
use Rattle.rules.specs.Questions.{after}
use Rattle.book_format.specs.Book.{book_of}
use Rattle.book_format.specs.Questions.{book_number}
use Rattle.outputs.specs.Output.{Wrote}
use Rattle.requests.specs.Cancellation.{cancellation_in}
use Rattle.requests.specs.Request.{Act, Outcome, Request, Setting, act_of, enquiry_after, refused_given}
use Rattle.rights.proofs.Agree.{agreement_claim}
use Rattle.rights.proofs.Logged.{passed_request, stopped_request}
use Rattle.rights.proofs.Operator.{forbidden_claim, operator_claim, wrote_by}
use Rattle.rights.specs.Acting.{cancellation_by, enquiry_by, entering_number, request_by}
use Rattle.rights.specs.Party.{Matter, Party, is_shipper_in, matter_of, may_do, operator, operators, own, right_number, shipper_of}
use Rattle.rights.specs.Trades.{Asking, id_of, told_by, told_in}
use Rattle.conversions.specs.Acting.{ConversionsBy, conversion_by}
use Rattle.conversions.specs.Conversion.{about_conversion, as_version, conversion, conversion_after, converted}
use Rattle.conversions.specs.Statements.{Alike, Convertible}
use Rattle.conversions.proofs.Conversions.{book_there, cancellations_alike, conversions, enquiries_alike, levels_alike}
use Rattle.conversions.proofs.Told.{told_alike}
use Rattle.user_levels.specs.Levels.{all_levels_after, all_levels_by}

-- what the public call cites: from the number of its questions up to 26 and the contract of the inner function
pub conversion_by_lem : (actor : Party) (version : ℕ) (s out : List ℕ) {number result : ℕ} {left : List ℕ} → number ≡ entering_number actor operators s
    → Wrote (conversion_after number version s out) result left → Wrote (conversion_by actor version s out) result left
unfolding conversion_by conversion_after
conversion_by_lem actor version s out e w = wrote_by actor s (about_conversion version s out) (converted version s) out e w

-- ---- rights in a book as a version

right_as : (v : ℕ) (b : Book) (actor : Party) (m : Matter) → may_do (as_version v b) actor m ≡ may_do b actor m
unfolding may_do is_shipper_in as_version
right_as v b operator m = refl
right_as v b (shipper_of party) operators = refl
right_as v b (shipper_of party) (own id) = refl

module _ {v : ℕ} {s : List ℕ} (c : Convertible v s) where
  abbrev there : List ℕ
  there = converted v s

  entered_alike : (actor : Party) (m : Matter) → entering_number actor m there ≡ entering_number actor m s
  unfolding entering_number right_number
  entered_alike actor m =
      ap₂ (λ (n : ℕ) (b : Book). after n (λ k. k) (right_number b actor m)) ((conversions.round v s c).there.accepted ∙ sym c.accepted) (book_there c)
      ∙ ap (λ (may : Bool). after (book_number s) (λ k. k) (cond may 0 26)) (right_as v (book_of s) actor m)

  -- ---- calls, queries, whole cancellations

  -- two outcomes that are alike, by others that they are
  alike_of : {x y z w : Outcome (List ℕ)} → x ≡ z → y ≡ w → Alike v z w → Alike v x y
  alike_of e f k =
      record {
        answer = ap (λ (o : Outcome (List ℕ)). o.answer) e ∙ k.answer ∙ sym (ap (λ (o : Outcome (List ℕ)). o.answer) f);
        numbers = ap (λ (o : Outcome (List ℕ)). o.numbers) e ∙ k.numbers ∙ sym (ap (λ (o : Outcome (List ℕ)). o.numbers) f);
        bytes = ap (λ (o : Outcome (List ℕ)). o.book) e ∙ k.bytes ∙ sym (ap (λ (o : Outcome (List ℕ)). converted v o.book) f);
        log = ap (λ (o : Outcome (List ℕ)). o.log) e ∙ k.log ∙ sym (ap (λ (o : Outcome (List ℕ)). o.log) f);
      }

  requests_by : (actor : Party) (store : Option (List ℕ)) (a : Act) → Alike v (request_by actor (act_of store none a) there) (request_by actor (act_of store none a) s)
  unfolding refused_given
  requests_by actor store a = go (entering_number actor operators s) refl
    where
      asked : Request
      asked = act_of store none a

      go : (n : ℕ) → entering_number actor operators s ≡ n → Alike v (request_by actor asked there) (request_by actor asked s)
      go zero e =
          alike_of (passed_request actor asked there (entered_alike actor operators ∙ e)) (passed_request actor asked s e) (conversions.requests v s c store a)
      go (suc n) e =
          alike_of (stopped_request actor asked there n (entered_alike actor operators ∙ e)) (stopped_request actor asked s n e)
          (record { answer = refl; numbers = refl; bytes = refl; log = refl })

  enquiries_by : (actor : Party) (g : Setting) (q : Query) → enquiry_by actor g there q ≡ enquiry_by actor g s q
  enquiries_by actor g q = ap (λ (n : ℕ). enquiry_after n g there q) (entered_alike actor (matter_of q)) ∙ enquiries_alike c (entering_number actor (matter_of q) s) g q

  told_by_lem : (actor : Party) (g : Setting) (a : Asking) → told_by actor g there a ≡ told_by actor g s a
  told_by_lem actor g a = ap (λ (n : ℕ). told_in n g there a) (entered_alike actor (own (id_of a))) ∙ told_alike c (entering_number actor (own (id_of a)) s) g a

  levels_by : (actor : Party) (g : Setting) → all_levels_by actor g there ≡ all_levels_by actor g s
  levels_by actor g = ap (λ (n : ℕ). all_levels_after n g there) (entered_alike actor operators) ∙ levels_alike c (entering_number actor operators s) g

  cancellations_by : (actor : Party) (g : Setting) (id tries : ℕ) → cancellation_by actor g there id tries ≡ cancellation_by actor g s id tries
  cancellations_by actor g id tries =
      ap (λ (n : ℕ). cancellation_in n g there id tries) (entered_alike actor operators) ∙ cancellations_alike c (entering_number actor operators s) g id tries

pub conversions_by : ConversionsBy
unfolding conversion_by conversion
conversions_by =
    record {
      of_operator = λ v s out. operator_claim.output s (about_conversion v s out) (converted v s) out;
      of_shipper = λ party v s out e. (forbidden_claim party s e).write (about_conversion v s out) (converted v s) out;
      agreed = λ party v s t out e h a. (agreement_claim party s t e h a).written (about_conversion v s out) (about_conversion v t out) (converted v s) (converted v t) out;
      requests = λ v s c actor store a. requests_by c actor store a;
      enquiries = λ v s c actor g q. enquiries_by c actor g q;
      told = λ v s c actor g a. told_by_lem c actor g a;
      levels = λ v s c actor g. levels_by c actor g;
      cancellations = λ v s c actor g id tries. cancellations_by c actor g id tries;
    }
