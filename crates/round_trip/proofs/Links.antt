-- As specs/Links.antt states it: a part of the length that is asked for makes the contract of the C interface that of the public call. Assumes nothing.
use Rattle.base.specs.Basics.{◌≡◌, ◌∙◌, ap, refl, subst, sym, Bool, cond, not, Option, some, List, ℕ, ◌≤◌, suc, zero, T, get_or, length, eq-eqb, ne_eqb}
use Rattle.book_format.specs.Book.{trades_of}
use Rattle.exports.specs.Answers.{Answered}
use Rattle.exports.specs.Lent.{by_length}
use Rattle.exports_answers.specs.Numbers.{run_numbers}
use Rattle.fields.specs.Field.{AllBytes}
use Rattle.requests.specs.Logged.{lent_log}
use Rattle.requests.specs.Request.{call, Outcome, Request, act_of, refused_given, request}
use Rattle.rights.proofs.Logged.{passed_request, stopped_request}
use Rattle.rights.specs.Acting.{entering_number, request_by}
use Rattle.rights.specs.Party.{Party, operators}
use Rattle.rules.specs.Calls.{Answer, cuttable, run}
use Rattle.round_trip.specs.Links.{LinksInC, Made, NotMade, RunLengthInC}
use Rattle.sequence.proofs.Acting.{contracts_link_by, run_length_by}
use Rattle.sequence.proofs.RunLength.{run_leaves_log}
use Rattle.sequence.specs.Links.{accepted_number}

-- by the length of a part: the one where it is that which is asked for, the other where it is not
of_length : {A : Type 0} (n : ℕ) (part : List ℕ) (given other : A) → length part ≡ n → by_length n part given other ≡ given
unfolding by_length
of_length n part given other e = ap (λ (b : Bool). cond b given other) (eq-eqb (length part) n e)

of_other : {A : Type 0} (n : ℕ) (part : List ℕ) (given other : A) → (length part ≡ n → ⊥) → by_length n part given other ≡ other
unfolding by_length
of_other n part given other e = ap (λ (b : Bool). cond b given other) (ne_eqb (length part) n e)

module _ {n result : ℕ} {numbers : Answer → List ℕ} {actor : Party} {r : Request} {s t part after l m : List ℕ} (k : Answered n numbers actor r s part result after t l m) where
  -- of the length that is asked for
  made : length part ≡ n → Made numbers actor r s t after l m result (request_by actor r s).answer
  made e =
      record {
        number = k.answer.number ∙ of_length n part _ _ e;
        told = k.answer.part ∙ of_length n part _ _ e;
        logged = record { carried = record { answer = refl; bytes = k.book ∙ of_length n part _ _ e }; log = k.log ∙ of_length n part _ _ e };
      }

  -- of another
  not_made : (length part ≡ n → ⊥) → NotMade s t part after l m result
  not_made e =
      record {
        number = k.answer.number ∙ of_other n part _ _ e;
        told = k.answer.part ∙ of_other n part _ _ e;
        book = k.book ∙ of_other n part _ _ e;
        log = k.log ∙ of_other n part _ _ e;
      }

pub links_in_c : (store : Option (List ℕ)) → LinksInC store
links_in_c store =
    record {
      posting_links = λ lent number k rest. (contracts_link_by store).carried_links lent k rest;
      list_links = λ lent k rest. (contracts_link_by store).posted_links lent k rest;
      call_links = λ {n} {result} {numbers} {actor} {s} {t} {part} lent k e. let p = made k e in record { made = p; linked = λ rest. (contracts_link_by store).carried_links lent p.logged rest };
      withdrawal_links = λ k e. let p = made k e in record { made = p; linked = λ rest. (contracts_link_by store).withdrawn_links p.logged rest };
      other_length = λ k e. not_made k e;
    }

module _ (store : Option (List ℕ)) {log : Option (List ℕ)} {result : ℕ} {actor : Party} {s t part after l m : List ℕ} (k : Answered 3 run_numbers actor (act_of store log (call run)) s part result after t l m) (e : length part ≡ 3) where
  -- the reductions are the first number that is stored
  first_told : get_or after 0 0 ≡ (request_by actor (act_of store log (call run)) s).answer.reductions
  unfolding run_numbers
  first_told = ap (λ (xs : List ℕ). get_or xs 0 0) (made k e).told

-- a run that reports none leaves a given log, whoever asks for it: one that is stopped leaves it, one past 26 is the run without a party
log_stays : (store : Option (List ℕ)) (actor : Party) (l s : List ℕ) → AllBytes l → AllBytes s → let x = request_by actor (act_of store (some l) (call run)) s in x.answer.reductions ≡ 0 → x.log ≡ some l
unfolding refused_given
log_stays store actor l s c b = go (entering_number actor operators s) refl
  where
    run_of : Request
    run_of = act_of store (some l) (call run)

    go : (n : ℕ) → entering_number actor operators s ≡ n → (request_by actor run_of s).answer.reductions ≡ 0 → (request_by actor run_of s).log ≡ some l
    go zero e z =
        let h = passed_request actor run_of s e in
        ap (λ (o : Outcome (List ℕ)). o.log) h ∙ (run_leaves_log store).leaves {a = (request run_of s).answer} c b (record { answer = refl; bytes = refl }) (sym (ap (λ (o : Outcome (List ℕ)). o.answer.reductions) h) ∙ z)
    go (suc n) e z = ap (λ (o : Outcome (List ℕ)). o.log) (stopped_request actor run_of s n e)

pub run_length_in_c : (store : Option (List ℕ)) → RunLengthInC store
unfolding lent_log
run_length_in_c store =
    record {
      most = λ {log} {result} {actor} {s} {t} {part} {after} k e. subst (λ (i : ℕ). i ≤ cuttable (trades_of s)) (sym (first_told store k e)) ((run_length_by store log).most (made k e).logged.carried);
      none = λ {log} {result} {actor} b k e z. (run_length_by store log).none b (made k e).logged.carried (sym (first_told store k e) ∙ z);
      log = λ {result} {actor} {s} {t} {part} {after} {l} c b k e z.
          (made k e).logged.log ∙ ap (λ (o : Option (List ℕ)). lent_log o l) (log_stays store actor l s c b (sym (first_told store k e) ∙ z));
      refused = λ {log} {result} {actor} k e z.
          let p = made k e in let q = (run_length_by store log).refused p.logged.carried (subst (λ (i : ℕ). T (not (accepted_number (call run) i))) p.number z) in
          (first_told store k e ∙ q.0, q.1);
    }
