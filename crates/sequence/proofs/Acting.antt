-- Any finite sequence of requests, each by any party: those of shippers change nothing, the others are a sequence of the operator's. Assumes nothing.
use Rattle.base.specs.Basics.{◌≡◌, ◌∙◌, ap, refl, subst, sym, not, true, Option, none, some, List, [], ◌∷◌, ℕ, suc, zero, ◌≤◌, arith, T, length}
use Rattle.fields.specs.Field.{AllBytes}
use Rattle.book_format.proofs.Written.{all_bytes_bytes_of}
use Rattle.book_format.specs.Book.{trades_of}
use Rattle.book_format.specs.Questions.{book_number}
use Rattle.requests.specs.Carried.{Carried}
use Rattle.requests.specs.Logged.{lent_log}
use Rattle.requests.specs.Request.{call, postings, withdrawal, Outcome, Request, act_of, lines_of, refused_given, request, setting_of}
use Rattle.rights.proofs.Logged.{passed_request, stopped_request}
use Rattle.rights.proofs.Operator.{forbidden_claim, operator-request}
use Rattle.rights.specs.Acting.{CarriedBy, entering_number, request_by}
use Rattle.rights.specs.Party.{Party, operator, operators, shipper_of}
use Rattle.rules.specs.Calls.{Answer, cuttable, only, run}
use Rattle.store.specs.Store.{given}
use Rattle.sequence.proofs.Contracts.{call_numbers_lem, list_numbers, log_left, withdrawal_numbers_lem}
use Rattle.sequence.proofs.Logs.{log_back}
use Rattle.sequence.proofs.RunLength.{run_length}
use Rattle.sequence.proofs.Sequence.{sequence}
use Rattle.sequence.specs.Acting.{deeds_also, deeds_none, ended_by, then_by, ClaimBy, ContractsLinkBy, Deed, EachDeed, LinkedBy, LogBackBy, LogsBy, RunLengthBy, Stopped, also_by, links_of, operators_of}
use Rattle.sequence.specs.ContractLinks.{call_link, list_link, withdrawal_link}
use Rattle.sequence.specs.Links.{ended, then, Link, Linked, accepted_number}
use Rattle.sequence.specs.Logs.{begun, beside, handed, kept, written, Handed, Written}

-- ---- one request

-- the operator's is one without a party
operators_carried : (l : Link) → CarriedBy operator l.asked l.given l.gave.answer l.gave.book → Carried l.asked l.given l.gave.answer l.gave.book
operators_carried l k =
    let e = operator-request l.asked l.given in
    record { answer = k.answer ∙ ap (λ (o : Outcome (List ℕ)). o.answer) e; bytes = k.bytes ∙ ap (λ (o : Outcome (List ℕ)). o.book) e }

-- and leaves bytes that pass the questions again
record Onward (t : List ℕ) : Type 0 where
  bytes : AllBytes t
  number : book_number t ≡ 0

onward : {store : Option (List ℕ)} {s t : List ℕ} {ls : List Link} → AllBytes s → book_number s ≡ 0 → Linked store s ls t → Onward t
onward b h k = let c = sequence b h k in record { bytes = subst (λ (x : List ℕ). AllBytes x) (sym c.bytes) (all_bytes_bytes_of _); number = c.accepted }

-- a shipper's is stopped
shippers_stopped : (party : ℕ) (l : Link) → book_number l.given ≡ 0
    → CarriedBy (shipper_of party) l.asked l.given l.gave.answer l.gave.book → l.gave.numbers ≡ (request_by (shipper_of party) l.asked l.given).numbers
    → l.gave.log ≡ (request_by (shipper_of party) l.asked l.given).log → Stopped l
unfolding refused_given
shippers_stopped party l h k n o =
    let e = (forbidden_claim party l.given h).act l.asked in
    record {
      answer = k.answer ∙ ap (λ (x : Outcome (List ℕ)). x.answer) e;
      numbers = n ∙ ap (λ (x : Outcome (List ℕ)). x.numbers) e;
      bytes = k.bytes ∙ ap (λ (x : Outcome (List ℕ)). x.book) e;
      log = o ∙ ap (λ (x : Outcome (List ℕ)). x.log) e;
    }

-- ---- the sequence

record Played (store : Option (List ℕ)) (s : List ℕ) (ds : List Deed) (t : List ℕ) : Type 0 where
  operators : Linked store s (operators_of ds) t
  shippers : EachDeed ds

-- no shipper is the operator
no_shipper : (party : ℕ) → operator ≡ shipper_of party → ⊥
no_shipper party e = subst (λ (a : Party). IsOperator a) e tt
  where
    IsOperator : Party → Type 0
    IsOperator operator = Unit {0}
    IsOperator (shipper_of p) = ⊥

played : {store : Option (List ℕ)} {s t : List ℕ} {ds : List Deed} → LinkedBy store s ds t → AllBytes s → book_number s ≡ 0 → Played store s ds t
unfolding operators_of also_by
played ended_by b h = record { operators = ended; shippers = deeds_none }
played {store} {s} {t} (then_by {d = d} {ds = ds} g st k n o rest) b h = go d.actor refl k n o (λ c x. played rest c x)
  where
    l : Link
    l = d.link

    -- with the request of whoever made it
    also : {a : Party} → d.actor ≡ a → Linked store s (also_by a l (operators_of ds)) t → Linked store s (also_by d.actor l (operators_of ds)) t
    also e x = subst (λ (a : Party). Linked store s (also_by a l (operators_of ds)) t) (sym e) x

    go : (a : Party) → d.actor ≡ a → CarriedBy a l.asked l.given l.gave.answer l.gave.book → l.gave.numbers ≡ (request_by a l.asked l.given).numbers
        → l.gave.log ≡ (request_by a l.asked l.given).log
        → (AllBytes l.gave.book → book_number l.gave.book ≡ 0 → Played store l.gave.book ds t) → Played store s (d ∷ ds) t
    go operator e k n o more =
        let c = operators_carried l k in
        let same = operator-request l.asked l.given in
        let w = n ∙ ap (λ (y : Outcome (List ℕ)). y.numbers) same in
        let v = o ∙ ap (λ (y : Outcome (List ℕ)). y.log) same in
        let x = onward b h (then g st c w v ended) in
        let q = more x.bytes x.number in
        record { operators = also e (then g st c w v q.operators); shippers = deeds_also (λ party f. absurd (no_shipper party (sym e ∙ f))) q.shippers }
    go (shipper_of party) e k n o more =
        let x = shippers_stopped party l (ap book_number g ∙ h) k n o in
        let same = x.bytes ∙ g in
        let q = more (subst (λ (y : List ℕ). AllBytes y) (sym same) b) (ap book_number same ∙ h) in
        record { operators = also e (subst (λ (y : List ℕ). Linked store y (operators_of ds) t) same q.operators); shippers = deeds_also (λ p f. x) q.shippers }

-- The theorem.
pub sequence_by : {store : Option (List ℕ)} {s t : List ℕ} {ds : List Deed} → AllBytes s → book_number s ≡ 0 → LinkedBy store s ds t → ClaimBy store s ds t
sequence_by b h k = let q = played k b h in record { linked = q.operators; operators = sequence b h q.operators; shippers = q.shippers }

-- ---- the log

-- a request that leaves its log leaves the one that it was given
log_same : {l n : List ℕ} {before after : Option (List ℕ)} → before ≡ some l → after ≡ some n → after ≡ before → n ≡ l
unfolding lent_log
log_same {l} e f h = ap (λ (o : Option (List ℕ)). lent_log o l) (sym f ∙ h ∙ e)

operators_handed : {l m : List ℕ} (ds : List Deed) → EachDeed ds → Handed l (links_of ds) m → Handed l (operators_of ds) m
unfolding links_of operators_of also_by
operators_handed [] deeds_none kept = kept
operators_handed {l} {m} (d ∷ ds) (deeds_also stopped each) (handed {n = n} e f w) = go d.actor stopped (operators_handed ds each w)
  where
    go : (a : Party) → ((party : ℕ) → a ≡ shipper_of party → Stopped d.link) → Handed n (operators_of ds) m → Handed l (also_by a d.link (operators_of ds)) m
    go operator x rest = handed e f rest
    go (shipper_of party) x rest = subst (λ (k : List ℕ). Handed k (operators_of ds) m) (log_same e f (x party refl).log) rest

operators_written : {l m : List ℕ} (ds : List Deed) → EachDeed ds → Written l (links_of ds) m → Written l (operators_of ds) m
unfolding links_of operators_of also_by
operators_written [] deeds_none begun = begun
operators_written {l} {m} (d ∷ ds) (deeds_also stopped each) (written {n = n} e f w) = go d.actor stopped (operators_written ds each w)
  where
    go : (a : Party) → ((party : ℕ) → a ≡ shipper_of party → Stopped d.link) → Written n (operators_of ds) m → Written l (also_by a d.link (operators_of ds)) m
    go operator x rest = written e f rest
    go (shipper_of party) x rest = subst (λ (k : List ℕ). Written k (operators_of ds) m) (log_same e f (x party refl).log) rest
operators_written {l} {m} (d ∷ ds) (deeds_also stopped each) (beside w) = go d.actor (operators_written ds each w)
  where
    go : (a : Party) → Written l (operators_of ds) m → Written l (also_by a d.link (operators_of ds)) m
    go operator rest = beside rest
    go (shipper_of party) rest = rest

pub logs_by : (store : Option (List ℕ)) → LogsBy store
logs_by store =
    record {
      handed_on = λ {s} {t} {l} {m} {ds} b h k w. operators_handed ds (played k b h).shippers w;
      written_by = λ {s} {t} {l} {m} {ds} b h k w. operators_written ds (played k b h).shippers w;
    }

pub log_back_by : (store : Option (List ℕ)) → LogBackBy store
log_back_by store =
    record {
      back = λ lent {s} {t} {u} {m} {n} {ks} {ws} b h started k w held j handing each count.
          let first = (played k b h).operators in
          let x = onward b h first in
          (log_back store).back lent b h started first w held (played j x.bytes x.number).operators handing each count;
    }

-- ---- the request without a party, or its refusal

module _ (actor : Party) (r : Request) (s : List ℕ) where
  -- what holds of the request without a party and of its refusal holds of the request by a party
  either : (P : Outcome (List ℕ) → Type 0) → P (request r s) → ((n : ℕ) → P (refused_given r.log s (suc n))) → P (request_by actor r s)
  either P passed stopped = go (entering_number actor operators s) refl
    where
      go : (n : ℕ) → entering_number actor operators s ≡ n → P (request_by actor r s)
      go zero e = subst P (sym (passed_request actor r s e)) passed
      go (suc n) e = subst P (sym (stopped_request actor r s n e)) (stopped n)

-- ---- how long a run can be

module _ (store log : Option (List ℕ)) (actor : Party) (s : List ℕ) where
  abbrev running : Request
  running = act_of store log (call run)

  run_most : (request_by actor running s).answer.reductions ≤ cuttable (trades_of s)
  unfolding refused_given only
  run_most =
      either actor running s (λ o. o.answer.reductions ≤ cuttable (trades_of s)) ((run_length store log).most (record { answer = refl; bytes = refl })) (λ n. omega arith)

  run_none : AllBytes s → (request_by actor running s).answer.reductions ≡ 0 → (request_by actor running s).book ≡ s
  unfolding refused_given
  run_none b =
      either actor running s (λ o. o.answer.reductions ≡ 0 → o.book ≡ s) ((run_length store log).none b (record { answer = refl; bytes = refl })) (λ n e. refl)

  run_refused : T (not (accepted_number (call run) (request_by actor running s).answer.number))
      → ((request_by actor running s).answer.reductions ≡ 0) × ((request_by actor running s).book ≡ s)
  unfolding refused_given only
  run_refused =
      either actor running s (λ o. T (not (accepted_number (call run) o.answer.number)) → (o.answer.reductions ≡ 0) × (o.book ≡ s))
      ((run_length store log).refused (record { answer = refl; bytes = refl })) (λ n e. (refl, refl))

pub run_length_by : (store log : Option (List ℕ)) → RunLengthBy store log
run_length_by store log =
    record {
      most = λ {actor} {s} {t} {a} k. subst (λ (x : Answer). x.reductions ≤ cuttable (trades_of s)) (sym k.answer) (run_most store log actor s);
      none = λ {actor} {s} {t} {a} b k e. k.bytes ∙ run_none store log actor s b (sym (ap (λ (x : Answer). x.reductions) k.answer) ∙ e);
      refused = λ {actor} {s} {t} {a} k e.
          let x = run_refused store log actor s (subst (λ (y : Answer). T (not (accepted_number (call run) y.number))) k.answer e) in
          (ap (λ (y : Answer). y.reductions) k.answer ∙ x.0, k.bytes ∙ x.1);
    }

-- ---- the contracts

pub contracts_link_by : (store : Option (List ℕ)) → ContractsLinkBy store
unfolding call_link withdrawal_link list_link given
contracts_link_by store =
    let g = setting_of store in
    record {
      carried_links = λ {actor} {s} {t} {u} {l} {m} {c} {a} {ds} lent k rest.
          let n = entering_number actor operators s in
          then_by refl refl k.carried (call_numbers_lem n g (given lent l) s c) (log_left n g lent s (call c) l k.log) rest;
      withdrawn_links = λ {actor} {s} {t} {u} {l} {m} {a} {ds} k rest.
          let n = entering_number actor operators s in
          then_by refl refl k.carried (withdrawal_numbers_lem n g l s) (log_left n g true s withdrawal l k.log) rest;
      posted_links = λ {actor} {s} {t} {u} {ids} {areas} {places} {left} {l} {m} {amounts} {number} {ds} lent p rest.
          let n = entering_number actor operators s in
          let v = lines_of ids areas amounts (length places) in
          then_by refl refl p.logged.carried (list_numbers n g (given lent l) s v number places p.logged.carried.answer p.beside)
          (log_left n g lent s (postings v) l p.logged.log) rest;
    }
