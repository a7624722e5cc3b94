-- Document 02, ask 9, in sequences: "Every call on a book gains an acting party". What is claimed of any finite sequence of requests, each by any party. Assumes nothing.
use Rattle.std.specs.Prelude.{◌≡◌, ◌∷◌, ◌≤◌}
use Rattle.base.specs.Basics.{Bool, not, Option, some, List, [], map, ℕ, T, ℤ, length}
use Rattle.base.specs.Lists.{all}
use Rattle.fields.specs.Field.{AllBytes}
use Rattle.book_format.specs.Book.{trades_of}
use Rattle.book_format.specs.Questions.{book_number}
use Rattle.log_format.specs.Fits.{start_number, started}
use Rattle.log_format.specs.Log.{count_of_entries, held_of}
use Rattle.requests.specs.Request.{call, withdrawal, act_of}
use Rattle.rights.specs.Acting.{CarriedBy, request_by}
use Rattle.rights.specs.Logged.{LoggedBy, PostedBy}
use Rattle.rights.specs.Party.{Party, operator, shipper_of}
use Rattle.rules.specs.Calls.{Answer, Call, cuttable, only, run}
use Rattle.store.specs.Store.{given}
use Rattle.sequence.specs.Claim.{Claim}
use Rattle.sequence.specs.ContractLinks.{call_link, list_link, withdrawal_link}
use Rattle.sequence.specs.Links.{Link, Linked, accepted_number}
use Rattle.sequence.specs.Logs.{Back, Handed, Written, is_withdrawal, since}

-- a request as it happened, and who made it
pub record Deed : Type 0 where
  pub actor : Party
  pub link : Link

-- From bytes s to bytes t, all requests given one store, or none, and "whatever log": each is as the contract of its public function says.
pub data LinkedBy (store : Option (List ℕ)) : List ℕ → List Deed → List ℕ → Type 0 where
  ended_by : {s : List ℕ} → LinkedBy store s [] s
  then_by : {s t : List ℕ} {d : Deed} {ds : List Deed} → d.link.given ≡ s → d.link.asked.setting.store ≡ store
      → CarriedBy d.actor d.link.asked d.link.given d.link.gave.answer d.link.gave.book
      → d.link.gave.numbers ≡ (request_by d.actor d.link.asked d.link.given).numbers
      → d.link.gave.log ≡ (request_by d.actor d.link.asked d.link.given).log
      → LinkedBy store d.link.gave.book ds t → LinkedBy store s (d ∷ ds) t

-- ---- the claim

-- the operator's requests alone
unfoldable pub also_by : Party → Link → List Link → List Link
also_by operator l ls = l ∷ ls
also_by (shipper_of party) l ls = ls

unfoldable pub operators_of : List Deed → List Link
operators_of [] = []
operators_of (d ∷ ds) = also_by d.actor d.link (operators_of ds)

-- "A forbidden act .. gives 26": the number alone, no line's number, and the bytes and the log as they were
pub record Stopped (l : Link) : Type 0 where
  pub answer : l.gave.answer ≡ only 26
  pub numbers : l.gave.numbers ≡ []
  pub bytes : l.gave.book ≡ l.given
  pub log : l.gave.log ≡ l.asked.log

pub data EachDeed : List Deed → Type 0 where
  deeds_none : EachDeed []
  deeds_also : {d : Deed} {ds : List Deed} → ((party : ℕ) → d.actor ≡ shipper_of party → Stopped d.link) → EachDeed ds → EachDeed (d ∷ ds)

-- every request of a shipper is stopped, and the others are a sequence of the operator's between the same bytes, of which all is claimed that is claimed of a sequence without
-- parties
pub record ClaimBy (store : Option (List ℕ)) (s : List ℕ) (ds : List Deed) (t : List ℕ) : Type 0 where
  pub linked : Linked store s (operators_of ds) t
  pub operators : Claim store s (operators_of ds) t
  pub shippers : EachDeed ds

-- ---- the log

-- all requests, whoever made them
unfoldable pub links_of : List Deed → List Link
links_of ds = map (λ d. d.link) ds

-- a log that is handed on, or written, by all requests is so by the operator's alone: what is said of these holds of it
pub record LogsBy (store : Option (List ℕ)) : Type 0 where
  pub handed_on : {s t l m : List ℕ} {ds : List Deed} → AllBytes s → book_number s ≡ 0 → LinkedBy store s ds t → Handed l (links_of ds) m → Handed l (operators_of ds) m
  pub written_by : {s t l m : List ℕ} {ds : List Deed} → AllBytes s → book_number s ≡ 0 → LinkedBy store s ds t → Written l (links_of ds) m → Written l (operators_of ds) m

-- and so the log theorem holds with any parties: withdrawals by shippers, which are stopped, may stand between
pub record LogBackBy (store : Option (List ℕ)) : Type 0 where
  pub back : (lent : List ℕ) {s t u m n : List ℕ} {ks ws : List Deed} → AllBytes s → book_number s ≡ 0
      → start_number lent s ≡ 0 → LinkedBy store s ks t → (w : Written (started lent s) (operators_of ks) m)
      → t ≡ held_of m → LinkedBy store t ws u → Handed m (operators_of ws) n
      → T (all (λ k. is_withdrawal k.asked.act) (operators_of ws)) → length (operators_of ws) ≡ count_of_entries m
      → Back (since s w) (operators_of ws) u n

-- ---- how long a run can be (ask 10), whoever asks for it

pub record RunLengthBy (store log : Option (List ℕ)) : Type 0 where
  pub most : {actor : Party} {s t : List ℕ} {a : Answer} → CarriedBy actor (act_of store log (call run)) s a t → a.reductions ≤ cuttable (trades_of s)
  pub none : {actor : Party} {s t : List ℕ} {a : Answer} → AllBytes s → CarriedBy actor (act_of store log (call run)) s a t → a.reductions ≡ 0 → t ≡ s
  pub refused : {actor : Party} {s t : List ℕ} {a : Answer} → CarriedBy actor (act_of store log (call run)) s a t → T (not (accepted_number (call run) a.number))
      → (a.reductions ≡ 0) × (t ≡ s)

-- ---- the contracts

-- by the contract of a public function, before any sequence from the bytes that it left
pub record ContractsLinkBy (store : Option (List ℕ)) : Type 0 where
  -- a posting, a guarantee call, a reduction and a run
  pub carried_links : {actor : Party} {s t u l m : List ℕ} {c : Call} {a : Answer} {ds : List Deed} (lent : Bool)
      → LoggedBy actor (act_of store (given lent l) (call c)) s a t l m
      → LinkedBy store t ds u → LinkedBy store s (record { actor = actor; link = call_link store lent c s a t l m } ∷ ds) u
  -- a withdrawal
  pub withdrawn_links : {actor : Party} {s t u l m : List ℕ} {a : Answer} {ds : List Deed} → LoggedBy actor (act_of store (some l) withdrawal) s a t l m
      → LinkedBy store t ds u → LinkedBy store s (record { actor = actor; link = withdrawal_link store s a t l m } ∷ ds) u
  -- a list of postings, by what stands in its places
  pub posted_links : {actor : Party} {s t u ids areas places left l m : List ℕ} {amounts : List ℤ} {number : ℕ} {ds : List Deed} (lent : Bool)
      → PostedBy actor store (given lent l) ids areas amounts places s number t left l m
      → LinkedBy store t ds u → LinkedBy store s (record { actor = actor; link = list_link store lent ids areas amounts places s number t left l m } ∷ ds) u
