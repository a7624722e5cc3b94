-- Ask 12, "Corrections in another order", with the parties of ask 9: the same of postings and lists of any parties. Assumes nothing.
use Rattle.std.specs.Prelude.{◌≡◌, ◌∷◌, ◌++◌, ◌+ℤ◌}
use Rattle.base.specs.Basics.{true, Option, List, [], Permᴰ, map, ℕ, T, eqb, ℤ}
use Rattle.base.specs.Lists.{all}
use Rattle.requests.specs.Request.{call, act_of}
use Rattle.rights.specs.Acting.{CarriedBy}
use Rattle.rights.specs.Logged.{PostedBy}
use Rattle.rights.specs.Party.{Party}
use Rattle.rules.specs.Calls.{posting, Answer, only}
use Rattle.rules.specs.Signed.{within}
use Rattle.sequence.specs.Acting.{Deed, LinkedBy, links_of}
use Rattle.sequence.specs.Links.{is_accepted}
use Rattle.orders.specs.Orders.{Apart, Posting, Posts, acts_of, call_of}

-- ---- "Two accepted postings on one user and area, one straight after the other, leave the book that a single posting of their sum leaves, and that posting is accepted too."

pub record PostedTwiceBy (store other log lent : Option (List ℕ)) (earlier later : Party) (s t u : List ℕ) (id area : ℕ) (x y : ℤ) (a b : Answer) : Type 0 where
  pub first : CarriedBy earlier (act_of store log (call (posting id area x))) s a t
  pub first_accepted : a.number ≡ 0
  pub second : CarriedBy later (act_of other lent (call (posting id area y))) t b u
  pub second_accepted : b.number ≡ 0

pub record PostingsAddBy : Type 0 where
  -- the posting of the sum, from s and with the first one's store and log, by the party of the first
  pub sum : {store other log lent : Option (List ℕ)} {earlier later : Party} {s t u : List ℕ} {id area : ℕ} {x y : ℤ} {a b : Answer}
      → PostedTwiceBy store other log lent earlier later s t u id area x y a b → CarriedBy earlier (act_of store log (call (posting id area (x +ℤ y)))) s (only 0) u
  pub fits : {store other log lent : Option (List ℕ)} {earlier later : Party} {s t u : List ℕ} {id area : ℕ} {x y : ℤ} {a b : Answer}
      → PostedTwiceBy store other log lent earlier later s t u id area x y a b → within 2000000 (x +ℤ y) ≡ true

-- ---- "For every list, any two orders of the same accepted postings, from one book with nothing between and all accepted in both, end in equal bytes."

-- accepted postings one after the other and nothing between, each by a party of its own, and with a store and a log of its own, or none
pub data PostsBy : List ℕ → List Posting → List ℕ → Type 0 where
  no_more_by : {s : List ℕ} → PostsBy s [] s
  next_by : {s t u : List ℕ} {p : Posting} {ps : List Posting} {a : Answer} (actor : Party) (store log : Option (List ℕ)) → CarriedBy actor (act_of store log (call (call_of p))) s a t
      → a.number ≡ 0 → PostsBy t ps u → PostsBy s (p ∷ ps) u

pub record AnyStoresBy : Type 0 where
  -- they are postings without a party, since an accepted posting is the operator's
  pub posts : {s t : List ℕ} {ps : List Posting} → PostsBy s ps t → Posts s ps t
  pub same : {s t u : List ℕ} {ps qs : List Posting} → Permᴰ ps qs → PostsBy s ps t → PostsBy s qs u → t ≡ u

-- postings of a sequence, all with one store
pub record InOrderBy (store : Option (List ℕ)) (s : List ℕ) (ps : List Posting) (ds : List Deed) (t : List ℕ) : Type 0 where
  pub linked : LinkedBy store s ds t
  pub acts : acts_of (links_of ds) ≡ map (λ p. call (call_of p)) ps
  pub accepted : T (all is_accepted (links_of ds))

pub record OrderFreeBy (store : Option (List ℕ)) : Type 0 where
  pub posts : {s t u : List ℕ} {ps qs : List Posting} {ds : List Deed} → InOrderBy store s ps ds t → Posts t qs u → Posts s (ps ++ qs) u
  pub same : {s t u : List ℕ} {ps qs : List Posting} {ds es : List Deed} → Permᴰ ps qs → InOrderBy store s ps ds t → InOrderBy store s qs es u → t ≡ u

-- the lines of a list
pub record InListBy (store : Option (List ℕ)) (s : List ℕ) (ps : List Posting) (places t left : List ℕ) : Type 0 where
  pub actor : Party
  pub log : Option (List ℕ)
  pub lent : List ℕ
  pub handed : List ℕ
  pub posted : PostedBy actor store log (map (λ p. p.id) ps) (map (λ p. p.area) ps) (map (λ p. p.amount) ps) places s 0 t left lent handed
  pub zeros : T (all (λ n. eqb n 0) left)

pub record LinesOrderFreeBy (store : Option (List ℕ)) : Type 0 where
  pub posts : {s t u places left : List ℕ} {ps qs : List Posting} → InListBy store s ps places t left → Posts t qs u → Posts s (ps ++ qs) u
  pub apart : {s t places left : List ℕ} {ps : List Posting} → InListBy store s ps places t left → Apart store s ps t
  pub lists : {s t u places left others gave : List ℕ} {ps qs : List Posting} → Permᴰ ps qs
      → InListBy store s ps places t left → InListBy store s qs others u gave → t ≡ u
  pub calls : {s t u places left : List ℕ} {ps qs : List Posting} {es : List Deed} → Permᴰ ps qs → InListBy store s ps places t left → InOrderBy store s qs es u → t ≡ u
