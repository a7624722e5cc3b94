-- Ask 12 with parties, as specs/Acting.antt states it: an accepted posting or list is the operator's, and so one without a party. Assumes nothing.
use Rattle.base.specs.Basics.{◌≡◌, ◌∙◌, ap, refl, subst, sym, Option, List, [], ◌∷◌, map, cons≢nil, head-eq_of_cons-eq, tail-eq_of_cons-eq, ℕ, T}
use Rattle.base.specs.Basics.{eqb→eq, ℤ}
use Rattle.base.proofs.Tests.{and_l, and_r}
use Rattle.base.specs.Lists.{all}
use Rattle.requests.specs.Carried.{Carried}
use Rattle.requests.specs.Logged.{Posted, lent_log}
use Rattle.requests.specs.Request.{call, Act, Outcome, Request, request}
use Rattle.rights.proofs.Operator.{accepted_claim, operator-request}
use Rattle.rights.specs.Acting.{CarriedBy, request_by}
use Rattle.rights.specs.Logged.{PostedBy}
use Rattle.rights.specs.Party.{Party, operator}
use Rattle.rules.specs.Calls.{Answer, only}
use Rattle.rules.specs.Questions.{after}
use Rattle.sequence.specs.Acting.{ended_by, then_by, Deed, LinkedBy, links_of}
use Rattle.sequence.specs.Links.{ended, then, Linked, accepted_number, is_accepted}
use Rattle.orders.proofs.Lines.{lines_order_free}
use Rattle.orders.proofs.Main.{order_posts, posts_same, postings_add, same_end}
use Rattle.orders.specs.Acting.{AnyStoresBy, InListBy, InOrderBy, LinesOrderFreeBy, OrderFreeBy, PostedTwiceBy, PostingsAddBy, PostsBy, next_by, no_more_by}
use Rattle.orders.specs.Orders.{InList, InOrder, PostedTwice, Posting, Posts, acts_of, call_of, next, no_more}

-- ---- an accepted act is one without a party

module _ {actor : Party} {r : Request} {s : List ℕ} {a : Answer} {t : List ℕ} (k : CarriedBy actor r s a t) (z : a.number ≡ 0) where
  unparted : (actor ≡ operator) × (request_by actor r s ≡ request r s)
  unparted = accepted_claim.act actor r s (sym (ap (λ (x : Answer). x.number) k.answer) ∙ z)

  carried_unparted : Carried r s a t
  carried_unparted = record { answer = k.answer ∙ ap (λ (o : Outcome (List ℕ)). o.answer) unparted.1; bytes = k.bytes ∙ ap (λ (o : Outcome (List ℕ)). o.book) unparted.1 }

-- and back
carried_operator : {actor : Party} {r : Request} {s : List ℕ} {a : Answer} {t : List ℕ} → actor ≡ operator → Carried r s a t → CarriedBy actor r s a t
carried_operator {actor} {r} {s} {a} {t} e k =
    let o = operator-request r s in
    subst (λ (x : Party). CarriedBy x r s a t) (sym e)
    (record { answer = k.answer ∙ ap (λ (x : Outcome (List ℕ)). x.answer) (sym o); bytes = k.bytes ∙ ap (λ (x : Outcome (List ℕ)). x.book) (sym o) })

posted_unparted : {actor : Party} {store log : Option (List ℕ)} {ids areas : List ℕ} {amounts : List ℤ} {places s t left l m : List ℕ}
    → PostedBy actor store log ids areas amounts places s 0 t left l m → Posted store log ids areas amounts places s 0 t left l m
unfolding only
posted_unparted {actor} {store} {log} {ids} {areas} {amounts} {places} {s} {l = l} p =
    let e = (unparted p.logged.carried refl).1 in
    record {
      logged = record { carried = carried_unparted p.logged.carried refl; log = p.logged.log ∙ ap (λ (o : Outcome (List ℕ)). lent_log o.log l) e };
      beside = p.beside ∙ ap (λ (o : Outcome (List ℕ)). after 0 (λ n. places) o.numbers) e;
    }

-- ---- two postings

twice : {store other log lent : Option (List ℕ)} {earlier later : Party} {s t u : List ℕ} {id area : ℕ} {x y : ℤ} {a b : Answer}
    → PostedTwiceBy store other log lent earlier later s t u id area x y a b → PostedTwice store other log lent s t u id area x y a b
twice {a = a} {b = b} w =
    record {
      first = carried_unparted w.first w.first_accepted;
      first_accepted = w.first_accepted;
      second = carried_unparted w.second w.second_accepted;
      second_accepted = w.second_accepted;
    }

pub postings_add_by : PostingsAddBy
postings_add_by =
    record {
      sum = λ {store} {other} {log} {lent} {earlier} {later} {s} {t} {u} {id} {area} {x} {y} {a} {b} w.
          carried_operator (unparted w.first w.first_accepted).0 (postings_add.sum (twice w));
      fits = λ w. postings_add.fits (twice w);
    }

-- ---- any order

posts_unparted : {s t : List ℕ} {ps : List Posting} → PostsBy s ps t → Posts s ps t
posts_unparted no_more_by = no_more
posts_unparted (next_by {a = a} actor store log k z rest) = next store log (carried_unparted k z) z (posts_unparted rest)

pub any_stores_by : AnyStoresBy
any_stores_by = record { posts = posts_unparted; same = λ {s} {t} {u} {ps} {qs} d p q. posts_same ps qs d (posts_unparted p) (posts_unparted q) }

module _ (store : Option (List ℕ)) where
  links_unparted : {s t : List ℕ} (ps : List Posting) {ds : List Deed} → LinkedBy store s ds t → acts_of (links_of ds) ≡ map (λ p. call (call_of p)) ps → T (all is_accepted (links_of ds))
      → Linked store s (links_of ds) t
  unfolding links_of acts_of call_of all is_accepted accepted_number
  links_unparted ps ended_by e h = ended
  links_unparted [] (then_by g st k n o rest) e h = absurd (cons≢nil e)
  links_unparted (p ∷ ps) (then_by {d = d} {ds = ds} g st k n o rest) e h =
      let l = d.link in
      let q : T (accepted_number (call (call_of p)) l.gave.answer.number)
      = subst (λ (x : Act). T (accepted_number x l.gave.answer.number)) (head-eq_of_cons-eq e) (and_l (is_accepted l) (all is_accepted (links_of ds)) h) in
      let z : l.gave.answer.number ≡ 0 = eqb→eq l.gave.answer.number 0 q in
      let same = (unparted k z).1 in
      then g st (carried_unparted k z) (n ∙ ap (λ (x : Outcome (List ℕ)). x.numbers) same) (o ∙ ap (λ (x : Outcome (List ℕ)). x.log) same)
      (links_unparted ps rest (tail-eq_of_cons-eq e) (and_r (is_accepted l) (all is_accepted (links_of ds)) h))

  in_order : {s t : List ℕ} {ps : List Posting} {ds : List Deed} → InOrderBy store s ps ds t → InOrder store s ps (links_of ds) t
  in_order {ps = ps} o = record { linked = links_unparted ps o.linked o.acts o.accepted; acts = o.acts }

  in_list : {s t places left : List ℕ} {ps : List Posting} → InListBy store s ps places t left → InList store s ps places t left
  in_list l = record { log = l.log; lent = l.lent; handed = l.handed; posted = posted_unparted l.posted; zeros = l.zeros }

  pub order_free_by : OrderFreeBy store
  order_free_by =
      record {
        posts = λ {s} {t} {u} {ps} {qs} {ds} o m. order_posts store {ls = links_of ds} (in_order o) o.accepted m;
        same = λ {s} {t} {u} {ps} {qs} {ds} {es} d p q.
            same_end store ps qs {ls = links_of ds} {ms = links_of es} d (in_order p) p.accepted (in_order q) q.accepted;
      }

  pub lines_order_free_by : LinesOrderFreeBy store
  lines_order_free_by =
      let free = lines_order_free store in
      record {
        posts = λ l m. free.posts (in_list l) m;
        apart = λ l. free.apart (in_list l);
        lists = λ {s} {t} {u} {places} {left} {others} {gave} {ps} {qs} d l m. free.lists {ps = ps} {qs = qs} d (in_list l) (in_list m);
        calls = λ {s} {t} {u} {places} {left} {ps} {qs} {es} d l o. free.calls {ps = ps} {qs = qs} {ms = links_of es} d (in_list l) (in_order o) o.accepted;
      }
