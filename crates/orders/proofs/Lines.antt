-- The lines of a list whose places all hold 0 are accepted postings one after the other, so that their order is free too. Assumes nothing.
use Rattle.base.specs.Basics.{◌∙◌, ap, refl, subst, sym, Option, List, [], ◌∷◌, map, ℕ, T, eqb, length}
use Rattle.book_format.specs.Questions.{book_number}
use Rattle.base.proofs.Tests.{and_i, and_l, and_r}
use Rattle.orders.proofs.Main.{order_posts, same_end}
use Rattle.orders.specs.Orders.{Apart, InList, LinesOrderFree, Posting, acts_of, call_of}
use Rattle.requests.proofs.Accepted.{accepted_lines}
use Rattle.requests.specs.Request.{call, Act, act_by, act_in, as_bytes, lines_in, outcome, request_in, request_of, setting_of, step_in}
use Rattle.base.specs.Lists.{all}
use Rattle.sequence.specs.Links.{Link, accepted_number, ended, is_accepted, then}
use Rattle.rules.specs.Questions.{after}

module _ (store : Option (List ℕ)) where
  -- a line as a posting of its own
  unfoldable linked : List ℕ → Posting → Link
  linked s p = record { asked = request_of store (call_of p); given = s; gave = outcome (step_in as_bytes (book_number s) (setting_of store) s (call_of p)) }

  -- the lines, each given 0
  lines_apart : (ps : List Posting) (s : List ℕ) → T (all (λ n. eqb n 0) (lines_in as_bytes (setting_of store) s (map (λ p. p.id) ps) (map (λ p. p.area) ps) (map (λ p. p.amount) ps)).numbers)
      → Apart store s ps (lines_in as_bytes (setting_of store) s (map (λ p. p.id) ps) (map (λ p. p.area) ps) (map (λ p. p.amount) ps)).book
  unfolding lines_in all is_accepted accepted_number acts_of call_of linked request_in act_by act_in outcome
  lines_apart [] s t = record { links = []; order = record { linked = ended; acts = refl }; accepted = tt }
  lines_apart (p ∷ ps) s t =
      let l = linked s p in
      let n = eqb l.gave.answer.number 0 in
      let next = lines_in as_bytes (setting_of store) l.gave.book (map (λ q. q.id) ps) (map (λ q. q.area) ps) (map (λ q. q.amount) ps) in
      let rest = lines_apart ps l.gave.book (and_r n (all (λ m. eqb m 0) next.numbers) t) in
      record {
        links = l ∷ rest.links;
        order = record {
          linked = then refl refl (record { answer = refl; bytes = refl }) refl refl rest.order.linked;
          acts = ap (λ (rs : List Act). call (call_of p) ∷ rs) rest.order.acts;
        };
        accepted = and_i n (all is_accepted rest.links) (and_l n (all (λ m. eqb m 0) next.numbers) t) rest.accepted;
      }

  list_apart : {s t places left : List ℕ} {ps : List Posting} → InList store s ps places t left → Apart store s ps t
  unfolding after
  list_apart {s} {t} {places} {left} {ps} l =
      let ids = map (λ p. p.id) ps in
      let areas = map (λ p. p.area) ps in
      let amounts = map (λ p. p.amount) ps in
      let e = accepted_lines store l.log ids areas amounts (length places) s (sym l.posted.logged.carried.answer) in
      subst (Apart store s ps) (sym (l.posted.logged.carried.bytes ∙ e.0))
      (lines_apart ps s (subst (λ (ns : List ℕ). T (all (λ m. eqb m 0) ns)) (l.posted.beside ∙ e.1) l.zeros))

  pub lines_order_free : LinesOrderFree store
  lines_order_free =
      record {
        posts = λ {s} {t} {u} {places} {left} {ps} {qs} l m. let x = list_apart l in order_posts store x.order x.accepted m;
        apart = list_apart;
        lists = λ {s} {t} {u} {places} {left} {others} {gave} {ps} {qs} d l m.
            let x = list_apart l in
            let y = list_apart m in
            same_end store ps qs {ls = x.links} {ms = y.links} d x.order x.accepted y.order y.accepted;
        calls = λ {s} {t} {u} {places} {left} {ps} {qs} {ms} d l o a.
            let x = list_apart l in
            same_end store ps qs {ls = x.links} {ms = ms} d x.order x.accepted o a;
      }
