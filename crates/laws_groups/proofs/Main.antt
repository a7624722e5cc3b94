-- The laws of groups, as specs/Statements.antt has them. Assumes nothing.
use Rattle.base.specs.Basics.{◌≡◌, refl, ap, ◌∙◌, Bool, true, false, not, ◌&&◌, List, [], ◌∷◌, ℕ, ◌<◌, T, eqb, eqb→eq, ltb}
use Rattle.base.proofs.Tests.{all_by, and_i, and_l, and_r, fails}
use Rattle.base.specs.Lists.{all}
use Rattle.laws.proofs.Managers.{manager_at}
use Rattle.laws.proofs.Members.{bought_members, members_sum, sold_members}
use Rattle.laws.proofs.Sound.{sound}
use Rattle.laws.proofs.Users.{known-id}
use Rattle.laws.specs.Sound.{Sound}
use Rattle.laws_sales.proofs.Alone.{own_risk}
use Rattle.rules.specs.Bearers.{as_borne, bearer, borne, borne_sum}
use Rattle.rules.specs.Book.{Book, User, at, bought, find, manager_in, sold}
use Rattle.rules.specs.Levels.{holding, sells}
use Rattle.rules.specs.Questions.{groups_valid, managers_are_valid}
use Rattle.laws_groups.proofs.Nothing.{bears_nobody, found_managers, sum_none, sum_ℤ_none}
use Rattle.laws_groups.specs.Statements.{InsideIsNobodys, ManagedCountsNothing, SumsOfMembers, WithoutManagers, nothing_held}

pub sums_of_members : SumsOfMembers
unfolding holding
sums_of_members = record { sells = λ b u area t. sold_members b (sound b t) u.party.id area 0; buys = λ b u area t. bought_members b (sound b t) u.party.id area 0 }

pub without_managers : WithoutManagers
without_managers = record { own = λ b t e. own_risk b (sound b t) e }

pub inside_is_nobodys : InsideIsNobodys
unfolding sells
inside_is_nobodys = record { nobodys = λ b u t e. rw e (neither (eqb (as_borne b.users t).terms.seller u.party.id)) }
  where
    neither : (c : Bool) → (c && not c) ≡ false
    neither true = refl
    neither false = refl

-- two tests of every element
all-and : (p q : User → Bool) (vs : List User) → T (all p vs) → T (all q vs) → T (all (λ v. p v && q v) vs)
unfolding all
all-and p q [] h k = tt
all-and p q (v ∷ vs) h k =
    and_i (p v && q v) (all (λ w. p w && q w) vs) (and_i (p v) (q v) (and_l (p v) (all p vs) h) (and_l (q v) (all q vs) k)) (all-and p q vs (and_r (p v) (all p vs) h) (and_r (q v) (all q vs) k))

-- no user's bearer there is the managed one
nobody_bears : (b : Book) → Sound b → (id area : ℕ) → area < 3 → (manager_in (find b.users id).party.managers area ≡ 0 → ⊥) → T (all (λ v. not (eqb (bearer v area) id)) b.users)
unfolding groups_valid
nobody_bears b s id area l managed =
    let us = b.users in
    let version = b.header.version in
    let found : User → Bool = λ v. ltb 0 v.party.id && eqb (manager_in v.party.managers area) (manager_in (find us v.party.id).party.managers area) in
    all_by (λ v. managers_are_valid version us v && found v) (λ v. not (eqb (bearer v area) id))
    (λ v h.
    let valid = and_l (managers_are_valid version us v) (found v) h in
    let there = and_r (managers_are_valid version us v) (found v) h in
    fails (bears_nobody version us area id managed v (manager_at version us v area l valid)
    (eqb→eq (manager_in v.party.managers area) (manager_in (find us v.party.id).party.managers area) (and_r (ltb 0 v.party.id) _ there))))
    us (all-and (managers_are_valid version us) found us s.groups (found_managers area us 0 s.ids))

pub managed_counts_nothing : ManagedCountsNothing
unfolding holding nothing_held borne_sum members_sum
managed_counts_nothing = record {
  nothing = λ b id area t k l managed.
      let s = sound b t in
      let us = b.users in
      let who = (find us id).party.id in
      let is = known-id us id k in
      let none = nobody_bears b s id area l managed in
      let p = ap (λ (n : ℕ). borne_sum (λ v. v.physical) us n area) is ∙ sum_ℤ_none (λ v. eqb (bearer v area) id) (λ v. at v.physical area) us none in
      let z = ap (λ (n : ℕ). borne_sum (λ v. v.position) us n area) is ∙ sum_ℤ_none (λ v. eqb (bearer v area) id) (λ v. at v.position area) us none in
      let sells : (day : ℕ) → sold (borne b) who area day ≡ 0
      = λ day. ap (λ (n : ℕ). sold (borne b) n area day) is ∙ sold_members b s id area day ∙ sum_none (λ v. eqb (bearer v area) id) (λ v. sold b.trades v.party.id area day) us none in
      let buys : (day : ℕ) → bought (borne b) who area day ≡ 0
      = λ day. ap (λ (n : ℕ). bought (borne b) n area day) is ∙ bought_members b s id area day ∙ sum_none (λ v. eqb (bearer v area) id) (λ v. bought b.trades v.party.id area day) us none in
      let s0 = sells 0 in
      let s1 = sells 1 in
      let b0 = buys 0 in
      let b1 = buys 1 in
      λ i. record { physical = p i; position = z i; sold = s0 i; bought = b0 i; sold_next = s1 i; bought_next = b1 i };
}
