-- `of_store` returns 16 where the form or the sets of the store are not as they should be, and goes by the set in force where they are. Assumes nothing.
use Rattle.base.specs.Basics.{◌≡◌, refl, sym, ◌∙◌, true, List, ℕ, arith}
use Rattle.store.specs.Store.{set_count, store_formed, store_valid}
use Rattle.store.proofs.Ways.{formed_room, store_16, store_by_force, unformed, formed_by_sets}
use Rattle.store.proofs.of_store.Goals as goal
use Rattle.store.proofs.of_store.Goals.{After-get_u8-n, After-is_formed, After-sets_valid, Else-not-is_formed}

abbrev bytes : goal.After-is_formed → List ℕ
bytes c = c.args.s.now

is-formed : (c : goal.Else-not-is_formed) → store_formed (bytes (goal.at.Else-not-is_formed c).After-is_formed) ≡ true
is-formed c = sym c.is_formed.ensures ∙ c.if-not-is_formed.false

-- the count that was read
count : (c : goal.After-get_u8-n) → c.get_u8-n.result ≡ set_count (bytes (goal.at.After-get_u8-n c).After-is_formed)
unfolding set_count
count c = c.get_u8-n.ensures

-- where the form is as it should be, the sets decide
by-sets : (c : goal.After-sets_valid) → store_valid (bytes (goal.at.After-sets_valid c).After-is_formed) ≡ c.sets_valid.result
by-sets c = formed_by_sets (bytes (goal.at.After-sets_valid c).After-is_formed) (is-formed (goal.at.After-sets_valid c).Else-not-is_formed) (count (goal.at.After-sets_valid c).After-get_u8-n) c.sets_valid.ensures

pub returns-then-not-is_formed : goal.returns-then-not-is_formed
returns-then-not-is_formed c = let taken = c.if-not-is_formed.true in
    store_16 (unformed (bytes (goal.at.returns-then-not-is_formed c).After-is_formed) (sym c.is_formed.ensures ∙ taken)) refl refl

pub sets_valid-requires : goal.sets_valid-requires
sets_valid-requires c = omega (arith, formed_room (bytes (goal.at.sets_valid-requires c).After-is_formed) (is-formed (goal.at.sets_valid-requires c).Else-not-is_formed), count c)

pub returns-then-not-sets_valid : goal.returns-then-not-sets_valid
returns-then-not-sets_valid c = store_16 (by-sets (goal.at.returns-then-not-sets_valid c).After-sets_valid ∙ c.if-not-sets_valid.true) refl refl

pub in_force-requires : goal.in_force-requires
in_force-requires c = omega (arith, formed_room (bytes (goal.at.in_force-requires c).After-is_formed) (is-formed (goal.at.in_force-requires c).Else-not-is_formed), count (goal.at.in_force-requires c).After-get_u8-n)

pub returns : goal.returns
returns c = store_by_force (by-sets (goal.at.returns c).After-sets_valid ∙ c.if-not-sets_valid.false) (count (goal.at.returns c).After-get_u8-n) c.in_force.ensures

pub get_u8-n-requires : goal.get_u8-n-requires
get_u8-n-requires c = omega (arith, formed_room (bytes (goal.at.get_u8-n-requires c).After-is_formed) (is-formed c))
