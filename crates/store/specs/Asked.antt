-- The set that the code's struct is, and what the code ensures of a store that it asks. Assumes nothing.
use Rattle.std.specs.Prelude.{◌≡◌, Result, Ok, Err, Some, None}
use Rattle.std.specs.Prelude as std
use Rattle.base.specs.Basics.{cond, none, some, Bor, Option, List, ℕ}
use Rattle.refusals.specs.declared.Refusal.{Refusal}
use Rattle.rules.specs.Levels.{Limits, today}
use Rattle.units.specs.Limits.{as_limits, LimitsInRange}
use Rattle.store.specs.Store as model
use Rattle.store.specs.Store.{figures_of, store_number, is_none, limits_of}
use Rattle.store.specs.declared.ParameterSet.{ParameterSet}
use Rattle.units.specs.declared.Limits as code

-- the same date and figures
unfoldable pub as_set : ParameterSet → model.ParameterSet
as_set p = record { first = p.first; limits = as_limits p.limits }

-- the bytes that a call is given, or none
abbrev pub lent : std.Option (Bor (List ℕ)) → Option (List ℕ)
lent (Some bytes) = some bytes.now
lent None = none

-- a number and figures by the set in force: 17 and today's where there is none
pub record ByForce (force : Option model.ParameterSet) (number : ℕ) (limits : Limits) : Type 0 where
  pub asked : number ≡ cond {A = ℕ} (is_none force) 17 0
  pub taken : limits ≡ figures_of force

-- the number and the figures of a call with this store, or none, on a book of a date
pub record ByStore (store : Option (List ℕ)) (date number : ℕ) (limits : Limits) : Type 0 where
  pub asked : number ≡ store_number store date
  pub taken : limits ≡ limits_of store date
  pub range : LimitsInRange limits

-- the figures that the opening questions give a call, today's where one of them refuses
abbrev pub figures_in : Result code.Limits Refusal → Limits
figures_in (Ok limits) = as_limits limits
figures_in (Err refusal) = today
