-- The outside calls on a database: which of them fail, and which comes next of each kind.
use Rattle.std.specs.Prelude.{◌≡◌, ◌≤◌, ℕ, ◌+◌, ◌-◌, ◌^◌, ◌⊎◌, min, List, Contains, Option, Some}
use Rattle.std.specs.Prelude.{None, IfSome}
use Rattle.std.proofs.Common.{inl, inr}
use Rattle.stateful_db.specs.declared.database.DbCall.{DbCall}
use Rattle.stateful_db.specs.declared.database.DbCall.TheVariants.{Init, Apply, Finalize, Flush}
use Rattle.stateful_db.specs.declared.database.DbCall.TheVariants.{Prune, Sync}

-- the number of the next call of each kind, from 0 on
pub record Numbers : Type 0 where
  pub init : ℕ
  pub apply : ℕ
  pub finalize : ℕ
  pub flush : ℕ
  pub prune : ℕ
  pub sync : ℕ

-- the calls that are listed as failing ones, by kind and by number, the next of each kind, and how
-- many have failed
pub record Calls : Type 0 where
  pub failing : List (DbCall × ℕ)
  pub numbers : Numbers
  pub faults : ℕ

-- no call was made yet, and those that are listed are to fail
abbrev pub uncalled : List (DbCall × ℕ) → Calls
uncalled failing = record {
  failing = failing;
  numbers = record { init = 0; apply = 0; finalize = 0; flush = 0; prune = 0; sync = 0 };
  faults = 0;
}

-- one more, up to the last number
abbrev pub risen : ℕ → ℕ
risen n = min (n + 1) (2 ^ 64 - 1)

-- the number of the next call of this kind
abbrev pub number_of : Numbers → DbCall → ℕ
number_of n Init = n.init
number_of n Apply = n.apply
number_of n Finalize = n.finalize
number_of n Flush = n.flush
number_of n Prune = n.prune
number_of n Sync = n.sync

-- the numbers behind a call of this kind
abbrev pub passed : Numbers → DbCall → Numbers
passed n Init = record n { init = risen n.init }
passed n Apply = record n { apply = risen n.apply }
passed n Finalize = record n { finalize = risen n.finalize }
passed n Flush = record n { flush = risen n.flush }
passed n Prune = record n { prune = risen n.prune }
passed n Sync = record n { sync = risen n.sync }

-- the next call of this kind is listed as one that fails
abbrev pub IsListed : Calls → DbCall → Type 0
IsListed c call = Contains c.failing (call, number_of c.numbers call)

-- one call of this kind: the list stays, and a fault is counted exactly where the call is listed
pub record Called (call : DbCall) (before after : Calls) : Type 0 where
  pub failing : after.failing ≡ before.failing
  pub numbers : after.numbers ≡ passed before.numbers call
  pub listed : IsListed before call → after.faults ≡ risen before.faults
  pub unlisted : (IsListed before call → ⊥) → after.faults ≡ before.faults

-- Of a database that doesn't list its failing calls, nothing is told.

-- one call of this kind was made
abbrev pub Tells : DbCall → Option Calls → Option Calls → Type 0
Tells call (Some before) (Some after) = Called call before after
Tells call None None = Unit {0}
Tells call _ _ = ⊥

-- one call of this kind was made, or none
abbrev pub Goes : DbCall → Option Calls → Option Calls → Type 0
Goes call before after = (after ≡ before) ⊎ Tells call before after

-- where calls are listed, the next of this kind is
abbrev pub Fails : DbCall → Option Calls → Type 0
Fails call calls = IfSome calls (λ c. IsListed c call)

-- one call of this kind was made, and wasn't listed
pub record Passes (call : DbCall) (before after : Option Calls) : Type 0 where
  pub told : Tells call before after
  pub unlisted : IfSome before (λ c. IsListed c call → ⊥)

-- where calls are listed, so many have failed
abbrev pub Counts : Option Calls → ℕ → Type 0
Counts calls n = IfSome calls (λ c. c.faults ≡ n)

-- no count rises but by a listed call
pub no_fault : (call : DbCall) (before after : Option Calls) (n m : ℕ)
    → Counts before n
    → Counts after m
    → Goes call before after
    → IfSome before (λ c. (IsListed c call → ⊥) → m ≡ n)
no_fault call None after n m was is goes = tt
no_fault call (Some c) None n m was is (inl same) = cc
no_fault call (Some c) None n m was is (inr told) = absurd told
no_fault call (Some c) (Some d) n m was is (inl same) = λ unlisted. cc
no_fault call (Some c) (Some d) n m was is (inr told) =
    λ unlisted. let same = told.unlisted unlisted in cc
