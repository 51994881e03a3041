-- The call that a sync makes on its medium.
use Rattle.std.proofs.Common.{◌≡◌, ℕ, inl, inr, Some, Result, Err, refl, arith}
use Rattle.stateful_base.specs.Causes.{Rose}
use Rattle.stateful_db.specs.declared.database.DbCall.TheVariants.{Sync}
use Rattle.stateful_db.specs.Calls.{Calls, Called, IsListed}
use Rattle.stateful_db_pass.specs.declared.fault.SyncFault.{SyncFault}
use Rattle.stateful_db_pass.specs.declared.fault.SyncFault.TheVariants.{Failed, InvalidTarget}
use Rattle.stateful_db_pass.specs.Fetched.{Fetched}
use Rattle.stateful_passes.specs.Asks.{SyncCall, MediumFails, HasCauses}

-- where it is listed it fails
pub listed_call : {Op S Asked : Type 0} (before after : Calls) (p : Fetched Op) (source : S)
    → Called Sync before after
    → IsListed before Sync
    → Rose before.faults after.faults
    → SyncCall (Some before) (Some after)
    (MediumFails before.faults after.faults p source (Err Failed) p source) Asked
listed_call before after p source called is rose = record {
  told = called;
  either = inl failed;
  listed = λ _. failed;
  unlisted = λ isnt. absurd (isnt is);
}
  where
    failed : MediumFails before.faults after.faults p source (Err Failed) p source
    failed = record { rose = rose; fails = refl; fetched = refl; source = refl }

-- where it isn't the source is asked
pub unlisted_call : {Failed Asked : Type 0} (before after : Calls)
    → Called Sync before after
    → (IsListed before Sync → ⊥)
    → Asked
    → SyncCall (Some before) (Some after) Failed Asked
unlisted_call before after called isnt asked = record {
  told = called;
  either = inr asked;
  listed = λ is. absurd (isnt is);
  unlisted = λ _. asked;
}

other_fault : {T : Type 0} (r : Result T SyncFault) → r ≡ Err Failed → r ≡ Err InvalidTarget → ⊥
other_fault r failed invalid = cc

-- the count of the medium rose, and the source has nothing to do with it
pub listed_causes : {T : Type 0} (source before after : ℕ)
    → Rose before after
    → HasCauses {T = T} source source before after (Err Failed)
listed_causes source before after rose = record {
  later = omega arith;
  failed = λ _. inr rose;
  valid = λ is. other_fault (Err Failed) refl is;
}
