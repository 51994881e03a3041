-- What one request makes of a sync of a database of a set.
use Rattle.std.specs.Prelude.{◌≡◌, ℕ, ◌+◌, ◌<◌, ◌⊎◌, Bool, true, false, Option, Some, None}
use Rattle.std.specs.Prelude.{is_some, Result, Ok, Err, IfOk, IfSome, OnOk, IsErrAnd}
use Rattle.stateful_base.specs.Causes.{Rose}
use Rattle.stateful_base.specs.declared.target.Target.{Target}
use Rattle.stateful_db.specs.declared.database.DbCall.TheVariants.{Sync}
use Rattle.stateful_db.specs.Calls.{Calls, Tells, Passes, IsListed}
use Rattle.stateful_db_pass.specs.declared.fault.SyncFault.{SyncFault}
use Rattle.stateful_db_pass.specs.declared.fault.SyncFault.TheVariants.{InvalidTarget, Failed}
use Rattle.stateful_passes.specs.declared.fault.SyncSetFault.{SyncSetFault}
use Rattle.stateful_pass_sets.specs.Seeking.{Seeking, seek, is_reached, Needs}

-- what a call answers, without the number of the database
abbrev pub unnumbered : {T : Type 0} → Result T SyncSetFault → Result T SyncFault
unnumbered (Ok t) = Ok t
unnumbered (Err e) = Err e.why

-- what a set of one database answers: the target as a root with a range, and the number of the
-- database
abbrev pub numbered : {T : Type 0} → (T → Target) → Result (Option T) SyncFault → Result (Option Target) SyncSetFault
numbered targeted (Ok None) = Ok None
numbered targeted (Ok (Some t)) = Ok (Some (targeted t))
numbered targeted (Err why) = Err (record { index = 0; why = why })

-- both lead to the same target, by the same kind of requests
pub record IsSameKind (s t : Seeking) : Type 0 where
  pub target : t.target ≡ s.target
  pub fetches : t.fetches ≡ s.fetches

-- What an answer leaves of a sync that lacked so many requests, and whether the target is reached
-- then. What is there stays; or more is to be fetched, by one request less; or that was the last,
-- and the target is reached; or nothing of it stays. That it stays only where the request isn't
-- served is said by `asks` of the set's trait, and not by `stays`.
pub data Steps (s : Seeking) (n : ℕ) : Bool → Seeking → Type 0 where
  stays : Steps s n false s
  more : (m : ℕ) {t : Seeking} → 0 < m → n ≡ m + 1 → Needs t m → Steps s n false t
  last : {t : Seeking} → n ≡ 1 → is_reached t ≡ true → Steps s n true t
  anew : Steps s n false (seek s.target s.fetches)

-- What a call makes of a sync: it leads to the same target, which is answered where it is reached,
-- if it is a part of some targets; and it has made its step.
pub record Moves {Targets : Type 0} (target_at : Targets → Target) (s : Seeking)
    (result : Result (Option Target) SyncSetFault) (t : Seeking) : Type 0 where
  pub target : (targets : Targets)
      → s.target ≡ target_at targets
      → IfOk result (λ reached. IfSome reached (λ u. u ≡ s.target))
  pub reached : IfOk result (λ reached. IfSome reached (λ u. is_reached t ≡ true))
  pub same : IsSameKind s t
  pub steps : (n : ℕ) → Needs s n → IfOk result (λ reached. Steps s n (is_some reached) t)

-- Why a call that asks the source of the database of this number fails: where it is a fault, the
-- count of the source or of the database rose.
pub record IsFault (index : ℕ) (source source_new count count_new : ℕ) (e : SyncSetFault)
    : Type 0 where
  pub index_is : e.index ≡ index
  pub failed : e.why ≡ Failed → Rose source source_new ⊎ Rose count count_new
  pub valid : e.why ≡ InvalidTarget → ⊥

-- One call of the kind `Sync` was made on a database, where its calls are listed: it passed where
-- the call of the set is Ok, and where it is listed that call failed.
pub record CallsSync {T : Type 0} (before after : Option Calls) (result : Result T SyncSetFault)
    : Type 0 where
  pub told : Tells Sync before after
  pub passes : OnOk result (Passes Sync before after)
  pub listed : IfSome before (λ c. IsListed c Sync → IsErrAnd result (λ e. e.why ≡ Failed))

-- the sync of the database of this number is as before, and so are its count of faults, its calls,
-- and the count of its source
pub record IsAsBefore (i : ℕ) (syncs syncs_new : ℕ → Seeking) (counted counted_new : ℕ → ℕ)
    (calls calls_new : ℕ → Option Calls) (sourced sourced_new : ℕ → ℕ) : Type 0 where
  pub sync : syncs_new i ≡ syncs i
  pub count : counted_new i ≡ counted i
  pub called : calls_new i ≡ calls i
  pub source : sourced_new i ≡ sourced i
