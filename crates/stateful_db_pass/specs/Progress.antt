-- What an answer makes of a sync.
use Rattle.std.specs.Prelude.{◌≡◌, ◌<◌, ◌≤◌, ℕ, Bool, true, false, Option, Some, None, Result, Ok}
use Rattle.std.specs.Prelude.{Err}
use Rattle.stateful_base.specs.declared.digest.Digest.{Digest}
use Rattle.stateful_base.specs.declared.target.Target.{Target}
use Rattle.stateful_types.specs.declared.response.Response.{Response}
use Rattle.stateful_db_source.specs.declared.source.ServeFault.{ServeFault}
use Rattle.stateful_db_source.specs.declared.source.ServeFault.TheVariants as serve
use Rattle.stateful_db_pass.specs.declared.fault.SyncFault.{SyncFault}
use Rattle.stateful_db_pass.specs.declared.fault.SyncFault.TheVariants as sync
use Rattle.stateful_db_pass.specs.Fetched.{Fetched, anew, is_reached, Fits, with_response, Leads}

-- a target is adopted where it ends behind the current one, and doesn't start before it
pub record IsAhead (current target : Target) : Type 0 where
  pub ends : current.end.0 < target.end.0
  pub starts : current.start.0 ≤ target.start.0

module _ {Op : Type 0} (linked : ℕ → Digest → Op → Digest) where
  -- what becomes of what is there: more is to be fetched, or all is there and leads to the root; or
  -- it leads to another one, and nothing of it stays
  pub data Settles (p : Fetched Op) : Option Target → Fetched Op → Type 0 where
    goes_on : is_reached p ≡ false → Settles p None p
    reaches : is_reached p ≡ true → Leads linked p → Settles p (Some p.target) p
    misses : is_reached p ≡ true → (Leads linked p → ⊥) → Settles p None (anew p)

module _ {Op : Type 0} (linked : ℕ → Digest → Op → Digest) (alone : Op → Bool)
    (p : Fetched Op) where
  -- what a response makes of it, and whether the target is reached then: it is taken where it is
  -- what was asked for, and else nothing stays
  pub data Takes (response : Response Op) : Option Target → Fetched Op → Type 0 where
    takes : {reached : Option Target} {next : Fetched Op}
        → Fits alone p response
        → Settles linked (with_response p response) reached next
        → Takes response reached next
    discards : (Fits alone p response → ⊥) → Takes response None (anew p)

  -- what a source's answer makes of it, and what is answered then
  pub data Progresses : Result (Response Op) ServeFault
      → Result (Option Target) SyncFault
      → Fetched Op
      → Type 0
    where
      served : {response : Response Op} {reached : Option Target} {next : Fetched Op}
          → Takes response reached next
          → Progresses (Ok response) (Ok reached) next
      wants : {response : Response Op} → Progresses (Ok response) (Err sync.OutOfMemory) p
      not_served : Progresses (Err serve.NotServed) (Ok None) p
      failed : Progresses (Err serve.Failed) (Err sync.Failed) p
      wanted : Progresses (Err serve.OutOfMemory) (Err sync.OutOfMemory) p
