-- What a call that asks the source makes of a sync and of its medium.
use Rattle.std.specs.Prelude.{◌≡◌, ℕ, ◌+◌, ◌<◌, ◌≤◌, ◌⊎◌, Bool, true, Option, Some, None, Result}
use Rattle.std.specs.Prelude.{Ok, Err, IfOk, IfSome, IsErrOf}
use Rattle.stateful_base.specs.Causes.{Rose}
use Rattle.stateful_base.specs.declared.digest.Digest.{Digest}
use Rattle.stateful_base.specs.declared.target.Target.{Target}
use Rattle.stateful_types.specs.declared.request.Request.{Request}
use Rattle.stateful_types.specs.declared.response.Response.{Response}
use Rattle.stateful_db.specs.declared.database.DbCall.TheVariants.{Sync}
use Rattle.stateful_db.specs.Calls.{Calls, Tells, IsListed}
use Rattle.stateful_db.specs.Disk.{Disk}
use Rattle.stateful_db_source.specs.declared.source.ServeFault.{ServeFault}
use Rattle.stateful_db_pass.specs.declared.fault.SyncFault.{SyncFault}
use Rattle.stateful_db_pass.specs.declared.fault.SyncFault.TheVariants as sync
use Rattle.stateful_db_pass.specs.Fetched.{Fetched, Fits, Leads, request, anew, with_response}
use Rattle.stateful_db_pass.specs.Fetched.{is_reached}
use Rattle.stateful_db_pass.specs.Counted.{Needs}
use Rattle.stateful_db_pass.specs.Progress.{Progresses}

-- what a sync toward this target answers, with the target as a root with a range
abbrev pub told : {T : Type 0} → Target → Result (Option T) SyncFault → Result (Option Target) SyncFault
told target (Ok None) = Ok None
told target (Ok (Some t)) = Ok (Some target)
told target (Err e) = Err e

module _ {Op : Type 0} (linked : ℕ → Digest → Op → Digest) where
  -- What a response that fits leaves of a sync that lacked so many requests, and whether the target
  -- is reached then. `p` is what is there with the response: more is to be fetched, by one request
  -- less; or that was the last, and all is there and leads to the root, or nothing of it stays.
  pub data Lessens (p : Fetched Op) (n : ℕ) : Option Target → Fetched Op → Type 0 where
    more : (m : ℕ) → 0 < m → n ≡ m + 1 → Needs p m → Lessens p n None p
    last : n ≡ 1 → Leads linked p → Lessens p n (Some p.target) p
    lost : n ≡ 1 → (Leads linked p → ⊥) → Lessens p n None (anew p)

-- The source is asked for what a sync lacks. `answer` is what it answers, and makes of the sync
-- what is there then. Where it fits, one request less is lacking.
pub record Asks {Op S : Type 0}
    (serve : S → Request → Result (Response Op) ServeFault → S → Type 0)
    (linked : ℕ → Digest → Op → Digest) (alone : Op → Bool)
    (p : Fetched Op) (source : S) (result : Result (Option Target) SyncFault)
    (q : Fetched Op) (next : S) : Type 0 where
  pub answer : Result (Response Op) ServeFault
  pub serves : serve source (request p) answer next
  pub progresses : Progresses linked alone p answer result q
  pub falls : (response : Response Op) (n : ℕ)
      → answer ≡ Ok response
      → Fits alone p response
      → Needs p n
      → IfOk result (λ reached. Lessens linked (with_response p response) n reached q)

-- A call on the medium failed, and the source wasn't asked. What is fetched stays.
pub record MediumFails {Op S : Type 0} (before after : ℕ) (p : Fetched Op) (asked : S)
    (result : Result (Option Target) SyncFault) (q : Fetched Op) (next : S) : Type 0 where
  pub rose : Rose before after
  pub fails : result ≡ Err sync.Failed
  pub fetched : q ≡ p
  pub source : next ≡ asked

-- One call of the kind `Sync` was made on a medium. Either it failed, or the source was asked.
-- Where calls are listed, it failed exactly where it is.
pub record SyncCall (before after : Option Calls) (Failed Asked : Type 0) : Type 0 where
  pub told : Tells Sync before after
  pub either : Failed ⊎ Asked
  pub listed : IfSome before (λ c. IsListed c Sync → Failed)
  pub unlisted : IfSome before (λ c. (IsListed c Sync → ⊥) → Asked)

-- A target is answered: it is the sync's, and all of its range is there and leads to its root.
pub record Reaches {Op T : Type 0} (linked : ℕ → Digest → Op → Digest) (targeted : T → Target)
    (p q : Fetched Op) (t : T) : Type 0 where
  pub target : (u : T) → p.target ≡ targeted u → t ≡ u
  pub reached : is_reached q ≡ true
  pub leads : Leads linked q

-- both lead to the same target, by the same kind of requests
pub record IsKind {Op : Type 0} (p q : Fetched Op) : Type 0 where
  pub target : q.target ≡ p.target
  pub fetches : q.fetches ≡ p.fetches

-- the checkpoints of a medium and its next batch id stay, and its count doesn't fall
pub record Stays {M S : Type 0} (disk_of : M → Disk S) (next_of : M → ℕ)
    (count_of : M → ℕ) (m n : M) : Type 0 where
  pub disk : disk_of n ≡ disk_of m
  pub next : next_of n ≡ next_of m
  pub count : count_of m ≤ count_of n

-- the target stays, and what is on the medium
pub record Keeps {Op M S : Type 0} (disk_of : M → Disk S) (next_of : M → ℕ) (count_of : M → ℕ)
    (p q : Fetched Op) (m n : M) : Type 0 where
  pub kind : IsKind p q
  pub medium : Stays disk_of next_of count_of m n

-- The source's count doesn't fall. Where a call is a fault, that count rose or the medium's; and no
-- call answers that the target isn't valid.
pub record HasCauses {T : Type 0} (source source_new count count_new : ℕ)
    (result : Result T SyncFault) : Type 0 where
  pub later : source ≤ source_new
  pub failed : IsErrOf result sync.Failed → Rose source source_new ⊎ Rose count count_new
  pub valid : IsErrOf result sync.InvalidTarget → ⊥
