-- The set of databases that syncs make, and what is handed back where one isn't made.
use Rattle.std.specs.Prelude.{◌≡◌, ℕ, ◌<◌, ◌^◌, Some}
use Rattle.stateful_db.specs.Databases.{Databases, IsOpening}
use Rattle.stateful_db_pass.specs.declared.fault.SyncFault.TheVariants.{OutOfMemory}
use Rattle.stateful_passes.specs.declared.fault.SyncSetFault.{SyncSetFault}
use Rattle.stateful_pass_sets.specs.Seeking.{Seeking}

-- The databases are opened at the targets of these states, which are those of the syncs. Each has
-- its part of these states alone, as its first checkpoint.
pub record IsMade {Ids States Targets : Type 0} (d : Databases Ids States Targets)
    (made : States) (syncs : ℕ → Seeking) (next : Ids) (m : d.Members) : Type 0 where
  pub opening : IsOpening d next m (d.target_of made)
  pub states : (p : Ids × States) → d.point m ≡ Some p → p.1 ≡ made
  pub targets : (i : ℕ) → i < d.count → d.target_at (d.target_of made) i ≡ (syncs i).target
  pub places : (i : ℕ) → i < d.count → d.place m i ≡ 0

-- The database of this number isn't made, since memory is wanting. The set that is handed back is
-- closed, and stands as it does where a database of this number isn't made.
pub record IsGivenBack {Ids States Targets : Type 0} (d : Databases Ids States Targets)
    (m : d.Members) (Stands : ℕ → Type 0) (e : SyncSetFault) : Type 0 where
  pub index_is : e.index < d.count
  pub why_is : e.why ≡ OutOfMemory
  pub closed : d.Closed m
  pub stands : d.count < 2 ^ 64 → Stands e.index
