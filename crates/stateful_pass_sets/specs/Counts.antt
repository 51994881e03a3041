-- What stays of the databases of a set besides their checkpoints.
use Rattle.std.specs.Prelude.{◌≡◌, ℕ, ◌≤◌, Option}
use Rattle.stateful_db.specs.Calls.{Calls}

-- the next batch ids are the same, and of each database how often it has failed, and its calls
pub record CountsStay {Ids : Type 0} (next : Ids) (counted : ℕ → ℕ) (calls : ℕ → Option Calls)
    (next_new : Ids) (counted_new : ℕ → ℕ) (calls_new : ℕ → Option Calls) : Type 0 where
  pub ids : next_new ≡ next
  pub counts : (i : ℕ) → counted_new i ≡ counted i
  pub called : (i : ℕ) → calls_new i ≡ calls i

-- the databases and their next batch ids are the same, and no count falls, nor that of a source
pub record StaysAtRest {Members Ids : Type 0} (members : Members) (next : Ids)
    (counted sourced : ℕ → ℕ) (members_new : Members) (next_new : Ids)
    (counted_new sourced_new : ℕ → ℕ) : Type 0 where
  pub same : members_new ≡ members
  pub ids : next_new ≡ next
  pub later : (i : ℕ) → counted i ≤ counted_new i
  pub sources : (i : ℕ) → sourced i ≤ sourced_new i
