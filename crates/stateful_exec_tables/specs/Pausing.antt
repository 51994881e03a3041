-- Pauses for a finalization or a prune.
use Rattle.std.specs.Prelude.{◌≡◌, ◌↔◌, ◌+◌, ◌∷◌, [], ℕ, Option, List, map, Contains}
use Rattle.std.specs.List.Sorted.{IsStrictlySortedBy}
use Rattle.std.specs.Ordering.{nat_cmp}
use Rattle.stateful_base.specs.Names.{Header}
use Rattle.stateful_history.specs.declared.mark.Mark.{Mark}
use Rattle.stateful_exec_pause.specs.Boundary.{Boundary}
use Rattle.stateful_exec_pause.specs.Pausing.{pause_for, IsAwaited}
use Rattle.stateful_exec_tables.specs.Phase.{dropped}
use Rattle.stateful_exec_tables.specs.Fetching.{IsLiveFetch}
use Rattle.stateful_exec_tables.specs.declared.state.Tables.{Tables}
use Rattle.stateful_exec_tables.specs.declared.tables.LiveRun.{LiveRun}
use Rattle.stateful_history.specs.declared.mark.Mark.TheVariants as mark

-- so many of these have the property
pub data IsCount {T : Type 0} (P : T → Type 0) : List T → ℕ → Type 0 where
  none : IsCount P [] 0
  one : {x : T} {xs : List T} {n : ℕ} → P x → IsCount P xs n → IsCount P (x ∷ xs) (n + 1)
  other : {x : T} {xs : List T} {n : ℕ} → (P x → ⊥) → IsCount P xs n → IsCount P (x ∷ xs) n

-- how many live runs the pause waits for
abbrev pub AwaitsRuns : {B C I R U : Type 0} → Header B → Tables B C I R U → ℕ → Type 0
AwaitsRuns header v n =
    IsCount (λ (e : ℕ × LiveRun _ _). IsAwaited header v.pause e.1.block) v.runs n

-- these are the numbers of the live fetches, ascending
pub record AreFetches {B C I R U : Type 0} (v : Tables B C I R U) (fetches : List ℕ) : Type 0 where
  pub ascending : IsStrictlySortedBy nat_cmp fetches
  pub each : (f : ℕ) → Contains fetches f ↔ IsLiveFetch v f

-- Execution is paused: the live fetches are withdrawn, by ascending numbers, and what their
-- requests need is to be found anew.
pub record Pauses {B C I R U : Type 0} (boundary : Option Boundary) (old new : Tables B C I R U)
    (marks : List (Mark B)) : Type 0 where
  pub fetches : List ℕ
  pub are : AreFetches old fetches
  pub marks_are : marks ≡ map (λ f. mark.Withdrawn f) fetches
  pub state : new ≡ record old { requests = map dropped old.requests; pause = pause_for boundary }
