-- What the end of a run leads to, under a pause.
use Rattle.std.specs.Prelude.{◌≡◌, ◌≢◌, ◌⊎◌}
use Rattle.stateful_base.specs.Names.{Header, Named}
use Rattle.stateful_history.specs.declared.mark.How.{How}
use Rattle.stateful_history.specs.declared.mark.How.TheVariants.{Kept}
use Rattle.stateful_exec_pause.specs.Boundary.{step_by, IsRetained, Completes}
use Rattle.stateful_exec_pause.specs.declared.pause.Pause.{Pause}
use Rattle.stateful_exec_pause.specs.declared.pause.Pause.TheVariants.{Finalizing, Pruning}
use Rattle.stateful_exec_pause.specs.declared.pause.Fate.{Fate}
use Rattle.stateful_exec_pause.specs.declared.pause.Fate.TheVariants as fate

-- while a finalization goes on, a block that goes on over it is compatible once its run has ended
abbrev pub Crosses : {B : Type 0} → Header B → Named B → Pause → Pause → Type 0
Crosses header b (Finalizing old) (Finalizing new) =
    (IsRetained old (step_by header b) × Completes b.digest old new)
    ⊎ ((IsRetained old (step_by header b) → ⊥) × (new ≡ old))
Crosses header b (Finalizing old) new = ⊥
Crosses header b old new = new ≡ old

-- the block doesn't go on over the finalization of another one
abbrev pub IsGivenUp : {B : Type 0} → Header B → Pause → Named B → Type 0
IsGivenUp header (Finalizing boundary) b =
    (b.digest ≢ boundary.digest) × (IsRetained boundary (step_by header b) → ⊥)
IsGivenUp header pause b = ⊥

-- the block is being finalized, and this run of it wasn't kept
abbrev pub AwaitsBoundary : {B : Type 0} → Pause → Named B → How → Type 0
AwaitsBoundary (Finalizing boundary) b how = (b.digest ≡ boundary.digest) × (how ≢ Kept)
AwaitsBoundary pause b how = ⊥

-- what becomes of a request that waited for the run of a block, where the block is known or not
abbrev pub IsFate : {B : Type 0} → Header B → Pause → Type 0 → Named B → How → Fate → Type 0
IsFate header pause known b how fate.Invalid =
    IsGivenUp header pause b ⊎ ((AwaitsBoundary pause b how → ⊥) × (known → ⊥))
IsFate header pause known b how fate.Parked =
    AwaitsBoundary pause b how ⊎ ((pause ≡ Pruning) × known)
IsFate header pause known b how fate.GoesOn =
    (IsGivenUp header pause b → ⊥)
    × (AwaitsBoundary pause b how → ⊥)
    × (pause ≢ Pruning)
    × known
