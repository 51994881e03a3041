-- What is still to come of the finalization that goes on.
use Rattle.std.specs.Prelude.{◌≡◌, false, Option, Some, None, List}
use Rattle.stateful_base.specs.Names.{Named}
use Rattle.stateful_base.specs.declared.digest.Digest.{Digest}
use Rattle.stateful_history.specs.Setting.{Setting}
use Rattle.stateful_history.specs.Past.{Past}
use Rattle.stateful_history.specs.Finalizations.{begun}
use Rattle.stateful_history.specs.Runs.{ran_finalized, HasToRun}
use Rattle.stateful_exec_cache.specs.Cache.{IsIn}
use Rattle.stateful_exec_cache.specs.declared.cache.Cached.{Cached}
use Rattle.stateful_exec_model.specs.declared.front.Front.{Front}
use Rattle.stateful_exec_model.specs.declared.front.Stage.{Stage}
use Rattle.stateful_exec_model.specs.declared.front.Stage.TheVariants.{Begun, Running, Ran, Advanced}
use Rattle.stateful_exec_model.specs.declared.front.Stage.TheVariants.{Hooking}

module _ {B C I S T : Type 0} (s : Setting B S T) (p : Past B C I) where
  -- no run of the block was started since its finalization began, and it has to run, unless it is
  -- cached
  pub record IsToRun {U : Type 0} (cache : List (Cached U)) (d : Digest) : Type 0 where
    pub unran : ran_finalized p ≡ false
    pub has_to : (IsIn cache d → ⊥) → HasToRun s p d

  module _ {R U H : Type 0} (cache : List (Cached U)) where
    -- the block may have to run as long as nothing was run of it, and nothing else is begun once it
    -- is applied
    abbrev pub IsDueAt : Named B → Stage R U H → Type 0
    IsDueAt b Begun = IsToRun cache b.digest
    IsDueAt b (Running j run) = Unit {0}
    IsDueAt b (Ran batch) = Unit {0}
    IsDueAt b Advanced = begun p ≡ None
    IsDueAt b (Hooking j hook) = begun p ≡ None

    abbrev pub IsDue : Option (Front B R U H) → Type 0
    IsDue None = begun p ≡ None
    IsDue (Some front) = IsDueAt front.block front.stage
