-- Finalizations that go on: their runs, their hooks and their batches.
use Rattle.std.proofs.Common.{◌≡◌, inl, inr, Bool, true, false, is_some, Option, Some, None, IfNone, ℕ, refl, sym, ◌∙◌, ap, subst}
use Rattle.stateful_base.specs.Names.{Named}
use Rattle.stateful_db.specs.declared.application.Hooked.{Hooked}
use Rattle.stateful_db.specs.declared.application.Hooked.TheVariants as hooked
use Rattle.stateful_exec_model.specs.Workings.{Workings}
use Rattle.stateful_exec_model.specs.Finalizing.{front_at, IsLeftBehind, FaultsHooksOn, FaultsObserve, memory, no_job}
use Rattle.stateful_exec_tables.specs.declared.error.ExecError.{ExecError}
use Rattle.stateful_exec_model.specs.declared.front.Front.{Front}
use Rattle.stateful_exec_model.specs.declared.front.Stage.{Stage}

pub at_none : {X N : Type 0} {o : Option X} → o ≡ None → IfNone o N → N
at_none {N = N} is h = subst (λ o. IfNone o N) is h

-- a front of this stage
pub at_stage : {B R U H : Type 0} {front : Option (Front B R U H)} (f : Front B R U H) (stage : Stage R U H) → front ≡ Some f → f.stage ≡ stage → front ≡ front_at f.block stage
at_stage f stage is come = is ∙ ap (λ s. front_at f.block s) come

-- what was left behind the block isn't done, where no hook is live
pub not_hooked : {B C I P R D H G U : Type 0} (w : Workings B C I P R D H G U) (rose : Type 0) (b : Named B) (captured : G) (m : w.kind.Members) (next_job : ℕ) (hook : Hooked H)
    → IsLeftBehind w b captured m hook → (e : ExecError) → FaultsHooksOn w hook next_job e → FaultsObserve w rose b captured m next_job e
not_hooked w rose b captured m next_job hooked.Done left e is = memory is
not_hooked w rose b captured m next_job (hooked.Pending hook) left e (inl is) = memory is
not_hooked w rose b captured m next_job (hooked.Pending hook) left e (inr full) = no_job full.0 left full.1

-- nothing is there
pub none_there : {X : Type 0} (o : Option X) (b : Bool) → b ≡ is_some o → b ≡ false → o ≡ None
none_there None b is off = refl
none_there (Some x) b is off = let no : true ≡ false = sym is ∙ off in cc
