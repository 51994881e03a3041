-- What calls of a plan do.
use Rattle.std.proofs.Common.{◌≡◌, Bool, true, false, not, Option, Some, Result, Ok, Err, OnOk, OnErr, sym, ap, subst, ◌∙◌, refl}
use Rattle.std.specs.Prelude.{IsTrue, IsErrAnd}
use Rattle.std.proofs.lemmas.Option.{same_Some}
use Rattle.stateful_base.specs.Round.{IsLater}
use Rattle.stateful_base.specs.declared.finalization.Finalization.{Finalization}
use Rattle.stateful_base.specs.declared.number.Height.{Height}
use Rattle.stateful_base.specs.declared.digest.Digest.{Digest}
use Rattle.stateful_sync_plan.specs.Plan.{floor_of, completion_of, IsNew, IsIgnored, completed, not_later, taken, MayComplete}
use Rattle.stateful_sync_plan.specs.Laws.{Call, takes_floor, completes, changes_nothing}
use Rattle.stateful_sync_plan.specs.declared.error.PlanError.{PlanError}
use Rattle.stateful_sync_plan.specs.declared.state.SyncState.{SyncState}
use Rattle.stateful_sync_plan.specs.declared.state.SyncState.TheVariants.{InProgress, Complete}

module _ {S K C : Type 0} where
  -- beside a floor a floor is ignored exactly where its round isn't later
  pub ignored_beside : (state : Option (SyncState S K C)) (floor f : Finalization C) (later : Bool) → state ≡ Some (InProgress floor)
      → (IsTrue later → IsLater floor.round f.round) × (IsLater floor.round f.round → IsTrue later)
      → (IsTrue (not later) → IsIgnored state f) × (IsIgnored state f → IsTrue (not later))
  ignored_beside state floor f true is iff = (
    λ e. absurd cc,
    λ (i : IsIgnored state f). elim i [
      | completed height e ↦ let never = sym (ap completion_of is) ∙ e in absurd cc
      | not_later other e never ↦ absurd (never (subst (λ (g : Finalization C). IsLater g.round f.round) (same_Some floor other (sym (ap floor_of is) ∙ e)) (iff.0 refl)))
    ],
  )
  ignored_beside state floor f false is iff = (λ e. not_later floor (ap floor_of is) (λ l. let never = iff.1 l in absurd cc), λ i. refl)

  -- a floor was kept, or was not
  pub Call-floor : (Q : Type 0) (old new : Option (SyncState S K C)) (f : Finalization C) (result : Result (Unit {0}) PlanError) → IsNew old f → OnOk result (new ≡ Some (InProgress f)) → OnErr result ((new ≡ old) × Q) → Call old new
  Call-floor Q old new f (Ok done) is ok err = takes_floor f (taken is ok)
  Call-floor Q old new f (Err error) is ok err = changes_nothing err.0

  pub Call-completion : (Q : Type 0) (old new : Option (SyncState S K C)) (height : Height) (digest : Digest) (result : Result (Unit {0}) PlanError) → MayComplete old height digest
      → OnOk result (new ≡ Some (Complete height (Some digest))) → OnErr result ((new ≡ old) × Q) → Call old new
  Call-completion Q old new height digest (Ok done) may ok err = completes height digest (record { may = may; recorded = ok })
  Call-completion Q old new height digest (Err error) may ok err = changes_nothing err.0

-- a refusal that is passed on as it is
pub passed_on : (checked result : Result (Unit {0}) PlanError) (error : PlanError) → checked ≡ Err error → IsErrAnd result (λ e. e ≡ error) → checked ≡ result
passed_on checked (Ok done) error was is = absurd is
passed_on checked (Err e) error was is = was ∙ ap (λ (d : PlanError). Err d) (sym is)
