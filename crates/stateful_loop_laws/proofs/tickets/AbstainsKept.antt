-- A verification that waits for nothing that was begun still does behind mild marks, and after an event that is no restart.
use Rattle.std.proofs.Common.{inl, inr, ℕ, List, [], ◌∷◌, All, None, Some}
use Rattle.std.proofs.lemmas.List.Elements.{All-head, All-tail}
use Rattle.stateful_base.specs.Names.{Named}
use Rattle.stateful_history.specs.Fetches.{Abstains}
use Rattle.stateful_history.specs.Past.{Past, Came, Made, after}
use Rattle.stateful_history.specs.Setting.{Setting}
use Rattle.stateful_history.specs.Stops.{IsRestart}
use Rattle.stateful_history.specs.declared.event.Event.{Event}
use Rattle.stateful_history.specs.declared.event.Event.TheVariants.{Fetched, Restart}
use Rattle.stateful_history.specs.declared.mark.Mark.{Mark}
use Rattle.stateful_history.specs.declared.mark.Mark.TheVariants.{Opened, Converged, Began, Applied, Pruned}
use Rattle.stateful_exec_laws.proofs.earned.Carried.{IsMild}

module _ {B C I S T : Type 0} (s : Setting B S T) (t : ℕ) (b : Named B) where
  abstains_one : (p : Past B C I) (mark : Mark B) → IsMild mark → Abstains s t p b → Abstains s t (Made mark ∷ p) b
  abstains_one p (Opened anchor) mild h = absurd mild
  abstains_one p (Converged anchor) mild h = absurd mild
  abstains_one p (Began u c) mild h = absurd mild
  abstains_one p (Applied c) mild h = absurd mild
  abstains_one p (Pruned marshal target) mild h = absurd mild
  abstains_one p mark mild h = h

  pub Abstains-mild : (p : Past B C I) (marks : List (Mark B)) → All (λ x. IsMild x) marks → Abstains s t p b → Abstains s t (after p marks) b
  Abstains-mild p [] mild h = h
  Abstains-mild p (mark ∷ marks) mild h = Abstains-mild (Made mark ∷ p) marks (All-tail (λ x. IsMild x) mark marks mild)
      (abstains_one p mark (All-head (λ x. IsMild x) mark marks mild) h)

  pub Abstains-came : (p : Past B C I) (e : Event B C I) → (IsRestart e → ⊥) → Abstains s t p b → Abstains s t (Came e ∷ p) b
  Abstains-came p (Restart floor keep) on h = absurd (on tt)
  Abstains-came p (Fetched f None) on (inl was) = inl (inr was)
  Abstains-came p (Fetched f None) on (inr undecided) = inr undecided
  Abstains-came p (Fetched f (Some c)) on h = h
  Abstains-came p e on h = h
