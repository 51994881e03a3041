-- The parents of queued proposals are known or lost behind a request that is served.
use Rattle.std.proofs.Common.{◌≡◌, ◌==◌, ◌⊎◌, if◌then◌else◌, inl, inr, ℕ, Bool, true, false, List, [], ◌∷◌, All, Option, Some, sym, ap}
use Rattle.std.proofs.lemmas.List.Elements.{All-weaker}
use Rattle.stateful_base.specs.Names.{Named}
use Rattle.stateful_history.specs.Met.{Met, TrueNames}
use Rattle.stateful_history.specs.Past.{Past, Came, Made, after}
use Rattle.stateful_history.specs.Requests as requests
use Rattle.stateful_history.specs.Setting.{Setting}
use Rattle.stateful_history.specs.declared.event.Event.TheVariants.{Prepare, Propose}
use Rattle.stateful_history.specs.declared.mark.Mark.{Mark}
use Rattle.stateful_history.proofs.Marks.{Met-item, TrueNames-before_marks}
use Rattle.stateful_exec_walk.specs.declared.request.Proposal.{Proposal}
use Rattle.stateful_exec_model.specs.Workings.{Workings}
use Rattle.stateful_exec_laws.specs.Setting.{setting}
use Rattle.stateful_exec_laws.specs.Reaching.{QueueReaches}
use Rattle.stateful_exec_laws.specs.Requesting.{QueueStands}
use Rattle.stateful_exec_laws.proofs.linked.QueueLost.{QueueReaches-on}
use Rattle.stateful_exec_laws.proofs.requests.ServedMarks.{AreServedBy, calm_one}

module _ {B C I S T : Type 0} (s : Setting B S T) where
  some_parent : (b : Bool) (x r : requests.Proposal B C I) (o : Option (requests.Proposal B C I)) → (if b then Some x else o) ≡ Some r → (x ≡ r) ⊎ (o ≡ Some r)
  some_parent true x r o is = inl cc
  some_parent false x r o is = inr is

  -- the parent that a request asks to build on is a block of the history
  pub proposed-met : (p : Past B C I) (t : ℕ) (r : requests.Proposal B C I) → requests.proposed t p ≡ Some r → Met s p r.parent
  proposed-met [] t r is = cc
  proposed-met (Came (Prepare u context ancestry input) ∷ p) t r is = elim (some_parent (t == u) _ r (requests.proposed t p) is) [
    | inl own ↦ inl (inl (sym (ap (λ (x : requests.Proposal B C I). x.parent) own)))
    | inr before ↦ inr (proposed-met p t r before)
  ]
  proposed-met (Came (Propose u context ancestry input) ∷ p) t r is = elim (some_parent (t == u) _ r (requests.proposed t p) is) [
    | inl own ↦ inl (inl (sym (ap (λ (x : requests.Proposal B C I). x.parent) own)))
    | inr before ↦ inr (proposed-met p t r before)
  ]
  proposed-met (item ∷ p) t r is = Met-item s item p r.parent (proposed-met p t r is)

module _ {B C I P R D H G U : Type 0} (w : Workings B C I P R D H G U) (stored : ℕ → Option (Named B)) where
  -- so are the parents of queued proposals
  pub queue-met : (p : Past B C I) (queued : List (ℕ × Proposal B C I)) (recovered : List ℕ) → QueueStands w stored p queued recovered → All (λ e. Met (setting w stored) p e.1.ancestry.first) queued
  queue-met p queued recovered q = λ k d l. proposed-met (setting w stored) p _ _ (q.each k d l).proposes

  -- they are known or lost after the marks of a request that is served
  pub QueueReaches-served : (base : w.States) (p : Past B C I) (t : ℕ) (marks : List (Mark B)) → AreServedBy t p marks → TrueNames (setting w stored) (after p marks) → (queued : List (ℕ × Proposal B C I)) → All (λ e. Met (setting w stored) p e.1.ancestry.first) queued
      → QueueReaches w stored base p queued → QueueReaches w stored base (after p marks) queued
  QueueReaches-served base p t [] are names queued met all = all
  QueueReaches-served base p t (mark ∷ marks) are names queued met all =
      let calm = calm_one (setting w stored) p t mark are.0 in
      QueueReaches-served base (Made mark ∷ p) t marks are.1 names queued (All-weaker (λ (e : ℕ × Proposal B C I). Met (setting w stored) p e.1.ancestry.first) (λ e. Met (setting w stored) (Made mark ∷ p) e.1.ancestry.first) (λ e m. inr m) queued met)
      (QueueReaches-on w stored base p (Made mark) calm.starts_none calm.tip (TrueNames-before_marks (setting w stored) (Made mark ∷ p) marks names) queued met all)
