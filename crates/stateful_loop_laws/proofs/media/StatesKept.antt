-- States of blocks stay where a past grows without an opening or an apply; and live runs go on turning then.
use Rattle.std.proofs.Common.{◌≡◌, ◌<◌, inr, ℕ, List, [], ◌∷◌, map, All, Option, Some, refl, sym, ap, ◌∙◌, subst}
use Rattle.std.proofs.lemmas.List.Elements.{All-head, All-tail, All-nil, All-cons}
use Rattle.stateful_base.specs.Names.{Named}
use Rattle.stateful_base.specs.declared.digest.Digest.{Digest}
use Rattle.stateful_base.specs.declared.outcome.Finality.TheVariants as finality
use Rattle.stateful_history.specs.Anchors.{applied, anchor_of}
use Rattle.stateful_history.specs.Jobs.{turns}
use Rattle.stateful_history.specs.Met.{Met, TrueNames}
use Rattle.stateful_history.specs.Past.{Past, Came, Made, after}
use Rattle.stateful_history.specs.Setting.{Setting, parent_of}
use Rattle.stateful_history.specs.States.{HasState}
use Rattle.stateful_history.specs.States as states
use Rattle.stateful_history.specs.Stops.{IsRestart}
use Rattle.stateful_history.specs.declared.event.Event.{Event}
use Rattle.stateful_history.specs.declared.event.Event.TheVariants as event
use Rattle.stateful_history.specs.declared.mark.Mark.{Mark}
use Rattle.stateful_history.specs.declared.mark.Mark.TheVariants.{Began, Withdrawn}
use Rattle.stateful_exec_model.specs.Workings.{Workings}
use Rattle.stateful_exec_tables.specs.declared.tables.LiveRun.{LiveRun}
use Rattle.stateful_exec_laws.specs.Outstanding.{GoesOnTurning}
use Rattle.stateful_exec_laws.specs.Running.{IsRunning}
use Rattle.stateful_exec_laws.specs.Setting.{setting}
use Rattle.stateful_exec_laws.proofs.earned.Carried.{IsMild, as_before}
use Rattle.stateful_exec_laws.proofs.runs.Turned.{HasState-once}
use Rattle.stateful_loop_model.specs.Moments.{Moment}
use Rattle.stateful_loop_laws.specs.Execution.{Executes}
use Rattle.stateful_loop_laws.proofs.hands.QuietWaits.{chain-HasState}

withdrawn_mild : {B : Type 0} (fs : List ℕ) → All (λ (x : Mark B). IsMild x) (map (λ f. Withdrawn f) fs)
withdrawn_mild {B} [] = All-nil (λ (x : Mark B). IsMild x)
withdrawn_mild {B} (f ∷ fs) = All-cons (λ (x : Mark B). IsMild x) (Withdrawn f) (map (λ g. Withdrawn g) fs) tt (withdrawn_mild fs)

module _ {B C I S T : Type 0} (s : Setting B S T) where
  -- at least the same blocks were met, and the anchor and what was applied are the same
  pub record KeepsStates (p q : Past B C I) : Type 0 where
    pub met : (b : Named B) → Met s p b → Met s q b
    pub anchor : anchor_of s.header q ≡ anchor_of s.header p
    pub blocks : applied q ≡ applied p

  pub keeps-same : (p : Past B C I) → KeepsStates p p
  keeps-same p = record { met = λ b met. met; anchor = refl; blocks = refl }

  pub keeps-then : (p q r : Past B C I) → KeepsStates p q → KeepsStates q r → KeepsStates p r
  keeps-then p q r one two = record {
    met = λ b met. two.met b (one.met b met);
    anchor = two.anchor ∙ one.anchor;
    blocks = two.blocks ∙ one.blocks;
  }

  -- behind mild marks
  pub keeps-mild : (p : Past B C I) (marks : List (Mark B)) → All (λ x. IsMild x) marks → KeepsStates p (after p marks)
  keeps-mild p [] mild = keeps-same p
  keeps-mild p (mark ∷ marks) mild =
      let same = as_before s.header p mark (All-head (λ x. IsMild x) mark marks mild) in
      keeps-then p (Made mark ∷ p) (after p (mark ∷ marks)) (record { met = λ b met. inr met; anchor = same.anchor; blocks = same.blocks })
      (keeps-mild (Made mark ∷ p) marks (All-tail (λ x. IsMild x) mark marks mild))

  -- where a finalization begins, and fetches are withdrawn
  pub keeps-began : (p : Past B C I) (t : ℕ) (b : Named B) (fs : List ℕ) → KeepsStates p (after p (Began t b ∷ map (λ f. Withdrawn f) fs))
  keeps-began p t b fs =
      keeps-then p (Made (Began t b) ∷ p) (after p (Began t b ∷ map (λ f. Withdrawn f) fs))
      (record { met = λ c met. inr met; anchor = refl; blocks = refl })
      (keeps-mild (Made (Began t b) ∷ p) (map (λ f. Withdrawn f) fs) (withdrawn_mild fs))

  -- after an event, but a restart
  pub keeps-came : (p : Past B C I) (e : Event B C I) → (IsRestart e → ⊥) → KeepsStates p (Came e ∷ p)
  keeps-came p (event.Restart floor keep) on = absurd (on tt)
  keeps-came p e on = record { met = λ b met. inr met; anchor = refl; blocks = refl }

  module _ (p q : Past B C I) (k : KeepsStates p q) where
    reaches_kept : {from : Digest} {at : S} {d : Digest} {t : S} → states.Reaches s (Met s p) from at d t → states.Reaches s (Met s q) from at d t
    reaches_kept states.here = states.here
    reaches_kept (states.further {b = b} r met ne step) = states.further (reaches_kept r) (k.met b met) ne step

    -- a block's states are its states still
    pub HasState-kept : (base : S) (d : Digest) (t : S) → HasState s base p d t → HasState s base q d t
    HasState-kept base d t h = record {
      anchor = h.anchor;
      now = h.now;
      anchored = k.anchor ∙ h.anchored;
      folded = rw k.blocks h.folded;
      reached = reaches_kept h.reached;
    }

module _ {B C I P R D H G U : Type 0} (w : Workings B C I P R D H G U) (stored : ℕ → Option (Named B)) (base : w.States) where
  -- a job was turned less often than a run of the block takes turns on its parent's states, where that is told
  abbrev pub Goes : Past B C I → ℕ → Named B → Type 0
  Goes q j b = (t : w.States) → HasState (setting w stored) base q (parent_of (setting w stored) b) t → (n : ℕ)
      → w.works.run_cost finality.Candidate t b.block ≡ Some n → turns j q < n

  module _ (p : Past B C I) (m : Moment w) (x : Executes w stored base p m) (j : ℕ) (run : LiveRun B R)
      (r : IsRunning w stored p x.points m.next m.execution.state.anchor m.execution.state.cache j run) where
    -- the states of its parent
    pub parent-HasState : HasState (setting w stored) base p (parent_of (setting w stored) run.block)
        (x.points (parent_of (setting w stored) run.block)).1
    parent-HasState = subst (λ (d : Digest). HasState (setting w stored) base p d (x.points d).1) r.parent_is
        (chain-HasState w stored base p m x r.chain)

    module _ (q : Past B C I) (names : TrueNames (setting w stored) q) (k : KeepsStates (setting w stored) p q) where
      -- they are the same behind it
      pub parent-same : (t : w.States) → HasState (setting w stored) base q (parent_of (setting w stored) run.block) t
          → t ≡ (x.points (parent_of (setting w stored) run.block)).1
      parent-same t has = HasState-once (setting w stored) q names base (parent_of (setting w stored) run.block) t
          (x.points (parent_of (setting w stored) run.block)).1 has
          (HasState-kept (setting w stored) p q k base (parent_of (setting w stored) run.block)
          (x.points (parent_of (setting w stored) run.block)).1 parent-HasState)

      -- a live run goes on turning, where its job wasn't turned
      pub Goes-kept : turns j q ≡ turns j p → GoesOnTurning w stored base p j run → Goes q j run.block
      Goes-kept turned on t has n cost =
          subst (λ (i : ℕ). i < n) (sym turned) (on (x.points (parent_of (setting w stored) run.block)).1 parent-HasState n
          (ap (λ (s : w.States). w.works.run_cost finality.Candidate s run.block.block) (sym (parent-same t has)) ∙ cost))
