-- The rules on openings and stops are kept by marks of rules, and by those by which live work ends.
use Rattle.std.proofs.Common.{◌≢◌, ◌∷◌, ◌++◌, [], inl, inr, ℕ, false, List, All, Option, Some, None}
use Rattle.std.proofs.lemmas.List.Elements.{All-head, All-tail, All-push, All-weaker}
use Rattle.stateful_base.specs.Names.{Named}
use Rattle.stateful_base.specs.declared.anchor.Anchor.{Anchor}
use Rattle.stateful_base.specs.declared.floor.Floor.{Floor}
use Rattle.stateful_history.specs.Past.{Past, Made, EachMark, after}
use Rattle.stateful_history.specs.Prunes.{PruneRule, PrunedIsDue}
use Rattle.stateful_history.specs.Restarts.{OpenedIsStored}
use Rattle.stateful_history.specs.Setting.{Setting}
use Rattle.stateful_history.specs.Stops.{IsBroken, EndsStopped, BrokeBefore, IsStopped, StopsClean, StartsClean}
use Rattle.stateful_history.specs.declared.event.Event.{Event}
use Rattle.stateful_history.specs.declared.event.Event.TheVariants.{Restart, Stop}
use Rattle.stateful_history.specs.declared.mark.Mark.{Mark}
use Rattle.stateful_history.specs.declared.mark.Mark.TheVariants.{Pruned, BarrierDone, Opened, Dropped, Stopped}
use Rattle.stateful_exec_model.specs.Workings.{Workings}
use Rattle.stateful_exec_laws.proofs.pauses.Known.{Any-found}
use Rattle.stateful_loop_laws.specs.RuleMarks.{IsOfRule}
use Rattle.stateful_actor_laws.specs.StepBehind.{IsCommittedTo}
use Rattle.stateful_actor_laws.proofs.work.Unbroken.{IsUnbroken}
use Rattle.stateful_actor_laws.proofs.work.Ends.{IsWorkEnd}

module _ {B : Type 0} where
  one_unbroken : (mark : Mark B) → IsUnbroken mark → IsBroken mark → ⊥
  one_unbroken (BarrierDone k height false) whole broke = whole
  one_unbroken mark whole broke = broke

  end_unbroken : (mark : Mark B) → IsWorkEnd mark → IsUnbroken mark
  end_unbroken (BarrierDone k height good) is = absurd is
  end_unbroken mark is = tt

module _ {B C I : Type 0} where
  each_where : (Is : Mark B → Type 0) (Rule : Past B C I → Mark B → Type 0) → ((p : Past B C I) (mark : Mark B) → Is mark → Rule p mark)
      → (p : Past B C I) (marks : List (Mark B)) → All Is marks → EachMark Rule p marks
  each_where Is Rule keeps p [] all = tt
  each_where Is Rule keeps p (mark ∷ marks) all =
      (keeps p mark (All-head Is mark marks all), each_where Is Rule keeps (Made mark ∷ p) marks (All-tail Is mark marks all))

  -- a barrier that broke before has broken before later marks
  pub BrokeBefore-after : (p : Past B C I) (marks : List (Mark B)) → BrokeBefore p → BrokeBefore (after p marks)
  BrokeBefore-after p [] broke = broke
  BrokeBefore-after p (mark ∷ marks) broke = BrokeBefore-after (Made mark ∷ p) marks (inr broke)

  start_rule : (p : Past B C I) (mark : Mark B) → IsOfRule mark → StartsClean p mark
  start_rule p (Opened anchor) is = absurd is
  start_rule p mark is = tt

  pub StartsClean-rules : (p : Past B C I) (marks : List (Mark B)) → All IsOfRule marks → EachMark StartsClean p marks
  StartsClean-rules = each_where IsOfRule StartsClean start_rule

  start_end : (p : Past B C I) (mark : Mark B) → IsWorkEnd mark → StartsClean p mark
  start_end p (Opened anchor) is = absurd is
  start_end p mark is = tt

  pub StartsClean-ends : (p : Past B C I) (marks : List (Mark B)) → All IsWorkEnd marks → EachMark StartsClean p marks
  StartsClean-ends = each_where IsWorkEnd StartsClean start_end

  -- where the event is no stop and no barrier broke, nothing has to be marked
  pub EndsStopped-unbroken : (event : Event B C I) (marks : List (Mark B)) → event ≢ Stop → All IsUnbroken marks → EndsStopped event marks
  EndsStopped-unbroken event marks other whole (inl stop) = absurd (other stop)
  EndsStopped-unbroken event marks other whole (inr broke) =
      let found = Any-found IsUnbroken IsBroken marks whole broke in
      absurd (one_unbroken found.0 found.1 found.2)

  -- no barrier breaks where a restart ends live work and opens
  pub EndsStopped-restart : (floor : Floor) (keep : List ℕ) (over : List (Mark B)) (anchor : Anchor) → All IsWorkEnd over
      → EndsStopped {B = B} {C = C} {I = I} (Restart floor keep) (over ++ Opened anchor ∷ [])
  EndsStopped-restart floor keep over anchor ends =
      EndsStopped-unbroken (Restart floor keep) (over ++ Opened anchor ∷ []) (λ is. cc)
      (All-push IsUnbroken over (Opened anchor) (All-weaker IsWorkEnd IsUnbroken end_unbroken over ends) tt)

  module _ (event : Event B C I) (all : List (Mark B)) where
    stop_rule : (p : Past B C I) (mark : Mark B) → IsOfRule mark → StopsClean event all p mark
    stop_rule p Stopped is = absurd is
    stop_rule p (Dropped t) is = absurd is
    stop_rule p mark is = tt

    pub StopsClean-rules : (p : Past B C I) (marks : List (Mark B)) → All IsOfRule marks → EachMark (StopsClean event all) p marks
    StopsClean-rules = each_where IsOfRule (StopsClean event all) stop_rule

    stop_end : IsStopped event all → (p : Past B C I) (mark : Mark B) → IsWorkEnd mark → StopsClean event all p mark
    stop_end stopped p Stopped is = absurd is
    stop_end stopped p (Dropped t) is = stopped
    stop_end stopped p mark is = tt

    pub StopsClean-ends : IsStopped event all → (p : Past B C I) (marks : List (Mark B)) → All IsWorkEnd marks
        → EachMark (StopsClean event all) p marks
    StopsClean-ends stopped = each_where IsWorkEnd (StopsClean event all) (stop_end stopped)

  module _ {S T : Type 0} (s : Setting B S T) where
    opened_rule : (event : Event B C I) (p : Past B C I) (mark : Mark B) → IsOfRule mark → OpenedIsStored s event p mark
    opened_rule (Restart floor keep) p (Opened anchor) is = absurd is
    opened_rule (Restart floor keep) p mark is = tt
    opened_rule event p (Opened anchor) is = absurd is
    opened_rule event p mark is = tt

    pub OpenedIsStored-rules : (event : Event B C I) (p : Past B C I) (marks : List (Mark B)) → All IsOfRule marks
        → EachMark (OpenedIsStored s event) p marks
    OpenedIsStored-rules event = each_where IsOfRule (OpenedIsStored s event) (opened_rule event)

    opened_end : (event : Event B C I) (p : Past B C I) (mark : Mark B) → IsWorkEnd mark → OpenedIsStored s event p mark
    opened_end (Restart floor keep) p (Opened anchor) is = absurd is
    opened_end (Restart floor keep) p mark is = tt
    opened_end event p (Opened anchor) is = absurd is
    opened_end event p mark is = tt

    pub OpenedIsStored-ends : (event : Event B C I) (p : Past B C I) (marks : List (Mark B)) → All IsWorkEnd marks
        → EachMark (OpenedIsStored s event) p marks
    OpenedIsStored-ends event = each_where IsWorkEnd (OpenedIsStored s event) (opened_end event)

    due_rule : (rule : Option (PruneRule T)) (p : Past B C I) (mark : Mark B) → IsOfRule mark → PrunedIsDue s rule p mark
    due_rule None p (Pruned marshal target) is = absurd is
    due_rule (Some rule) p (Pruned marshal target) is = absurd is
    due_rule None p mark is = tt
    due_rule (Some rule) p mark is = tt

    pub PrunedIsDue-rules : (rule : Option (PruneRule T)) (p : Past B C I) (marks : List (Mark B)) → All IsOfRule marks
        → EachMark (PrunedIsDue s rule) p marks
    PrunedIsDue-rules rule = each_where IsOfRule (PrunedIsDue s rule) (due_rule rule)

    due_end : (rule : Option (PruneRule T)) (p : Past B C I) (mark : Mark B) → IsWorkEnd mark → PrunedIsDue s rule p mark
    due_end None p (Pruned marshal target) is = absurd is
    due_end (Some rule) p (Pruned marshal target) is = absurd is
    due_end None p mark is = tt
    due_end (Some rule) p mark is = tt

    pub PrunedIsDue-ends : (rule : Option (PruneRule T)) (p : Past B C I) (marks : List (Mark B)) → All IsWorkEnd marks
        → EachMark (PrunedIsDue s rule) p marks
    PrunedIsDue-ends rule = each_where IsWorkEnd (PrunedIsDue s rule) (due_end rule)

    -- that of a stop, and of an opening
    pub PrunedIsDue-stopped : (rule : Option (PruneRule T)) (p : Past B C I) → PrunedIsDue s rule p Stopped
    PrunedIsDue-stopped None p = tt
    PrunedIsDue-stopped (Some rule) p = tt

    pub PrunedIsDue-opened : (rule : Option (PruneRule T)) (p : Past B C I) (anchor : Anchor) → PrunedIsDue s rule p (Opened anchor)
    PrunedIsDue-opened None p anchor = tt
    PrunedIsDue-opened (Some rule) p anchor = tt

    -- that of a stop
    pub OpenedIsStored-stopped : (event : Event B C I) (p : Past B C I) → OpenedIsStored s event p Stopped
    OpenedIsStored-stopped (Restart floor keep) p = tt
    OpenedIsStored-stopped event p = tt

module _ {B C I P R D H G U : Type 0} (w : Workings B C I P R D H G U) (stored : ℕ → Option (Named B)) (base : w.States) where
  commits_rule : (mark : Mark B) → IsOfRule mark → IsCommittedTo w stored base mark
  commits_rule (Opened anchor) is = absurd is
  commits_rule mark is = tt

  -- marks of rules open nothing
  pub IsCommittedTo-rules : (marks : List (Mark B)) → All IsOfRule marks → All (IsCommittedTo w stored base) marks
  IsCommittedTo-rules = All-weaker IsOfRule (IsCommittedTo w stored base) commits_rule

  commits_end : (mark : Mark B) → IsWorkEnd mark → IsCommittedTo w stored base mark
  commits_end (Opened anchor) is = absurd is
  commits_end mark is = tt

  -- neither do those by which live work ends
  pub IsCommittedTo-ends : (marks : List (Mark B)) → All IsWorkEnd marks → All (IsCommittedTo w stored base) marks
  IsCommittedTo-ends = All-weaker IsWorkEnd (IsCommittedTo w stored base) commits_end
