-- What each entry of a history keeps, one rule a field.
use Rattle.std.specs.Prelude.{ℕ, Option, List, ◌∷◌}
use Rattle.stateful_history.specs.Setting.{Setting}
use Rattle.stateful_history.specs.Telling.{Telling}
use Rattle.stateful_history.specs.Past.{Past, Came, after_entry, EachMark, EachNext}
use Rattle.stateful_history.specs.Honest.{IsHonest, IsAnswered}
use Rattle.stateful_history.specs.Joined.{TrueIsEarned}
use Rattle.stateful_history.specs.Reasons.{FalseHasReason}
use Rattle.stateful_history.specs.Declines.{DeclinedHasReason}
use Rattle.stateful_history.specs.Durable.{GoodIsFlushed, AcknowledgedIsDurable}
use Rattle.stateful_history.specs.Barriers.{GoodIsInOrder, BarrierIsOver}
use Rattle.stateful_history.specs.Numbers.{NumberIsNew}
use Rattle.stateful_history.specs.Syncs.{SyncsInPlace}
use Rattle.stateful_history.specs.Fetches.{AskedIsNeeded, WithdrawnHasCause}
use Rattle.stateful_history.specs.Finalizations.{FinalizesInOrder, AcknowledgedIsApplied}
use Rattle.stateful_history.specs.Runs.{StartsWell, EndsAsItsKind, CancelledHasCause}
use Rattle.stateful_history.specs.Runs.{BuildIsAnswered, RunsAreWanted}
use Rattle.stateful_history.specs.Answers.{EndsLive, AnsweredIsBuilt, NamesNoCancelled}
use Rattle.stateful_history.specs.Stops.{StopsClean, StartsClean, EndsStopped}
use Rattle.stateful_history.specs.Prunes.{PruneRule, PrunedIsDue, PendingWaits}
use Rattle.stateful_history.specs.Restarts.{OpenedIsStored}
use Rattle.stateful_history.specs.Waiting.{AllWait}
use Rattle.stateful_history.specs.declared.event.Event.{Event}
use Rattle.stateful_history.specs.declared.mark.Mark.{Mark}

module _ {B C I S T : Type 0} (s : Setting B S T) (a : Telling B C I S) (count : ℕ)
    (rule : Option (PruneRule T)) (base : S) where
  -- the rules that hold of each mark of an entry, at its place
  pub record KeepsRules (p : Past B C I) (event : Event B C I)
      (marks : List (Mark B)) : Type 0 where
    -- verdicts and declines
    pub earned : EachMark (TrueIsEarned s base) p marks
    pub reasons : IsHonest s p → IsAnswered p → EachMark (FalseHasReason s base) p marks
    pub declined : IsHonest s p
        → IsAnswered p
        → EachMark (DeclinedHasReason s a base event marks) p marks
    pub answered : EachMark (AnsweredIsBuilt s a base) p marks
    -- which tickets and new numbers marks may name
    pub ends_live : EachMark (EndsLive s) p marks
    pub no_cancelled : EachMark NamesNoCancelled p marks
    pub numbers : EachMark NumberIsNew p marks
    -- fetches
    pub asked : EachMark (AskedIsNeeded s base) p marks
    pub withdrawn : EachMark (WithdrawnHasCause s rule event marks) p marks
    -- jobs
    pub started : EachMark (StartsWell s) p marks
    pub ended : EachMark (EndsAsItsKind event) p marks
    pub cancelled : EachMark (CancelledHasCause s event marks) p marks
    pub builds : EachNext BuildIsAnswered p marks
    -- finalizations and barriers
    pub in_order : EachMark (FinalizesInOrder s.header) p marks
    pub over : EachMark (BarrierIsOver s.header) p marks
    pub flushed : EachMark (GoodIsFlushed s.header count) p marks
    pub good_in_order : EachMark GoodIsInOrder p marks
    pub durable : EachMark AcknowledgedIsDurable p marks
    pub applied : EachMark (AcknowledgedIsApplied s.header) p marks
    -- prunes, openings, syncs and stops
    pub pruned : EachMark (PrunedIsDue s rule) p marks
    pub opened : EachMark (OpenedIsStored s event) p marks
    pub syncs : EachMark (SyncsInPlace s.header) p marks
    pub clean_start : EachMark StartsClean p marks
    pub clean_stop : EachMark (StopsClean event marks) p marks
    pub stopped : EndsStopped event marks

  -- what holds at the end of each entry
  pub record KeepsEnds (p : Past B C I) : Type 0 where
    pub waits : AllWait s a count rule base p
    pub runs_are_wanted : RunsAreWanted s p
    pub prunes_wait : PendingWaits s a base count rule p

  -- An entry keeps the rules, and at its end all that is unanswered waits.
  pub record KeepsPromises (p : Past B C I) (event : Event B C I)
      (marks : List (Mark B)) : Type 0 where
    pub rules : KeepsRules (Came event ∷ p) event marks
    pub ends : KeepsEnds (after_entry p event marks)
