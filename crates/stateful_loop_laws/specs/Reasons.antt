-- Why verdicts are false and why proposals are declined, and what is trusted and kept beside for
-- that.
use Rattle.std.specs.Prelude.{◌≡◌, ℕ, false, Option, List, [], ◌++◌, All}
use Rattle.stateful_base.specs.Names.{Named}
use Rattle.stateful_history.specs.Declines.{DeclinedHasReason}
use Rattle.stateful_history.specs.Honest.{IsHonest, IsAnswered}
use Rattle.stateful_history.specs.Past.{Past, EachMark, after}
use Rattle.stateful_history.specs.Reasons.{FalseHasReason}
use Rattle.stateful_history.specs.Setting.{Setting}
use Rattle.stateful_history.specs.Telling.{telling_of}
use Rattle.stateful_history.specs.declared.event.Event.{Event}
use Rattle.stateful_history.specs.declared.mark.Mark.{Mark}
use Rattle.stateful_history.specs.declared.mark.Mark.TheVariants.{Verdict, Declined}
use Rattle.stateful_exec_model.specs.Workings.{Workings}
use Rattle.stateful_exec_laws.specs.Gathering.{gathered, AreLinked, GatheringsStand}
use Rattle.stateful_exec_laws.specs.Reaching.{QueueReaches}
use Rattle.stateful_exec_laws.specs.Setting.{setting}
use Rattle.stateful_loop_model.specs.Moments.{Moment}
use Rattle.stateful_loop_model.specs.declared.message.Action.{Action}
use Rattle.stateful_loop_model.specs.declared.message.Action.TheVariants as action
use Rattle.stateful_loop_model.specs.declared.message.Message.{Message}
use Rattle.stateful_loop_model.specs.declared.message.Message.TheVariants.{Request}
use Rattle.stateful_loop_laws.specs.Rounds.{RoundsRise}

-- a mark that is neither a false verdict nor a decline
abbrev pub RefusesNone : {B : Type 0} → Mark B → Type 0
RefusesNone (Verdict t false) = ⊥
RefusesNone (Declined t) = ⊥
RefusesNone mark = Unit {0}

module _ {B S T : Type 0} (s : Setting B S T) where
  -- what came with a request that waits in the loop is linked
  abbrev pub MessageIsLinked : {C I : Type 0} → Message B C I → Type 0
  MessageIsLinked (Request request) = AreLinked s (gathered request [])
  MessageIsLinked x = Unit {0}

  -- so it is with an action
  abbrev pub ActionIsLinked : {C I : Type 0} → Action B C I → Type 0
  ActionIsLinked (action.Message x) = MessageIsLinked x
  ActionIsLinked (action.Build t) = Unit {0}

module _ {B C I P R D H G U : Type 0} (w : Workings B C I P R D H G U)
    (stored : ℕ → Option (Named B)) (p : Past B C I) where
  -- What is trusted of the world: rounds rise; ancestries are linked; and fetches were answered
  -- with the asked blocks.
  pub record IsTrusted : Type 0 where
    pub rise : RoundsRise (setting w stored) p
    pub honest : IsHonest (setting w stored) p
    pub answered : IsAnswered p

  -- What is kept for reasons beside that the machine is up: what came with each request that waits
  -- in the loop is linked, and so is what was gathered for those of execution; the parent of each
  -- queued proposal is known or lost.
  pub record ReasonsStand (base : w.States) (m : Moment w) : Type 0 where
    pub queue : All (λ x. MessageIsLinked (setting w stored) x) m.loop.queue
    pub actions : All (λ x. ActionIsLinked (setting w stored) x) m.loop.actions
    pub gatherings : GatheringsStand (setting w stored) p m.execution.state.requests
    pub reaches : QueueReaches w stored base p m.execution.state.queued

module _ {B C I P R D H G U : Type 0} (w : Workings B C I P R D H G U)
    (stored : ℕ → Option (Named B)) (base : w.States)
    (event : Event B C I) (marks : List (Mark B)) where
  -- A false verdict has its reason, and so has a declined proposal. The event and all its marks are
  -- named, since a decline may be due to them.
  abbrev pub HasItsReason : Past B C I → Mark B → Type 0
  HasItsReason p mark = FalseHasReason (setting w stored) base p mark
      × DeclinedHasReason (setting w stored) (telling_of w.works) base event marks p mark

  -- From one moment to a later one some marks are made, and each false verdict and each decline
  -- among them has its reason.
  pub record ReasonsBehind (p : Past B C I) (m now : Moment w) : Type 0 where
    pub more : List (Mark B)
    pub marks_are : now.marks ≡ m.marks ++ more
    pub each : EachMark HasItsReason p more

  -- Besides, what is kept for reasons is kept after these marks.
  pub record ReasonsUpBehind (p : Past B C I) (m now : Moment w) : Type 0 where
    pub more : List (Mark B)
    pub marks_are : now.marks ≡ m.marks ++ more
    pub each : EachMark HasItsReason p more
    pub stand : ReasonsStand w stored (after p more) base now
