-- What stands behind a step, and behind steps one after another.
use Rattle.std.specs.Prelude.{◌≡◌, ℕ, Bool, false, Option, Some, List, [], ◌∷◌, All}
use Rattle.stateful_base.specs.Names.{Named}
use Rattle.stateful_history.specs.Canonical.{pruned_below}
use Rattle.stateful_history.specs.Holding.{Holds}
use Rattle.stateful_history.specs.Joined.{TrueIsEarned}
use Rattle.stateful_history.specs.Opening.{base_after}
use Rattle.stateful_history.specs.Past.{Past, Came, EachMark, EachNext, after_entry}
use Rattle.stateful_history.specs.Prunes.{PruneRule, PrunedIsDue}
use Rattle.stateful_history.specs.Restarts.{OpenedIsStored}
use Rattle.stateful_history.specs.Runs.{BuildIsAnswered, RunsAreWanted}
use Rattle.stateful_history.specs.Shared.{SharedRunGoesOn}
use Rattle.stateful_history.specs.Stops.{StopsClean, StartsClean, EndsStopped}
use Rattle.stateful_history.specs.Telling.{telling_of}
use Rattle.stateful_history.specs.Waiting.{AllWait}
use Rattle.stateful_history.specs.declared.entry.Entry.{Entry}
use Rattle.stateful_history.specs.declared.event.Event.{Event}
use Rattle.stateful_history.specs.declared.mark.Mark.{Mark}
use Rattle.stateful_history.specs.declared.mark.Mark.TheVariants.{Opened}
use Rattle.stateful_exec_model.specs.Workings.{Workings}
use Rattle.stateful_actor_register.specs.declared.register.Register.{Register}
use Rattle.stateful_exec_laws.specs.Setting.{setting}
use Rattle.stateful_loop_laws.specs.Down.{IsEmpty}
use Rattle.stateful_loop_laws.specs.Duly.{IsDulySaid}
use Rattle.stateful_loop_laws.specs.Durability.{IsDurablySaid}
use Rattle.stateful_loop_laws.specs.Reasons.{IsTrusted, HasItsReason}
use Rattle.stateful_loop_laws.specs.Places.{IsInPlace}
use Rattle.stateful_loop_model.specs.Moments.{Moment}
use Rattle.stateful_actor_laws.specs.Jobs.{EachJobGoesOn}
use Rattle.stateful_actor_laws.specs.Stands.{StandsAt, Stands}

module _ {B C I P R D H G U : Type 0} (w : Workings B C I P R D H G U)
    (stored : ℕ → Option (Named B)) where
  -- an opening is at a height whose block in the store commits to these states
  abbrev pub IsCommittedTo : w.States → Mark B → Type 0
  IsCommittedTo base (Opened anchor) =
      (b : Named B)
      × (stored anchor.height.0 ≡ Some b)
      × (w.kind.target_of base ≡ w.works.meaning.targets b.block)
  IsCommittedTo base mark = Unit {0}

  module _ (base : w.States) (p : Past B C I) (event : Event B C I) (now : Moment w) where
    -- After an event and its marks the history is based on these states: what the databases hold,
    -- where it was opened, to which the store's block commits, and else those before. True verdicts
    -- among the marks are earned over them; false ones and declined proposals have their reasons,
    -- where the world is trusted; those of barriers and acknowledgements keep their rules, and so
    -- do those of openings and stops, of jobs, answers to builds, withdrawn fetches and
    -- finalizations; each is in its place; and nothing was pruned. The databases hold what was
    -- applied. Each live request and receipt waits for outstanding work, whatever the rule on
    -- prunes; each live candidate run and build is wanted by a live request; each live job was
    -- turned less often than it takes turns, where that is told; and no run was cancelled for which
    -- another live request waits, unless the machine stops or starts. The machine stands for the
    -- past with the entry; where it is down nothing goes on.
    pub record StepBehind : Type 0 where
      pub base_behind : w.States
      pub base_is : base_behind ≡ base_after base now.marks (w.kind.point now.members)
      pub earned : EachMark (TrueIsEarned (setting w stored) base_behind) (Came event ∷ p) now.marks
      pub reasons : IsTrusted w stored (after_entry p event now.marks)
          → EachMark (HasItsReason w stored base_behind event now.marks) (Came event ∷ p) now.marks
      pub said : EachMark (IsDurablySaid w) (Came event ∷ p) now.marks
      pub places : EachMark (IsInPlace w stored base_behind) (Came event ∷ p) now.marks
      pub duly : EachMark (IsDulySaid w stored base_behind event now.marks)
          (Came event ∷ p) now.marks
      pub builds : EachNext BuildIsAnswered (Came event ∷ p) now.marks
      pub due : (rule : Option (PruneRule w.Targets))
          → EachMark (PrunedIsDue (setting w stored) rule) (Came event ∷ p) now.marks
      pub opened : EachMark (OpenedIsStored (setting w stored) event) (Came event ∷ p) now.marks
      pub committed : All (IsCommittedTo base_behind) now.marks
      pub clean_start : EachMark StartsClean (Came event ∷ p) now.marks
      pub clean_stop : EachMark (StopsClean event now.marks) (Came event ∷ p) now.marks
      pub ends_stopped : EndsStopped event now.marks
      pub holds : Holds (setting w stored) w.kind base_behind (after_entry p event now.marks)
          now.members
      pub pruned : pruned_below (after_entry p event now.marks) ≡ pruned_below p
      pub waits : (rule : Option (PruneRule w.Targets))
          → AllWait (setting w stored) (telling_of w.works) w.kind.count rule base_behind
          (after_entry p event now.marks)
      pub wanted : RunsAreWanted (setting w stored) (after_entry p event now.marks)
      pub jobs : EachJobGoesOn w stored base_behind (after_entry p event now.marks)
      pub shared : (rule : Option (PruneRule w.Targets))
          → EachMark (SharedRunGoesOn (setting w stored) rule event now.marks)
          (Came event ∷ p)
          now.marks
      pub stands : StandsAt w stored base_behind (after_entry p event now.marks)
          (record now { marks = [] })
      pub empty : now.loop.up ≡ false → IsEmpty w now

    -- Besides, this register stands for the past with the entry.
    pub record Continues (register : Register) : Type 0 where
      pub behind : StepBehind
      pub stands : Stands w stored behind.base_behind (after_entry p event now.marks) false register
          (record now { marks = [] })

  -- Behind each of these entries it stands so, one after another, and over the states on which the
  -- history is based at last this holds.
  abbrev pub EachStands : (w.States → Type 0) → w.States → Past B C I → List (Entry B C I) → Type 0
  EachStands Last base p [] = Last base
  EachStands Last base p (entry ∷ entries) =
      (new : Moment w)
      × (new.marks ≡ entry.marks)
      × (b : StepBehind base p entry.event new)
      × EachStands Last b.base_behind (after_entry p entry.event entry.marks) entries

  -- The machine stands for the past, with this register; and as long as it hasn't failed its
  -- databases hold what was applied.
  pub record StandsAndHolds (base : w.States) (p : Past B C I) (failed : Bool) (register : Register)
      (m : Moment w) : Type 0 where
    pub stands : Stands w stored base p failed register m
    pub holds : failed ≡ false → Holds (setting w stored) w.kind base p m.members
