-- Marks in their places, and what is kept for them beside what a machine that is up stands for.
use Rattle.std.specs.Prelude.{◌≡◌, ◌⊎◌, ◌<◌, ℕ, true, false, Option, Some, None, List, ◌++◌}
use Rattle.stateful_base.specs.Names.{Named}
use Rattle.stateful_base.specs.declared.digest.Digest.{Digest}
use Rattle.stateful_history.specs.Answers.{EndsLive, was_cancelled, NamesNoCancelled}
use Rattle.stateful_history.specs.Fetches.{AskedIsNeeded, WasAsked}
use Rattle.stateful_history.specs.Jobs.{job_of, started_for}
use Rattle.stateful_history.specs.Live.{live_ticket, bound_of}
use Rattle.stateful_history.specs.Numbers.{NumberIsNew}
use Rattle.stateful_history.specs.Opening.{is_handing_over}
use Rattle.stateful_history.specs.Past.{Past, EachMark, after}
use Rattle.stateful_history.specs.Requests.{IsLiveRequest}
use Rattle.stateful_history.specs.Runs.{StartsWell, unhooked}
use Rattle.stateful_history.specs.declared.mark.How.TheVariants.{Cancelled}
use Rattle.stateful_history.specs.declared.mark.JobKind.TheVariants.{Candidate}
use Rattle.stateful_history.specs.declared.mark.Mark.{Mark}
use Rattle.stateful_history.specs.declared.mark.Mark.TheVariants.{Ended}
use Rattle.stateful_exec_model.specs.Workings.{Workings}
use Rattle.stateful_exec_model.specs.declared.building.Building.{Building}
use Rattle.stateful_exec_model.specs.declared.front.Front.{Front}
use Rattle.stateful_exec_model.specs.declared.front.Stage.{Stage}
use Rattle.stateful_exec_model.specs.declared.front.Stage.TheVariants.{Begun, Running, Ran, Advanced}
use Rattle.stateful_exec_model.specs.declared.front.Stage.TheVariants.{Hooking}
use Rattle.stateful_exec_tables.specs.declared.state.Tables.{Tables}
use Rattle.stateful_exec_laws.specs.Due.{IsDue}
use Rattle.stateful_exec_laws.specs.Gathering.{AsksAlong, AsksNothing}
use Rattle.stateful_exec_laws.specs.Orderly.{IsOrderly}
use Rattle.stateful_exec_laws.specs.Setting.{setting}
use Rattle.stateful_loop_laws.specs.Tickets.{IsOutside}
use Rattle.stateful_loop_model.specs.Moments.{Moment}
use Rattle.stateful_loop_model.specs.declared.tables.Finalizing.{Finalizing}

module _ {B C I : Type 0} where
  -- each ticket that was cancelled is an earlier one, and isn't live
  abbrev pub CancelledIsGone : Past B C I → Type 0
  CancelledIsGone p = (t : ℕ) → was_cancelled t p ≡ true
      → (live_ticket t p ≡ None) × (t < bound_of p)

  -- no candidate run ends by this mark, but by a cancel
  abbrev pub EndsNoRun : Past B C I → Mark B → Type 0
  EndsNoRun p (Ended j how) = (how ≡ Cancelled)
      ⊎ ((d : Digest) → started_for j p ≡ Some (job_of Candidate d) → ⊥)
  EndsNoRun p mark = Unit {0}

-- the block of the finalization that goes on was applied
abbrev pub HasMovedAt : {R U H : Type 0} → Stage R U H → Type 0
HasMovedAt Begun = ⊥
HasMovedAt (Running j run) = ⊥
HasMovedAt (Ran batch) = ⊥
HasMovedAt Advanced = Unit {0}
HasMovedAt (Hooking j hook) = Unit {0}

abbrev pub HasMovedIn : {B R U H : Type 0} → Option (Front B R U H) → Type 0
HasMovedIn None = ⊥
HasMovedIn (Some front) = HasMovedAt front.stage

module _ {B C I P R D H G U : Type 0} (w : Workings B C I P R D H G U)
    (stored : ℕ → Option (Named B)) where
  -- A mark is in its place: it names a live ticket where it ends one, begins under a new number,
  -- asks what is needed and starts what may run, and it names no request that was cancelled.
  abbrev pub IsInPlace : w.States → Past B C I → Mark B → Type 0
  IsInPlace base p mark =
      EndsLive (setting w stored) p mark
      × NumberIsNew p mark
      × AskedIsNeeded (setting w stored) base p mark
      × StartsWell (setting w stored) p mark
      × NamesNoCancelled p mark

  module _ (p : Past B C I) where
    -- what a past keeps, whatever the tables are; no handover goes on
    pub record IsOrderlyPast : Type 0 where
      pub orderly : IsOrderly w stored p
      pub gone : CancelledIsGone p
      pub whole : is_handing_over p ≡ false

    -- So it is, and what was asked for a ticket was so for an earlier one: that is kept whether the
    -- machine is up or down.
    pub record PastKept : Type 0 where
      pub past : IsOrderlyPast
      pub earlier : (t : ℕ) (d : Digest) → WasAsked t d p → t < bound_of p

    module _ (v : Tables B C I R U) (build : Option (Building B C D))
        (front : Option (Front B R U H)) where
      -- What was asked for a request that fetches is the parent of what was gathered for it; what
      -- was asked for a ticket was so for an earlier one, which isn't one of a request that is live
      -- and in no table; and nothing was asked since the block in front was applied.
      pub record AsksStand : Type 0 where
        pub along : AsksAlong (setting w stored) p v.requests
        pub earlier : (t : ℕ) (d : Digest) → WasAsked t d p → t < bound_of p
        pub inside : (t : ℕ) (d : Digest) → WasAsked t d p → IsLiveRequest t p
            → IsOutside w stored p v build t → ⊥
        pub nothing : HasMovedIn front → AsksNothing (setting w stored) p

    -- What is kept for the marks of rules and of events: tickets and runs are in order, what is due
    -- of the finalization in front, what was asked, and that no hook was started yet behind a block
    -- to observe.
    pub record PlacesKept (m : Moment w) : Type 0 where
      pub past : IsOrderlyPast
      pub due : IsDue (setting w stored) p m.execution.state.cache m.execution.front
      pub asks : AsksStand m.execution.state m.execution.build m.execution.front
      pub hooks : (f : Finalizing B G) (captured : G)
          → m.loop.front ≡ Some f
          → f.captured ≡ Some captured
          → unhooked p ≡ Some f.block

  -- From one moment to a later one marks are made, each in its place, and that is kept with them.
  pub record PlacesBehind (base : w.States) (p : Past B C I) (m now : Moment w) : Type 0 where
    pub more : List (Mark B)
    pub marks_are : now.marks ≡ m.marks ++ more
    pub each : EachMark (IsInPlace base) p more
    pub kept : PlacesKept (after p more) now
