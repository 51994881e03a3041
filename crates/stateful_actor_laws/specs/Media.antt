-- What the media stand for between two events, and after an event that was refused.
use Rattle.std.specs.Prelude.{◌≡◌, ◌⊎◌, ◌<◌, ◌^◌, ◌∷◌, [], ℕ, Bool, true, false, Option, Some, List}
use Rattle.stateful_base.specs.Names.{Named}
use Rattle.stateful_history.specs.Met.{TrueNames}
use Rattle.stateful_history.specs.Opening.{opening, base_after}
use Rattle.stateful_history.specs.Past.{Past, Came, Tried, after_entry}
use Rattle.stateful_history.specs.Restarts.{reopened_height}
use Rattle.stateful_history.specs.Honest.{HasHonestStore}
use Rattle.stateful_history.specs.declared.event.Event.{Event}
use Rattle.stateful_history.specs.declared.event.Event.TheVariants.{Restart}
use Rattle.stateful_history.specs.declared.mark.Mark.{Mark}
use Rattle.stateful_exec_model.specs.Workings.{Workings, Point}
use Rattle.stateful_actor_register.specs.declared.register.Register.{Register}
use Rattle.stateful_exec_laws.specs.Setting.{setting}
use Rattle.stateful_exec_laws.specs.Storing.{IsStoredNow}
use Rattle.stateful_loop_laws.specs.Media.{KeepsDurably, TargetsRise, KeepsReopenable, KeepsHeights}
use Rattle.stateful_loop_model.specs.Intake.{Counts}
use Rattle.stateful_loop_model.specs.Left.{LeavesOpening}
use Rattle.stateful_loop_model.specs.Moments.{Moment}
use Rattle.stateful_actor_laws.specs.Left.{LeavesPlay}
use Rattle.stateful_actor_laws.specs.Stands.{Stands}

module _ {B C I : Type 0} where
  -- the past after an event that was refused: where it was a restart, one was tried at its height
  abbrev pub behind_refusal : Event B C I → Past B C I → Past B C I
  behind_refusal (Restart floor keep) p = Tried (record { 0 = reopened_height floor }) ∷ p
  behind_refusal event p = p

module _ {B C I P R D H G U : Type 0} (w : Workings B C I P R D H G U) where
  module _ (stored : ℕ → Option (Named B)) where
    -- The media keep each height at which the databases can be opened again after this past. While
    -- the machine is up, and hasn't failed, they keep those too that were applied and aren't
    -- durable yet.
    pub record MediaStand (p : Past B C I) (failed : Bool) (m : Moment w) : Type 0 where
      pub reopenable : KeepsReopenable w stored p m.members
      pub heights : failed ≡ false → m.loop.up ≡ true
          → KeepsHeights w stored (opening p) m.execution.state.anchor m.members

    -- The media are as at the start: each database keeps durably a checkpoint of its part of the
    -- initial states, to which the store's first block commits, if it has one.
    pub record IsAsAtStart (m : w.kind.Members) : Type 0 where
      pub initial : (i : ℕ) → i < w.kind.count
          → KeepsDurably w.kind m (w.kind.target_of w.kind.initial) i
      pub genesis : (b : Named B) → stored 0 ≡ Some b
          → w.works.meaning.targets b.block ≡ w.kind.target_of w.kind.initial

    -- the machine stands for this past, and the media do
    pub record StandsOnMedia (base : w.States) (p : Past B C I) (failed : Bool)
        (register : Register) (m : Moment w) : Type 0 where
      pub stands : Stands w stored base p failed register m
      pub media : MediaStand p failed m

  -- equal targets name equal states
  abbrev pub TargetsName : Type 0
  TargetsName = (x y : w.States) → w.kind.target_of x ≡ w.kind.target_of y → x ≡ y

  -- the databases are open on these states, and the history is based on them from these marks on
  pub record OpensOn (marks : List (Mark B)) (m : w.kind.Members) (state : w.States) : Type 0 where
    pub point : Point w
    pub here : w.kind.point m ≡ Some point
    pub holds : point.1 ≡ state
    pub based : (base : w.States) → base_after base marks (w.kind.point m) ≡ state

  -- a restart that was refused changed nothing, or its opening failed
  abbrev pub LeavesRestart : (ℕ → Option (Named B)) → Event B C I → (old new : w.kind.Members)
      → Type 0
  LeavesRestart stored_now (Restart floor keep) old new =
      (new ≡ old) ⊎ LeavesOpening w stored_now floor keep old new
  LeavesRestart stored_now event old new = Unit {0}

  -- What an event that was refused left, with the marks that its intake made, if it made any.
  -- Whatever past the machine and the media stood for, they stand for it after the refusal, where
  -- names are true with the event and these marks, the store is honest and its targets rise, and
  -- databases are fewer than 2^64.
  pub record LeavesMedia (stored_now : ℕ → Option (Named B)) (provider : P) (counts : Counts R D H)
      (event : Event B C I) (failed : Bool) (register : Register) (m : Moment w) (now_failed : Bool)
      (now_register : Register) (now : Moment w) : Type 0 where
    pub made : List (Mark B)
    pub left : (made ≡ []) ⊎ LeavesPlay w stored_now provider counts event m now.members made
    pub stands : (stored : ℕ → Option (Named B))
        (base : w.States)
        (p : Past B C I)
        → StandsOnMedia stored base p failed register m
        → IsStoredNow stored p stored_now
        → TrueNames (setting w stored) (after_entry p event made)
        → HasHonestStore w.header stored (Came event ∷ p)
        → TargetsRise w stored
        → w.kind.count < 2 ^ 64
        → StandsOnMedia stored base (behind_refusal event p) now_failed now_register now
