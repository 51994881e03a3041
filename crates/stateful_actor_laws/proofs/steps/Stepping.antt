-- Put together: what stands after an event and some marks is what stands behind the step that made them.
use Rattle.std.proofs.Common.{◌≡◌, ◌∷◌, [], ℕ, Bool, true, false, not, ◌&&◌, if◌then◌else◌, List, All, Option, Some, refl, sym, ap, ◌∙◌, subst}
use Rattle.stateful_base.specs.Names.{Named}
use Rattle.stateful_history.specs.Canonical.{pruned_below}
use Rattle.stateful_history.specs.Holding.{Holds}
use Rattle.stateful_history.specs.Joined.{TrueIsEarned}
use Rattle.stateful_history.specs.Live.{may_come, names_live}
use Rattle.stateful_history.specs.Opening.{is_down, opens, held_or, base_after}
use Rattle.stateful_history.specs.Past.{Past, Came, EachMark, EachNext, after, after_entry}
use Rattle.stateful_history.specs.Prunes.{PruneRule, PrunedIsDue}
use Rattle.stateful_history.specs.Restarts.{OpenedIsStored}
use Rattle.stateful_history.specs.Runs.{BuildIsAnswered}
use Rattle.stateful_history.specs.Shared.{SharedRunGoesOn}
use Rattle.stateful_history.specs.Stops.{IsRestart, NothingLive, StopsClean, StartsClean, EndsStopped}
use Rattle.stateful_history.specs.Telling.{telling_of}
use Rattle.stateful_history.specs.Waiting.{AllWait}
use Rattle.stateful_history.specs.declared.event.Event.{Event}
use Rattle.stateful_history.specs.declared.event.Event.TheVariants.{Restart}
use Rattle.stateful_history.specs.declared.mark.Mark.{Mark}
use Rattle.stateful_exec_model.specs.Workings.{Workings}
use Rattle.stateful_exec_laws.specs.Setting.{setting}
use Rattle.stateful_exec_laws.specs.Storing.{IsStoredNow}
use Rattle.stateful_loop_laws.specs.Open.{is_open}
use Rattle.stateful_loop_laws.specs.Down.{IsEmpty, IsCounted}
use Rattle.stateful_loop_laws.specs.Duly.{IsDulySaid}
use Rattle.stateful_loop_laws.specs.Durability.{IsDurablySaid}
use Rattle.stateful_loop_laws.specs.InHand.{VerifiedApart, AllInHand, GoesOnAt}
use Rattle.stateful_loop_laws.specs.Reasons.{IsTrusted, ReasonsStand, HasItsReason}
use Rattle.stateful_loop_laws.specs.Places.{IsInPlace, PastKept, PlacesKept}
use Rattle.stateful_loop_laws.specs.Stands.{IsUpAt}
use Rattle.stateful_loop_laws.proofs.places.Scheduled.{kept-same}
use Rattle.stateful_loop_laws.proofs.hands.QuietWaits.{quiet-waits}
use Rattle.stateful_loop_model.specs.Moments.{Moment}
use Rattle.stateful_loop_model.specs.Rules.{Quiet}
use Rattle.stateful_actor_laws.specs.Stands.{StandsAt}
use Rattle.stateful_actor_laws.specs.StepBehind.{IsCommittedTo, StepBehind}
use Rattle.stateful_actor_laws.proofs.work.JobsGoOn.{jobs-go_on}
use Rattle.stateful_actor_laws.proofs.work.WantedRuns.{runs-wanted}
use Rattle.stateful_actor_laws.proofs.work.Unmarked.{Quiet-marks, IsCounted-marks, AllInHand-marks, GoesOnAt-marks, IsUpAt-marks}

first_of : (a b : Bool) → (a && b) ≡ true → a ≡ true
first_of true b e = refl
first_of false b e = e

not_true : (a : Bool) → not a ≡ true → a ≡ false
not_true true e = sym e
not_true false e = refl

module _ {B C I : Type 0} where
  -- an event that may come, and is no restart, comes where the machine isn't down
  pub may_come-up : (count : ℕ) (p : Past B C I) (e : Event B C I) → (IsRestart e → ⊥) → may_come count p e ≡ true → is_down p ≡ false
  may_come-up count p (Restart floor keep) on may = absurd (on tt)
  may_come-up count p e on may = not_true (is_down p) (first_of (not (is_down p)) (names_live count p e) may)

  -- it leaves whether the machine is down
  pub is_down-came : (p : Past B C I) (e : Event B C I) → (IsRestart e → ⊥) → is_down (Came e ∷ p) ≡ is_down p
  is_down-came p (Restart floor keep) on = absurd (on tt)
  is_down-came p e on = refl

  pub is_open-came : (p : Past B C I) (e : Event B C I) → (IsRestart e → ⊥) → is_open (Came e ∷ p) ≡ is_open p
  is_open-came p (Restart floor keep) on = absurd (on tt)
  is_open-came p e on = refl

-- the base of a history stays where no mark opens
pub base-same : {B X S : Type 0} (base : S) (marks : List (Mark B)) (point : Option (X × S)) → opens marks ≡ false
    → base ≡ base_after base marks point
base-same base marks point none = sym (ap (λ (o : Bool). if o then held_or base point else base) none)

-- and where one does it is what the databases hold
pub base-opened : {B X S : Type 0} (base : S) (marks : List (Mark B)) (point : Option (X × S)) (at : X × S) → opens marks ≡ true
    → point ≡ Some at → at.1 ≡ base_after base marks point
base-opened {B} {X} {S} base marks point at some is =
    sym (ap (λ (o : Bool). if o then held_or base point else base) some ∙ ap (λ (x : Option (X × S)). held_or base x) is)

module _ {B C I P R D H G U : Type 0} (w : Workings B C I P R D H G U) (stored : ℕ → Option (Named B)) (base : w.States)
    (p : Past B C I) (event : Event B C I) (now : Moment w) where
  abbrev q : Past B C I
  q = Came event ∷ p

  module _ (next : w.States) (marks : List (Mark B)) where
    -- What stands after the event and these marks.
    pub record PartsStand : Type 0 where
      pub base_is : next ≡ base_after base marks (w.kind.point now.members)
      pub earned : EachMark (TrueIsEarned (setting w stored) next) (Came event ∷ p) marks
      pub reasons : IsTrusted w stored (after_entry p event marks) → EachMark (HasItsReason w stored next event marks) (Came event ∷ p) marks
      pub said : EachMark (IsDurablySaid w) (Came event ∷ p) marks
      pub in_place : EachMark (IsInPlace w stored next) (Came event ∷ p) marks
      pub duly : EachMark (IsDulySaid w stored next event marks) (Came event ∷ p) marks
      pub builds : EachNext BuildIsAnswered (Came event ∷ p) marks
      pub due : (rule : Option (PruneRule w.Targets)) → EachMark (PrunedIsDue (setting w stored) rule) (Came event ∷ p) marks
      pub shared : (rule : Option (PruneRule w.Targets)) → EachMark (SharedRunGoesOn (setting w stored) rule event marks) (Came event ∷ p) marks
      pub opened : EachMark (OpenedIsStored (setting w stored) event) (Came event ∷ p) marks
      pub committed : All (IsCommittedTo w stored next) marks
      pub clean_start : EachMark StartsClean (Came event ∷ p) marks
      pub clean_stop : EachMark (StopsClean event marks) (Came event ∷ p) marks
      pub ends_stopped : EndsStopped event marks
      pub holds : Holds (setting w stored) w.kind next (after_entry p event marks) now.members
      pub pruned : pruned_below (after_entry p event marks) ≡ pruned_below p
      pub up_is : now.loop.up ≡ is_open (after_entry p event marks)
      pub open_is : is_open (after_entry p event marks) ≡ not (is_down (after_entry p event marks))
      pub counted : IsCounted w (after_entry p event marks) now
      pub up : now.loop.up ≡ true → IsUpAt w stored next (after_entry p event marks) now × Quiet w now
      pub reasons_stand : now.loop.up ≡ true → IsTrusted w stored (after_entry p event marks)
          → ReasonsStand w stored (after_entry p event marks) next now
      pub apart : VerifiedApart (after_entry p event marks)
      pub hands : now.loop.up ≡ true → AllInHand w (after_entry p event marks) now × GoesOnAt w stored next (after_entry p event marks) now
      pub down : now.loop.up ≡ false → NothingLive (after_entry p event marks)
      pub past : PastKept w stored (after_entry p event marks)
      pub places : now.loop.up ≡ true → PlacesKept w stored (after_entry p event marks) now
      pub empty : now.loop.up ≡ false → IsEmpty w now

    -- each live request and receipt waits for outstanding work
    all_wait : PartsStand → (rule : Option (PruneRule w.Targets))
        → AllWait (setting w stored) (telling_of w.works) w.kind.count rule next (after_entry p event marks)
    all_wait k rule = by now.loop.up refl
      where
        by : (b : Bool) → now.loop.up ≡ b → AllWait (setting w stored) (telling_of w.works) w.kind.count rule next (after_entry p event marks)
        by true up = quiet-waits w stored next (after_entry p event marks) now rule up (k.up up).1 (k.up up).0 k.apart (k.hands up).1 (k.hands up).0
        by false down = λ t live. absurd (live ((k.down down).tickets t))

  -- the machine stands for the past with the entry
  stands_of : (next : w.States) → PartsStand next now.marks → StandsAt w stored next (after_entry p event now.marks) (record now { marks = [] })
  stands_of next k = record {
    restart = record { unmarked = refl; counted = IsCounted-marks w now [] (after q now.marks) k.counted; apart = k.apart };
    up_is = k.up_is;
    open_is = k.open_is;
    up = λ up. (IsUpAt-marks w now [] stored next (after q now.marks) (k.up up).0, Quiet-marks w now [] (k.up up).1);
    reasons = λ up trust. let r = k.reasons_stand up trust in
        record { queue = r.queue; actions = r.actions; gatherings = r.gatherings; reaches = r.reaches };
    hands = λ up. (
      AllInHand-marks w now [] (after q now.marks) (k.hands up).0,
      GoesOnAt-marks w now [] stored next (after q now.marks) (k.hands up).1,
    );
    down = k.down;
    past = k.past;
    places = λ up. kept-same w stored next (after q now.marks) now (record now { marks = [] }) refl refl (k.places up);
  }

  -- It stands behind the step, where these are its marks.
  pub StepBehind-of : (next : w.States) (marks : List (Mark B)) → marks ≡ now.marks → PartsStand next marks → StepBehind w stored base p event now
  StepBehind-of next marks are parts =
      let k : PartsStand next now.marks = subst (λ (ms : List (Mark B)). PartsStand next ms) are parts in
      let s : StandsAt w stored next (after_entry p event now.marks) (record now { marks = [] }) = stands_of next k in
      record {
        base_behind = next;
        base_is = k.base_is;
        earned = k.earned;
        reasons = k.reasons;
        said = k.said;
        places = k.in_place;
        duly = k.duly;
        builds = k.builds;
        due = k.due;
        opened = k.opened;
        committed = k.committed;
        clean_start = k.clean_start;
        clean_stop = k.clean_stop;
        ends_stopped = k.ends_stopped;
        holds = k.holds;
        pruned = k.pruned;
        waits = all_wait next now.marks k;
        wanted = runs-wanted w stored next (after_entry p event now.marks) (record now { marks = [] }) s;
        jobs = jobs-go_on w stored next (after_entry p event now.marks) (record now { marks = [] }) s;
        shared = k.shared;
        stands = s;
        empty = k.empty;
      }

  -- the store is as it was
  pub IsStoredNow-step : (stored_now : ℕ → Option (Named B)) → IsStoredNow stored p stored_now → StepBehind w stored base p event now
      → IsStoredNow stored (after_entry p event now.marks) stored_now
  IsStoredNow-step stored_now is b h = let same = b.pruned in rw same (is h)
