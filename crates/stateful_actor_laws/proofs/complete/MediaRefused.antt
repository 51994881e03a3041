-- The media stand after an event that was refused; and a restart at a height at which the databases can be opened again opens them.
use Rattle.std.proofs.Common.{◌≡◌, ◌<◌, ◌^◌, ◌⊎◌, ◌++◌, ◌∷◌, [], inl, inr, ℕ, Bool, true, false, List, Option, Some, refl, sym, ap, ◌∙◌, subst, true≢false}
use Rattle.stateful_base.specs.Anchor.{anchor_by}
use Rattle.stateful_base.specs.Causes.{Rose}
use Rattle.stateful_base.specs.Names.{Named}
use Rattle.stateful_base.specs.declared.floor.Floor.{Floor}
use Rattle.stateful_db.specs.Laws.{Laws}
use Rattle.stateful_history.specs.Live.{may_come}
use Rattle.stateful_history.specs.Met.{TrueNames}
use Rattle.stateful_history.specs.Opening.{opens}
use Rattle.stateful_history.specs.Past.{Past, Came, Tried, after_entry}
use Rattle.stateful_history.specs.Restarts.{reopened_height, CanReopen, Finds}
use Rattle.stateful_history.specs.Stops.{IsRestart}
use Rattle.stateful_history.specs.Honest.{HasHonestStore}
use Rattle.stateful_history.specs.declared.event.Event.{Event}
use Rattle.stateful_history.specs.declared.event.Event.TheVariants.{Restart}
use Rattle.stateful_history.specs.declared.mark.Mark.{Mark}
use Rattle.stateful_exec_model.specs.Workings.{Workings}
use Rattle.stateful_actor_register.specs.Register.{RegisterStands}
use Rattle.stateful_actor_register.specs.declared.register.Register.{Register}
use Rattle.stateful_exec_laws.specs.Building.{BuildsTakeTurns}
use Rattle.stateful_exec_laws.specs.Fronting.{RunsTakeTurns}
use Rattle.stateful_exec_laws.specs.Setting.{setting}
use Rattle.stateful_exec_laws.specs.Storing.{IsStoredNow}
use Rattle.stateful_loop_laws.specs.Media.{TargetsRise, KeepsReopenable}
use Rattle.stateful_loop_laws.proofs.media.Along.{left-media, kept-media}
use Rattle.stateful_loop_laws.proofs.media.Opens.{KeepsDurably-crashed, tried-media, refused-memory}
use Rattle.stateful_loop_laws.proofs.events.NamesBehind.{NamesBehind-marks}
use Rattle.stateful_loop_laws.proofs.events.TakenIn.{may_come-live}
use Rattle.stateful_loop_model.specs.Intake.{Counts}
use Rattle.stateful_loop_model.specs.Left.{LeavesOpening, opened}
use Rattle.stateful_loop_model.specs.Moments.{Moment}
use Rattle.stateful_loop_model.specs.Opening.{FaultsOpening}
use Rattle.stateful_loop_model.specs.declared.error.StepError.{StepError}
use Rattle.stateful_loop_model.specs.declared.error.StepError.TheVariants.{OutOfMemory}
use Rattle.stateful_actor_laws.specs.Left.{LeavesPlay, taking, going}
use Rattle.stateful_actor_laws.specs.Machine.{numbered, is_restart}
use Rattle.stateful_actor_laws.specs.Media.{behind_refusal, MediaStand, StandsOnMedia, TargetsName, OpensOn, LeavesRestart, LeavesMedia}
use Rattle.stateful_actor_laws.specs.Stands.{StandsAsWell}
use Rattle.stateful_actor_laws.specs.Steps.{IsStep, Restarts}
use Rattle.stateful_actor_laws.proofs.work.LiveFlushes.{numbered_le, names_live-more}
use Rattle.stateful_actor_laws.proofs.steps.Stepping.{base-opened}
use Rattle.stateful_actor_laws.proofs.complete.Tried.{Stands-refused}
use Rattle.stateful_actor_laws.proofs.work.Ends.{opens-opened}

module _ {B C I P R D H G U : Type 0} (w : Workings B C I P R D H G U) (laws : Laws w.kind) (stored_now : ℕ → Option (Named B)) where
  -- a restart after which memory ran out has opened the databases
  pub step-restart : (counts : Counts R D H) (provider : P) (register : Register) (event : Event B C I) (m now : Moment w)
      → IsStep w stored_now provider counts register event m now → LeavesRestart w stored_now event m.members now.members
  step-restart counts provider register (Restart floor keep) m now r =
      inr (opened {crashed = r.opens.crashed} {block = r.opens.block} (record {
        is_crashed = subst (λ (x : w.kind.Members). w.kind.Crashed x keep r.opens.crashed) r.clears.rest.0 r.opens.is_crashed;
        is_stored = r.opens.is_stored;
      }) r.opens.reopened)
  step-restart counts provider register event m now step = tt

  -- where nothing was changed, an event that isn't a restart leaves all as it was
  pub leaves-unchanged : (counts : Counts R D H) (provider : P) (event : Event B C I) → is_restart event ≡ false → (failed : Bool)
      (register : Register) (m : Moment w) → LeavesMedia w stored_now provider counts event failed register m failed register m
  leaves-unchanged counts provider (Restart floor keep) other failed register m = absurd (true≢false other)
  leaves-unchanged counts provider event other failed register m = record {
    made = [];
    left = inl refl;
    stands = λ stored base p s stored_is names honest rise few. s;
  }

  module _ (counts : Counts R D H) (provider : P) (runs_cost : RunsTakeTurns w) (builds_cost : BuildsTakeTurns w) (failed : Bool)
      (register : Register) (m : Moment w) (unmarked : m.marks ≡ []) (sound : w.kind.Sound m.members) (now_failed : Bool)
      (now_register : Register) (now : Moment w) (fails : now_failed ≡ true) (still : StandsAsWell w failed register m now_failed now_register now) where
    -- the machine has failed, and the databases keep what can be opened again
    stands_failed : (stored : ℕ → Option (Named B)) (base : w.States) (p : Past B C I) (event : Event B C I)
        → StandsOnMedia w stored base p failed register m → KeepsReopenable w stored (behind_refusal event p) now.members
        → StandsOnMedia w stored base (behind_refusal event p) now_failed now_register now
    stands_failed stored base p event s keeps = record {
      stands = Stands-refused w stored base p event now_failed now_register now fails (still stored base p s.stands);
      media = record { reopenable = keeps; heights = λ works. absurd (true≢false (sym fails ∙ works)) };
    }

    -- a restart
    module _ (floor : Floor) (keep : List ℕ) (left : LeavesRestart w stored_now (Restart floor keep) m.members now.members) where
      tried_keeps : (stored : ℕ → Option (Named B)) (p : Past B C I) → IsStoredNow stored p stored_now → TargetsRise w stored
          → w.kind.count < 2 ^ 64 → KeepsReopenable w stored p m.members
          → KeepsReopenable w stored (Tried (record { 0 = reopened_height floor }) ∷ p) now.members
      tried_keeps stored p stored_is rise few k = of left
        where
          of : (now.members ≡ m.members) ⊎ LeavesOpening w stored_now floor keep m.members now.members
              → KeepsReopenable w stored (Tried (record { 0 = reopened_height floor }) ∷ p) now.members
          of (inl same) = subst (λ (x : w.kind.Members). KeepsReopenable w stored (Tried (record { 0 = reopened_height floor }) ∷ p) x) (sym same) before
            where
              before : KeepsReopenable w stored (Tried (record { 0 = reopened_height floor }) ∷ p) m.members
              before q i b (inl reached) is within = k q i b (inl reached.1) is within
              before q i b (inr none) is within = k q i b (inr none) is within
          of (inr fails_to) = tried-media w laws stored stored_now p stored_is rise floor keep m.members sound k now.members few fails_to

      leaves_restart : LeavesMedia w stored_now provider counts (Restart floor keep) failed register m now_failed now_register now
      leaves_restart = record {
        made = [];
        left = inl refl;
        stands = λ stored base p s stored_is names honest rise few.
            stands_failed stored base p (Restart floor keep) s (tried_keeps stored p stored_is rise few s.media.reopenable);
      }

    -- another event, of a machine that was up and hadn't failed
    module _ (event : Event B C I) (on : IsRestart event → ⊥) (same : (p : Past B C I) → behind_refusal event p ≡ p) (works : failed ≡ false)
        (up : m.loop.up ≡ true)
        (may : (p : Past B C I) → RegisterStands (numbered w.kind.count) p register → may_come (numbered w.kind.count) p event ≡ true)
        (made : List (Mark B)) (left : LeavesPlay w stored_now provider counts event m now.members made) where
      play_keeps : (stored : ℕ → Option (Named B)) (base : w.States) (p : Past B C I) → StandsOnMedia w stored base p failed register m
          → IsStoredNow stored p stored_now → TrueNames (setting w stored) (after_entry p event made)
          → HasHonestStore w.header stored (Came event ∷ p) → w.kind.count < 2 ^ 64 → KeepsReopenable w stored p now.members
      play_keeps stored base p s stored_is names honest few = of left
        where
          of : LeavesPlay w stored_now provider counts event m now.members made → KeepsReopenable w stored p now.members
          of (taking kept is) = kept-media w laws stored base p m.members now.members few kept s.media.reopenable
          of (going {taken = taken} takes is l) =
              let h = (s.stands.at works).up up in
              left-media w laws stored base p stored_now stored_is counts provider runs_cost builds_cost event on m up h.1 h.0
              (names_live-more (numbered w.kind.count) w.kind.count (numbered_le w.kind.count) p event
              (may_come-live (numbered w.kind.count) p event on (may p s.stands.registered))) honest.finalized
              (record { reopenable = s.media.reopenable; heights = s.media.heights works up }) taken l.reached takes l.along
              (NamesBehind-marks w stored base (Came event ∷ p) m taken made (sym is ∙ ap (λ (ms : List (Mark B)). ms ++ made) (sym unmarked)) names)
              now.members few l.left

      leaves_play : LeavesMedia w stored_now provider counts event failed register m now_failed now_register now
      leaves_play = record {
        made = made;
        left = inr left;
        stands = λ stored base p s stored_is names honest rise few.
            stands_failed stored base p event s (subst (λ (r : Past B C I). KeepsReopenable w stored r now.members) (sym (same p))
            (play_keeps stored base p s stored_is names honest few));
      }

    -- whatever it left, of a machine that has failed behind it
    pub leaves-media : (event : Event B C I) → (is_restart event ≡ false → failed ≡ false) → (is_restart event ≡ false → m.loop.up ≡ true)
        → ((p : Past B C I) → RegisterStands (numbered w.kind.count) p register → may_come (numbered w.kind.count) p event ≡ true)
        → (is_restart event ≡ false → (made : List (Mark B)) × LeavesPlay w stored_now provider counts event m now.members made)
        → LeavesRestart w stored_now event m.members now.members
        → LeavesMedia w stored_now provider counts event failed register m now_failed now_register now
    leaves-media (Restart floor keep) works up may left restart = leaves_restart floor keep restart
    leaves-media event works up may left restart =
        let l = left refl in leaves_play event (λ no. no) (λ p. refl) (works refl) (up refl) may l.0 l.1

module _ {B C I P R D H G U : Type 0} (w : Workings B C I P R D H G U) (laws : Laws w.kind) (stored stored_now : ℕ → Option (Named B))
    (p : Past B C I) (floor : Floor) (keep : List ℕ) (genesis state : w.States) (block : Named B) (can : CanReopen (reopened_height floor) p)
    (failed : Bool) (m : Moment w) (k : MediaStand w stored p failed m) (finds : Finds (setting w stored) genesis (reopened_height floor) block state)
    (is_stored : stored_now (reopened_height floor) ≡ Some block) where
  -- it is refused for want of memory alone
  pub reopens-memory : w.kind.Sound m.members → w.kind.count < 2 ^ 64 → (before now : ℕ → ℕ)
      → ((i : ℕ) → i < w.kind.count → Rose (before i) (now i) → ⊥) → (new : w.kind.Members) (e : StepError)
      → FaultsOpening w stored_now floor keep before now m.members new e → e ≡ OutOfMemory
  reopens-memory sound few before now rises new e fault =
      refused-memory w laws stored_now floor keep m.members new sound block is_stored few before now rises
      (λ crashed is i within.
      let durably = KeepsDurably-crashed w.kind laws (w.works.meaning.targets block.block) i within m.members crashed keep is
      (k.reopenable (reopened_height floor) i block can finds.stored within) in
      record { place = durably.place; at = durably.at }) e fault

  -- and opens the databases on the fold's states
  pub reopens-on : TargetsName w → (register : Register) (now : Moment w)
      → Restarts w stored_now register (Restart floor keep) floor keep m now → OpensOn w now.marks now.members state
  reopens-on names register now r =
      let o = r.opens in
      let same : o.block ≡ block = let one = o.is_stored in search in
      let on : o.opening.at.1 ≡ state =
      names o.opening.at.1 state (o.opening.targets_are ∙ ap (λ (b : Named B). w.works.meaning.targets b.block) same ∙ sym finds.targets) in
      record {
        point = o.opening.at;
        here = o.opening.here;
        holds = on;
        based = λ base. sym (base-opened base now.marks (w.kind.point now.members) o.opening.at
            (ap (λ (ms : List (Mark B)). opens ms) o.marks ∙ opens-opened r.cleared.marks (anchor_by w.header o.block)) o.opening.here) ∙ on;
      }
