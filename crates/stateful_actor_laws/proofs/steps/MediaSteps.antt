-- The media stand behind each step of the machine, for the past with the entry.
use Rattle.std.proofs.Common.{◌≡◌, ◌⊎◌, ◌++◌, ◌∷◌, [], inl, inr, ℕ, Bool, true, false, not, List, All, Option, Some, refl, sym, ap, ◌∙◌, subst, append_assoc, true≢false}
use Rattle.stateful_base.specs.Anchor.{anchor_by}
use Rattle.stateful_base.specs.Names.{Named}
use Rattle.stateful_base.specs.declared.anchor.Anchor.{Anchor}
use Rattle.stateful_base.specs.declared.floor.Floor.{Floor}
use Rattle.stateful_db.specs.Laws.{Laws}
use Rattle.stateful_history.specs.Live.{may_come}
use Rattle.stateful_history.specs.Met.{TrueNames}
use Rattle.stateful_history.specs.Past.{Past, Came, Made, after, after_entry}
use Rattle.stateful_history.specs.Restarts.{CanReopen}
use Rattle.stateful_history.specs.Stops.{IsRestart}
use Rattle.stateful_history.specs.Honest.{StoresHeights, StoresFinalized}
use Rattle.stateful_history.specs.declared.event.Event.{Event}
use Rattle.stateful_history.specs.declared.event.Event.TheVariants.{Restart}
use Rattle.stateful_history.specs.declared.mark.Mark.{Mark}
use Rattle.stateful_history.specs.declared.mark.Mark.TheVariants.{Opened, Stopped}
use Rattle.stateful_history.proofs.Marks.{after-append, after-push}
use Rattle.stateful_exec_model.specs.Workings.{Workings}
use Rattle.stateful_actor_register.specs.Ends.{EndsAll, LeavesNothing}
use Rattle.stateful_actor_register.specs.Register.{RegisterStands}
use Rattle.stateful_actor_register.specs.declared.register.Register.{Register}
use Rattle.stateful_exec_laws.specs.Building.{BuildsTakeTurns}
use Rattle.stateful_exec_laws.specs.Fronting.{RunsTakeTurns}
use Rattle.stateful_exec_laws.specs.Setting.{setting}
use Rattle.stateful_exec_laws.specs.Storing.{IsStoredNow}
use Rattle.stateful_loop_laws.specs.Down.{IsEnding}
use Rattle.stateful_loop_laws.specs.Execution.{NamesBehind}
use Rattle.stateful_loop_laws.specs.Media.{TargetsRise, KeepsReopenable, KeepsHeights, MediaKept}
use Rattle.stateful_loop_laws.proofs.events.Counting.{ends_stopped}
use Rattle.stateful_loop_laws.proofs.events.EventUp.{names-taken}
use Rattle.stateful_loop_laws.proofs.duly.MarksOfRules.{taken_in_marks}
use Rattle.stateful_loop_laws.proofs.media.Along.{event-media}
use Rattle.stateful_loop_laws.proofs.media.Opens.{opens-media}
use Rattle.stateful_loop_laws.proofs.events.NamesBehind.{NamesBehind-marks, NamesBehind-later}
use Rattle.stateful_loop_laws.proofs.media.Reaching.{CanReopen-ends}
use Rattle.stateful_loop_laws.proofs.events.TakenIn.{may_come-live}
use Rattle.stateful_loop_model.specs.Intake.{Counts}
use Rattle.stateful_loop_model.specs.Moments.{Moment}
use Rattle.stateful_actor_laws.specs.Machine.{numbered, is_restart}
use Rattle.stateful_actor_laws.specs.Media.{MediaStand}
use Rattle.stateful_actor_laws.specs.Stands.{StandsAt}
use Rattle.stateful_actor_laws.specs.Steps.{IsStep, Plays, Stops, Restarts}
use Rattle.stateful_actor_laws.proofs.work.LiveFlushes.{numbered_le, names_live-more}
use Rattle.stateful_actor_laws.proofs.steps.Stepping.{may_come-up}
use Rattle.stateful_actor_laws.proofs.steps.StoresBefore.{StoresFinalized-before_marks}
use Rattle.stateful_actor_laws.proofs.work.Ends.{EndsAll-ends, IsWorkEnd-ending}

module _ {B C I P R D H G U : Type 0} (w : Workings B C I P R D H G U) (laws : Laws w.kind) (stored stored_now : ℕ → Option (Named B))
    (base : w.States) (p : Past B C I) (stored_is : IsStoredNow stored p stored_now) where
  module _ (counts : Counts R D H) (provider : P) (runs_cost : RunsTakeTurns w) (builds_cost : BuildsTakeTurns w) (event : Event B C I)
      (on : IsRestart event → ⊥) (register : Register) (m now : Moment w) (registered : RegisterStands (numbered w.kind.count) p register)
      (s : StandsAt w stored base p m) (may_come_is : may_come (numbered w.kind.count) p event ≡ true)
      (played : Plays w stored_now provider counts register event m now) (stores : StoresFinalized w.header stored (Came event ∷ p))
      (k : MediaStand w stored p false m) where
    abbrev q : Past B C I
    q = Came event ∷ p

    abbrev settled : Moment w
    settled = played.settled

    up : m.loop.up ≡ true
    up = s.up_is ∙ s.open_is ∙ ap (λ b. not b) (may_come-up (numbered w.kind.count) p event on may_come_is)

    marks_are : settled.marks ≡ m.marks ++ settled.marks
    marks_are = ap (λ (ms : List (Mark B)). ms ++ settled.marks) (sym s.restart.unmarked)

    media_settled : NamesBehind w stored base q m settled → MediaKept w stored (after q settled.marks) settled.execution.state.anchor settled.members
    media_settled names =
        let h = s.up up in
        event-media w laws stored base p stored_now stored_is counts provider runs_cost builds_cost event on m up h.1 h.0
        (names_live-more (numbered w.kind.count) w.kind.count (numbered_le w.kind.count) p event
        (may_come-live (numbered w.kind.count) p event on may_come_is)) stores (record { reopenable = k.reopenable; heights = k.heights refl up })
        played.advances.taken settled played.advances.takes played.advances.settles.along
        (names-taken w stored base q m stored_now provider played.advances.taken settled
        (taken_in_marks w stored_now counts m played.advances.taken event played.advances.takes) played.advances.settles.along names)
        settled.marks marks_are

    -- the machine is up
    media_on : now ≡ settled → TrueNames (setting w stored) (after q now.marks) → MediaStand w stored (after q now.marks) false (record now { marks = [] })
    media_on is names =
        let names_here : TrueNames (setting w stored) (after q settled.marks) =
        subst (λ (n : Moment w). TrueNames (setting w stored) (after q n.marks)) is names in
        let there : MediaKept w stored (after q settled.marks) settled.execution.state.anchor settled.members =
        media_settled (NamesBehind-marks w stored base q m settled settled.marks marks_are names_here) in
        subst (λ (n : Moment w). MediaStand w stored (after q n.marks) false (record n { marks = [] })) (sym is)
        (record { reopenable = there.reopenable; heights = λ working up. there.heights })

    -- it has stopped
    module _ (stopped : Stops w stored_now register event settled now) where
      work : (ends : List (Mark B)) × (stopped.ends ≡ settled.marks ++ ends) × EndsAll (after_entry p event settled.marks) ends
          × LeavesNothing (after_entry p event settled.marks) ends
      work = stopped.work p registered

      abbrev last : List (Mark B)
      last = work.0 ++ Stopped ∷ []

      ending : All IsEnding last
      ending = ends_stopped work.0 (IsWorkEnd-ending work.0 (EndsAll-ends (after q settled.marks) work.0 work.2))

      all_are : now.marks ≡ settled.marks ++ last
      all_are = stopped.marks_are ∙ ap (λ (ms : List (Mark B)). ms ++ Stopped ∷ []) work.1 ∙ append_assoc settled.marks work.0 (Stopped ∷ [])

      past_is : after q now.marks ≡ after (after q settled.marks) last
      past_is = ap (λ (ms : List (Mark B)). after q ms) all_are ∙ after-append q settled.marks last

      media_stopped : TrueNames (setting w stored) (after q now.marks) → MediaStand w stored (after q now.marks) false (record now { marks = [] })
      media_stopped names =
          let there : MediaKept w stored (after q settled.marks) settled.execution.state.anchor settled.members =
          media_settled (NamesBehind-later w stored base q m settled settled.marks marks_are last
          (subst (λ (ms : List (Mark B)). TrueNames (setting w stored) (after q ms)) all_are names)) in
          let kept : KeepsReopenable w stored (after q settled.marks) now.members =
          subst (λ (x : w.kind.Members). KeepsReopenable w stored (after q settled.marks) x) (sym stopped.cleared.rest.0) there.reopenable in
          record {
            reopenable = λ n i b can is within. kept n i b
                (CanReopen-ends n (after q settled.marks) last ending (subst (λ (r : Past B C I). CanReopen n r) past_is can)) is within;
            heights = λ working up_now. absurd (true≢false (sym up_now ∙ stopped.cleared.up));
          }

    plays-media : TrueNames (setting w stored) (after_entry p event now.marks)
        → MediaStand w stored (after_entry p event now.marks) false (record now { marks = [] })
    plays-media names = of played.ends
      where
        of : ((settled.loop.up ≡ true) × (now ≡ settled)) ⊎ Stops w stored_now register event settled now
            → MediaStand w stored (after_entry p event now.marks) false (record now { marks = [] })
        of (inl still) = media_on still.1 names
        of (inr stopped) = media_stopped stopped names

  module _ (heights : StoresHeights w.header stored) (rise : TargetsRise w stored) (floor : Floor) (keep : List ℕ) (register : Register)
      (m now : Moment w) (registered : RegisterStands (numbered w.kind.count) p register) (unmarked : m.marks ≡ [])
      (sound : w.kind.Sound m.members) (restarted : Restarts w stored_now register (Restart floor keep) floor keep m now)
      (k : KeepsReopenable w stored p m.members) where
    abbrev came : Past B C I
    came = Came (Restart floor keep) ∷ p

    abbrev anchor : Anchor
    anchor = anchor_by w.header restarted.opens.block

    ends : (over : List (Mark B)) × (restarted.cleared.marks ≡ m.marks ++ over) × EndsAll (after_entry p (Restart floor keep) m.marks) over
        × LeavesNothing (after_entry p (Restart floor keep) m.marks) over
    ends = restarted.work p registered

    over_ends : All IsEnding ends.0
    over_ends = IsWorkEnd-ending ends.0 (EndsAll-ends came ends.0
        (subst (λ (ms : List (Mark B)). EndsAll (after came ms) ends.0) unmarked ends.2))

    restarted_past : after came now.marks ≡ Made (Opened anchor) ∷ after came ends.0
    restarted_past =
        ap (λ (ms : List (Mark B)). after came ms) (restarted.opens.marks
        ∙ ap (λ (ms : List (Mark B)). ms ++ Opened anchor ∷ []) (ends.1 ∙ ap (λ (ms : List (Mark B)). ms ++ ends.0) unmarked))
        ∙ after-push came ends.0 (Opened anchor)

    restarts-media : MediaStand w stored (after_entry p (Restart floor keep) now.marks) false (record now { marks = [] })
    restarts-media =
        let there : MediaKept w stored (Made (Opened anchor) ∷ after came ends.0) anchor now.members =
        opens-media w laws stored stored_now p stored_is rise floor keep m.members sound k heights restarted.cleared now restarted.clears.rest.0
        restarted.opens ends.0 over_ends in
        subst (λ (r : Past B C I). MediaStand w stored r false (record now { marks = [] })) (sym restarted_past) (record {
          reopenable = there.reopenable;
          heights = λ working up. subst (λ (a : Anchor). KeepsHeights w stored (Some anchor) a now.members) (sym restarted.opens.anchor) there.heights;
        })

  -- Whatever the event: names are true with the entry, the store is honest, and its targets rise.
  pub step-media : (counts : Counts R D H) (provider : P) → RunsTakeTurns w → BuildsTakeTurns w → StoresHeights w.header stored
      → TargetsRise w stored → (event : Event B C I) (failed : Bool) (register : Register) (m now : Moment w)
      → (is_restart event ≡ false → failed ≡ false) → RegisterStands (numbered w.kind.count) p register
      → m.marks ≡ [] → w.kind.Sound m.members → (is_restart event ≡ false → StandsAt w stored base p m)
      → may_come (numbered w.kind.count) p event ≡ true → IsStep w stored_now provider counts register event m now
      → TrueNames (setting w stored) (after_entry p event now.marks) → StoresFinalized w.header stored (after_entry p event now.marks)
      → MediaStand w stored p failed m → MediaStand w stored (after_entry p event now.marks) false (record now { marks = [] })
  step-media counts provider runs_cost builds_cost heights rise (Restart floor keep) failed register m now works registered unmarked sound s
      may_come_is step names stores k =
      restarts-media heights rise floor keep register m now registered unmarked sound step k.reopenable
  step-media counts provider runs_cost builds_cost heights rise event failed register m now works registered unmarked sound s may_come_is step names
      stores k =
      plays-media counts provider runs_cost builds_cost event (λ no. no) register m now registered (s refl) may_come_is step
      (StoresFinalized-before_marks w.header stored (Came event ∷ p) now.marks stores)
      (subst (λ (f : Bool). MediaStand w stored p f m) (works refl) k) names
