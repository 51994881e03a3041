-- Where a lawful event that is no restart is refused by a machine that is up, the reason lies outside.
use Rattle.std.proofs.Common.{◌≡◌, ◌<◌, ◌^◌, ◌⊎◌, inl, inr, ◌++◌, ◌∷◌, [], ℕ, true, Option, Some, None, List, refl, sym, ap, ◌∙◌, subst}
use Rattle.std.specs.Prelude.{IsSome, MatchOption}
use Rattle.stateful_base.specs.Names.{Named}
use Rattle.stateful_db.specs.Laws.{Laws}
use Rattle.stateful_history.specs.Joined.{Matches}
use Rattle.stateful_history.specs.Lawful.{BringsTruth, IsLawful}
use Rattle.stateful_history.specs.Live.{names_live}
use Rattle.stateful_history.specs.Met.{TrueNames}
use Rattle.stateful_history.specs.Past.{Past, Came, after}
use Rattle.stateful_history.specs.Stops.{IsRestart}
use Rattle.stateful_history.specs.Telling.{telling_of}
use Rattle.stateful_history.specs.Honest.{StoresFinalized}
use Rattle.stateful_history.specs.declared.event.Event.{Event}
use Rattle.stateful_history.specs.declared.event.Event.TheVariants as event
use Rattle.stateful_exec_model.specs.Built.{IsLiveBuild, FaultsTurn}
use Rattle.stateful_exec_model.specs.Fetching.{FaultsFetched}
use Rattle.stateful_exec_model.specs.Finalizing.{front_at, FaultsComplete, of_candidate, of_finalized, FaultsHook}
use Rattle.stateful_exec_model.specs.Workings.{Workings, Point}
use Rattle.stateful_exec_model.specs.declared.building.Building.{Building}
use Rattle.stateful_exec_tables.specs.declared.error.ExecError.{ExecError}
use Rattle.stateful_exec_model.specs.declared.front.Front.{Front}
use Rattle.stateful_exec_model.specs.declared.front.Stage.TheVariants.{Running}
use Rattle.stateful_exec_laws.specs.Building.{BuildsTakeTurns}
use Rattle.stateful_exec_laws.specs.Fronting.{RunsTakeTurns}
use Rattle.stateful_exec_laws.specs.Setting.{setting}
use Rattle.stateful_exec_laws.specs.Storing.{IsStoredNow}
use Rattle.stateful_loop_model.specs.Barriers.{awaiting}
use Rattle.stateful_loop_model.specs.Causes.{FaultsFlush, FaultsRule, memory, scheduling, running, advancing, applying, covering, observing, ending, beginning, building, taking}
use Rattle.stateful_loop_model.specs.Intake.{Counts, TakesIn, FaultsIntake}
use Rattle.stateful_loop_model.specs.Intake as intake
use Rattle.stateful_loop_model.specs.Moments.{Moment, inner}
use Rattle.stateful_loop_model.specs.Rules.{Along, Quiet}
use Rattle.stateful_loop_model.specs.declared.barriers.Active.{Active}
use Rattle.stateful_loop_model.specs.declared.error.StepError.{StepError}
use Rattle.stateful_loop_model.specs.declared.error.StepError.TheVariants as error
use Rattle.stateful_loop_laws.specs.Behind.{UpBehind}
use Rattle.stateful_loop_laws.specs.Execution.{IsPlaced, IsFree, NamesBehind}
use Rattle.stateful_loop_laws.specs.Stands.{IsUpAt}
use Rattle.stateful_loop_laws.specs.TakenBehind.{TakenBehind}
use Rattle.stateful_loop_laws.proofs.events.AlongUp.{along-up}
use Rattle.stateful_loop_laws.proofs.execution.AnchorStands.{Executes-folded}
use Rattle.stateful_loop_laws.proofs.events.RuleItems.{IsStoredNow-after}
use Rattle.stateful_loop_laws.proofs.events.TakenIn.{takes_in-up}
use Rattle.stateful_loop_laws.proofs.ways.Beside.{StoresFinalized-after}
use Rattle.stateful_actor_laws.specs.Machine.{numbered}
use Rattle.stateful_actor_laws.specs.Ahead.{HeadIs, IsAbove, IsAhead}
use Rattle.stateful_actor_laws.specs.Completeness.{IsBuiltNamed}
use Rattle.stateful_actor_laws.specs.Outside.{IsOutside}
use Rattle.stateful_actor_laws.proofs.ahead.Kept.{ahead-along}
use Rattle.stateful_actor_laws.proofs.ahead.Taken.{ahead-taken}
use Rattle.stateful_actor_laws.proofs.complete.BuildsRefused.{build-outside}
use Rattle.stateful_actor_laws.proofs.complete.RulesRefused.{rule-outside}
use Rattle.stateful_actor_laws.proofs.complete.RunsRefused.{candidate-outside, final-outside, hook-outside}
use Rattle.stateful_actor_laws.proofs.ahead.Serving.{IsOutsideOf, outside-via, AreHere, fetched-outside}

outside_memory : (before now : ℕ → ℕ) (e : StepError) → e ≡ error.OutOfMemory → IsOutside before now e
outside_memory before now e is = subst (λ (x : StepError). IsOutside before now x) (sym is) tt

module _ {B C I P R D H G U : Type 0} (w : Workings B C I P R D H G U) (stored_now : ℕ → Option (Named B)) (rose : Type 0) (before now : ℕ → ℕ)
    (new : w.kind.Members) where
  -- a rule that could go went where the machine is up; or memory ran out
  fault_is_up : (m : Moment w) (e : StepError) → FaultsRule w stored_now rose before now new m e → (e ≡ error.OutOfMemory) ⊎ (m.loop.up ≡ true)
  fault_is_up m e (memory is) = inl is
  fault_is_up m e (scheduling collected alive queue verifies via) = inr collected.0
  fault_is_up m e (running fin begun awaits uncached via) = inr fin.0.0
  fault_is_up m e (advancing fin states via) = inr fin.0.0
  fault_is_up m e (applying fin states f) = inr fin.0.0
  fault_is_up m e (covering fin front captured needed f) = inr fin.0.0
  fault_is_up m e (observing fin front captured via) = inr fin.0.0
  fault_is_up m e (ending fin front none via) = inr fin.0.0
  fault_is_up m e (beginning idle needed f) = inr idle.0.0
  fault_is_up m e (building calm actions via) = inr calm.0.0.0
  fault_is_up m e (taking calm takes f) = inr calm.0.0.0

module _ {B C I P R D H G U : Type 0} (w : Workings B C I P R D H G U) (laws : Laws w.kind) (few : w.kind.count < 2 ^ 64) (stored : ℕ → Option (Named B))
    (base : w.States) (p : Past B C I) (m : Moment w) (h : IsUpAt w stored base p m) (a : IsAhead w stored base p m) (names : TrueNames (setting w stored) p)
    (stored_now : ℕ → Option (Named B)) (counts : Counts R D H) where
  here : AreHere w m.members
  here none = let found : Some h.executes.point ≡ None = sym h.executes.located ∙ none in cc

  -- where a build is live, nothing is in front
  free : (b : Building B C D) → m.execution.build ≡ Some b → IsFree w stored base p h.executes.points h.executes.point m.next m.execution.state
  free b is =
      let alone : m.execution.front ≡ None = h.executes.alone (subst (λ (o : Option (Building B C D)). IsSome o) (sym is) refl) in
      subst (λ (f : Option (Front B R U H)). IsPlaced w stored base p h.executes.points h.executes.point m.next m.execution.state f) alone h.executes.placed

  -- the block in front matches the states of the databases, until it is applied
  matching : (j : ℕ) (b : Named B) (run : R) → m.execution.front ≡ front_at b (Running j run)
      → (after : w.States) × Matches (setting w stored) h.executes.point.1 b after
  matching j b run is =
      let above : IsAbove (setting w stored) a.anchor a.now b a.waits.head a.waits.before =
      subst (λ (f : Option (Front B R U H)). HeadIs (setting w stored) a.anchor a.now f a.waits.head a.waits.before) is a.waits.front in
      let states : Some a.now ≡ Some h.executes.point.1 = sym a.folded ∙ Executes-folded w stored base p m h.executes in
      let same : a.now ≡ h.executes.point.1 = cc in
      (a.waits.before, subst (λ (t : w.States). Matches (setting w stored) t b a.waits.before) same above.matches)

  module _ (rose : Type 0) (before now : ℕ → ℕ) (new : w.kind.Members) where
    flush-outside : (k i : ℕ) → IsSome (awaiting k i m.loop.barriers) → (e : StepError) → FaultsFlush w.kind before now new m.loop.barriers k i e → IsOutside before now e
    flush-outside k i awaits error.OutOfMemory f = tt
    flush-outside k i awaits error.Failed f = let never : IsSome {T = Active} None = subst (λ (o : Option Active). IsSome o) f awaits in cc
    flush-outside k i awaits (error.DatabaseFault n call) f = (f.1 few).2
    flush-outside k i awaits e f = absurd f

    complete-outside : (j : ℕ) (e : ExecError) → FaultsComplete w rose counts.run (inner w m) m.execution.front j e → IsOutsideOf e
    complete-outside j e (of_candidate f) =
        candidate-outside w stored p names rose counts.run h.executes.points h.executes.point (inner w m) h.executes.tables here j e f
    complete-outside j e (of_finalized none f) =
        final-outside w stored p laws few counts.run m.members h.executes.point h.executes.located m.next m.execution.state.anchor m.execution.front
        h.executes.fronts j (matching j) e f

    -- an event that isn't taken in
    pub intake-outside : (v : Event B C I) → names_live w.kind.count p v ≡ true → BringsTruth (setting w stored) (telling_of w.works) w.round_of base p v
        → IsBuiltNamed w stored base p v → (e : StepError) → FaultsIntake w stored_now counts rose before now new m e v → IsOutside before now e
    intake-outside v live brings named e (intake.memory is) = outside_memory before now e is
    intake-outside _ live brings named e (intake.fetching {f = f} {answer = answer} via) =
        outside-via before now _ (λ fault k. fetched-outside w rose stored_now (inner w m) f answer here fault k) e via
    intake-outside _ live brings named e (intake.building {j = j} b via) =
        outside-via before now _ (λ fault k. build-outside w laws few stored base p h.executes.points h.executes.point (inner w m) h.executes.tables
        (free b.0 b.1.live) h.executes.located a.rounds m.execution.build h.executes.builds counts.build j brings named fault k) e via
    intake-outside _ live brings named e (intake.hooking {j = j} hooks via) =
        outside-via before now _ (λ fault k. hook-outside w stored p counts.hook m.members m.execution.front j fault k) e via
    intake-outside _ live brings named e (intake.running {j = j} none unhooked via) = outside-via before now _ (λ fault k. complete-outside j fault k) e via
    intake-outside _ live brings named e (intake.flushing {k = k} {i = i} f) = flush-outside k i (h.loop.awaits k i live) e f

  -- a lawful event that is no restart was taken in by a machine at which nothing could go on without it, rules went, one after
  -- another, and then one that could go didn't
  module _ (stored_is : IsStoredNow stored p stored_now) (provider : P) (runs_cost : RunsTakeTurns w) (builds_cost : BuildsTakeTurns w)
      (v : Event B C I) (on : IsRestart v → ⊥) (named : TrueNames (setting w stored) (Came v ∷ p)) (stores : StoresFinalized w.header stored (Came v ∷ p))
      (lawful : IsLawful (setting w stored) (telling_of w.works) w.round_of base p (numbered w.kind.count) v) (up : m.loop.up ≡ true) (quiet : Quiet w m)
      (live : names_live w.kind.count p v ≡ true) where
    pub going-outside : (mid reached : Moment w) → NamesBehind w stored base (Came v ∷ p) m mid → TakesIn w stored_now counts m mid v
        → Along w stored_now provider mid reached → (rose : Type 0) (before now : ℕ → ℕ) (new : w.kind.Members) (e : StepError)
        → FaultsRule w stored_now rose before now new reached e → IsOutside before now e
    going-outside mid reached behind takes along rose before now new e f = of (fault_is_up w stored_now rose before now new reached e f)
      where
        taken : TakenBehind w stored base (Came v ∷ p) m mid
        taken = takes_in-up w laws stored base p stored_now stored_is counts m mid up quiet h v on live behind takes

        stored_mid : IsStoredNow stored (after (Came v ∷ p) taken.more) stored_now
        stored_mid = IsStoredNow-after stored (Came v ∷ p) stored_now stored_is taken.more taken.of_rules

        stores_mid : StoresFinalized w.header stored (after (Came v ∷ p) taken.more)
        stores_mid = StoresFinalized-after w.header stored (Came v ∷ p) taken.more stores

        b : UpBehind w stored base (after (Came v ∷ p) taken.more) mid reached
        b = along-up w stored base laws (after (Came v ∷ p) taken.more) stored_now stored_mid provider runs_cost builds_cost stores_mid mid reached taken.stands along

        first : IsAhead w stored base (after (Came v ∷ p) taken.more) mid
        first = ahead-taken w stored base p m mid h a stored_now counts v on named lawful takes taken.more taken.marks_are

        of : (e ≡ error.OutOfMemory) ⊎ (reached.loop.up ≡ true) → IsOutside before now e
        of (inl is) = outside_memory before now e is
        of (inr still) =
            rule-outside w stored base (after (after (Came v ∷ p) taken.more) b.more) reached (b.up still) few stored_now rose before now new
            (ahead-along w stored base laws (after (Came v ∷ p) taken.more) stored_now stored_mid provider runs_cost builds_cost stores_mid mid reached taken.stands first along still
            b.more b.marks_are) e f
