-- A machine that hasn't failed never answers that it has: while it is up its databases are here, and an open barrier awaits the
-- answer of each flush that may come.
use Rattle.std.proofs.Common.{◌≡◌, inl, inr, [], ℕ, true, List, Option, Some, None, refl, sym, ap, ◌∙◌, subst}
use Rattle.std.specs.Prelude.{IsSome, MatchOption, Result, Ok, Err}
use Rattle.stateful_base.specs.Names.{Named}
use Rattle.stateful_base.specs.declared.outcome.Handoff.{Handoff}
use Rattle.stateful_base.specs.declared.outcome.Handoff.TheVariants.{Wait, Vote, Stage}
use Rattle.stateful_base.specs.declared.outcome.Moved.{Moved}
use Rattle.stateful_base.specs.declared.outcome.Moved.TheVariants.{Pending, Done}
use Rattle.stateful_base.specs.declared.anchor.Anchor.{Anchor}
use Rattle.stateful_db.specs.Laws.{Laws}
use Rattle.stateful_db.specs.declared.barrier.Flushed.{Flushed}
use Rattle.stateful_db.specs.declared.application.ProposedBlock.{ProposedBlock}
use Rattle.stateful_db.specs.declared.application.AppFault.{AppFault}
use Rattle.stateful_exec_cache.specs.declared.cache.Cached.{Cached}
use Rattle.stateful_table.specs.Table.{at}
use Rattle.stateful_exec_model.specs.Built.{FaultsBuilt, FaultsGiven, FaultsTurn}
use Rattle.stateful_exec_tables.specs.Keeping.{FaultsKeep}
use Rattle.stateful_exec_model.specs.Built as built
use Rattle.stateful_exec_model.specs.Causes.{FaultsAcquire, FaultsAnswer, FaultsStep}
use Rattle.stateful_exec_model.specs.Causes as cause
use Rattle.stateful_exec_tables.specs.Keeping.{FaultsTake}
use Rattle.stateful_exec_tables.specs.Errors.{error_of_app}
use Rattle.stateful_exec_model.specs.Finalizing.{Conflicts, FaultsBegin, FaultsComplete, FaultsFinal, FaultsMove, FaultsSettleFinal, FaultsStepFinal}
use Rattle.stateful_exec_model.specs.Finalizing as final
use Rattle.stateful_exec_model.specs.Moments as exec
use Rattle.stateful_exec_tables.specs.Tables.{requested}
use Rattle.stateful_exec_model.specs.Workings.{Workings}
use Rattle.stateful_exec_tables.specs.declared.error.ExecError.{ExecError}
use Rattle.stateful_exec_tables.specs.declared.error.ExecError.TheVariants as exec_error
use Rattle.stateful_exec_model.specs.declared.building.Building.{Building}
use Rattle.stateful_exec_model.specs.declared.front.Front.{Front}
use Rattle.stateful_exec_tables.specs.declared.tables.LiveRun.{LiveRun}
use Rattle.stateful_history.specs.declared.event.Event.{Event}
use Rattle.stateful_history.specs.declared.event.Event.TheVariants as event
use Rattle.stateful_loop_model.specs.Barriers.{awaiting}
use Rattle.stateful_loop_model.specs.Causes.{FaultsApply, FaultsBarrier, FaultsFlush, FaultsMessage, FaultsRule, Via}
use Rattle.stateful_loop_model.specs.Causes as rule
use Rattle.stateful_loop_model.specs.Errors.{error_of_exec}
use Rattle.stateful_loop_model.specs.Intake.{Counts, FaultsIntake, TakesIn}
use Rattle.stateful_loop_model.specs.Intake as intake
use Rattle.stateful_loop_model.specs.Moments.{Moment, inner}
use Rattle.stateful_loop_model.specs.Rules.{Along, Takes, of_action, of_message}
use Rattle.stateful_loop_model.specs.Rules as loop_rule
use Rattle.stateful_loop_model.specs.Sound.{Sound}
use Rattle.stateful_loop_model.specs.declared.barriers.Active.{Active}
use Rattle.stateful_loop_model.specs.declared.error.StepError.{StepError}
use Rattle.stateful_loop_model.specs.declared.error.StepError.TheVariants as error
use Rattle.stateful_loop_model.specs.declared.message.Message.{Message}
use Rattle.stateful_loop_model.specs.declared.message.Message.TheVariants as message
use Rattle.stateful_loop_model.proofs.Sounding.{rule_sound}
use Rattle.stateful_loop_model.proofs.SoundingIntake.{taken_in_sound}
use Rattle.stateful_actor_laws.specs.Outside.{IsNotFailed}
use Rattle.stateful_actor_laws.proofs.complete.RunsRefused.{app-outside, hook-outside}
use Rattle.stateful_actor_laws.proofs.ahead.Serving.{IsOutsideOf, AreHere, start-outside, acquire-outside, follow-outside, resume-outside, propose-outside, observe-outside, fetched-outside}

-- what execution answered isn't that a database is away
abbrev IsNotLost : ExecError → Type 0
IsNotLost e = IsNotFailed (error_of_exec e)

outside-not_failed : (e : ExecError) → IsOutsideOf e → IsNotLost e
outside-not_failed exec_error.Lost h = absurd h
outside-not_failed e h = tt

is-not_failed : (e known : StepError) → e ≡ known → IsNotFailed known → IsNotFailed e
is-not_failed e known is h = subst (λ (x : StepError). IsNotFailed x) (sym is) h

is-not_lost : (e known : ExecError) → e ≡ known → IsNotLost known → IsNotLost e
is-not_lost e known is h = subst (λ (x : ExecError). IsNotLost x) (sym is) h

via-not_failed : (Faults : ExecError → Type 0) → ((fault : ExecError) → Faults fault → IsNotLost fault) → (e : StepError) → Via Faults e → IsNotFailed e
via-not_failed Faults each e via = is-not_failed e (error_of_exec via.0) via.2 (each via.0 via.1)

app-not_lost : (e : ExecError) (fault : AppFault) → e ≡ error_of_app fault → IsNotLost e
app-not_lost e fault is = is-not_lost e (error_of_app fault) is (outside-not_failed (error_of_app fault) (app-outside fault))

module _ {B C I P R D H G U : Type 0} (w : Workings B C I P R D H G U) where
  take-not_lost : (b : Named B) (cache : List (Cached U)) (e : ExecError) → FaultsTake w.header b cache e → IsNotLost e
  take-not_lost b cache exec_error.Lost h = absurd h
  take-not_lost b cache e h = tt

  keep-not_lost : (anchor : Anchor) (b : Named B) (batch : U) (cache : List (Cached U)) (e : ExecError)
      → FaultsKeep w.header anchor b batch cache e → IsNotLost e
  keep-not_lost anchor b batch cache exec_error.Lost h = absurd h
  keep-not_lost anchor b batch cache e h = tt

  final-not_lost : (b : Named B) (ended : Option U) (e : ExecError) → FaultsFinal w b ended e → IsNotLost e
  final-not_lost b None exec_error.Lost h = absurd h
  final-not_lost b (Some u) exec_error.Lost h = absurd h
  final-not_lost b ended e h = tt

  begin-not_lost : (anchor : Anchor) (b : Named B) (e : ExecError) → FaultsBegin w.header anchor b e → IsNotLost e
  begin-not_lost anchor b exec_error.Lost h = absurd h
  begin-not_lost anchor b e h = tt

  conflicts-not_lost : (anchor : Anchor) (b : Named B) (e : ExecError) → Conflicts w.header anchor b e → IsNotLost e
  conflicts-not_lost anchor b exec_error.Lost h = absurd h
  conflicts-not_lost anchor b e h = tt

  move-not_lost : (rose : Type 0) (b : Named B) (m : Moment w) (e : ExecError)
      → FaultsMove w rose b m.execution.state.cache m.execution.front e → IsNotLost e
  move-not_lost rose b m e (final.no_room is) = is-not_lost e exec_error.OutOfMemory is tt
  move-not_lost rose b m e (final.not_read is risen) = is-not_lost e exec_error.Application is tt
  move-not_lost rose b m e (final.no_states is none) = is-not_lost e (exec_error.FinalizedRejected b.digest) is tt

  -- a turn of a run, a build or a hook
  module _ (rose : Type 0) (count : R → ℕ) (m : exec.Moment w) (here : AreHere w m.members) (j : ℕ) where
    end-not_lost : (o : Option (LiveRun B R)) (cache : List (Cached U)) (e : ExecError)
        → MatchOption o ⊥ (λ run. FaultsTake w.header run.block cache e) → IsNotLost e
    end-not_lost None cache e h = absurd h
    end-not_lost (Some run) cache e h = take-not_lost run.block cache e h

    answer-not_lost : (mid : exec.Moment w) → mid.members ≡ m.members → (answer : Result (Moved (Option U)) AppFault) (e : ExecError)
        → FaultsAnswer w rose mid j answer e → IsNotLost e
    answer-not_lost mid same (Ok Pending) e h = absurd h
    answer-not_lost mid same (Ok (Done ended)) e (cause.memory is) = is-not_lost e exec_error.OutOfMemory is tt
    answer-not_lost mid same (Ok (Done ended)) e (cause.ending h) = end-not_lost (at mid.state.runs j) mid.state.cache e h
    answer-not_lost mid same (Ok (Done ended)) e (cause.following {b = b} {how = how} {done = done} ends h) =
        outside-not_failed e (follow-outside w rose b how _ _
        (subst (λ (x : w.kind.Members). AreHere w x) (sym (ap (λ (n : exec.Moment w). n.members) ends.becomes ∙ same)) here) e h)
    answer-not_lost mid same (Err fault) e h = app-not_lost e fault h

    run-not_lost : (e : ExecError) → FaultsStep w rose count m j e → IsNotLost e
    run-not_lost e (cause.memory is) = is-not_lost e exec_error.OutOfMemory is tt
    run-not_lost e (cause.turned {running = v} {answer = answer} t h) = answer-not_lost (record m { state = v }) refl answer e h

    finalized-not_lost : (front : Option (Front B R U H)) (e : ExecError) → FaultsStepFinal w count m.members front j e → IsNotLost e
    finalized-not_lost front e (final.run_failed {b = b} {answer = answer} live ran h) = of answer h
      where
        of : (answer : Result (Moved (Option U)) AppFault) → FaultsSettleFinal w b answer e → IsNotLost e
        of (Ok Pending) h = absurd h
        of (Ok (Done ended)) h = final-not_lost b ended e h
        of (Err fault) h = app-not_lost e fault h

    complete-not_lost : (front : Option (Front B R U H)) (e : ExecError) → FaultsComplete w rose count m front j e → IsNotLost e
    complete-not_lost front e (final.of_candidate f) = run-not_lost e f
    complete-not_lost front e (final.of_finalized none f) = finalized-not_lost front e f

  module _ (b : Building B C D) where
    built-not_lost : (anchor : Anchor) (p : ProposedBlock B U) (cache : List (Cached U)) (e : ExecError)
        → FaultsBuilt w b anchor p cache e → IsNotLost e
    built-not_lost anchor p cache e (built.memory is) = is-not_lost e exec_error.OutOfMemory is tt
    built-not_lost anchor p cache e (built.other {fault = fault} is other) = is-not_lost e (exec_error.ProposalMismatch fault) is tt
    built-not_lost anchor p cache e (built.not_kept {block = block} asked named h) = keep-not_lost anchor block p.merkleized cache e h

    given-not_lost : (anchor : Anchor) (given : Handoff (ProposedBlock B U)) (cache : List (Cached U)) (e : ExecError)
        → FaultsGiven w b anchor given cache e → IsNotLost e
    given-not_lost anchor Wait cache e is = is-not_lost e exec_error.OutOfMemory is tt
    given-not_lost anchor (Vote p) cache e h = built-not_lost anchor p cache e h
    given-not_lost anchor (Stage p) cache e h = built-not_lost anchor p cache e h

  build-not_lost : (count : D → ℕ) (m : exec.Moment w) (build : Option (Building B C D)) (j : ℕ) (e : ExecError)
      → FaultsTurn w count m build j e → IsNotLost e
  build-not_lost count m build j e (built.failed {fault = fault} live had is) = app-not_lost e fault is
  build-not_lost count m build j e (built.ending {b = b} {turned = turned} {given = given} live had f) =
      given-not_lost (record b { build = turned }) m.state.anchor given m.state.cache e f

  module _ (laws : Laws w.kind) (stored : ℕ → Option (Named B)) (rose : Type 0) (before now : ℕ → ℕ) (new : w.kind.Members) where
    barrier-not_failed : (number : ℕ) (e : StepError) → FaultsBarrier w.kind before now new number e → IsNotFailed e
    barrier-not_failed number error.Failed f = absurd f
    barrier-not_failed number e f = tt

    apply-not_failed : (m : w.kind.Members) → AreHere w m → (e : StepError) → FaultsApply w.kind before now new m e → IsNotFailed e
    apply-not_failed m here error.Failed f = absurd (here f)
    apply-not_failed m here e f = tt

    flush-not_failed : (barriers : List Active) (k i : ℕ) → IsSome (awaiting k i barriers) → (e : StepError)
        → FaultsFlush w.kind before now new barriers k i e → IsNotFailed e
    flush-not_failed barriers k i awaits error.Failed f =
        let never : IsSome {T = Active} None = subst (λ (o : Option Active). IsSome o) f awaits in cc
    flush-not_failed barriers k i awaits e f = tt

    -- a message that is taken
    message-not_failed : (mid : Moment w) → AreHere w mid.members → (x : Message B C I) (e : StepError)
        → FaultsMessage w stored rose before now new mid x e → IsNotFailed e
    message-not_failed mid here (message.Request request) e f =
        via-not_failed (FaultsAcquire w rose stored (inner w mid) (requested request))
        (λ fault k. outside-not_failed fault (acquire-outside w rose _ here stored (requested request) fault k)) e f
    message-not_failed mid here (message.Subscribe t) e f = absurd f
    message-not_failed mid here (message.Finalized t b) e (inl via) =
        via-not_failed (Conflicts w.header mid.execution.state.anchor b) (λ fault k. conflicts-not_lost mid.execution.state.anchor b fault k) e via
    message-not_failed mid here (message.Finalized t b) e (inr (high, via)) =
        via-not_failed (FaultsBegin w.header mid.execution.state.anchor b) (λ fault k. begin-not_lost mid.execution.state.anchor b fault k) e via

    takes_members : (m mid : Moment w) (x : Message B C I) → Takes w x m mid → mid.members ≡ m.members
    takes_members m mid x (of_action is e) = ap (λ (n : Moment w). n.members) e
    takes_members m mid x (of_message none is e) = ap (λ (n : Moment w). n.members) e

    module _ (m : Moment w) (sound : Sound w m) where
      here : m.loop.up ≡ true → AreHere w m.members
      here up none = let found : Some ((sound.up up).point) ≡ None = sym ((sound.up up).here) ∙ none in cc

      -- a rule that could go
      pub rule-not_failed : (e : StepError) → FaultsRule w stored rose before now new m e → IsNotFailed e
      rule-not_failed e (rule.memory is) = is-not_failed e error.OutOfMemory is tt
      rule-not_failed e (rule.scheduling {request = request} collected alive queue verifies via) =
          via-not_failed _
          (λ fault k. outside-not_failed fault (acquire-outside w rose _ (here collected.0) stored (requested request) fault k)) e via
      rule-not_failed e (rule.running fin begun awaits uncached via) =
          via-not_failed _
          (λ fault k. outside-not_failed fault
          (start-outside w rose m.execution.state.next_job m.members m.next (here fin.0.0) fault k)) e via
      rule-not_failed e (rule.advancing {f = f} fin states via) = via-not_failed _ (λ fault k. move-not_lost rose f.block m fault k) e via
      rule-not_failed e (rule.applying fin states f) = apply-not_failed m.members (here fin.0.0) e f
      rule-not_failed e (rule.covering fin front captured needed f) = barrier-not_failed m.loop.next_barrier e f
      rule-not_failed e (rule.observing {f = f} {captured = read} fin front captured via) =
          via-not_failed _
          (λ fault k. outside-not_failed fault
          (observe-outside w rose f.block read m.members m.execution.state.next_job fault k)) e via
      rule-not_failed e (rule.ending fin front none via) =
          via-not_failed _
          (λ fault k. outside-not_failed fault (resume-outside w rose stored (inner w m) (here fin.0.0) fault k)) e via
      rule-not_failed e (rule.beginning idle needed f) = barrier-not_failed m.loop.next_barrier e f
      rule-not_failed e (rule.building {t = t} calm actions via) =
          via-not_failed _
          (λ fault k. outside-not_failed fault
          (propose-outside w rose t m.members m.next m.execution.state (here calm.0.0.0) fault k)) e via
      rule-not_failed e (rule.taking {x = x} {mid = mid} calm takes f) =
          message-not_failed mid (subst (λ (x : w.kind.Members). AreHere w x) (sym (takes_members m mid x takes)) (here calm.0.0.0)) x e f

      -- the intake of an event, while the machine is up and an open barrier awaits what is flushed
      pub intake-not_failed : m.loop.up ≡ true → (counts : Counts R D H) (v : Event B C I)
          → ((k i : ℕ) (answer : Flushed) → v ≡ event.Flushed k i answer → IsSome (awaiting k i m.loop.barriers)) → (e : StepError)
          → FaultsIntake w stored counts rose before now new m e v → IsNotFailed e
      intake-not_failed up counts v awaits e (intake.memory is) = is-not_failed e error.OutOfMemory is tt
      intake-not_failed up counts _ awaits e (intake.fetching {f = f} {answer = answer} via) =
          via-not_failed _
          (λ fault k. outside-not_failed fault (fetched-outside w rose stored (inner w m) f answer (here up) fault k)) e via
      intake-not_failed up counts _ awaits e (intake.building {j = j} b via) =
          via-not_failed _ (λ fault k. build-not_lost counts.build (inner w m) m.execution.build j fault k) e via
      intake-not_failed up counts _ awaits e (intake.hooking {j = j} hooks via) =
          via-not_failed _
          (λ fault k. outside-not_failed fault (hook-outside w stored [] counts.hook m.members m.execution.front j fault k)) e via
      intake-not_failed up counts _ awaits e (intake.running {j = j} none unhooked via) =
          via-not_failed _ (λ fault k. complete-not_lost rose counts.run (inner w m) (here up) j m.execution.front fault k) e via
      intake-not_failed up counts _ awaits e (intake.flushing {k = k} {i = i} {answer = answer} f) =
          flush-not_failed m.loop.barriers k i (awaits k i answer refl) e f

  -- where an event was taken in, and rules went, one after another, and then one that could go didn't
  module _ (laws : Laws w.kind) (stored : ℕ → Option (Named B)) (provider : P) where
    along-sound : (m reached : Moment w) → Along w stored provider m reached → Sound w m → Sound w reached
    along-sound m _ loop_rule.none s = s
    along-sound m now (loop_rule.further {mid = mid} along r) s = rule_sound w laws stored provider mid now r (along-sound m mid along s)

    pub going-not_failed : (counts : Counts R D H) (m mid reached : Moment w) (v : Event B C I) → Sound w m → m.loop.up ≡ true
        → TakesIn w stored counts m mid v → Along w stored provider mid reached
        → (rose : Type 0) (before now : ℕ → ℕ) (new : w.kind.Members) (e : StepError)
        → FaultsRule w stored rose before now new reached e → IsNotFailed e
    going-not_failed counts m mid reached v s up takes along rose before now new e f =
        rule-not_failed laws stored rose before now new reached
        (along-sound mid reached along (taken_in_sound w laws stored counts m mid v takes (s.up up))) e f
