-- After each event that is taken in, where nothing pauses, what each request needs was looked for.
use Rattle.std.proofs.Common.{◌≡◌, ℕ, List, Option, refl, sym, ap, ◌∙◌, subst}
use Rattle.std.proofs.lemmas.List.Elements.{All-filter}
use Rattle.stateful_base.specs.Names.{Header, Named}
use Rattle.stateful_base.specs.declared.outcome.Handoff.{Handoff}
use Rattle.stateful_base.specs.declared.outcome.Handoff.TheVariants.{Wait, Vote, Stage}
use Rattle.stateful_db.specs.declared.application.ProposedBlock.{ProposedBlock}
use Rattle.stateful_history.specs.declared.event.Event.{Event}
use Rattle.stateful_history.specs.declared.mark.Mark.{Mark}
use Rattle.stateful_table.specs.Table.{without}
use Rattle.stateful_exec_model.specs.Built.{TurnsBuild, other, goes_on, ends, EndsBuild, GivesUp, building, asking}
use Rattle.stateful_exec_pause.specs.Fates.{Crosses}
use Rattle.stateful_exec_model.specs.Fetching.{IsFetched, found, waits as awaits, declines, dead, serving}
use Rattle.stateful_exec_tables.specs.Cancelling.{Cancels}
use Rattle.stateful_exec_tables.specs.Fetching.{with_block}
use Rattle.stateful_exec_tables.specs.Cancelling.{idle, withdraws, leaves, ends as ends_run, unqueued}
use Rattle.stateful_exec_model.specs.Finalizing.{Completes}
use Rattle.stateful_exec_model.specs.Finalizing.{candidate, finalized}
use Rattle.stateful_exec_model.specs.Moments as exec
use Rattle.stateful_exec_model.specs.Workings.{Workings}
use Rattle.stateful_exec_model.specs.declared.building.Building.{Building}
use Rattle.stateful_exec_pause.specs.declared.pause.Pause.{Pause}
use Rattle.stateful_exec_pause.specs.declared.pause.Pause.TheVariants.{Free, Finalizing, Pruning}
use Rattle.stateful_exec_walk.specs.declared.request.Verdict.TheVariants.{Invalid}
use Rattle.stateful_exec_tables.specs.declared.state.Tables.{Tables}
use Rattle.stateful_exec_tables.specs.declared.tables.Phase.TheVariants.{Open}
use Rattle.stateful_exec_tables.specs.declared.tables.Requested.{Requested}
use Rattle.stateful_exec_laws.proofs.earned.Left.{LeavesBehind-acquires, LeavesBehind-concludes}
use Rattle.stateful_loop_model.specs.Intake as intake
use Rattle.stateful_loop_model.specs.Intake.{Counts, TurnsJob, TakesIn}
use Rattle.stateful_loop_model.specs.Moments.{Moment, inner}
use Rattle.stateful_loop_laws.specs.InHand.{NoneOpen}
use Rattle.stateful_loop_laws.proofs.carried.SettledKept.{settling_fetched, settling_steps}
use Rattle.stateful_loop_laws.proofs.carried.SettledRules.{IsSettledAt, settled_same}
use Rattle.stateful_loop_laws.proofs.execution.StepsLeave.{pause-steps}

-- where nothing pauses after the end of a run, nothing did
pub crossed_free : {B : Type 0} (header : Header B) (b : Named B) (old new : Pause) → Crosses header b old new → new ≡ Free → old ≡ Free
crossed_free header b Free new crosses is = refl
crossed_free header b Pruning new crosses is = let no : Pruning ≡ Free = sym crosses ∙ is in absurd (cc)
crossed_free header b (Finalizing old) Free crosses is = absurd crosses
crossed_free header b (Finalizing old) Pruning crosses is = absurd crosses
crossed_free header b (Finalizing old) (Finalizing new) crosses is = absurd (cc)

module _ {B C I P R D H G U : Type 0} (w : Workings B C I P R D H G U) where
  -- the pause stays behind the answer of a fetch
  pub pause_fetched : (stored_now : ℕ → Option (Named B)) (m now : exec.Moment w) (f : ℕ) (answer : Option (Named B))
      → IsFetched w stored_now m f answer now
      → now.state.pause ≡ m.state.pause
  pause_fetched stored_now m now f answer (found t r b fetches is acquires) =
      (LeavesBehind-acquires w stored_now (serving w m t) now t (with_block r b) acquires).left.pause
  pause_fetched stored_now m now f answer (awaits t r fetches is verification becomes) = ap (λ (n : exec.Moment w). n.state.pause) becomes
  pause_fetched stored_now m now f answer (declines t r fetches is off c) = (LeavesBehind-concludes w (serving w m t) now t r Invalid c).left.pause
  pause_fetched stored_now m now f answer (dead off same) = ap (λ (n : exec.Moment w). n.state.pause) same

  module _ (m : Moment w) (h : IsSettledAt w m.execution.state) where
    settled_build : (b : Building B C D) (given : Handoff (ProposedBlock B U)) (then : exec.Moment w) → EndsBuild w b (inner w m) given then
        → IsSettledAt w then.state
    settled_build b Wait then is =
        settled_same w m.execution.state then.state (ap (λ (n : exec.Moment w). n.state.requests) is) (ap (λ (n : exec.Moment w). n.state.pause) is) h
    settled_build b (Vote x) then g =
        settled_same w m.execution.state then.state (ap (λ (n : exec.Moment w). n.state.requests) g.becomes)
        (ap (λ (n : exec.Moment w). n.state.pause) g.becomes) h
    settled_build b (Stage x) then g =
        settled_same w m.execution.state then.state (ap (λ (n : exec.Moment w). n.state.requests) g.becomes)
        (ap (λ (n : exec.Moment w). n.state.pause) g.becomes) h

    settled_turns : (counts : Counts R D H) (j : ℕ) (now : Moment w) → TurnsJob w counts j m now → IsSettledAt w now.execution.state
    settled_turns counts j now (intake.build {then = then} {after = after_build} live t is) =
        subst (λ (n : Moment w). IsSettledAt w n.execution.state) (sym is) (by t)
      where
        by : TurnsBuild w counts.build (inner w m) m.execution.build j then after_build → IsSettledAt w then.state
        by (other none_live same stays) = subst (λ (n : exec.Moment w). IsSettledAt w n.state) (sym same) h
        by (goes_on {b = b} {turned = turned_to} live had same becomes) = subst (λ (n : exec.Moment w). IsSettledAt w n.state) (sym same) h
        by (ends {b = b} {turned = turned_to} {given = given} live had is gone) = settled_build (record b { build = turned_to }) given then is
    settled_turns counts j now (intake.hook {marks = marks} {after = front} unbuilt live on is) =
        subst (λ (n : Moment w). IsSettledAt w n.execution.state) (sym is) h
    settled_turns counts j now (intake.run {then = then} {after = front} unbuilt unhooked c is) =
        subst (λ (n : Moment w). IsSettledAt w n.execution.state) (sym is) (by c)
      where
        by : Completes w counts.run (inner w m) m.execution.front j then front → IsSettledAt w then.state
        by (candidate steps gone) free = settling_steps w counts.run (inner w m) then j steps
            (h (pause-steps w counts.run (inner w m) then j (λ (x : Pause). x ≡ Free → m.execution.state.pause ≡ Free)
            (λ b new crosses. crossed_free w.header b m.execution.state.pause new crosses) (λ is. is) steps free))
        by (finalized absent steps same) free = subst (λ (n : exec.Moment w). IsSettledAt w n.state) (sym same) h free

    settled_cancels : (t : ℕ) (new : Tables B C I R U) (marks : List (Mark B)) → Cancels m.execution.state new t marks → IsSettledAt w new
    settled_cancels t new marks c = by c
      where
        out : NoneOpen m.execution.state.requests → NoneOpen (without m.execution.state.requests t)
        out none = All-filter _ (λ (e : ℕ × Requested B C I). e.1.phase ≡ Open → ⊥) m.execution.state.requests none

        by : Cancels m.execution.state new t marks → IsSettledAt w new
        by (idle r there is new_is marks_is) = rw new_is (λ free. out (h free))
        by (withdraws r f fetches new_is marks_is) = rw new_is (λ free. out (h free))
        by (leaves r j path there executing others new_is marks_is) = rw new_is (λ free. out (h free))
        by (ends_run r j path there executing last new_is marks_is) = rw new_is (λ free. out (h free))
        by (unqueued gone new_is marks_is) = rw new_is (λ free. out (h free))

    settled_gives_up : (t : ℕ) (now : Moment w) → intake.Cancels w t m now → IsSettledAt w now.execution.state
    settled_gives_up t now c = subst (λ (n : Moment w). IsSettledAt w n.execution.state) (sym c.becomes) (by c.gives_up)
      where
        by : GivesUp m.execution.state c.state m.execution.build c.build t c.marks → IsSettledAt w c.state
        by (building own same gone marks) = subst (λ v. IsSettledAt w v) (sym same) h
        by (asking none cancels same) = settled_cancels t c.state c.marks cancels

    -- After each event it is so, where it was so before.
    pub settled-takes_in : (stored_now : ℕ → Option (Named B)) (counts : Counts R D H) (e : Event B C I) (now : Moment w)
        → TakesIn w stored_now counts m now e
        → IsSettledAt w now.execution.state
    settled-takes_in stored_now counts e now (intake.enters {x = x} is become) =
        subst (λ (n : Moment w). IsSettledAt w n.execution.state) (sym become) h
    settled-takes_in stored_now counts e now (intake.cancels {t = t} c) = settled_gives_up t now c
    settled-takes_in stored_now counts e now (intake.fetched {f = f} {answer = answer} {then = then} is become) =
        subst (λ (n : Moment w). IsSettledAt w n.execution.state) (sym become)
        (λ free. settling_fetched w stored_now (inner w m) then f answer is (h (sym (pause_fetched stored_now (inner w m) then f answer is) ∙ free)))
    settled-takes_in stored_now counts e now (intake.turns {j = j} t) = settled_turns counts j now t
    settled-takes_in stored_now counts e now (intake.flushes {k = k} {i = i} {answer = answer} f) =
        subst (λ (n : Moment w). IsSettledAt w n.execution.state) (sym f.becomes) h
    settled-takes_in stored_now counts e now (intake.stops become) = subst (λ (n : Moment w). IsSettledAt w n.execution.state) (sym become) h
    settled-takes_in stored_now counts e now (intake.progresses {i = i} same) = subst (λ (n : Moment w). IsSettledAt w n.execution.state) (sym same) h
    settled-takes_in stored_now counts e now (intake.restarts same) = subst (λ (n : Moment w). IsSettledAt w n.execution.state) (sym same) h
