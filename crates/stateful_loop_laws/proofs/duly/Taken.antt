-- Marks of jobs, answers to builds, withdrawn fetches and finalizations keep their rules after every event that is taken in, but for a
-- restart.
use Rattle.std.proofs.Common.{◌≡◌, ◌++◌, ◌∷◌, [], inl, inr, ℕ, List, Option, Some, None, refl, sym, ap, ◌∙◌, subst, append-nil}
use Rattle.stateful_base.specs.Names.{Named}
use Rattle.stateful_history.specs.Past.{Past, Came, EachMark}
use Rattle.stateful_history.specs.Prunes.{PruneRule}
use Rattle.stateful_history.specs.Requests.{Proposal, IsLiveProposal, proposed}
use Rattle.stateful_history.specs.Runs.{CancelledHasCause, EndsAsItsKind}
use Rattle.stateful_history.specs.Stops.{IsRestart}
use Rattle.stateful_history.specs.declared.event.Event.{Event}
use Rattle.stateful_history.specs.declared.event.Event.TheVariants as event
use Rattle.stateful_history.specs.declared.mark.How.TheVariants.{Cancelled}
use Rattle.stateful_history.specs.declared.mark.Mark.{Mark}
use Rattle.stateful_history.specs.declared.mark.Mark.TheVariants.{Ended, Withdrawn}
use Rattle.stateful_exec_model.specs.Built.{IsBuildFor, GivesUp, building, asking}
use Rattle.stateful_exec_tables.specs.Cancelling.{Cancels}
use Rattle.stateful_exec_tables.specs.Cancelling.{idle, withdraws, leaves, ends, unqueued}
use Rattle.stateful_exec_model.specs.Workings.{Workings}
use Rattle.stateful_exec_model.specs.declared.building.Building.{Building}
use Rattle.stateful_exec_tables.specs.declared.state.Tables.{Tables}
use Rattle.stateful_exec_laws.specs.Building.{BuildStands}
use Rattle.stateful_exec_laws.specs.Outstanding.{TicketsApart}
use Rattle.stateful_exec_laws.specs.Setting.{setting}
use Rattle.stateful_exec_laws.proofs.places.Cancelled.{HasCause, cancels-cause}
use Rattle.stateful_loop_model.specs.Intake as intake
use Rattle.stateful_loop_model.specs.Intake.{Counts, TakesIn, enters, cancels, fetched, turns, flushes, stops, progresses, restarts}
use Rattle.stateful_loop_model.specs.Moments.{Moment, inner}
use Rattle.stateful_loop_laws.specs.Duly.{DulyBehind}
use Rattle.stateful_loop_laws.specs.Execution.{Executes}
use Rattle.stateful_loop_laws.proofs.duly.Turned.{duly-turns}
use Rattle.stateful_loop_laws.proofs.duly.Unruled.{unruled-fetched, duly-none, duly-by}

module _ {B C I P R D H G U : Type 0} (w : Workings B C I P R D H G U) (stored : ℕ → Option (Named B)) (base : w.States) (p : Past B C I)
    (m : Moment w) (e : Executes w stored base p m) (apart : TicketsApart p) where
  abbrev v : Tables B C I R U
  v = m.execution.state

  module _ (t : ℕ) (now : Moment w) where
    abbrev given : Past B C I
    given = Came (event.Cancel t) ∷ p

    abbrev Duly : Type 0
    Duly = DulyBehind w stored base (event.Cancel t) given m now

    none_said : now.marks ≡ m.marks ++ [] → Duly
    none_said is = duly-none w stored base (event.Cancel t) given m now (is ∙ append-nil m.marks)

    one_ended : (j : ℕ) → now.marks ≡ m.marks ++ Ended j Cancelled ∷ [] → EndsAsItsKind (event.Cancel t) given (Ended j Cancelled)
        → ((all : List (Mark B)) → CancelledHasCause (setting w stored) (event.Cancel t) all given (Ended j Cancelled)) → Duly
    one_ended j is own_end cause = record {
      more = Ended j Cancelled ∷ [];
      marks_are = is;
      each = λ all among. ((tt, tt, own_end, cause all, λ rule. tt, tt), tt);
      answered = tt;
    }

    -- a request is given up
    by_cancel : (new : Tables B C I R U) (marks : List (Mark B)) → Cancels v new t marks → now.marks ≡ m.marks ++ marks → Duly
    by_cancel new marks c is = go c
      where
        caused : (rule : Option (PruneRule w.Targets)) (all : List (Mark B))
            → EachMark (HasCause w stored p e.points e.point m.next v e.tables t rule all) given marks
        caused rule all = cancels-cause w stored p e.points e.point m.next v e.tables t rule all apart new marks c

        made : (more : List (Mark B)) → marks ≡ more → now.marks ≡ m.marks ++ more
        made more same = is ∙ ap (λ (ms : List (Mark B)). m.marks ++ ms) same

        at : (rule : Option (PruneRule w.Targets)) (all more : List (Mark B)) → marks ≡ more
            → EachMark (HasCause w stored p e.points e.point m.next v e.tables t rule all) given more
        at rule all more same =
            subst (λ (ms : List (Mark B)). EachMark (HasCause w stored p e.points e.point m.next v e.tables t rule all) given ms) same
            (caused rule all)

        go : Cancels v new t marks → Duly
        go (idle r there rest new_is same) = none_said (made [] same)
        go (withdraws r f fetches new_is same) = record {
          more = Withdrawn f ∷ [];
          marks_are = made (Withdrawn f ∷ []) same;
          each = λ all among. ((tt, tt, tt, tt, λ rule. (at rule all (Withdrawn f ∷ []) same).0.0, tt), tt);
          answered = tt;
        }
        go (leaves r j path there executing others new_is same) = none_said (made [] same)
        go (ends r j path there executing last new_is same) = one_ended j (made (Ended j Cancelled ∷ []) same)
            (at None [] (Ended j Cancelled ∷ []) same).0.1 (λ all. (at None all (Ended j Cancelled ∷ []) same).0.2)
        go (unqueued absent new_is same) = none_said (made [] same)

    -- the build of a request is given up with it
    by_build : (b : Building B C D) → IsBuildFor m.execution.build t b → now.marks ≡ m.marks ++ Ended b.job Cancelled ∷ [] → Duly
    by_build b for_it is =
        let stands : BuildStands w stored p e.points m.next v (Some b) =
        subst (λ (o : Option (Building B C D)). BuildStands w stored p e.points m.next v o) for_it.live e.builds in
        let job = stands.each.job in
        let asks : proposed t p ≡ Some (record { kind = b.kind; context = b.context; parent = b.parent; input = stands.each.input }) =
        subst (λ (n : ℕ). proposed n p ≡ Some (record { kind = b.kind; context = b.context; parent = b.parent; input = stands.each.input }))
        for_it.ticket stands.each.proposal.proposes in
        one_ended b.job is (job.live, rw job.is refl, inl refl) (λ all. inl (t, refl, rw job.is (inr (refl, rw asks refl))))

    said : intake.Cancels w t m now → Duly
    said c = go c.gives_up
      where
        marks_are : now.marks ≡ m.marks ++ c.marks
        marks_are = ap (λ (n : Moment w). n.marks) c.becomes

        go : GivesUp v c.state m.execution.build c.build t c.marks → Duly
        go (building {b = b} for_it same none one) = by_build b for_it (marks_are ∙ ap (λ (ms : List (Mark B)). m.marks ++ ms) one)
        go (asking none c_is same) = by_cancel c.state c.marks c_is marks_are

  -- After an event all is said duly.
  pub duly-takes_in : (stored_now : ℕ → Option (Named B)) (counts : Counts R D H) (now : Moment w) (x : Event B C I) → (IsRestart x → ⊥)
      → TakesIn w stored_now counts m now x → DulyBehind w stored base x (Came x ∷ p) m now
  duly-takes_in stored_now counts now x on (enters is becomes) =
      duly-none w stored base x (Came x ∷ p) m now (ap (λ (n : Moment w). n.marks) becomes)
  duly-takes_in stored_now counts now _ on (cancels {t = t} c) = said t now c
  duly-takes_in stored_now counts now _ on (fetched {f = f} {answer = answer} {then = then} is becomes) =
      duly-by w stored base (event.Fetched f answer) (Came (event.Fetched f answer) ∷ p) m now then
      (unruled-fetched w (Came (event.Fetched f answer) ∷ p) stored_now (inner w m) then f answer is) (ap (λ (n : Moment w). n.marks) becomes)
  duly-takes_in stored_now counts now _ on (turns {j = j} t) = duly-turns w stored base p j m e counts now t
  duly-takes_in stored_now counts now _ on (flushes {k = i} {i = n} {answer = answer} f) =
      duly-none w stored base (event.Flushed i n answer) (Came (event.Flushed i n answer) ∷ p) m now (ap (λ (n : Moment w). n.marks) f.becomes)
  duly-takes_in stored_now counts now _ on (stops becomes) =
      duly-none w stored base event.Stop (Came event.Stop ∷ p) m now (ap (λ (n : Moment w). n.marks) becomes)
  duly-takes_in stored_now counts now _ on (progresses {i = i} becomes) =
      duly-none w stored base (event.Progress i) (Came (event.Progress i) ∷ p) m now (ap (λ (n : Moment w). n.marks) becomes)
  duly-takes_in stored_now counts now _ on (restarts becomes) = absurd (on tt)
