-- A cancel that is taken in cancels no run for which another live request waits.
use Rattle.std.proofs.Common.{◌≡◌, ◌≢◌, ◌==◌, ◌∷◌, [], inl, inr, ℕ, Bool, true, false, List, Option, Some, None, if◌then◌else◌, option_map, refl, sym, ap, ◌∙◌, subst, true≢false}
use Rattle.std.proofs.lemmas.Bool.{eqb-false, eq-eqb}
use Rattle.stateful_base.specs.Names.{Named}
use Rattle.stateful_base.specs.declared.digest.Digest.{Digest}
use Rattle.stateful_history.specs.Jobs.{JobOf, job_of}
use Rattle.stateful_history.specs.Live.{live_ticket}
use Rattle.stateful_history.specs.Past.{Past, Came, EachMark}
use Rattle.stateful_history.specs.Prunes.{PruneRule}
use Rattle.stateful_history.specs.Requests.{IsLiveRequest}
use Rattle.stateful_history.specs.Shared.{WaitsForRun, SharedRunGoesOn}
use Rattle.stateful_history.specs.Waiting.{IsFinalizing}
use Rattle.stateful_history.specs.declared.event.Event.TheVariants.{Cancel}
use Rattle.stateful_history.specs.declared.mark.JobKind.TheVariants.{Candidate, Build}
use Rattle.stateful_history.specs.declared.mark.Mark.{Mark}
use Rattle.stateful_history.specs.declared.ticket.Ticket.TheVariants as tickets
use Rattle.stateful_table.specs.Table.{at, without}
use Rattle.stateful_exec_model.specs.Built.{GivesUp, building, asking}
use Rattle.stateful_exec_tables.specs.Cancelling.{Cancels}
use Rattle.stateful_exec_tables.specs.Cancelling.{idle, withdraws, leaves, ends, unqueued}
use Rattle.stateful_exec_tables.specs.Phase.{is_on, tickets_on}
use Rattle.stateful_exec_model.specs.Workings.{Workings}
use Rattle.stateful_exec_model.specs.declared.building.Building.{Building}
use Rattle.stateful_exec_tables.specs.declared.state.Tables.{Tables}
use Rattle.stateful_exec_tables.specs.declared.tables.Requested.{Requested}
use Rattle.stateful_exec_laws.specs.Building.{BuildStands}
use Rattle.stateful_exec_laws.specs.Running.{IsRunning}
use Rattle.stateful_exec_laws.specs.Setting.{setting}
use Rattle.stateful_exec_laws.proofs.ended.Stands.{running}
use Rattle.stateful_exec_laws.proofs.places.Cancelled.{StandsOn-longer, HasRunOf, HasRunOf-executing}
use Rattle.stateful_exec_laws.proofs.runs.Removing.{at_other, none_on, All-at}
use Rattle.stateful_loop_model.specs.Intake as intake
use Rattle.stateful_loop_model.specs.Moments.{Moment}
use Rattle.stateful_loop_model.specs.Rules.{Quiet}
use Rattle.stateful_loop_laws.specs.Execution.{Executes}
use Rattle.stateful_loop_laws.specs.InHand.{VerifiedApart, AllInHand, GoesOnAt}
use Rattle.stateful_loop_laws.specs.Stands.{IsUpAt}
use Rattle.stateful_loop_laws.proofs.tickets.AbstainsKept.{Abstains-came}
use Rattle.stateful_loop_laws.proofs.hands.WaitsExecuting.{IsExecuting, quiet-executes}

-- a request that is live behind a cancel is another one than the cancelled, and was live before
live_before : {B C I : Type 0} (p : Past B C I) (t u : ℕ) → IsLiveRequest u (Came (Cancel t) ∷ p) → (u ≢ t) × IsLiveRequest u p
live_before p t u live = go (u == t) refl live
  where
    go : (b : Bool) → (u == t) ≡ b → (if b then None else live_ticket u p) ≡ Some tickets.Request → (u ≢ t) × IsLiveRequest u p
    go true same live = cc
    go false other live = (eqb-false u t other, live)

-- a finalization that goes on does so behind a cancel
finalizing-cancelled : {B C I : Type 0} (p : Past B C I) (t : ℕ) → IsFinalizing p → IsFinalizing (Came (Cancel t) ∷ p)
finalizing-cancelled p t (inl begun) = inl begun
finalizing-cancelled p t (inr hook) = inr (hook.0, hook.1, record { live = hook.2.live; is = hook.2.is })

-- a build is no candidate run
kinds_apart : (d x : Digest) → Some (job_of Build d) ≡ Some (job_of Candidate x) → ⊥
kinds_apart d x same = let kinds : Some Build ≡ Some Candidate = ap (λ (o : Option JobOf). option_map (λ (y : JobOf). y.kind) o) same in cc

module _ {B C I P R D H G U : Type 0} (w : Workings B C I P R D H G U) (stored : ℕ → Option (Named B)) (base : w.States) (p : Past B C I)
    (m : Moment w) (up : m.loop.up ≡ true) (quiet : Quiet w m) (h : IsUpAt w stored base p m) (apart : VerifiedApart p)
    (goes : GoesOnAt w stored base p m) (hands : AllInHand w p m) (rule : Option (PruneRule w.Targets)) (t : ℕ) where
  abbrev e : Executes w stored base p m
  e = h.executes

  abbrev tables : Tables B C I R U
  tables = m.execution.state

  abbrev given : Past B C I
  given = Came (Cancel t) ∷ p

  abbrev WaitsFor : ℕ → ℕ → Type 0
  WaitsFor u j = WaitsForRun (setting w stored) rule given u j

  -- a request that waits for a run behind the cancel waits for it in the table
  module _ (u j : ℕ) (waits : WaitsFor u j) where
    was : (u ≢ t) × IsLiveRequest u p
    was = live_before p t u waits.request

    executes : IsExecuting tables.requests u
    executes = quiet-executes w stored base p m up quiet h apart goes hands u was.1
        (λ finalizes. waits.finalizes_none (finalizing-cancelled p t finalizes))
        (λ off k d job. waits.builds_none off k d (record { live = job.live; is = job.is }))
        (λ has. waits.fetches_none (record { fetch = has.fetch; live = has.live; own = has.own }))
        (λ b judges abstains. waits.abstains_not b (record { live = waits.request; verifies = judges.verifies })
        (Abstains-came (setting w stored) u b p (Cancel t) (λ no. no) abstains))

    run_of : HasRunOf w stored p e.points e.point m.next tables e.tables u executes.job
    run_of = HasRunOf-executing w stored p e.points e.point m.next tables e.tables apart.unproposed u executes.job executes.path executes.request
        executes.there executes.executing

    runs : IsRunning w stored p e.points m.next tables.anchor tables.cache executes.job run_of.run
    runs = running w stored p e.points e.point m.next tables e.tables executes.job run_of.run run_of.there

    same : executes.job ≡ j
    same = waits.alone executes.job run_of.run.block.digest (record { live = runs.job.live; is = runs.job.is })
        (StandsOn-longer (setting w stored) p (Came (Cancel t)) u run_of.run.block.digest refl run_of.stands)

    -- and so the cancelled one isn't the last that waits for it
    not_last : tickets_on j (without tables.requests t) ≡ [] → ⊥
    not_last last =
        let left : at (without tables.requests t) u ≡ Some executes.request = at_other tables.requests t u was.0 ∙ executes.there in
        let off : is_on j executes.request.phase ≡ false =
        All-at (λ (x : ℕ × Requested B C I). is_on j x.1.phase ≡ false) (without tables.requests t) u executes.request left
        (none_on j (without tables.requests t) last) in
        let on : is_on j executes.request.phase ≡ true =
        ap (λ phase. is_on j phase) executes.executing ∙ eq-eqb executes.job j same in
        true≢false (sym on ∙ off)

  module _ (all : List (Mark B)) where
    abbrev Keeps : List (Mark B) → Type 0
    Keeps marks = EachMark (SharedRunGoesOn (setting w stored) rule (Cancel t) all) given marks

    -- by the end of a request
    by_cancel : (new : Tables B C I R U) (marks : List (Mark B)) → Cancels tables new t marks → Keeps marks
    by_cancel new marks (idle r there rest new_is is) = rw is tt
    by_cancel new marks (withdraws r f fetches new_is is) = rw is (tt, tt)
    by_cancel new marks (leaves r j path there executing others new_is is) = rw is tt
    by_cancel new marks (ends r j path there executing last new_is is) = rw is (inl (λ u waits. not_last u j waits last), tt)
    by_cancel new marks (unqueued absent new_is is) = rw is tt

    -- nobody waits for a build as for a candidate run
    unwaited : (b : Building B C D) → m.execution.build ≡ Some b → (u : ℕ) → WaitsFor u b.job → ⊥
    unwaited b is u waits =
        let stands : BuildStands w stored p e.points m.next tables (Some b) =
        subst (λ (o : Option (Building B C D)). BuildStands w stored p e.points m.next tables o) is e.builds in
        kinds_apart b.parent.digest waits.digest (sym stands.each.job.is ∙ waits.run.is)

    -- No run is cancelled for which a request waits behind the cancel.
    pub shared-cancels : (now : Moment w) (c : intake.Cancels w t m now) → EachMark (SharedRunGoesOn (setting w stored) rule (Cancel t) all) given c.marks
    shared-cancels now c = go c.gives_up
      where
        go : GivesUp tables c.state m.execution.build c.build t c.marks → Keeps c.marks
        go (building {b = b} for_it same none is) = rw is (inl (unwaited b for_it.live), tt)
        go (asking none cancelled same) = by_cancel c.state c.marks cancelled
