use Rattle.std.proofs.Common.{◌∙◌, refl, arith}
use Rattle.stateful_base.specs.Causes.{Rose}
use Rattle.stateful_exec_model.specs.Workings.{workings}
use Rattle.stateful_exec_model.specs.Pausing.{AcquiresAnew, FaultsAnew}
use Rattle.stateful_exec_model.proofs.Following.{Reached-first, Reached-next, Reached-all, Reached-refused, Rises-then, Rose-earlier, not_memory, no_error}
use Rattle.stateful_exec_model.proofs.Resumed.{acquires_anew, faults_anew}
use Rattle.stateful_exec_resumes.proofs.resuming.acquire_each.Goals as goal

pub loop-ticket-init : goal.loop-ticket-init
loop-ticket-init g c =
    let w = workings g.A.Block.Block.header g.A.Block.Block.context_of g.A.Context.Rounded.round_of g.A.Application.works g.A.Databases.DatabaseSet.kind g.A.Databases.DatabaseSet.shows in
    record {
      reached = Reached-first (AcquiresAnew w (g.S.BlockStore.stored c.args.store.now)) c.args.unacquired.items _ _ c.into_iter-ticket-iterator.ensures.into_iter_gives.0;
      members = refl;
      numbers = (omega arith, omega arith);
      counts = λ n. refl;
      notes = refl;
      later = omega arith;
    }

pub loop-ticket-preserved : goal.loop-ticket-preserved
loop-ticket-preserved g c =
    let w = workings g.A.Block.Block.header g.A.Block.Block.context_of g.A.Context.Rounded.round_of g.A.Application.works g.A.Databases.DatabaseSet.kind g.A.Databases.DatabaseSet.shows in
    let i = c.loop-ticket.invariant in
    let f = c.in_ok-acquire.ensures in
    record {
      reached = Reached-next (AcquiresAnew w (g.S.BlockStore.stored c.args.store.now)) c.args.unacquired.items _ _ _ _ i.reached (c.in-Some.ticket, c.in-Some.requested) _ _ c.in-Some.ensures.steps.0 (acquires_anew w (g.S.BlockStore.stored c.args.store.now) c.in-Some.ticket c.in-Some.requested c.anew-anew.result c.anew-anew.ensures _ _ f.ok);
      members = f.members ∙ i.members;
      numbers = Rises-then c.args.tables.now c.loop-ticket.tables c.acquire.new.tables i.numbers f.numbers;
      counts = λ n. f.counts n ∙ i.counts n;
      notes = f.notes (no_error _ _) ∙ i.notes;
      later = omega (arith, i.later, f.later);
    }

pub returns-in_err-acquire-clause-fault : goal.returns-in_err-acquire-clause-fault
returns-in_err-acquire-clause-fault g c =
    let w = workings g.A.Block.Block.header g.A.Block.Block.context_of g.A.Context.Rounded.round_of g.A.Application.works g.A.Databases.DatabaseSet.kind g.A.Databases.DatabaseSet.shows in
    let stored = g.S.BlockStore.stored c.args.store.now in
    let i = c.loop-ticket.invariant in
    let later = Rose (g.A.Faulty.count c.args.application.now) (g.A.Faulty.count c.acquire.new.application) in
    Reached-refused (AcquiresAnew w stored) c.args.unacquired.items _ _ _ _ i.reached (FaultsAnew w later stored) c.from_residual.result c.in_err-acquire.field-0.0 c.from_residual.ensures.1 (c.in-Some.ticket, c.in-Some.requested) _ c.in-Some.ensures.steps.0
    (faults_anew w stored c.in-Some.ticket c.in-Some.requested c.anew-anew.result c.anew-anew.ensures _ later (Rose-earlier _ _ _ i.later) _ _ c.in_err-acquire.ensures.fault)

pub returns-in_err-acquire-clause-notes : goal.returns-in_err-acquire-clause-notes
returns-in_err-acquire-clause-notes g c =
    λ other. c.in_err-acquire.ensures.notes (not_memory c.from_residual.result c.in_err-acquire.field-0.0 c.from_residual.ensures.1 other) ∙ c.loop-ticket.invariant.notes

pub returns-clause-ok : goal.returns-clause-ok
returns-clause-ok g c =
    let w = workings g.A.Block.Block.header g.A.Block.Block.context_of g.A.Context.Rounded.round_of g.A.Application.works g.A.Databases.DatabaseSet.kind g.A.Databases.DatabaseSet.shows in
    Reached-all (AcquiresAnew w (g.S.BlockStore.stored c.args.store.now)) c.args.unacquired.items _ _ _ _ c.loop-ticket.invariant.reached _ c.loop-ticket.ticket-iterator.rest.ok.0 c.in-None.ensures.steps.0
