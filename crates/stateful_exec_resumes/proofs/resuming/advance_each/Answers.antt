use Rattle.std.proofs.Common.{◌∙◌, refl, arith}
use Rattle.stateful_base.specs.Causes.{Rose}
use Rattle.stateful_exec_model.specs.Workings.{workings}
use Rattle.stateful_exec_model.specs.Pausing.{GoesAlong, FaultsAlong}
use Rattle.stateful_exec_model.proofs.Following.{Reached-first, Reached-next, Reached-refused, FaultsAdvance-later, Rises-then, Rose-earlier, not_memory, no_error}
use Rattle.stateful_exec_resumes.proofs.resuming.advance_each.Goals as goal

pub loop-next-init : goal.loop-next-init
loop-next-init g c =
    let w = workings g.A.Block.Block.header g.A.Block.Block.context_of g.A.Context.Rounded.round_of g.A.Application.works g.A.Databases.DatabaseSet.kind g.A.Databases.DatabaseSet.shows in
    record {
      reached = Reached-first (GoesAlong w) c.args.parked.items _ _ c.into_iter-next-iterator.ensures.into_iter_gives.0;
      members = refl;
      numbers = (omega arith, omega arith);
      counts = λ n. refl;
      notes = refl;
      later = omega arith;
    }

pub loop-next-preserved : goal.loop-next-preserved
loop-next-preserved g c =
    let w = workings g.A.Block.Block.header g.A.Block.Block.context_of g.A.Context.Rounded.round_of g.A.Application.works g.A.Databases.DatabaseSet.kind g.A.Databases.DatabaseSet.shows in
    let i = c.loop-next.invariant in
    let f = c.in_ok-advance.ensures in
    record {
      reached = Reached-next (GoesAlong w) c.args.parked.items _ _ _ _ i.reached c.in-Some.next _ _ c.in-Some.ensures.steps.0 f.ok;
      members = f.members ∙ i.members;
      numbers = Rises-then c.args.tables.now c.loop-next.tables c.advance.new.tables i.numbers f.numbers;
      counts = λ n. f.counts n ∙ i.counts n;
      notes = f.notes (no_error _ _) ∙ i.notes;
      later = omega (arith, i.later, f.later);
    }

pub returns-in_err-advance-clause-fault : goal.returns-in_err-advance-clause-fault
returns-in_err-advance-clause-fault g c =
    let w = workings g.A.Block.Block.header g.A.Block.Block.context_of g.A.Context.Rounded.round_of g.A.Application.works g.A.Databases.DatabaseSet.kind g.A.Databases.DatabaseSet.shows in
    let i = c.loop-next.invariant in
    let later = Rose (g.A.Faulty.count c.args.application.now) (g.A.Faulty.count c.advance.new.application) in
    Reached-refused (GoesAlong w) c.args.parked.items _ _ _ _ i.reached (FaultsAlong w later) c.from_residual.result c.in_err-advance.field-0.0 c.from_residual.ensures.1 c.in-Some.next _ c.in-Some.ensures.steps.0
    (FaultsAdvance-later w _ later (Rose-earlier _ _ _ i.later) _ _ _ c.in_err-advance.ensures.fault)

pub returns-in_err-advance-clause-notes : goal.returns-in_err-advance-clause-notes
returns-in_err-advance-clause-notes g c =
    λ other. c.in_err-advance.ensures.notes (not_memory c.from_residual.result c.in_err-advance.field-0.0 c.from_residual.ensures.1 other) ∙ c.loop-next.invariant.notes
