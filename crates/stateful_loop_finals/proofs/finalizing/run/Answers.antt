use Rattle.stateful_loop_model.proofs.Finalizations.{same_moment}
use Rattle.stateful_loop_model.proofs.NotesFollowing.{not_by_memory}
use Rattle.stateful_loop_finals.proofs.finalizing.run.Goals as goal
use Rattle.std.proofs.Common.{refl}
use Rattle.stateful_exec_model.specs.Workings.{workings}

pub returns-clause-ok : goal.returns-clause-ok
returns-clause-ok g c = λ l.
    let w = workings g.A.Block.Block.header g.A.Block.Block.context_of g.A.Context.Rounded.round_of g.A.Application.works g.A.Databases.DatabaseSet.kind g.A.Databases.DatabaseSet.shows in
    let o = c.in_ok-run_finalized.ensures in
    let new = c.run_finalized.new in
    record {
      state = new.self.state;
      front = new.self.front;
      next = g.A.Databases.DatabaseSet.next new.databases;
      runs = o.ok;
      becomes = same_moment w new.self.state new.self.front (g.A.Databases.DatabaseSet.next new.databases) _ _ l l _ _ _ _ o.build refl o.members o.marks;
    }

pub returns-in_err-run_finalized-clause-notes : goal.returns-in_err-run_finalized-clause-notes
returns-in_err-run_finalized-clause-notes g c =
    λ other. c.in_err-run_finalized.ensures.notes (not_by_memory c.from_residual.result other c.in_err-run_finalized.field-0.0 c.from_residual.ensures.1)
