use Rattle.std.proofs.Common.{◌≡◌, ◌≤◌, ℕ}
use Rattle.stateful_exec_tables.specs.Tables.{Rises}
use Rattle.stateful_exec_model.specs.Workings.{workings}
use Rattle.stateful_exec_model.specs.Moments.{moment}
use Rattle.stateful_exec_model.specs.Pausing.{GoesAlong}
use Rattle.stateful_exec_model.proofs.Following.{Reached}
use Rattle.stateful_exec_resumes.proofs.resuming.advance_each.Given as goal

abbrev pub invariant-loop-next : goal.invariant-loop-next
invariant-loop-next g l =
    let w = workings g.A.Block.Block.header g.A.Block.Block.context_of g.A.Context.Rounded.round_of g.A.Application.works g.A.Databases.DatabaseSet.kind g.A.Databases.DatabaseSet.shows in
    record {
      reached : Reached (GoesAlong w) l.fn.parked.items
          (moment w l.fn.tables (g.A.Databases.DatabaseSet.members l.fn.databases) (g.A.Databases.DatabaseSet.next l.fn.databases) l.fn.marks.items)
          l.yielded l.next-iterator.rest.items
          (moment w l.tables (g.A.Databases.DatabaseSet.members l.databases) (g.A.Databases.DatabaseSet.next l.databases) l.marks.items);
      members : g.A.Databases.DatabaseSet.members l.databases ≡ g.A.Databases.DatabaseSet.members l.fn.databases;
      numbers : Rises l.fn.tables l.tables;
      counts : (n : ℕ) → g.A.Databases.DatabaseSet.counted l.databases n ≡ g.A.Databases.DatabaseSet.counted l.fn.databases n;
      notes : g.A.Application.notes l.application ≡ g.A.Application.notes l.fn.application;
      later : g.A.Faulty.count l.fn.application ≤ g.A.Faulty.count l.application;
    }
