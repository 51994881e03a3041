use Rattle.std.proofs.Common.{◌≡◌}
use Rattle.stateful_exec_model.specs.Workings.{workings}
use Rattle.stateful_loop_model.specs.Moments.{executing, moment}
use Rattle.stateful_loop_model.specs.Rules.{Along}
use Rattle.stateful_loop_model.specs.Sound.{Sound}
use Rattle.stateful_loop_model.proofs.Falling.{weight}
use Rattle.stateful_actor_step.specs.Faults.{tally, NeverFalls}
use Rattle.stateful_loop_model.specs.Noted.{NotesFollow}
use Rattle.stateful_actor_step.proofs.inside.Core.settle.Given as goal

abbrev pub invariant-rules : goal.invariant-rules
invariant-rules g l =
    let D = g.A.Databases.DatabaseSet in
    let w = workings g.A.Block.Block.header g.A.Block.Block.context_of g.A.Context.Rounded.round_of g.A.Application.works D.kind D.shows in
    record {
      along : Along w (g.S.BlockStore.stored l.store) l.fn.self.provider
          (moment w (executing l.fn.self.handler) l.fn.self.processing (D.members l.fn.databases) (D.next l.fn.databases) l.fn.marks.items)
          (moment w (executing l.self.handler) l.self.processing (D.members l.databases) (D.next l.databases) l.marks.items);
      sound : Sound w (moment w (executing l.self.handler) l.self.processing (D.members l.databases) (D.next l.databases) l.marks.items);
      falls : NeverFalls (tally (g.A.Faulty.count l.fn.self.handler.application) (D.counted l.fn.databases))
          (tally (g.A.Faulty.count l.self.handler.application) (D.counted l.databases))
          (moment w (executing l.fn.self.handler) l.fn.self.processing (D.members l.fn.databases) (D.next l.fn.databases) l.fn.marks.items)
          (moment w (executing l.self.handler) l.self.processing (D.members l.databases) (D.next l.databases) l.marks.items);
      follows : NotesFollow g.A.Application.works.noted (g.A.Application.notes l.fn.self.handler.application) (g.A.Application.notes l.self.handler.application)
          l.fn.self.processing.front l.self.processing.front l.fn.marks.items l.marks.items;
      register : l.self.register ≡ l.fn.self.register;
      provider : l.self.provider ≡ l.fn.self.provider;
      config : l.self.db_config ≡ l.fn.self.db_config;
    }

abbrev pub decreases-rules : goal.decreases-rules
decreases-rules g l =
    let D = g.A.Databases.DatabaseSet in
    let w = workings g.A.Block.Block.header g.A.Block.Block.context_of g.A.Context.Rounded.round_of g.A.Application.works D.kind D.shows in
    weight w (moment w (executing l.self.handler) l.self.processing (D.members l.databases) (D.next l.databases) l.marks.items)
