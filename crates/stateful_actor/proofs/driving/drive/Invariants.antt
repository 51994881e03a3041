use Rattle.std.proofs.Common.{◌≡◌, ◌++◌, false, [], map}
use Rattle.stateful_history.specs.Past.{after_all}
use Rattle.stateful_loop_laws.specs.Media.{TargetsRise}
use Rattle.stateful_actor_register.specs.Register.{RegisterStands}
use Rattle.stateful_exec_model.specs.Workings.{workings}
use Rattle.stateful_loop_model.specs.Moments.{moment}
use Rattle.stateful_loop_model.specs.Noted.{noted_all}
use Rattle.stateful_actor_laws.specs.Entering.{Steps}
use Rattle.stateful_actor_step.specs.Faults.{tally, HasNotFallen}
use Rattle.stateful_actor_step.specs.Step.{WorldIsTrue}
use Rattle.stateful_actor_step.specs.Notes.{HasObserved, applied_along}
use Rattle.stateful_actor_laws.specs.Machine.{IsSafe, numbered}
use Rattle.stateful_actor_laws.specs.Media.{MediaStand}
use Rattle.stateful_actor.proofs.driving.drive.Given as goal

abbrev pub invariant-loop-event : goal.invariant-loop-event
invariant-loop-event g l =
    let D = g.A.Databases.DatabaseSet in
    let w = workings g.A.Block.Block.header g.A.Block.Block.context_of g.A.Context.Rounded.round_of g.A.Application.works D.kind D.shows in
    record {
      all : l.yielded ++ l.event-iterator.rest.items ≡ l.fn.events.items;
      events : map (λ entry. entry.event) l.driven.history.items ≡ l.yielded;
      steps : Steps w (g.S.BlockStore.stored l.fn.store) l.fn.stateful.provider
          (record { run = g.A.Run.Faulty.count; build = g.A.Build.Faulty.count; hook = g.A.Hook.Faulty.count }) []
          (moment w l.fn.stateful.execution l.fn.stateful.loop (D.members l.fn.databases) (D.next l.fn.databases) [])
          l.driven.history.items
          (moment w l.driven.stateful.execution l.driven.stateful.loop (D.members l.driven.databases) (D.next l.driven.databases) []);
      registered : RegisterStands (numbered D.kind.count) (after_all [] l.driven.history.items) l.driven.stateful.register;
      safe : IsSafe w l.driven.stateful.failed
          (moment w l.driven.stateful.execution l.driven.stateful.loop (D.members l.driven.databases) (D.next l.driven.databases) []);
      media : w.States
          → MediaStand w (g.S.BlockStore.stored l.fn.store) [] l.fn.stateful.failed
          (moment w l.fn.stateful.execution l.fn.stateful.loop (D.members l.fn.databases) (D.next l.fn.databases) [])
          → WorldIsTrue w (g.S.BlockStore.stored l.fn.store) (after_all [] l.driven.history.items)
          → TargetsRise w (g.S.BlockStore.stored l.fn.store)
          → MediaStand w (g.S.BlockStore.stored l.fn.store) (after_all [] l.driven.history.items) l.driven.stateful.failed
          (moment w l.driven.stateful.execution l.driven.stateful.loop (D.members l.driven.databases) (D.next l.driven.databases) []);
      store : l.store ≡ l.fn.store;
      provider : l.driven.stateful.provider ≡ l.fn.stateful.provider;
      working : l.driven.stateful.failed ≡ false;
      notes : g.A.Application.notes l.driven.stateful.application
          ≡ noted_all g.A.Application.works.noted (g.A.Application.notes l.fn.stateful.application) (applied_along l.driven.history.items);
      observed : HasObserved l.driven.stateful.failed l.driven.stateful.loop.front;
      later : HasNotFallen (tally (g.A.Faulty.count l.fn.stateful.application) (D.counted l.fn.databases))
          (tally (g.A.Faulty.count l.driven.stateful.application) (D.counted l.driven.databases));
    }
