use Rattle.std.proofs.Common.{rules}
use Rattle.stateful_exec_model.specs.Workings.{workings}
use Rattle.stateful_loop_model.specs.Moments.{executing}
use Rattle.stateful_loop_model.specs.Rules.Rule.{begins}
use Rattle.stateful_loop_model.proofs.Idles.{breaks_barrier, completes_barrier}
use Rattle.stateful_loop_model.proofs.Rooms.{has_room}
use Rattle.stateful_loop.proofs.going.go_on_idle.Goals as goal

pub returns-in-Some-clause-ok : goal.returns-in-Some-clause-ok
returns-in-Some-clause-ok g c =
    let w = workings g.A.Block.Block.header g.A.Block.Block.context_of g.A.Context.Rounded.round_of g.A.Application.works g.A.Databases.DatabaseSet.kind g.A.Databases.DatabaseSet.shows in
    breaks_barrier w _ _ (executing c.args.handler.now) c.args.processing.now _ _ _ c.args.marks.now.items _ c.in-Some.number c.in-Some.height c.requires.idle
    (search rules) c.in_ok-break_barrier.ensures.ok.0 c.in_ok-break_barrier.ensures.ok.1

pub returns-in-Some-flushed-clause-ok : goal.returns-in-Some-flushed-clause-ok
returns-in-Some-flushed-clause-ok g c =
    let w = workings g.A.Block.Block.header g.A.Block.Block.context_of g.A.Context.Rounded.round_of g.A.Application.works g.A.Databases.DatabaseSet.kind g.A.Databases.DatabaseSet.shows in
    completes_barrier w _ _ (executing c.args.handler.now) c.args.processing.now _ _ _ c.args.marks.now.items _ c.in-Some-flushed.number c.in-Some-flushed.height c.requires.idle
    (search rules) (search rules)
    (λ a number height. c.in_ok-complete_barrier.ensures.ok (executing c.args.handler.now) a _ _ number height)

pub begin_barrier-requires-clause-room : goal.begin_barrier-requires-clause-room
begin_barrier-requires-clause-room g c =
    let d = g.A.Databases.DatabaseSet.kind in
    let up = c.requires.up in
    (has_room d g.met.A.Databases.DatabaseSet.laws.places (g.A.Databases.DatabaseSet.members c.args.databases.now) up.point up.here c.args.processing.now.barriers c.args.processing.now.durability.barriers up.heights up.tokens (c.needs_barrier.ensures.needed.0 c.if-needs_barrier.true).0).0

pub returns-then-needs_barrier-clause-ok : goal.returns-then-needs_barrier-clause-ok
returns-then-needs_barrier-clause-ok g c =
    begins c.requires.idle (search rules) (search rules) (c.needs_barrier.ensures.needed.0 c.if-needs_barrier.true) (c.in_ok-begin_barrier.ensures.ok (executing c.args.handler.now))
