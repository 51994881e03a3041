use Rattle.std.proofs.Common.{rules}
use Rattle.stateful_actor_register.proofs.Room.{HasRoomForEach-more, HasRoomForEach-all}
use Rattle.stateful_actor_register.proofs.register.Register.reserve_each.Goals as goal

pub loop-change-preserved : goal.loop-change-preserved
loop-change-preserved c = record {
  same = search rules;
  room = HasRoomForEach-more c.args.changes.now c.loop-change.change-index _ _ _ c.loop-change-test.true c.loop-change.invariant.room c.in_ok-reserve.ensures.room c.reserve.ensures.rooms;
}

pub returns-clause-room : goal.returns-clause-room
returns-clause-room c = HasRoomForEach-all c.args.changes.now c.loop-change.change-index _ c.loop-change-test.false c.loop-change.invariant.room
