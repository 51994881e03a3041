use Rattle.stateful_exec_walk.specs.Path.{IsMissing, IsOneAbove}
use Rattle.stateful_exec_walk.proofs.Walking.{Reaches-first, Reaches-next, Walks-ready, Walks-covered, Walks-broken, Walks-ask, refused}
use Rattle.stateful_exec_walk.proofs.walk.walk_from.Goals as goal

pub loop-next-init : goal.loop-next-init
loop-next-init g c = Reaches-first g.B.Block.header c.args.anchor c.args.cache.now c.args.path

pub returns-in-AtHand : goal.returns-in-AtHand
returns-in-AtHand g c = Walks-ready _ _ _ _ _ c.args.acquired.now c.loop-next.next-index _ c.loop-next.invariant (rw (← c.parent.ensures) c.in-AtHand.ensures)

pub returns-in-Covered : goal.returns-in-Covered
returns-in-Covered g c = Walks-covered _ _ _ _ _ c.args.acquired.now c.loop-next.next-index _ c.loop-next.invariant (rw (← c.parent.ensures) c.in-Covered.ensures)

pub returns-then-not-is_one_above : goal.returns-then-not-is_one_above
returns-then-not-is_one_above g c =
    let missing : IsMissing g.B.Block.header c.args.anchor c.args.cache.now c.loop-next.path.parent = rw (← c.parent.ensures) c.in-Missing.ensures in
    let other : IsOneAbove g.B.Block.header c.loop-next.path.parent c.next-item.result → ⊥ = rw (← c.parent-in-loop-next.ensures) (refused _ _ c.is_one_above.ensures c.if-not-is_one_above.true) in
    Walks-broken _ _ _ _ _ c.args.acquired.now c.loop-next.next-index _ c.loop-next.invariant c.next-item.result c.loop-next-test.true c.next-item.is missing other

pub loop-next-preserved : goal.loop-next-preserved
loop-next-preserved g c =
    let missing : IsMissing g.B.Block.header c.args.anchor c.args.cache.now c.loop-next.path.parent = rw (← c.parent.ensures) c.in-Missing.ensures in
    let above : IsOneAbove g.B.Block.header c.loop-next.path.parent c.next-item.result = rw (← c.parent-in-loop-next.ensures) (c.is_one_above.ensures.0 c.if-not-is_one_above.false) in
    rw c.in_ok-step_to.ensures.ok (Reaches-next _ _ _ _ _ c.args.acquired.now c.loop-next.next-index _ c.loop-next.invariant c.next-item.result c.loop-next-test.true c.next-item.is missing above)

pub returns-in-AtHand-standing_of : goal.returns-in-AtHand-standing_of
returns-in-AtHand-standing_of g c = Walks-ready _ _ _ _ _ c.args.acquired.now c.loop-next.next-index _ c.loop-next.invariant (rw (← c.parent-2.ensures) c.in-AtHand-standing_of.ensures)

pub returns-in-Covered-standing_of : goal.returns-in-Covered-standing_of
returns-in-Covered-standing_of g c = Walks-covered _ _ _ _ _ c.args.acquired.now c.loop-next.next-index _ c.loop-next.invariant (rw (← c.parent-2.ensures) c.in-Covered-standing_of.ensures)

pub returns-in-Missing-standing_of : goal.returns-in-Missing-standing_of
returns-in-Missing-standing_of g c =
    let missing : IsMissing g.B.Block.header c.args.anchor c.args.cache.now c.loop-next.path.parent = rw (← c.parent-2.ensures) c.in-Missing-standing_of.ensures in
    Walks-ask _ _ _ _ _ c.args.acquired.now c.loop-next.next-index _ c.loop-next.invariant c.loop-next-test.false missing _ (rw (← c.parent-in-Missing-standing_of.ensures) c.parent-in-Missing-standing_of-2.ensures)
