use Rattle.std.proofs.Common.{take}
use Rattle.stateful_script_plan.proofs.Planning.{Goes}
use Rattle.stateful_script_plan.proofs.plan.plan_blocks.Given as goal

abbrev pub invariant-loop-block : goal.invariant-loop-block
invariant-loop-block g l =
    let set = g.W.Databases.DatabaseSet in
    Goes g.W.World.rules set.kind set.shows (set.next l.databases) (set.members l.databases) (take l.block-index l.blocks) l.made.items l.states.items
