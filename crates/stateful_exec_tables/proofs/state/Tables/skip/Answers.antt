use Rattle.stateful_exec_tables.specs.Meeting.{Meets}
use Rattle.stateful_exec_tables.specs.declared.met.Met.TheVariants.{Known}
use Rattle.stateful_exec_tables.proofs.Skipping.{HasPassed-none, HasPassed-more, Skips-at, shorter, on_known}
use Rattle.stateful_exec_tables.proofs.state.Tables.skip.Goals as goal

pub loop-met-init : goal.loop-met-init
loop-met-init g c = HasPassed-none g.B.Block.header c.args.self.now c.args.path.now

pub loop-met-smaller : goal.loop-met-smaller
loop-met-smaller g c =
    let met : Meets g.B.Block.header c.args.self.now c.loop-met.path c.meet.new.path Known = rw c.in-Known.is at c.in_ok-met.ensures in
    shorter g.B.Block.header c.args.self.now c.loop-met.path c.meet.new.path met

pub loop-met-preserved : goal.loop-met-preserved
loop-met-preserved g c =
    let met : Meets g.B.Block.header c.args.self.now c.loop-met.path c.meet.new.path Known = rw c.in-Known.is at c.in_ok-met.ensures in
    HasPassed-more g.B.Block.header c.args.self.now _ c.loop-met.path c.meet.new.path c.loop-met.invariant met

pub returns-in_default-clause-skips : goal.returns-in_default-clause-skips
returns-in_default-clause-skips g c = Skips-at g.B.Block.header c.args.self.now _ c.loop-met.path c.meet.new.path c.in_ok-met.met c.loop-met.invariant c.in_ok-met.ensures c.in_default.not-Known

pub returns-in_default-clause-on_known : goal.returns-in_default-clause-on_known
returns-in_default-clause-on_known g c = on_known g.B.Block.header c.args.self.now c.loop-met.path c.meet.new.path c.in_ok-met.met c.in_ok-met.ensures
