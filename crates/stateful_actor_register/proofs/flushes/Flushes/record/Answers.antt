use Rattle.std.proofs.Common.{sym, ◌∙◌}
use Rattle.stateful_actor_register.specs.Flushes.{WaitsAlike}
use Rattle.stateful_actor_register.proofs.Room.{OnErr-never}
use Rattle.stateful_actor_register.proofs.flushes.Flushes.record.Goals as goal

pub returns-then-not-begins_some_barrier-clause-err : goal.returns-then-not-begins_some_barrier-clause-err
returns-then-not-begins_some_barrier-clause-err c =
    OnErr-never (WaitsAlike c.args.self.now c.apply_each.new.self) _ _ c.apply_each.ensures.err (sym c.begins_some_barrier.ensures ∙ c.if-not-begins_some_barrier.true)
