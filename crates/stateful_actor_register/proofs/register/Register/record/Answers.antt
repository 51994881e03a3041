use Rattle.std.proofs.Common.{◌∙◌}
use Rattle.stateful_actor_register.proofs.Entries.{RegisterStands-taken}
use Rattle.stateful_actor_register.proofs.register.Register.record.Goals as goal

pub returns-clause-ok : goal.returns-clause-ok
returns-clause-ok g c =
    RegisterStands-taken _ c.args.count c.args.self.now _ _ c.args.event.now c.args.marks.now
    (rw (c.as_slice.ensures.value ∙ c.in_ok-changes.ensures) at c.take_in-taken.ensures.ok)
    c.release_each.ensures
