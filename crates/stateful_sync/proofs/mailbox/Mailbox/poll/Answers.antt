use Rattle.std.proofs.Common.{refl, sym, ◌∙◌}
use Rattle.std.proofs.lemmas.Option.{slice_get_read}
use Rattle.stateful_sync.specs.Mailbox.{recorded, ended, waits}
use Rattle.stateful_sync.proofs.mailbox.Mailbox.poll.Goals as goal
use Rattle.stateful_sync.proofs.mailbox.Mailbox.poll.Goals.{in-Some, in-None}

pub returns-then-is_settled-clause-polls : goal.returns-then-is_settled-clause-polls
returns-then-is_settled-clause-polls g c =
    let at = slice_get_read c.self.inside.updates.items _ c.args.ticket c.index.result.now refl (rw (← c.self.view_is) at c.requires) c.index.ensures in
    rw (← c.self.view_is) (recorded at (sym c.is_settled.ensures ∙ c.if-is_settled.true))

pub returns-clause-polls : goal.returns-clause-polls
returns-clause-polls g c =
    let at = slice_get_read c.self.inside.updates.items _ c.args.ticket c.index.result.now refl (rw (← c.self.view_is) at c.requires) c.index.ensures in
    let unsettled = sym c.is_settled.ensures ∙ c.if-is_settled.false in
    rw (← c.self.view_is) (elim c.match-self.branch [
      | in-Some w ↦ rw w.result-is (ended at unsettled w.in-Some.is)
      | in-None w ↦ rw w.result-is (waits at unsettled w.in-None.is)
    ])
