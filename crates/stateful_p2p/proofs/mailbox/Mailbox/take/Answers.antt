use Rattle.std.proofs.Common.{ap, ◌∙◌}
use Rattle.stateful_p2p.specs.Inbox.{inbox}
use Rattle.stateful_p2p.proofs.Boxing.{same_queue}
use Rattle.stateful_p2p.proofs.mailbox.Mailbox.take.Goals as goal

pub returns-clause-nothing : goal.returns-clause-nothing
returns-clause-nothing g c =
    λ none.
    let s = c.self.inside in
    ap (λ q. inbox s.next_ticket q s.tickets s.candidates s.cancelled.items) (same_queue s.queue c.try_recv.new.self c.try_recv.result c.try_recv.ensures.front c.try_recv.ensures.none none) ∙ c.self.view_is
