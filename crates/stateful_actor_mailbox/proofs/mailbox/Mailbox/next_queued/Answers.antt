use Rattle.std.proofs.Common.{rules, sym, ap, ◌∙◌}
use Rattle.stateful_actor_mailbox.specs.Tickets.{is_queued}
use Rattle.stateful_actor_mailbox.proofs.Passing.{one_passed, hands_message, hands_nothing}
use Rattle.stateful_actor_mailbox.proofs.mailbox.Mailbox.next_queued.Goals as goal

pub returns-then-is_queued : goal.returns-then-is_queued
returns-then-is_queued g c =
    let kept = c.passing.invariant in
    rw (kept.number, kept.tickets)
    (hands_message c.args.self.now c.passing.self-inside.queue c.try_recv.new.self c.in-Some.message kept.passes c.in-Some.ensures.front
    (ap (λ k. is_queued k c.in-Some.message.ticket) (sym kept.tickets) ∙ sym c.is_queued.ensures ∙ c.if-is_queued.true))

pub passing-preserved : goal.passing-preserved
passing-preserved g c =
    let kept = c.passing.invariant in
    record {
      passes = one_passed c.args.self.now.tickets c.args.self.now.queue c.passing.self-inside.queue c.try_recv.new.self c.in-Some.message kept.passes c.in-Some.ensures.front
          (ap (λ k. is_queued k c.in-Some.message.ticket) (sym kept.tickets) ∙ sym c.is_queued.ensures ∙ c.if-is_queued.false);
      still_open = c.in-Some.ensures.front.closed ∙ kept.still_open;
      filled = c.in-Some.ensures.filled;
      number = kept.number;
      tickets = kept.tickets;
    }

pub returns : goal.returns
returns g c =
    let kept = c.passing.invariant in
    rw (kept.number, kept.tickets)
    (hands_nothing c.args.self.now c.passing.self-inside.queue c.try_recv.new.self kept.passes c.in_default.ensures.front (c.in_default.ensures.none.0 (search rules)))
