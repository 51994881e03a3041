use Rattle.std.proofs.Common.{Some, length, ap, sym, ◌∙◌}
use Rattle.stateful_probe.proofs.Hopeless.{of_member}
use Rattle.stateful_probe.proofs.reply.is_hopeless.Goals as goal

pub returns-in-Some-true : goal.returns-in-Some-true
returns-in-Some-true g c = λ epoch counts.
    of_member _ _ c.args.peer.now epoch c.args.size c.args.scheme.now _ counts
    (c.max_certificate_size.ensures.size ∙ ap (λ keys. g.S.Scheme.max_size (length keys)) c.participants.ensures)
    (ap Some (sym c.in-Some-true.field-0-test) ∙ c.in-Some-true.ensures)
