use Rattle.std.proofs.Common.{◌≡◌, fold}
use Rattle.stateful_actor_mailbox.specs.Mail.{noted, answered}
use Rattle.stateful_actor_mailbox.proofs.mailbox.Mailbox.answer.Given as goal

-- once the rest is noted, all is
abbrev pub invariant-loop-note : goal.invariant-loop-note
invariant-loop-note g l = fold noted l.self l.note-iterator.rest.items ≡ answered l.fn.self l.marks
