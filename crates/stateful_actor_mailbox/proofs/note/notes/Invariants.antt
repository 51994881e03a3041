use Rattle.std.proofs.Common.{◌≡◌, take}
use Rattle.std.specs.List.{filter_map}
use Rattle.stateful_actor_mailbox.specs.Replies.{note_of}
use Rattle.stateful_actor_mailbox.proofs.note.notes.Given as goal

-- the marks before this place are read
abbrev pub invariant-loop-mark : goal.invariant-loop-mark
invariant-loop-mark g l = l.notes.items ≡ filter_map note_of (take l.mark-index l.marks)
