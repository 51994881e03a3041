use Rattle.std.proofs.Common.{None, Some, [], ◌∷◌, ◌++◌, sym, ap, ◌∙◌, append-nil}
use Rattle.stateful_actor_mailbox.specs.Replies.{note_of}
use Rattle.stateful_actor_mailbox.proofs.Noting.{filter_map-more}
use Rattle.stateful_actor_mailbox.proofs.note.notes.Goals as goal
use Rattle.stateful_actor_mailbox.proofs.note.notes.Goals.{in-Some+in_ok-push, in_default}

pub loop-mark-preserved : goal.loop-mark-preserved
loop-mark-preserved g c =
    elim c.match-branch-2.branch [
      | in-Some+in_ok-push w ↦
          ap (λ v. v.items) w.notes-is ∙ w.in_ok-push.ensures.items ∙ ap (λ v. v ++ w.in-Some.note ∷ []) c.loop-mark.invariant
          ∙ sym (filter_map-more note_of c.args.marks.now c.loop-mark.mark-index c.mark-item.result (Some w.in-Some.note) c.loop-mark-test.true c.mark-item.is (sym w.in-Some.is ∙ c.in_ok-note.ensures))
      | in_default w ↦
          ap (λ v. v.items) w.notes-is ∙ c.loop-mark.invariant ∙ sym (append-nil _)
          ∙ sym (filter_map-more note_of c.args.marks.now c.loop-mark.mark-index c.mark-item.result None c.loop-mark-test.true c.mark-item.is (sym w.in_default.is ∙ c.in_ok-note.ensures))
    ]
