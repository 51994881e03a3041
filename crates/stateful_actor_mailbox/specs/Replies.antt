-- How marks end tickets.
use Rattle.std.specs.Prelude.{Bool, true, false, Option, Some, None, Result, Ok, Err}
use Rattle.stateful_base.specs.declared.outcome.Handoff.TheVariants.{Wait, Vote, Stage}
use Rattle.stateful_history.specs.declared.mark.Decision.TheVariants as decisions
use Rattle.stateful_history.specs.declared.mark.Mark.{Mark}
use Rattle.stateful_history.specs.declared.mark.Mark.TheVariants as marks
use Rattle.stateful_actor_mailbox.specs.declared.reply.Kind.{Kind}
use Rattle.stateful_actor_mailbox.specs.declared.reply.Kind.TheVariants.{Prepare, Propose, Verify, Report}
use Rattle.stateful_actor_mailbox.specs.declared.reply.Kind.TheVariants.{Subscribe}
use Rattle.stateful_actor_mailbox.specs.declared.reply.Reply.{Reply}
use Rattle.stateful_actor_mailbox.specs.declared.reply.Reply.TheVariants as replies
use Rattle.stateful_actor_mailbox.specs.declared.reply.Stopped.{Stopped}
use Rattle.stateful_actor_mailbox.specs.declared.note.Answer.{Answer}
use Rattle.stateful_actor_mailbox.specs.declared.note.Answer.TheVariants.{Verdict, Built, Declined}
use Rattle.stateful_actor_mailbox.specs.declared.note.Answer.TheVariants.{Databases, Acknowledged}
use Rattle.stateful_actor_mailbox.specs.declared.note.Answer.TheVariants.{Dropped}
use Rattle.stateful_actor_mailbox.specs.declared.note.Note.{Note}
use Rattle.stateful_actor_mailbox.specs.declared.note.Note.TheVariants.{Ends, Stops}

-- a ticket that this call draws may be cancelled
abbrev pub is_request : Kind → Bool
is_request Prepare = true
is_request Propose = true
is_request Verify = true
is_request Report = false
is_request Subscribe = true

module _ {B : Type 0} where
  -- what a mark tells of tickets, if it tells of any
  abbrev pub note_of : Mark B → Option (Note B)
  note_of (marks.Verdict t valid) = Some (Ends t (Verdict valid))
  note_of (marks.Answered t decision b) = Some (Ends t (Built decision b))
  note_of (marks.Declined t) = Some (Ends t Declined)
  note_of (marks.Databases t) = Some (Ends t Databases)
  note_of (marks.Acknowledged t height) = Some (Ends t Acknowledged)
  note_of (marks.Dropped t) = Some (Ends t Dropped)
  note_of marks.Stopped = Some Stops
  note_of mark = None

  -- how a ticket ends that is dropped without an answer
  abbrev pub gone : Kind → Result (Reply B) Stopped
  gone Prepare = Ok (replies.Prepared Wait)
  gone Propose = Ok (replies.Proposed None)
  gone Verify = Err (record {})
  gone Report = Ok replies.Cancelled
  gone Subscribe = Err (record {})

  -- how a ticket ends by an answer; none where that is no answer to such a ticket
  abbrev pub outcome : Kind → Answer B → Option (Result (Reply B) Stopped)
  outcome Verify (Verdict valid) = Some (Ok (replies.Verdict valid))
  outcome Prepare (Built decisions.Vote b) = Some (Ok (replies.Prepared (Vote b)))
  outcome Prepare (Built decisions.Stage b) = Some (Ok (replies.Prepared (Stage b)))
  outcome Propose (Built decisions.Block b) = Some (Ok (replies.Proposed (Some b)))
  outcome Prepare Declined = Some (gone Prepare)
  outcome Propose Declined = Some (gone Propose)
  outcome Subscribe Databases = Some (Ok replies.Databases)
  outcome Report Acknowledged = Some (Ok replies.Acknowledged)
  outcome kind Dropped = Some (gone kind)
  outcome kind answer = None
