-- What holds of a mailbox whatever calls come.
use Rattle.std.specs.Prelude.{◌≡◌, ◌≢◌, ℕ, ◌≤◌, ◌==◌, true, if◌then◌else◌, Option, Some, None}
use Rattle.std.specs.Prelude.{Result, Ok, List, [], ◌∷◌, ◌++◌, length, slice_get, All}
use Rattle.std.specs.List.{flat_map, filter_map}
use Rattle.stateful_types.specs.declared.mailbox.Feedback.{Feedback}
use Rattle.stateful_base.specs.declared.outcome.Moved.{Moved}
use Rattle.stateful_base.specs.declared.outcome.Moved.TheVariants.{Pending}
use Rattle.stateful_history.specs.declared.event.Event.{Event}
use Rattle.stateful_history.specs.declared.event.Event.TheVariants as events
use Rattle.stateful_history.specs.declared.mark.Mark.{Mark}
use Rattle.stateful_actor_mailbox.specs.Replies.{is_request, note_of, outcome, gone}
use Rattle.stateful_actor_mailbox.specs.Messages.{kind_of}
use Rattle.stateful_actor_mailbox.specs.Mail.{Mail, Asks, Takes, cancelled_mail, answered, polled}
use Rattle.stateful_actor_mailbox.specs.Mail.{polled_as, taken_mail}
use Rattle.stateful_actor_mailbox.specs.declared.message.Ask.{Ask}
use Rattle.stateful_actor_mailbox.specs.declared.note.Note.{Note}
use Rattle.stateful_actor_mailbox.specs.declared.note.Note.TheVariants.{Ends, Stops}
use Rattle.stateful_actor_mailbox.specs.declared.reply.Kind.{Kind}
use Rattle.stateful_actor_mailbox.specs.declared.reply.Reply.{Reply}
use Rattle.stateful_actor_mailbox.specs.declared.reply.Stopped.{Stopped}

-- a call of a mailbox, with what it was given and what it answered
pub data Call (B C I : Type 0) : Type 0 where
  asked : Ask B C I → ℕ → Call B C I
  cancelled : ℕ → Call B C I
  taken : Option (Event B C I) → Call B C I
  told : List (Mark B) → Call B C I
  polled_for : ℕ → Result (Moved (Reply B)) Stopped → Call B C I

-- a call, and the mailbox behind it
pub data Steps {B C I : Type 0} (m : Mail B C I) : Call B C I → Mail B C I → Type 0 where
  asks : {ask : Ask B C I} {ticket : ℕ} {next : Mail B C I} (feedback : Feedback)
      → Asks m ask feedback ticket next
      → Steps m (asked ask ticket) next
  cancels : {t : ℕ} → Steps m (cancelled t) (cancelled_mail m t)
  takes : {found : Option (Event B C I)} {next : Mail B C I}
      → Takes m found next
      → Steps m (taken found) next
  hears : {marks : List (Mark B)} → Steps m (told marks) (answered m marks)
  polls : {t : ℕ} → Steps m (polled_for t (polled m t)) (taken_mail m t)

module _ {B : Type 0} where
  -- how a note ends a ticket that was drawn by this call, if it ends it
  abbrev pub end_by_note : ℕ → Kind → Option (Note B) → Option (Result (Reply B) Stopped)
  end_by_note t kind None = None
  end_by_note t kind (Some (Ends u answer)) = if u == t then outcome kind answer else None
  end_by_note t kind (Some Stops) = Some (gone kind)

  -- how a mark ends it
  abbrev pub end_by : ℕ → Kind → Mark B → Option (Result (Reply B) Stopped)
  end_by t kind mark = end_by_note t kind (note_of mark)

module _ {B C I : Type 0} where
  -- calls, one after another, from one mailbox to another
  abbrev pub Runs : Mail B C I → List (Call B C I) → Mail B C I → Type 0
  Runs m [] last = last ≡ m
  Runs m (call ∷ calls) last = (after : Mail B C I) × Steps m call after × Runs after calls last

  -- what a call asks for
  abbrev pub asks_of : Call B C I → List (Ask B C I)
  asks_of (asked ask t) = ask ∷ []
  asks_of call = []

  -- the marks of which a call tells
  abbrev pub marks_of : Call B C I → List (Mark B)
  marks_of (told marks) = marks
  marks_of call = []

  -- the ticket of an event that a mailbox hands out
  abbrev pub ticket_in : Event B C I → Option ℕ
  ticket_in (events.Verify t ancestry) = Some t
  ticket_in (events.Prepare t context ancestry input) = Some t
  ticket_in (events.Propose t context ancestry input) = Some t
  ticket_in (events.Finalized t b) = Some t
  ticket_in (events.Subscribe t) = Some t
  ticket_in (events.Cancel t) = Some t
  ticket_in event = None

  -- how the first mark that ends it does so, if one of these calls told of such a mark
  abbrev pub ended_in : ℕ → Kind → List (Call B C I) → Option (Result (Reply B) Stopped)
  ended_in t kind calls = slice_get (filter_map (end_by t kind) (flat_map marks_of calls)) 0

  -- an event of this ticket is taken out
  abbrev pub TakesOut : ℕ → Call B C I → Type 0
  TakesOut t (taken (Some event)) = ticket_in event ≡ Some t
  TakesOut t call = ⊥

  -- what became of this ticket is handed out
  abbrev pub HandsReply : ℕ → Call B C I → Type 0
  HandsReply t (polled_for u answer) = (u ≡ t) × (answer ≢ Ok Pending)
  HandsReply t call = ⊥

  -- Whatever calls came since the mailbox was made:
  pub record Lawful (calls : List (Call B C I)) : Type 0 where
    -- tickets are numbered from 0 on
    pub numbers : (before behind : List (Call B C I)) (ask : Ask B C I) (t : ℕ)
        → calls ≡ before ++ asked ask t ∷ behind
        → t ≡ length (flat_map asks_of before)
    -- a ticket is pending exactly until a mark ends it, and then gives what the first such mark
    -- tells, once
    pub replies : (before between behind : List (Call B C I)) (ask : Ask B C I) (t : ℕ)
        (answer : Result (Moved (Reply B)) Stopped)
        → calls ≡ before ++ asked ask t ∷ (between ++ polled_for t answer ∷ behind)
        → All (λ call. HandsReply t call → ⊥) between
        → answer ≡ polled_as (ended_in t (kind_of ask) between)
    -- a request that is cancelled before it was taken out is never handed out, and the machine
    -- isn't told of it
    pub withdrawn : (before between later behind : List (Call B C I)) (ask : Ask B C I) (t : ℕ)
        (event : Event B C I)
        → calls ≡ before ++ asked ask t
        ∷ (between ++ cancelled t ∷ (later ++ taken (Some event) ∷ behind))
        → is_request (kind_of ask) ≡ true
        → All (λ call. TakesOut t call → ⊥) between
        → ticket_in event ≢ Some t
    -- an event is taken out once, and so is its cancel, behind it
    pub once : (before between behind : List (Call B C I)) (first second : Event B C I) (t : ℕ)
        → calls ≡ before ++ taken (Some first) ∷ (between ++ taken (Some second) ∷ behind)
        → ticket_in first ≡ Some t
        → ticket_in second ≡ Some t
        → (first ≢ events.Cancel t) × (second ≡ events.Cancel t)
    -- a cancel behind its event isn't forgotten, whatever else is cancelled: until it is taken out,
    -- what is taken out is a cancel of this ticket or of a lower one, unless a mark ends the ticket
    pub told_of : (before one two three behind : List (Call B C I)) (ask : Ask B C I) (t : ℕ)
        (event : Event B C I) (found : Option (Event B C I))
        → calls ≡ before ++ asked ask t
        ∷ (one ++ taken (Some event) ∷ (two ++ cancelled t ∷ (three ++ taken found ∷ behind)))
        → is_request (kind_of ask) ≡ true
        → ticket_in event ≡ Some t
        → All (λ call. TakesOut t call → ⊥) (one ++ two ++ three)
        → ended_in t (kind_of ask) (one ++ two ++ three) ≡ None
        → (u : ℕ) × (found ≡ Some (events.Cancel u)) × (u ≤ t)

  -- whatever calls follow
  abbrev pub KeepsLaws : Mail B C I → Type 0
  KeepsLaws first =
      (calls : List (Call B C I)) (last : Mail B C I) → Runs first calls last → Lawful calls
