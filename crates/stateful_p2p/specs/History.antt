-- What is seen of a resolver and its mailbox, and what can be said of it.
use Rattle.std.specs.Prelude.{◌≡◌, ℕ, Bool, true, Some, List, [], ◌∷◌, ◌++◌, count_by, sum_by, All}
use Rattle.stateful_types.specs.Mailbox.{HandsOut}
use Rattle.stateful_types.specs.declared.mailbox.Feedback.{Feedback}
use Rattle.stateful_types.specs.declared.request.Request.{Request}
use Rattle.stateful_p2p.specs.Inbox.{Inbox, Asks, Attaches, cancelled, taken_out}
use Rattle.stateful_p2p.specs.Resolving.{Setup, may_come, Steps}
use Rattle.stateful_p2p.specs.declared.message.Message.{Message}
use Rattle.stateful_p2p_tables.specs.declared.state.State.{State}
use Rattle.stateful_p2p.specs.declared.actor.Task.{Task}
use Rattle.stateful_p2p.specs.declared.actor.Task.TheVariants as tasks
use Rattle.stateful_p2p.specs.declared.event.ActorEvent.{ActorEvent}
use Rattle.stateful_p2p.specs.declared.event.ActorEvent.TheVariants as events
use Rattle.stateful_p2p_tables.specs.declared.out.ActorOut.{ActorOut}

-- One call on the mailbox, or one event with the message that it took from the mailbox, and what
-- was put out.
pub data Entry (D : Type 0) : Type 0 where
  Asked : ℕ → Request → Entry D
  Attached : D → Entry D
  Cancelled : ℕ → Entry D
  Polled : ℕ → Entry D
  Stepped : Task D → List ActorOut → Entry D

abbrev pub outs_of : {D : Type 0} → Entry D → List ActorOut
outs_of (Stepped task outs) = outs
outs_of entry = []

-- how many outputs of a kind there are in all
abbrev pub count_outs : {D : Type 0} → (ActorOut → Bool) → List (Entry D) → ℕ
count_outs kind entries = sum_by (λ entry. count_by kind (outs_of entry)) entries

module _ {E : Type 0} where
  -- it holds at some entry, of those before it and of itself
  pub record Once (P : List E → E → Type 0) (entries : List E) : Type 0 where
    pub before : List E
    pub entry : E
    pub after : List E
    pub place : entries ≡ before ++ entry ∷ after
    pub here : P before entry

  -- it holds at each entry, of those before it and of itself
  abbrev pub Always : (List E → E → Type 0) → List E → Type 0
  Always P entries = (before : List E) (entry : E) (after : List E)
      → entries ≡ before ++ entry ∷ after
      → P before entry

  -- it began with an entry, and none behind that one ended it
  pub record Since (Begins Ends : E → Type 0) (entries : List E) : Type 0 where
    pub before : List E
    pub entry : E
    pub after : List E
    pub place : entries ≡ before ++ entry ∷ after
    pub begins : Begins entry
    pub goes_on : All (λ later. Ends later → ⊥) after

module _ {D Op : Type 0} where
  -- the event, with the message that it took
  pub data Takes (m left : Inbox D Op) : ActorEvent → Task D → Type 0 where
    hears : {message : Message D}
        → HandsOut m.queue left.queue (Some message)
        → Takes m left events.Message (tasks.Hear message)
    delivers : {d : ℕ} {key : Request} {bytes : List ℕ}
        → Takes m left (events.Deliver d key bytes) (tasks.Deliver d key bytes)
    judges : {t : ℕ} {valid : Bool}
        → Takes m left (events.Judge t valid) (tasks.Judge t valid)
    leaves : {t : ℕ}
        → Takes m left (events.Leave t) (tasks.Leave t)
    produces : {n : ℕ} {key : Request}
        → Takes m left (events.Produce n key) (tasks.Produce n key)

  module _ (u : Setup D Op) where
    -- one entry
    pub data Turns (s : State D) (m : Inbox D Op) : Entry D → State D → Inbox D Op → Type 0 where
      asks : {t : ℕ} {key : Request} {feedback : Feedback} {left : Inbox D Op}
          → Asks m key feedback t left
          → Turns s m (Asked t key) s left
      attaches : {db : D} {feedback : Feedback} {left : Inbox D Op}
          → Attaches m db feedback left
          → Turns s m (Attached db) s left
      cancels : {t : ℕ}
          → Turns s m (Cancelled t) s (cancelled m t)
      polls : {t : ℕ}
          → Turns s m (Polled t) s (taken_out m t)
      steps : {event : ActorEvent} {task : Task D} {outs : List ActorOut}
          {next : State D} {left : Inbox D Op}
          → may_come s m event ≡ true
          → Takes m left event task
          → Steps u s m event outs next left
          → Turns s m (Stepped task outs) next left

    -- entries, one after another, from one resolver and its mailbox to what they became
    pub data Runs (first : State D) (box : Inbox D Op) : List (Entry D)
        → State D
        → Inbox D Op
        → Type 0 where
      begins : Runs first box [] first box
      goes_on : {entries : List (Entry D)} {entry : Entry D}
          {s next : State D} {m left : Inbox D Op}
          → Runs first box entries s m
          → Turns s m entry next left
          → Runs first box (entries ++ entry ∷ []) next left
