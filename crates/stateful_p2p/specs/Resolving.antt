-- What a resolver does: it fetches for those who ask, hands out candidates and hears verdicts, and
-- serves peers.
use Rattle.std.specs.Prelude.{◌≡◌, ◌⊎◌, ℕ, ◌+◌, ◌-◌, ◌^◌, nat_le, nat_lt, Bool, true, false, not}
use Rattle.std.specs.Prelude.{◌&&◌, Option, Some, None, is_some, Result, Ok, Err, List, [], ◌∷◌}
use Rattle.std.specs.Prelude.{◌++◌, option_to_list}
use Rattle.std.specs.List.Sorted.{IsPermutation, IsNonDecreasing}
use Rattle.std.specs.Int.NonZero.{non_zero_u64_get}
use Rattle.stateful_base.specs.Format.{Format}
use Rattle.stateful_types.specs.Mailbox.{messages, HandsOut}
use Rattle.stateful_types.specs.Response.{response_format}
use Rattle.stateful_types.specs.declared.request.Request.{Request}
use Rattle.stateful_types.specs.declared.request.Request.TheVariants as asked
use Rattle.stateful_types.specs.declared.response.Response.{Response}
use Rattle.stateful_db_source.specs.declared.source.ServeFault.{ServeFault}
use Rattle.stateful_db_source.specs.declared.source.ServeFault.TheVariants as faults
use Rattle.stateful_table.specs.Table.{at, without}
use Rattle.stateful_p2p_tables.specs.Subscribing.{subscribed}
use Rattle.stateful_p2p.specs.Tickets.{is_live, ended}
use Rattle.stateful_p2p.specs.Inbox.{Inbox, let_go}
use Rattle.stateful_p2p_tables.specs.Deliveries.{Releases, Forgets, Retires}
use Rattle.stateful_p2p.specs.Fanout.{Delivers}
use Rattle.stateful_p2p_tables.specs.declared.state.State.{State}
use Rattle.stateful_p2p.specs.declared.message.Message.{Message}
use Rattle.stateful_p2p.specs.declared.message.Message.TheVariants.{AttachDatabase, GetOperations}
use Rattle.stateful_p2p.specs.declared.event.ActorEvent.{ActorEvent}
use Rattle.stateful_p2p.specs.declared.event.ActorEvent.TheVariants as events
use Rattle.stateful_p2p_tables.specs.declared.out.ActorOut.{ActorOut}
use Rattle.stateful_p2p_tables.specs.declared.out.ActorOut.TheVariants.{Fetch, Forget, Served, Unserved}

-- how operations are spelled, what the databases answer, and how many operations are served at most
pub record Setup (D Op : Type 0) : Type 1 where
  pub operations : Format Op
  pub serves : D → Request → Result (Response Op) ServeFault → D → Type 0
  pub max_serve_ops : ℕ

abbrev pub setup : {D Op : Type 0}
    → Format Op
    → (D → Request → Result (Response Op) ServeFault → D → Type 0)
    → ℕ
    → Setup D Op
setup operations serves max_serve_ops =
    record { operations = operations; serves = serves; max_serve_ops = max_serve_ops }

abbrev pub is_empty : {A : Type 0} → List A → Bool
is_empty [] = true
is_empty (x ∷ xs) = false

-- whether the key asks for more operations than are served
abbrev pub asks_too_many : ℕ → Request → Bool
asks_too_many most (asked.Operations size start max_ops) = nat_lt most (non_zero_u64_get max_ops)
asks_too_many most (asked.Boundary size start) = false

-- the event has the last number that there is
abbrev pub IsExhausting : ActorEvent → Type 0
IsExhausting (events.Deliver d key bytes) = d ≡ 2 ^ 64 - 1
IsExhausting (events.Produce n key) = n ≡ 2 ^ 64 - 1
IsExhausting event = ⊥

module _ {D Op : Type 0} where
  -- An event may come where a message waits that it takes, the ticket that it names is live and has
  -- a candidate if it judges it, and its number is above every earlier one.
  abbrev pub may_come : State D → Inbox D Op → ActorEvent → Bool
  may_come s m events.Message = not (is_empty (messages m.queue))
  may_come s m (events.Deliver d key bytes) = nat_le s.next_delivery d
  may_come s m (events.Judge t valid) = is_live m.tickets t && is_some (at s.unjudged t)
  may_come s m (events.Leave t) = is_live m.tickets t
  may_come s m (events.Produce n key) = nat_le s.next_serve n

  -- A message. A database is served from then on, in place of an earlier one. A request is fetched,
  -- unless its ticket was let go.
  pub data Hears (s : State D) (m : Inbox D Op) : Message D → List ActorOut → State D → Type 0 where
    attaches : {db : D} → Hears s m (AttachDatabase db) [] (record s { database = Some db })
    fetches : {t : ℕ} {key : Request}
        → is_live m.tickets t ≡ true
        → Hears s m (GetOperations t key) (Fetch t key ∷ [])
        (record s { subscriptions = subscribed s.subscriptions t key })
    passes_over : {t : ℕ} {key : Request}
        → is_live m.tickets t ≡ false
        → Hears s m (GetOperations t key) [] s

  -- A verdict. A good candidate ends its ticket, and a bad one leaves it open.
  pub data Judges (s : State D) (m : Inbox D Op) (t : ℕ) : Bool
      → List ActorOut
      → State D
      → Inbox D Op
      → Type 0 where
    accepts : {settled : Option ActorOut} {next : State D} → Releases s t (Some true) settled next
        → Judges s m t true (Forget t ∷ option_to_list settled)
        (record next { subscriptions = without next.subscriptions t })
        (record m { tickets = ended m.tickets t })
    rejects : {settled : Option ActorOut} {next : State D}
        → Releases s t (Some false) settled next
        → Judges s m t false (option_to_list settled) next m

  -- A departure. What was fetched for the ticket is forgotten.
  pub data Leaves (s : State D) (m : Inbox D Op) (t : ℕ) : List ActorOut
      → State D
      → Inbox D Op
      → Type 0 where
    leaves : {settled : Option ActorOut} {next : State D}
        → Forgets s t (Some settled) next
        → Leaves s m t (Forget t ∷ option_to_list settled) next (let_go m t)
    leaves_unfetched : {next : State D} → Forgets s t None next → Leaves s m t [] next (let_go m t)

module _ {D Op : Type 0} (u : Setup D Op) where
  -- What the database answers to a peer, in bytes: nothing where none is attached, the key asks for
  -- too much, or the database gives no answer.
  pub data Answers (attached : Option D) (key : Request) : Option (List ℕ) → Option D → Type 0 where
    unattached : attached ≡ None → Answers attached key None attached
    too_many : {db : D}
        → attached ≡ Some db
        → asks_too_many u.max_serve_ops key ≡ true
        → Answers attached key None attached
    unserved : {db next : D} {fault : ServeFault}
        → attached ≡ Some db
        → asks_too_many u.max_serve_ops key ≡ false
        → u.serves db key (Err fault) next
        → (fault ≡ faults.NotServed) ⊎ (fault ≡ faults.Failed)
        → Answers attached key None (Some next)
    served : {db next : D} {response : Response Op}
        → attached ≡ Some db
        → asks_too_many u.max_serve_ops key ≡ false
        → u.serves db key (Ok response) next → (response_format u.operations).fits response
        → Answers attached key (Some ((response_format u.operations).spelling response)) (Some next)

  -- what a peer is sent
  abbrev pub sent : ℕ → Option (List ℕ) → ActorOut
  sent n None = Unserved n
  sent n (Some bytes) = Served n bytes

  -- a peer asks, and is sent the database's answer, or nothing
  pub record Produces (s : State D) (n : ℕ) (key : Request) (outs : List ActorOut)
      (next : State D) : Type 0 where
    pub bytes : Option (List ℕ)
    pub answers : Answers s.database key bytes next.database
    pub outs_are : outs ≡ sent n bytes ∷ []
    pub others : next ≡ record s { next_serve = n + 1; database = next.database }

  -- what an event does
  pub data Does (s : State D) (m : Inbox D Op) : ActorEvent
      → List ActorOut
      → State D
      → Inbox D Op
      → Type 0 where
    hears : {message : Message D} {outs : List ActorOut} {next : State D} {left : Inbox D Op}
        → HandsOut m.queue left.queue (Some message)
        → left ≡ record m { queue = left.queue }
        → Hears s m message outs next → Does s m events.Message outs next left
    delivers : {d : ℕ} {key : Request} {bytes : List ℕ} {outs : List ActorOut} {next : State D}
        {left : Inbox D Op}
        → Delivers u.operations s m d key bytes outs next left
        → Does s m (events.Deliver d key bytes) outs next left
    judges : {t : ℕ} {valid : Bool} {outs : List ActorOut} {next : State D} {left : Inbox D Op}
        → Judges s m t valid outs next left
        → Does s m (events.Judge t valid) outs next left
    leaves : {t : ℕ} {outs : List ActorOut} {next : State D} {left : Inbox D Op}
        → Leaves s m t outs next left
        → Does s m (events.Leave t) outs next left
    produces : {n : ℕ} {key : Request} {outs : List ActorOut} {next : State D}
        → Produces s n key outs next
        → Does s m (events.Produce n key) outs next m

  -- One event. The tickets that were cancelled since the last one are forgotten first, in ascending
  -- order, and the deliveries that this settles come behind them. Then comes what the event does.
  pub record Steps (s : State D) (m : Inbox D Op) (event : ActorEvent) (outs : List ActorOut)
      (last : State D) (left : Inbox D Op) : Type 0 where
    pub gone : List ℕ
    pub ascending : IsNonDecreasing gone
    pub all : IsPermutation m.cancelled gone
    pub forgotten : List ActorOut
    pub settled : List ActorOut
    pub between : State D
    pub retires : Retires s gone forgotten settled between
    pub done : List ActorOut
    pub does : Does between (record m { cancelled = [] }) event done last left
    pub outs_are : outs ≡ forgotten ++ settled ++ done
