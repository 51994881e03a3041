-- What holds of a resolver whatever is done to it and to its mailbox, said of what is seen of both.
use Rattle.std.specs.Prelude.{◌≡◌, ◌≢◌, ◌↔◌, ℕ, ◌+◌, ◌≤◌, ◌<◌, ◌==◌, ◌⊎◌, Bool, true, false, Option}
use Rattle.std.specs.Prelude.{Some, None, Ok, Err, List, [], ◌∷◌, ◌++◌, map, All, Contains}
use Rattle.std.specs.Prelude.{count_by, option_to_list}
use Rattle.std.specs.Int.NonZero.{non_zero_u64_get}
use Rattle.std.specs.Ordering.{nat_cmp}
use Rattle.std.specs.List.Sorted.{IsStrictlySortedBy}
use Rattle.stateful_base.specs.Format.{Format}
use Rattle.stateful_types.specs.Mailbox.{messages}
use Rattle.stateful_types.specs.Response.{response_format}
use Rattle.stateful_types.specs.declared.request.Request.{Request}
use Rattle.stateful_types.specs.declared.request.Request.TheVariants as requests
use Rattle.stateful_types.specs.declared.response.Response.{Response}
use Rattle.stateful_db_source.specs.declared.source.ServeFault.{ServeFault}
use Rattle.stateful_db_source.specs.declared.source.ServeFault.TheVariants as faults
use Rattle.stateful_p2p.specs.Inbox.{Inbox, waiting_for}
use Rattle.stateful_p2p.specs.Tickets.{is_dropped}
use Rattle.stateful_p2p_codec.specs.Reading.{IsResponse}
use Rattle.stateful_p2p.specs.Resolving.{Setup, may_come}
use Rattle.stateful_p2p.specs.History.{Entry, Asked, Cancelled, Polled, Stepped, outs_of}
use Rattle.stateful_p2p.specs.History.{count_outs, Once, Always, Since, Runs}
use Rattle.stateful_p2p_tables.specs.declared.state.State.{State}
use Rattle.stateful_p2p.specs.declared.message.Message.{Message}
use Rattle.stateful_p2p.specs.declared.message.Message.TheVariants.{AttachDatabase, GetOperations}
use Rattle.stateful_p2p.specs.declared.actor.Task.{Task}
use Rattle.stateful_p2p.specs.declared.actor.Task.TheVariants.{Hear, Deliver, Judge, Leave, Produce}
use Rattle.stateful_p2p.specs.declared.event.ActorEvent.{ActorEvent}
use Rattle.stateful_p2p.specs.declared.event.ActorEvent.TheVariants as events
use Rattle.stateful_p2p_tables.specs.declared.out.ActorOut.{ActorOut}
use Rattle.stateful_p2p_tables.specs.declared.out.ActorOut.TheVariants.{Fetch, Forget, Candidate}
use Rattle.stateful_p2p_tables.specs.declared.out.ActorOut.TheVariants.{Feedback, Unjudged, Served}
use Rattle.stateful_p2p_tables.specs.declared.out.ActorOut.TheVariants.{Unserved}

-- ---- tickets

module _ {D : Type 0} where
  -- the ticket is drawn for this key
  abbrev pub Draws : ℕ → Request → Entry D → Type 0
  Draws t key (Asked u request) = (u ≡ t) × (request ≡ key)
  Draws t key entry = ⊥

  abbrev pub IsDrawn : ℕ → Entry D → Type 0
  IsDrawn t entry = (key : Request) × Draws t key entry

  -- the ticket is cancelled, it leaves, or it judges its candidate good
  abbrev pub Ends : ℕ → Entry D → Type 0
  Ends t (Cancelled u) = u ≡ t
  Ends t (Stepped (Leave u) outs) = u ≡ t
  Ends t (Stepped (Judge u true) outs) = u ≡ t
  Ends t entry = ⊥

  -- the ticket was drawn, and nothing ended it since
  abbrev pub IsLive : List (Entry D) → ℕ → Type 0
  IsLive entries t = Since (IsDrawn t) (Ends t) entries

  -- the request of this ticket is taken from the mailbox
  abbrev pub IsTaken : ℕ → Request → Entry D → Type 0
  IsTaken t key (Stepped (Hear (GetOperations u request)) outs) = (u ≡ t) × (request ≡ key)
  IsTaken t key entry = ⊥

  -- the key was fetched for the ticket
  abbrev pub WasFetched : List (Entry D) → ℕ → Request → Type 0
  WasFetched entries t key = Once (λ before entry. Contains (outs_of entry) (Fetch t key)) entries

  -- something was fetched for the ticket
  abbrev pub HadFetch : List (Entry D) → ℕ → Type 0
  HadFetch entries t = (key : Request) × WasFetched entries t key

  -- the ticket subscribes to the key: it is live, and the key was fetched for it
  abbrev pub IsSubscriber : List (Entry D) → Request → ℕ → Type 0
  IsSubscriber entries key t = IsLive entries t × WasFetched entries t key

  -- ---- candidates

  -- a candidate of the delivery is handed to the ticket
  abbrev pub Hands : ℕ → ℕ → Entry D → Type 0
  Hands t d (Stepped (Deliver e key bytes) outs) = (e ≡ d) × Contains outs (Candidate t)
  Hands t d entry = ⊥

  -- some candidate was handed to the ticket
  abbrev pub HadCandidate : List (Entry D) → ℕ → Type 0
  HadCandidate entries t = Once (λ before entry. Contains (outs_of entry) (Candidate t)) entries

  -- the ticket was drawn, and ended before a candidate came for it
  abbrev pub WasLetGo : List (Entry D) → ℕ → Type 0
  WasLetGo entries t = Once (λ before entry. IsDrawn t entry) entries
      × (IsLive entries t → ⊥)
      × (HadCandidate entries t → ⊥)

  -- the ticket gives its verdict, it leaves, or it is cancelled
  abbrev pub Replies : ℕ → Entry D → Type 0
  Replies t (Cancelled u) = u ≡ t
  Replies t (Stepped (Judge u valid) outs) = u ≡ t
  Replies t (Stepped (Leave u) outs) = u ≡ t
  Replies t entry = ⊥

  -- the ticket has a candidate of the delivery, and hasn't replied to it
  abbrev pub HasToJudge : List (Entry D) → ℕ → ℕ → Type 0
  HasToJudge entries t d = Since (Hands t d) (Replies t) entries

  -- the ticket gives this verdict
  abbrev pub GivesVerdict : ℕ → Bool → Entry D → Type 0
  GivesVerdict t valid (Stepped (Judge u given) outs) = (u ≡ t) × (given ≡ valid)
  GivesVerdict t valid entry = ⊥

  -- the ticket gave this verdict on the candidate of the delivery
  abbrev pub HasJudged : List (Entry D) → ℕ → ℕ → Bool → Type 0
  HasJudged entries t d valid =
      Once (λ before entry. GivesVerdict t valid entry × HasToJudge before t d) entries

  -- everybody who had the candidate of the delivery has replied
  abbrev pub HaveReplied : List (Entry D) → ℕ → Type 0
  HaveReplied entries d = (t : ℕ) → HasToJudge entries t d → ⊥

  -- the verdict on the delivery of the lowest ticket that gave one
  abbrev pub IsVerdict : List (Entry D) → ℕ → Bool → Type 0
  IsVerdict entries d valid = (t : ℕ)
      × HasJudged entries t d valid
      × ((u : ℕ) (other : Bool) → HasJudged entries u d other → t ≤ u)

  -- nobody gave a verdict on the delivery
  abbrev pub HasNoVerdict : List (Entry D) → ℕ → Type 0
  HasNoVerdict entries d = (t : ℕ) (valid : Bool) → HasJudged entries t d valid → ⊥

  -- the delivery of this number
  abbrev pub Delivers : ℕ → Entry D → Type 0
  Delivers d (Stepped (Deliver e key bytes) outs) = e ≡ d
  Delivers d entry = ⊥

  abbrev pub WasDelivered : List (Entry D) → ℕ → Type 0
  WasDelivered entries d = Once (λ before entry. Delivers d entry) entries

  -- the production of this number
  abbrev pub Produces : ℕ → Entry D → Type 0
  Produces n (Stepped (Produce k key) outs) = k ≡ n
  Produces n entry = ⊥

  abbrev pub WasProduced : List (Entry D) → ℕ → Type 0
  WasProduced entries n = Once (λ before entry. Produces n entry) entries

  -- a subscriber that has nothing to judge
  abbrev pub IsFree : List (Entry D) → Request → ℕ → Type 0
  IsFree entries key t = IsSubscriber entries key t × ((d : ℕ) → HasToJudge entries t d → ⊥)

-- the tickets of which it holds, ascending
pub record AreThose (P : ℕ → Type 0) (tickets : List ℕ) : Type 0 where
  pub ascending : IsStrictlySortedBy nat_cmp tickets
  pub members : (t : ℕ) → Contains tickets t ↔ P t

-- an answer to a delivery
abbrev pub IsAnswer : ActorOut → Type 0
IsAnswer (Feedback d valid) = Unit {0}
IsAnswer (Unjudged d) = Unit {0}
IsAnswer out = ⊥

-- an answer to this delivery
abbrev pub is_answer_to : ℕ → ActorOut → Bool
is_answer_to d (Feedback e valid) = e == d
is_answer_to d (Unjudged e) = e == d
is_answer_to d out = false

abbrev pub is_fetch_of : ℕ → ActorOut → Bool
is_fetch_of t (Fetch u key) = u == t
is_fetch_of t out = false

abbrev pub is_request_of : {D : Type 0} → ℕ → Message D → Bool
is_request_of t (AttachDatabase db) = false
is_request_of t (GetOperations u request) = u == t

-- how many requests of the ticket are on their way in the mailbox
abbrev pub waiting : {D Op : Type 0} → ℕ → Inbox D Op → ℕ
waiting t m = count_by (is_request_of t) (messages m.queue)

abbrev pub is_forget_of : ℕ → ActorOut → Bool
is_forget_of t (Forget u) = u == t
is_forget_of t out = false

-- an answer to the peer that asked under this number
abbrev pub is_served : ℕ → ActorOut → Bool
is_served n (Served k bytes) = k == n
is_served n (Unserved k) = k == n
is_served n out = false

-- ---- what an event puts out, by what came before

module _ {D Op : Type 0} (operations : Format Op) (before : List (Entry D)) where
  -- A delivery. Without a subscriber it stays unjudged. It is bad exactly where its bytes aren't a
  -- response to its key. Else each subscriber that has nothing to judge takes it, in ascending
  -- order, and where none does, it stays unjudged.
  pub data Spreads (d : ℕ) (key : Request) (bytes : List ℕ) : List ActorOut → Type 0 where
    unheard : ((t : ℕ) → IsSubscriber before key t → ⊥) → Spreads d key bytes (Unjudged d ∷ [])
    malformed : {t : ℕ}
        → IsSubscriber before key t
        → ((response : Response Op) → IsResponse operations key bytes response → ⊥)
        → Spreads d key bytes (Feedback d false ∷ [])
    untaken : {t : ℕ} {response : Response Op}
        → IsSubscriber before key t
        → IsResponse operations key bytes response
        → ((u : ℕ) → IsFree before key u → ⊥)
        → Spreads d key bytes (Unjudged d ∷ [])
    taken : {takers : List ℕ} {response : Response Op}
        → IsResponse operations key bytes response
        → AreThose (IsFree before key) takers
        → takers ≢ []
        → Spreads d key bytes (map (λ t. Candidate t) takers)

  -- what an event puts out of its own
  pub data Puts : Task D → List ActorOut → Type 0 where
    attaches : {db : D} → Puts (Hear (AttachDatabase db)) []
    fetches : {t : ℕ} {key : Request}
        → IsLive before t
        → Puts (Hear (GetOperations t key)) (Fetch t key ∷ [])
    passes_over : {t : ℕ} {key : Request}
        → (IsLive before t → ⊥)
        → Puts (Hear (GetOperations t key)) []
    spreads : {d : ℕ} {key : Request} {bytes : List ℕ} {outs : List ActorOut}
        → Spreads d key bytes outs
        → Puts (Deliver d key bytes) outs
    accepts : {t : ℕ} (answer : Option ActorOut)
        → All IsAnswer (option_to_list answer)
        → Puts (Judge t true) (Forget t ∷ option_to_list answer)
    rejects : {t : ℕ} (answer : Option ActorOut)
        → All IsAnswer (option_to_list answer)
        → Puts (Judge t false) (option_to_list answer)
    leaves : {t : ℕ} {key : Request} (answer : Option ActorOut)
        → WasFetched before t key
        → All IsAnswer (option_to_list answer)
        → Puts (Leave t) (Forget t ∷ option_to_list answer)
    leaves_unfetched : {t : ℕ}
        → ((key : Request) → WasFetched before t key → ⊥)
        → Puts (Leave t) []
    serves : {n : ℕ} {key : Request} (bytes : List ℕ) → Puts (Produce n key) (Served n bytes ∷ [])
    serves_nothing : {n : ℕ} {key : Request} → Puts (Produce n key) (Unserved n ∷ [])

  -- who was fetched for, is live no more, and wasn't forgotten yet
  abbrev pub IsLeft : ℕ → Type 0
  IsLeft t = HadFetch before t
      × (IsLive before t → ⊥)
      × (count_outs (is_forget_of t) before ≡ 0)

  -- all that it puts out: those who were cancelled are forgotten first, in ascending order, then
  -- come answers to the deliveries that this settles, and then what is its own
  pub record Tells (task : Task D) (outs : List ActorOut) : Type 0 where
    pub gone : List ℕ
    pub are : AreThose IsLeft gone
    pub settled : List ActorOut
    pub answers : All IsAnswer settled
    pub own : List ActorOut
    pub puts : Puts task own
    pub outs_are : outs ≡ map (λ t. Forget t) gone ++ settled ++ own

  abbrev pub TellsAt : Entry D → Type 0
  TellsAt (Stepped task outs) = Tells task outs
  TellsAt entry = Unit {0}

-- ---- what holds behind each event

module _ {D : Type 0} (before : List (Entry D)) where
  -- whoever was fetched for and is live no more was forgotten, once, and nobody else was
  abbrev pub ForgetsAt : Entry D → Type 0
  ForgetsAt (Stepped task outs) = (t : ℕ)
      → (count_outs (is_forget_of t) (before ++ Stepped task outs ∷ []) ≡ 1)
      ↔ (HadFetch (before ++ Stepped task outs ∷ []) t
      × (IsLive (before ++ Stepped task outs ∷ []) t → ⊥))
  ForgetsAt entry = Unit {0}

  -- each delivery was answered, once, or somebody has it to judge
  abbrev pub AnswersAt : Entry D → Type 0
  AnswersAt (Stepped task outs) = (d : ℕ)
      → WasDelivered (before ++ Stepped task outs ∷ []) d
      → (count_outs (is_answer_to d) (before ++ Stepped task outs ∷ []) ≡ 1)
      ⊎ ((t : ℕ) × HasToJudge (before ++ Stepped task outs ∷ []) t d)
  AnswersAt entry = Unit {0}

  -- A verdict that isn't given where the delivery comes is that of the lowest ticket that gave one,
  -- once all have replied; a delivery that comes to be unjudged had none.
  abbrev pub SettlesAt : Entry D → Type 0
  SettlesAt (Stepped task outs) = ((d : ℕ) (valid : Bool)
      → Contains outs (Feedback d valid)
      → (Delivers d (Stepped task outs) × (valid ≡ false))
      ⊎ (HaveReplied (before ++ Stepped task outs ∷ []) d
      × IsVerdict (before ++ Stepped task outs ∷ []) d valid))
      × ((d : ℕ)
      → Contains outs (Unjudged d)
      → Delivers d (Stepped task outs)
      ⊎ (HaveReplied (before ++ Stepped task outs ∷ []) d
      × HasNoVerdict (before ++ Stepped task outs ∷ []) d))
  SettlesAt entry = Unit {0}

-- Which events may come. A message waits; who judges has a candidate to judge; who leaves is live;
-- and the number of a delivery or of a production is above every earlier one.
abbrev pub CanCome : {D Op : Type 0} → List (Entry D) → Inbox D Op → ActorEvent → Type 0
CanCome entries m events.Message = messages m.queue ≢ []
CanCome entries m (events.Deliver d key bytes) = (e : ℕ) → WasDelivered entries e → e < d
CanCome entries m (events.Judge t valid) = (d : ℕ) × HasToJudge entries t d
CanCome entries m (events.Leave t) = IsLive entries t
CanCome entries m (events.Produce n key) = (k : ℕ) → WasProduced entries k → k < n

-- ---- what is polled

-- the candidate of the ticket is polled, or a further one is handed to it
abbrev pub Retakes : {D : Type 0} → ℕ → Entry D → Type 0
Retakes t (Polled u) = u ≡ t
Retakes t (Stepped task outs) = Contains outs (Candidate t)
Retakes t entry = ⊥

module _ {D Op : Type 0} (operations : Format Op) where
  -- the ticket is handed this response, which the delivery's bytes are
  abbrev pub HandsOver : ℕ → Response Op → Entry D → Type 0
  HandsOver t response (Stepped (Deliver d key bytes) outs) = Contains outs (Candidate t)
      × IsResponse operations key bytes response
  HandsOver t response entry = ⊥

  -- it waits for the ticket
  abbrev pub WaitsFor : List (Entry D) → ℕ → Response Op → Type 0
  WaitsFor entries t response = Since (HandsOver t response) (Retakes t) entries

-- ---- what peers are served

-- whether the entry changes what is served
abbrev pub IsOfDatabase : {D : Type 0} → Entry D → Type 0
IsOfDatabase (Stepped (Hear (AttachDatabase db)) outs) = Unit {0}
IsOfDatabase (Stepped (Produce n key) outs) = Unit {0}
IsOfDatabase entry = ⊥

-- the key asks for more operations than are served
abbrev pub AsksTooMuch : ℕ → Request → Type 0
AsksTooMuch most (requests.Operations size start max_ops) = most < non_zero_u64_get max_ops
AsksTooMuch most (requests.Boundary size start) = ⊥

module _ {D Op : Type 0} (u : Setup D Op) where
  -- What a peer is sent, and the database behind that. It is nothing exactly where none is
  -- attached, where the key asks for more operations than are served, in which case the database
  -- isn't asked, and where the database doesn't serve what is asked for or fails.
  pub data Gives (key : Request) : Option D → Option (List ℕ) → Option D → Type 0 where
    none_attached : Gives key None None None
    too_much : {db : D} → AsksTooMuch u.max_serve_ops key → Gives key (Some db) None (Some db)
    not_served : {db next : D} {fault : ServeFault}
        → (AsksTooMuch u.max_serve_ops key → ⊥)
        → u.serves db key (Err fault) next
        → (fault ≡ faults.NotServed) ⊎ (fault ≡ faults.Failed)
        → Gives key (Some db) None (Some next)
    gives : {db next : D} {response : Response Op}
        → (AsksTooMuch u.max_serve_ops key → ⊥)
        → u.serves db key (Ok response) next
        → (response_format u.operations).fits response
        → Gives key (Some db) (Some ((response_format u.operations).spelling response)) (Some next)

  -- the outputs have the answer to the peer that asked under this number
  abbrev pub Sent : ℕ → Option (List ℕ) → List ActorOut → Type 0
  Sent n None outs = Contains outs (Unserved n)
  Sent n (Some bytes) outs = Contains outs (Served n bytes)

  -- The database that is served behind these entries, if there is one: the last that was taken from
  -- the mailbox, as the requests that it answered left it. Each peer was sent what it answered.
  pub data Serves : List (Entry D) → Option D → Type 0 where
    nothing : Serves [] None
    attached : {entries : List (Entry D)} {served : Option D} (db : D) (outs : List ActorOut)
        → Serves entries served
        → Serves (entries ++ Stepped (Hear (AttachDatabase db)) outs ∷ []) (Some db)
    answered : {entries : List (Entry D)} {served next : Option D}
        (n : ℕ) (key : Request) (bytes : Option (List ℕ)) (outs : List ActorOut)
        → Serves entries served
        → Gives key served bytes next
        → Sent n bytes outs
        → Serves (entries ++ Stepped (Produce n key) outs ∷ []) next
    passed : {entries : List (Entry D)} {served : Option D} (entry : Entry D)
        → Serves entries served
        → (IsOfDatabase entry → ⊥)
        → Serves (entries ++ entry ∷ []) served

-- ---- the laws

module _ {D Op : Type 0} (u : Setup D Op) where
  -- Whatever was done since the resolver and its mailbox were made:
  pub record Lawful (entries : List (Entry D)) (s : State D) (m : Inbox D Op) : Type 0 where
    -- which events may come
    pub comes : (event : ActorEvent) → (may_come s m event ≡ true) ↔ CanCome entries m event
    -- each event puts out what the entries before it tell
    pub tells : Always (TellsAt u.operations) entries
    -- a key is fetched where the request for it is taken, and its ticket is live
    pub fetches : Always (λ before entry. (t : ℕ) (key : Request)
        → Contains (outs_of entry) (Fetch t key)
        → IsTaken t key entry × IsLive before t × Once (λ earlier drawn. Draws t key drawn) before)
        entries
    pub taken : Always (λ before entry. (t : ℕ) (key : Request)
        → IsTaken t key entry
        → IsLive before t
        → Contains (outs_of entry) (Fetch t key)) entries
    -- once for each ticket at most, and no live one is forgotten: its request is on its way, or it
    -- was fetched
    pub fetched_once : (t : ℕ) → count_outs (is_fetch_of t) entries ≤ 1
    pub none_forgotten : (t : ℕ)
        → IsLive entries t
        → waiting t m + count_outs (is_fetch_of t) entries ≡ 1
    -- a ticket is forgotten once at most, and is behind each event where it was fetched for and is
    -- live no more
    pub forgotten_once : (t : ℕ) → count_outs (is_forget_of t) entries ≤ 1
    pub forgets : Always ForgetsAt entries
    -- a ticket has one candidate to judge at a time
    pub one_at_a_time : (t d e : ℕ) → HasToJudge entries t d → HasToJudge entries t e → d ≡ e
    -- a delivery is answered once at most, and is behind each event where nobody has it to judge
    pub answered_once : (d : ℕ) → count_outs (is_answer_to d) entries ≤ 1
    pub answers : Always AnswersAt entries
    pub settles : Always SettlesAt entries
    -- who was let go before a candidate is told so, and a candidate waits until it is polled or
    -- replaced
    pub dropped : (t : ℕ) → (is_dropped m.tickets t ≡ true) ↔ WasLetGo entries t
    pub waits : (t : ℕ) (response : Response Op)
        → waiting_for m t ≡ Some response
        → WaitsFor u.operations entries t response
    pub nothing_waits : (t : ℕ)
        → waiting_for m t ≡ None
        → (response : Response Op)
        → WaitsFor u.operations entries t response
        → ⊥
    -- a production is answered once at most, as the database that is served answers
    pub served_once : (n : ℕ) → count_outs (is_served n) entries ≤ 1
    pub served : (database : Option D) × Serves u entries database

module _ {D Op : Type 0} (u : Setup D Op) where
  abbrev pub KeepsLaws : State D → Inbox D Op → Type 0
  KeepsLaws first box = (entries : List (Entry D)) (s : State D) (m : Inbox D Op)
      → Runs u first box entries s m
      → Lawful u entries s m
