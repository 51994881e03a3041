-- Bounded mailboxes.
use Rattle.std.specs.Prelude.{◌≡◌, ◌≢◌, ℕ, ◌<◌, ◌≤◌, ◌⊎◌, Bool, true, false, Option, List, [], ◌∷◌}
use Rattle.std.specs.Prelude.{◌++◌, length, option_to_list}
use Rattle.std.specs.List.Sorted.{IsPermutation}

-- How many messages may be ready, those that are, and behind them those in the overflow, both in
-- the order in which they are handed out. Beside them whether the mailbox is closed.
pub record Queues (T : Type 0) : Type 0 where
  pub capacity : ℕ
  pub ready : List T
  pub overflow : List T
  pub closed : Bool

abbrev pub queues : {T : Type 0} → ℕ → List T → List T → Bool → Queues T
queues capacity ready overflow closed =
    record { capacity = capacity; ready = ready; overflow = overflow; closed = closed }

-- the messages in the order in which they are handed out
abbrev pub messages : {T : Type 0} → Queues T → List T
messages q = q.ready ++ q.overflow

-- a list in two parts, each in its order: what stays, and what goes
pub data Parts {T : Type 0} : List T → List T → List T → Type 0 where
  none_left : Parts [] [] []
  stays : {x : T} {all kept gone : List T} → Parts all kept gone → Parts (x ∷ all) (x ∷ kept) gone
  goes : {x : T} {all kept gone : List T} → Parts all kept gone → Parts (x ∷ all) kept (x ∷ gone)

module _ {T : Type 0} where
  -- at least one message may be ready, no more are than may be, and while fewer are, the overflow
  -- is empty
  pub record IsFilled (q : Queues T) : Type 0 where
    pub capacity : 1 ≤ q.capacity
    pub ready : length q.ready ≤ q.capacity
    pub overflow : length q.ready < q.capacity → q.overflow ≡ []

  -- it isn't closed, one more message may be ready, and the overflow is empty
  pub record HasRoom (q : Queues T) : Type 0 where
    pub still_open : q.closed ≡ false
    pub ready : length q.ready < q.capacity
    pub overflow : q.overflow ≡ []

  -- it isn't closed, and no more messages may be ready, or the overflow isn't empty
  pub record IsBusy (q : Queues T) : Type 0 where
    pub still_open : q.closed ≡ false
    pub full : (q.capacity ≤ length q.ready) ⊎ (q.overflow ≢ [])

  -- the first message is handed out, if there is one, and the others stay in their order
  pub record HandsOut (old new : Queues T) (message : Option T) : Type 0 where
    pub front : messages old ≡ option_to_list message ++ messages new
    pub capacity : new.capacity ≡ old.capacity
    pub closed : new.closed ≡ old.closed

  -- some of the messages that wait are dropped, and all else stays as it is
  pub record Drops (old new : Queues T) (dropped : List T) : Type 0 where
    pub parts : Parts old.overflow new.overflow dropped
    pub others : new ≡ record old { overflow = new.overflow }

  -- what was there and what was taken was handed out in that order or is still there, but for what
  -- was dropped
  pub record IsKept (q : Queues T) (taken handed dropped : List T) (last : Queues T) : Type 0 where
    pub gone : List T
    pub are : IsPermutation gone dropped
    pub parts : Parts (messages q ++ taken) (handed ++ messages last) gone

module _ {T : Type 0} (kept : List T → T → List T) where
  -- One call that changed a mailbox with this policy, with the messages that it took, those that it
  -- handed out and those that it dropped.
  pub data Call : Queues T → List T → List T → List T → Queues T → Type 0 where
    takes : {q : Queues T} (message : T)
        → HasRoom q
        → Call q (message ∷ []) [] [] (record q { ready = q.ready ++ message ∷ [] })
    lets_wait : {q : Queues T} (message : T)
        → IsBusy q
        → Call q (message ∷ []) [] [] (record q { overflow = kept q.overflow message })
    hands_out : {old new : Queues T} {message : Option T}
        → HandsOut old new message
        → Call old [] (option_to_list message) [] new
    drops : {old new : Queues T} {dropped : List T}
        → Drops old new dropped
        → Call old [] [] dropped new
    closes : {q : Queues T} → Call q [] [] [] (record q { closed = true })

  -- calls, one after another
  pub data Calls : Queues T → List T → List T → List T → Queues T → Type 0 where
    none : {q : Queues T} → Calls q [] [] [] q
    further : {q r last : Queues T}
        {taken handed dropped more_taken more_handed more_dropped : List T}
        → Call q taken handed dropped r
        → Calls r more_taken more_handed more_dropped last
        → Calls q (taken ++ more_taken) (handed ++ more_handed) (dropped ++ more_dropped) last

  -- a message that has to wait stands behind all that wait
  abbrev pub IsInOrder : Type 0
  IsInOrder = (waiting : List T) (message : T) → kept waiting message ≡ waiting ++ message ∷ []

  -- Where the policy keeps messages in order, no call that follows loses one, repeats one, or lets
  -- one overtake another.
  abbrev pub KeepsOrder : Queues T → Type 0
  KeepsOrder q =
      IsInOrder
      → (taken handed dropped : List T) (last : Queues T)
      → Calls q taken handed dropped last
      → IsKept q taken handed dropped last
