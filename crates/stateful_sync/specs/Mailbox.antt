-- A mailbox that carries the newest update to a sync.
use Rattle.std.specs.Prelude.{◌≡◌, ℕ, ◌<◌, max, Bool, true, false, ◌&&◌, Option, Some, None}
use Rattle.std.specs.Prelude.{unwrap_or, List, [], ◌∷◌, ◌++◌, length, slice_get, slice_set}
use Rattle.stateful_base.specs.declared.anchor.Anchor.{Anchor}
use Rattle.stateful_base.specs.declared.outcome.Moved.{Moved}
use Rattle.stateful_base.specs.declared.outcome.Moved.TheVariants.{Pending, Done}
use Rattle.stateful_sync.specs.declared.tip.Tip.{Tip}
use Rattle.stateful_sync.specs.declared.tip.TipUpdate.{TipUpdate}
use Rattle.stateful_sync.specs.declared.mailbox.Update.{Update}

-- the updates by their numbers, the number of the one that waits, and the anchor to which the
-- databases have converged
pub record Mail (T : Type 0) : Type 0 where
  pub updates : List (Update T)
  pub waiting : Option ℕ
  pub artifact : Option Anchor

module _ {T : Type 0} where
  -- an update that waits is one of them
  abbrev pub WaitsWithin : Mail T → Type 0
  WaitsWithin s = (n : ℕ) → s.waiting ≡ Some n → n < length s.updates

  -- an update as it is made
  abbrev pub made : Anchor → T → Update T
  made anchor targets = record {
    tip = record { anchor = anchor; targets = targets };
    answered = false;
    recorded = false;
  }

  -- an update as it is handed out
  abbrev pub numbered : ℕ → Tip T → TipUpdate T
  numbered n tip = record { anchor = tip.anchor; targets = tip.targets; observed = Some n }

  -- it was answered with nothing
  abbrev pub once_answered : Update T → Update T
  once_answered update = record update { answered = true }

  -- it was recorded
  abbrev pub once_recorded : Update T → Update T
  once_recorded update = record update { recorded = true }

  -- one update more, which alone waits
  pub record Draws (s : Mail T) (anchor : Anchor) (targets : T) (ticket : ℕ)
      (next : Mail T) : Type 0 where
    pub number : ticket ≡ length s.updates
    pub is : next ≡ record s {
      updates = s.updates ++ made anchor targets ∷ [];
      waiting = Some ticket;
    }

  -- the update that waits is handed out with its number, where one does
  pub data HandsOut (s : Mail T) : Option (ℕ × TipUpdate T) → Mail T → Type 0 where
    nothing : s.waiting ≡ None → HandsOut s None s
    newest : {n : ℕ} {update : Update T}
        → s.waiting ≡ Some n
        → slice_get s.updates n ≡ Some update
        → HandsOut s (Some (n, numbered n update.tip)) (record s { waiting = None })

  -- the update of this number changes so, and nothing else does
  pub record ChangesAt (s : Mail T) (n : ℕ) (change : Update T → Update T)
      (next : Mail T) : Type 0 where
    pub before : Update T
    pub was : slice_get s.updates n ≡ Some before
    pub is : next ≡ record s { updates = slice_set s.updates n (change before) }

  -- an update is answered with nothing, or with the anchor, of which the first counts
  pub data Responds (s : Mail T) (n : ℕ) : Option Anchor → Mail T → Type 0 where
    goes_on : {next : Mail T} → ChangesAt s n once_answered next → Responds s n None next
    ends : {anchor : Anchor}
        → Responds s n (Some anchor) (record s { artifact = Some (unwrap_or s.artifact anchor) })

  -- an update was recorded; or it was dropped unread, and waits again unless a newer one does
  pub data Observes (s : Mail T) (n : ℕ) : Bool → Mail T → Type 0 where
    records : {next : Mail T} → ChangesAt s n once_recorded next → Observes s n true next
    drops : Observes s n false (record s { waiting = Some (max (unwrap_or s.waiting n) n) })

  -- what a ticket gives: None where its update was answered with nothing and recorded, else the
  -- anchor, where there is one
  pub data Polls (s : Mail T) (n : ℕ) : Moved (Option Anchor) → Type 0 where
    recorded : {update : Update T}
        → slice_get s.updates n ≡ Some update
        → (update.answered && update.recorded) ≡ true
        → Polls s n (Done None)
    ended : {update : Update T} {anchor : Anchor}
        → slice_get s.updates n ≡ Some update
        → (update.answered && update.recorded) ≡ false
        → s.artifact ≡ Some anchor
        → Polls s n (Done (Some anchor))
    waits : {update : Update T}
        → slice_get s.updates n ≡ Some update
        → (update.answered && update.recorded) ≡ false
        → s.artifact ≡ None
        → Polls s n Pending

-- a call of a mailbox, with its answer
pub data Call (T : Type 0) : Type 0 where
  retarget : Anchor → T → ℕ → Call T
  next : Option (ℕ × TipUpdate T) → Call T
  respond : ℕ → Option Anchor → Call T
  observed : ℕ → Bool → Call T
  poll : ℕ → Moved (Option Anchor) → Call T

-- a call that keeps its conditions, with its answer, and the state behind it
pub data Steps {T : Type 0} (s : Mail T) : Call T → Mail T → Type 0 where
  drawn : {anchor : Anchor} {targets : T} {ticket : ℕ} {after : Mail T}
      → Draws s anchor targets ticket after
      → Steps s (retarget anchor targets ticket) after
  handed : {found : Option (ℕ × TipUpdate T)} {after : Mail T}
      → HandsOut s found after
      → Steps s (next found) after
  responded : {n : ℕ} {answer : Option Anchor} {after : Mail T}
      → n < length s.updates
      → Responds s n answer after
      → Steps s (respond n answer) after
  seen : {n : ℕ} {was_recorded : Bool} {after : Mail T}
      → n < length s.updates
      → Observes s n was_recorded after
      → Steps s (observed n was_recorded) after
  polled : {n : ℕ} {answer : Moved (Option Anchor)}
      → n < length s.updates
      → Polls s n answer
      → Steps s (poll n answer) s
