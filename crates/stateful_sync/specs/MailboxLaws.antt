-- What holds of a mailbox of a sync whatever calls come.
use Rattle.std.specs.Prelude.{◌≡◌, ℕ, ◌<◌, ◌≤◌, true, false, Option, Some, None, List, [], ◌∷◌}
use Rattle.std.specs.Prelude.{◌++◌, length, slice_get, All, Contains}
use Rattle.std.specs.List.{Any, flat_map}
use Rattle.stateful_base.specs.declared.anchor.Anchor.{Anchor}
use Rattle.stateful_base.specs.declared.outcome.Moved.{Moved}
use Rattle.stateful_base.specs.declared.outcome.Moved.TheVariants.{Pending, Done}
use Rattle.stateful_sync.specs.Mailbox.{Mail, numbered, Call, retarget, next, respond, observed}
use Rattle.stateful_sync.specs.Mailbox.{poll, Steps}
use Rattle.stateful_sync.specs.declared.tip.Tip.{Tip}
use Rattle.stateful_sync.specs.declared.tip.TipUpdate.{TipUpdate}

module _ {T : Type 0} where
  -- calls that keep their conditions, one after another, from one state to another
  abbrev pub Runs : Mail T → List (Call T) → Mail T → Type 0
  Runs s [] last = last ≡ s
  Runs s (call ∷ calls) last = (after : Mail T) × Steps s call after × Runs after calls last

  -- the tip for which a call draws a ticket
  abbrev pub drawn : Call T → List (Tip T)
  drawn (retarget anchor targets ticket) = record { anchor = anchor; targets = targets } ∷ []
  drawn call = []

  -- the number of an update that a call answers with nothing
  abbrev pub answered : Call T → List ℕ
  answered (respond n None) = n ∷ []
  answered call = []

  -- the number of an update that a call says to be recorded
  abbrev pub recorded : Call T → List ℕ
  recorded (observed n true) = n ∷ []
  recorded call = []

  -- the anchor that a call answers with
  abbrev pub converged : Call T → List Anchor
  converged (respond n (Some anchor)) = anchor ∷ []
  converged call = []

  -- the update of this number was answered with nothing and recorded in these calls
  pub record IsRecorded (calls : List (Call T)) (n : ℕ) : Type 0 where
    pub was_answered : Contains (flat_map answered calls) n
    pub was_recorded : Contains (flat_map recorded calls) n

  -- what a ticket gives behind these calls
  pub data Gives (calls : List (Call T)) (n : ℕ) : Moved (Option Anchor) → Type 0 where
    none : IsRecorded calls n → Gives calls n (Done None)
    artifact : {anchor : Anchor}
        → (IsRecorded calls n → ⊥)
        → slice_get (flat_map converged calls) 0 ≡ Some anchor
        → Gives calls n (Done (Some anchor))
    pending : (IsRecorded calls n → ⊥)
        → flat_map converged calls ≡ []
        → Gives calls n Pending

  -- from this call on the update of this number is to be sent: it was made, or dropped unread
  pub data IsToBeSent (n : ℕ) : Call T → Type 0 where
    when_made : {anchor : Anchor} {targets : T} → IsToBeSent n (retarget anchor targets n)
    when_dropped : IsToBeSent n (observed n false)

  -- the call takes an update out, or finds none
  pub data Takes : Call T → Type 0 where
    takes : {found : Option (ℕ × TipUpdate T)} → Takes (next found)

  -- Whatever calls came since the mailbox was made:
  pub record Lawful (calls : List (Call T)) : Type 0 where
    -- tickets are numbered from 0 on
    pub numbers : (before behind : List (Call T)) (anchor : Anchor) (targets : T) (ticket : ℕ)
        → calls ≡ before ++ retarget anchor targets ticket ∷ behind
        → ticket ≡ length (flat_map drawn before)
    -- a ticket gives None exactly where its update was answered with nothing and recorded, and else
    -- the first anchor
    pub gives : (before behind : List (Call T)) (n : ℕ) (answer : Moved (Option Anchor))
        → calls ≡ before ++ poll n answer ∷ behind
        → Gives before n answer
    -- what is handed out under a number is what that ticket was drawn for
    pub same : (before behind : List (Call T)) (n : ℕ) (update : TipUpdate T)
        → calls ≡ before ++ next (Some (n, update)) ∷ behind
        → (tip : Tip T)
        × (slice_get (flat_map drawn before) n ≡ Some tip)
        × (update ≡ numbered n tip)
    -- behind an update that is to be sent, it or a newer one is handed out
    pub sent : (before between behind : List (Call T)) (call : Call T) (n : ℕ)
        (found : Option (ℕ × TipUpdate T))
        → calls ≡ before ++ call ∷ (between ++ next found ∷ behind)
        → IsToBeSent n call
        → All (λ other. Takes other → ⊥) between
        → (m : ℕ) × (update : TipUpdate T) × (found ≡ Some (m, update)) × (n ≤ m)
    -- behind a newer one that was made, an update is handed out only where it was dropped unread
    -- since
    pub replaced : (before between behind : List (Call T)) (anchor : Anchor) (targets : T) (m n : ℕ)
        (update : TipUpdate T)
        → calls ≡ before ++ retarget anchor targets m
        ∷ (between ++ next (Some (n, update)) ∷ behind)
        → n < m
        → Any (λ call. call ≡ observed n false) between
    -- an update is handed out again only where it was dropped unread in between
    pub again : (before between behind : List (Call T)) (n : ℕ) (first second : TipUpdate T)
        → calls ≡ before ++ next (Some (n, first)) ∷ (between ++ next (Some (n, second)) ∷ behind)
        → Any (λ call. call ≡ observed n false) between

  -- whatever calls follow
  abbrev pub KeepsLaws : Mail T → Type 0
  KeepsLaws first = (calls : List (Call T)) (last : Mail T) → Runs first calls last → Lawful calls
