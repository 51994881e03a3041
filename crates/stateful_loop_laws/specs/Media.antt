-- What the media keep of the heights at which the databases can be opened again.
use Rattle.std.specs.Prelude.{◌≡◌, ◌≤◌, ◌<◌, ◌+◌, ◌-◌, ℕ, Option, Some}
use Rattle.stateful_base.specs.Names.{Named}
use Rattle.stateful_base.specs.declared.anchor.Anchor.{Anchor}
use Rattle.stateful_db.specs.Databases.{Databases}
use Rattle.stateful_history.specs.Opening.{opening}
use Rattle.stateful_history.specs.Past.{Past}
use Rattle.stateful_history.specs.Restarts.{CanReopen}
use Rattle.stateful_exec_model.specs.Workings.{Workings}

module _ {Ids S T : Type 0} (d : Databases Ids S T) (m : d.Members) (t : T) (i : ℕ) where
  -- the database of this number keeps a checkpoint of its part of states with these targets, at
  -- this place
  pub record KeepsAt (place : ℕ) : Type 0 where
    pub state : S
    pub has : d.HasAt m i place state
    pub targets : d.target_of state ≡ t

  -- it keeps such a one at some place
  pub record KeepsSome : Type 0 where
    pub place : ℕ
    pub at : KeepsAt place

  -- it keeps such a one at some place, and durably
  pub record KeepsDurably : Type 0 where
    pub place : ℕ
    pub at : KeepsAt place
    pub durable : place ≤ d.durable m i

module _ {B C I P R D H G U : Type 0} (w : Workings B C I P R D H G U)
    (stored : ℕ → Option (Named B)) where
  abbrev pub targets_of : Named B → w.Targets
  targets_of b = w.works.meaning.targets b.block

  -- no range of a database ends before that of a lower block of the store
  abbrev pub TargetsRise : Type 0
  TargetsRise = (low high i : ℕ) (b c : Named B)
      → low ≤ high
      → stored low ≡ Some b
      → stored high ≡ Some c
      → i < w.kind.count
      → (w.kind.target_at (targets_of b) i).end.0 ≤ (w.kind.target_at (targets_of c) i).end.0

  -- of each height at which the databases can be opened again, each keeps durably a checkpoint of
  -- states with the targets of the store's block
  abbrev pub KeepsReopenable : Past B C I → w.kind.Members → Type 0
  KeepsReopenable p m = (q i : ℕ) (b : Named B)
      → CanReopen q p
      → stored q ≡ Some b
      → i < w.kind.count
      → KeepsDurably w.kind m (targets_of b) i

  -- the database of this number has its checkpoint of this height as far below the newest one as
  -- the height is below the anchor, with the targets of this block
  pub record HasHeight (anchor : Anchor) (m : w.kind.Members) (h i : ℕ) (b : Named B) : Type 0 where
    pub place : ℕ
    pub below : place + (anchor.height.0 - h) ≡ w.kind.place m i
    pub at : KeepsAt w.kind m (targets_of b) i place

  -- from the height of this opening up to the anchor's each one has its checkpoint so, of the
  -- store's block
  abbrev pub KeepsHeights : Option Anchor → Anchor → w.kind.Members → Type 0
  KeepsHeights start anchor m = (first : Anchor) (h i : ℕ) (b : Named B)
      → start ≡ Some first
      → first.height.0 ≤ h
      → h ≤ anchor.height.0
      → stored h ≡ Some b
      → i < w.kind.count
      → HasHeight anchor m h i b

  -- While the machine is up, the media keep for a past what can be opened again, and what may come
  -- to be.
  pub record MediaKept (p : Past B C I) (anchor : Anchor) (m : w.kind.Members) : Type 0 where
    pub reopenable : KeepsReopenable p m
    pub heights : KeepsHeights (opening p) anchor m
