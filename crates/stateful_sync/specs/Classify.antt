-- Blocks that were finalized during a sync, against the block that the databases have converged to.
use Rattle.std.specs.Prelude.{◌≡◌, ◌≢◌, ℕ, ◌+◌, ◌<◌, ◌==◌, List, [], ◌∷◌, ◌++◌, map, filter, All}
use Rattle.std.specs.List.{Any}
use Rattle.std.specs.Ordering.{nat_cmp}
use Rattle.std.specs.List.Sorted.{IsNonDecreasingBy, IsPermutation}
use Rattle.std.specs.declared.cmp.Ordering.{Ordering}
use Rattle.std.specs.declared.cmp.Ordering.TheVariants.{Less, Equal, Greater}
use Rattle.stateful_base.specs.Names.{Header, Named}
use Rattle.stateful_base.specs.declared.anchor.Anchor.{Anchor}
use Rattle.stateful_sync.specs.declared.handover.Point.{Point}
use Rattle.stateful_sync.specs.declared.handover.Handover.{Handover}
use Rattle.stateful_sync.specs.declared.handover.Handover.TheVariants.{Covered, Reflected, Apply}
use Rattle.stateful_sync_plan.specs.declared.error.SyncError.{SyncError}
use Rattle.stateful_sync_plan.specs.declared.error.SyncError.TheVariants.{SkippedHeight}
use Rattle.stateful_sync_plan.specs.declared.error.SyncError.TheVariants.{ConflictAtAnchor}

-- the anchor's place
abbrev pub anchored : Anchor → Point
anchored anchor = record { height = anchor.height; digest = anchor.digest }

-- what becomes of a block whose height stands so to the anchor's
abbrev pub handover_by : {B : Type 0} → Ordering → ℕ → Named B → Handover B
handover_by Less ticket block = Covered ticket block
handover_by Equal ticket block = Reflected ticket block
handover_by Greater ticket block = Apply ticket block

-- the ticket and the block that it is of
abbrev pub retained_of : {B : Type 0} → Handover B → ℕ × Named B
retained_of (Covered ticket block) = (ticket, block)
retained_of (Reflected ticket block) = (ticket, block)
retained_of (Apply ticket block) = (ticket, block)

module _ {B : Type 0} (header : Header B) where
  -- the height of a block with a ticket
  abbrev pub height_at : ℕ × Named B → ℕ
  height_at retained = header.height retained.1.block

  -- a block's place
  abbrev pub place_of : Named B → Point
  place_of b = record { height = record { 0 = header.height b.block }; digest = b.digest }

  -- the same by ascending heights, in which those of equal heights stand in their order
  pub record IsByHeight (given sorted : List (ℕ × Named B)) : Type 0 where
    pub same : IsPermutation given sorted
    pub ascending : IsNonDecreasingBy height_at sorted
    pub in_order : (one : ℕ × Named B)
        → filter (λ other. height_at other == height_at one) sorted
        ≡ filter (λ other. height_at other == height_at one) given

  -- why a block is refused behind a place: it is another one of the same height, or above the next
  -- height
  pub data Refuses (last : Point) (b : Named B) : SyncError → Type 0 where
    conflicts : header.height b.block ≡ last.height.0
        → b.digest ≢ last.digest
        → Refuses last b (ConflictAtAnchor last.digest b.digest)
    skips : last.height.0 + 1 < header.height b.block
        → Refuses last b
        (SkippedHeight (record { 0 = last.height.0 + 1 }) (record { 0 = header.height b.block }))

  module _ (anchor : Anchor) where
    -- below the anchor it is covered, at the anchor reflected, and above it applied
    abbrev pub handover_at : ℕ × Named B → Handover B
    handover_at retained =
        handover_by (nat_cmp (height_at retained) anchor.height.0) retained.0 retained.1

    -- from the last place at or above the anchor over one block more: it is below the anchor, it is
    -- the block of that place again, or it is of the next height
    pub data Passes (last : Point) (b : Named B) : Point → Type 0 where
      below : header.height b.block < anchor.height.0 → Passes last b last
      again : place_of b ≡ last → Passes last b last
      further : header.height b.block ≡ last.height.0 + 1 → Passes last b (place_of b)

    -- from a place over blocks, one after another, to a place
    abbrev pub Leads : Point → List (ℕ × Named B) → Point → Type 0
    Leads first [] last = last ≡ first
    Leads first (one ∷ others) last =
        (next : Point) × Passes first one.1 next × Leads next others last

    -- the first of these blocks over which no place behind the anchor leads is refused
    pub record RefusesAt (sorted : List (ℕ × Named B)) (error : SyncError) : Type 0 where
      pub front : List (ℕ × Named B)
      pub one : ℕ × Named B
      pub back : List (ℕ × Named B)
      pub place : sorted ≡ front ++ one ∷ back
      pub last : Point
      pub leads : Leads (anchored anchor) front last
      pub cause : Refuses last one.1 error

    -- the retained blocks by their heights lead on from the anchor, and these are what becomes of
    -- them
    pub record IsClassified (retained : List (ℕ × Named B))
        (handovers : List (Handover B)) : Type 0 where
      pub sorted : List (ℕ × Named B)
      pub order : IsByHeight retained sorted
      pub last : Point
      pub leads : Leads (anchored anchor) sorted last
      pub are : handovers ≡ map handover_at sorted

    -- one of the retained blocks, by their heights, is refused
    pub record IsRefusal (retained : List (ℕ × Named B)) (error : SyncError) : Type 0 where
      pub sorted : List (ℕ × Named B)
      pub order : IsByHeight retained sorted
      pub refused : RefusesAt sorted error

    -- The retained blocks from the anchor on are of one chain, as far as heights and digests tell:
    -- those of the anchor's height are its block, two of one height above it are the same, and up
    -- to each of them no height is missing.
    pub record IsConsistent (retained : List (ℕ × Named B)) : Type 0 where
      pub at_anchor : All (λ one. height_at one ≡ anchor.height.0
          → one.1.digest ≡ anchor.digest) retained
      pub alike : All (λ one. All (λ other. anchor.height.0 < height_at one
          → height_at one ≡ height_at other
          → one.1.digest ≡ other.1.digest) retained) retained
      pub no_gap : All (λ one. (h : ℕ)
          → anchor.height.0 < h
          → h < height_at one
          → Any (λ other. height_at other ≡ h) retained) retained
