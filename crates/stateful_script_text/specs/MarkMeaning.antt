-- What the lines of marks tell.
use Rattle.std.specs.Prelude.{◌≡◌, ◌≢◌, ℕ, ◌^◌, ◌<◌, List, Option, Some, None, IfSome, All}
use Rattle.std.specs.Prelude.{Contains, slice_index}
use Rattle.stateful_base.specs.Names.{Header, Named}
use Rattle.stateful_base.specs.Anchor.{anchor_by}
use Rattle.stateful_base.specs.declared.digest.Digest.{Digest}
use Rattle.stateful_base.specs.declared.anchor.Anchor.{Anchor}
use Rattle.stateful_history.specs.declared.mark.Mark.{Mark}
use Rattle.stateful_history.specs.declared.mark.Mark.TheVariants.{Opened, Converged, Asked}
use Rattle.stateful_history.specs.declared.mark.Mark.TheVariants.{Withdrawn, Started, Ended, Built}
use Rattle.stateful_history.specs.declared.mark.Mark.TheVariants.{Verdict, Answered, Declined}
use Rattle.stateful_history.specs.declared.mark.Mark.TheVariants.{Databases, Began, Applied}
use Rattle.stateful_history.specs.declared.mark.Mark.TheVariants.{BarrierBegun, BarrierDone}
use Rattle.stateful_history.specs.declared.mark.Mark.TheVariants.{Acknowledged, Dropped, Recorded}
use Rattle.stateful_history.specs.declared.mark.Mark.TheVariants.{Dispatched, Pruned, Completed}
use Rattle.stateful_history.specs.declared.mark.Mark.TheVariants.{Stopped}
use Rattle.stateful_script_text.specs.declared.shown.Label.{Label}

-- a name without spaces and control bytes, that doesn't begin with a question mark
abbrev pub IsPlain : List ℕ → Type 0
IsPlain name = All (λ byte. 32 < byte) name × (slice_index name 0 ≢ 63)

-- labels that tell digests apart
pub record TellsApart (labels : List Label) : Type 0 where
  pub plain : (label : Label) → Contains labels label → IsPlain label.name
  pub apart : (x y : Label)
      → Contains labels x
      → Contains labels y
      → x.name ≡ y.name
      → x.digest ≡ y.digest

-- an anchor without its round
abbrev pub without_round : Anchor → Anchor
without_round anchor =
    record anchor { round = record { epoch = record { 0 = 0 }; view = record { 0 = 0 } } }

-- a block by its digest alone
abbrev pub by_digest : {B : Type 0} → Named B → Named (Option ℕ)
by_digest block = record { digest = block.digest; block = None }

module _ {B : Type 0} (height_of : B → ℕ) where
  -- What a line tells of a mark: of anchors no round, of blocks their digests, and the height of
  -- one that was applied.
  abbrev pub told : Mark B → Mark (Option ℕ)
  told (Opened anchor) = Opened (without_round anchor)
  told (Converged anchor) = Converged (without_round anchor)
  told (Asked fetch ticket digest) = Asked fetch ticket digest
  told (Withdrawn fetch) = Withdrawn fetch
  told (Started job kind digest) = Started job kind digest
  told (Ended job how) = Ended job how
  told (Built job ticket block) = Built job ticket (by_digest block)
  told (Verdict ticket valid) = Verdict ticket valid
  told (Answered ticket decision block) = Answered ticket decision (by_digest block)
  told (Declined ticket) = Declined ticket
  told (Databases ticket) = Databases ticket
  told (Began ticket block) = Began ticket (by_digest block)
  told (Applied block) =
      Applied (record { digest = block.digest; block = Some (height_of block.block) })
  told (BarrierBegun barrier height) = BarrierBegun barrier height
  told (BarrierDone barrier height good) = BarrierDone barrier height good
  told (Acknowledged ticket height) = Acknowledged ticket height
  told (Dropped ticket) = Dropped ticket
  told (Recorded anchor) = Recorded (without_round anchor)
  told (Dispatched generation height) = Dispatched generation height
  told (Pruned marshal target) = Pruned marshal target
  told (Completed height) = Completed height
  told Stopped = Stopped

  -- the numbers of a mark's line are of 64 bits
  abbrev pub Fits : Mark B → Type 0
  Fits (Opened anchor) = anchor.height.0 < 2 ^ 64
  Fits (Converged anchor) = anchor.height.0 < 2 ^ 64
  Fits (Asked fetch ticket digest) = (fetch < 2 ^ 64) × IfSome ticket (λ t. t < 2 ^ 64)
  Fits (Withdrawn fetch) = fetch < 2 ^ 64
  Fits (Started job kind digest) = job < 2 ^ 64
  Fits (Ended job how) = job < 2 ^ 64
  Fits (Built job ticket block) = (job < 2 ^ 64) × (ticket < 2 ^ 64)
  Fits (Verdict ticket valid) = ticket < 2 ^ 64
  Fits (Answered ticket decision block) = ticket < 2 ^ 64
  Fits (Declined ticket) = ticket < 2 ^ 64
  Fits (Databases ticket) = ticket < 2 ^ 64
  Fits (Began ticket block) = ticket < 2 ^ 64
  Fits (Applied block) = height_of block.block < 2 ^ 64
  Fits (BarrierBegun barrier height) = (barrier < 2 ^ 64) × (height.0 < 2 ^ 64)
  Fits (BarrierDone barrier height good) = (barrier < 2 ^ 64) × (height.0 < 2 ^ 64)
  Fits (Acknowledged ticket height) = (ticket < 2 ^ 64) × (height.0 < 2 ^ 64)
  Fits (Dropped ticket) = ticket < 2 ^ 64
  Fits (Recorded anchor) = anchor.height.0 < 2 ^ 64
  Fits (Dispatched generation height) = (generation < 2 ^ 64) × (height.0 < 2 ^ 64)
  Fits (Pruned marshal target) = (marshal.0 < 2 ^ 64) × (target.0 < 2 ^ 64)
  Fits (Completed height) = height.0 < 2 ^ 64
  Fits Stopped = Unit {0}

-- the block that a digest names
abbrev pub named : {B : Type 0} → (Digest → B) → Digest → Named B
named block_of digest = record { digest = digest; block = block_of digest }

module _ {B : Type 0} (header : Header B) (block_of : Digest → B) where
  -- the blocks and anchors of a mark are those that their digests name
  abbrev pub NamesTruly : Mark B → Type 0
  NamesTruly (Opened anchor) = anchor ≡ anchor_by header (named block_of anchor.digest)
  NamesTruly (Converged anchor) = anchor ≡ anchor_by header (named block_of anchor.digest)
  NamesTruly (Built job ticket block) = block ≡ named block_of block.digest
  NamesTruly (Answered ticket decision block) = block ≡ named block_of block.digest
  NamesTruly (Began ticket block) = block ≡ named block_of block.digest
  NamesTruly (Applied block) = block ≡ named block_of block.digest
  NamesTruly (Recorded anchor) = anchor ≡ anchor_by header (named block_of anchor.digest)
  NamesTruly mark = Unit {0}
