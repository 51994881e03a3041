-- Barriers: which are live or outstanding, and the rules on them.
use Rattle.std.specs.Prelude.{◌≡◌, ◌<◌, ℕ, ◌==◌, ◌⊎◌, Bool, true, false, not, ◌&&◌, ◌||◌}
use Rattle.std.specs.Prelude.{if◌then◌else◌, Option, Some, None, [], ◌∷◌, MatchOption}
use Rattle.stateful_base.specs.Names.{Header}
use Rattle.stateful_base.specs.declared.number.Height.{Height}
use Rattle.stateful_history.specs.Past.{Past, Came, Made}
use Rattle.stateful_history.specs.Anchors.{anchor_of}
use Rattle.stateful_history.specs.Durable.{durable}
use Rattle.stateful_history.specs.Live.{live_flush}
use Rattle.stateful_history.specs.declared.event.Event.TheVariants.{Flushed, Restart}
use Rattle.stateful_history.specs.declared.mark.Mark.{Mark}
use Rattle.stateful_history.specs.declared.mark.Mark.TheVariants.{Opened, Converged, BarrierBegun}
use Rattle.stateful_history.specs.declared.mark.Mark.TheVariants.{BarrierDone, Stopped}
use Rattle.stateful_db.specs.declared.barrier.Flushed.TheVariants.{Interrupted}

module _ {B C I : Type 0} where
  -- a barrier is live from its begin to its end, or until the machine stops or starts
  abbrev pub live_barrier : ℕ → Past B C I → Bool
  live_barrier k [] = false
  live_barrier k (Made (BarrierBegun m height) ∷ p) = (k == m) || live_barrier k p
  live_barrier k (Made (BarrierDone m height good) ∷ p) = not (k == m) && live_barrier k p
  live_barrier k (Made Stopped ∷ p) = false
  live_barrier k (Came (Restart floor keep) ∷ p) = false
  live_barrier k (item ∷ p) = live_barrier k p

  -- the height over which a barrier began
  abbrev pub begun_over : ℕ → Past B C I → Option Height
  begun_over k [] = None
  begun_over k (Made (BarrierBegun m height) ∷ p) = if k == m then Some height else begun_over k p
  begun_over k (item ∷ p) = begun_over k p

  -- a live barrier lacks the flush of a database
  abbrev pub HasOutstandingBarrier : ℕ → Past B C I → Type 0
  HasOutstandingBarrier count p = (k i : ℕ) × (live_flush count k i p ≡ true)

  -- a flush of this barrier was interrupted
  abbrev pub WasInterrupted : ℕ → Past B C I → Type 0
  WasInterrupted k [] = ⊥
  WasInterrupted k (Came (Flushed m i Interrupted) ∷ p) = (k ≡ m) ⊎ WasInterrupted k p
  WasInterrupted k (item ∷ p) = WasInterrupted k p

  -- this barrier began since the opening
  abbrev pub BeganSince : ℕ → Past B C I → Type 0
  BeganSince k [] = ⊥
  BeganSince k (Came (Restart floor keep) ∷ p) = ⊥
  BeganSince k (Made (Opened anchor) ∷ p) = ⊥
  BeganSince k (Made (Converged anchor) ∷ p) = ⊥
  BeganSince k (Made (BarrierBegun m height) ∷ p) = (k ≡ m) ⊎ BeganSince k p
  BeganSince k (item ∷ p) = BeganSince k p

  -- this barrier began before that one, since the opening
  abbrev pub BeganBefore : ℕ → ℕ → Past B C I → Type 0
  BeganBefore m k [] = ⊥
  BeganBefore m k (Made (BarrierBegun l height) ∷ p) =
      ((k ≡ l) × BeganSince m p) ⊎ BeganBefore m k p
  BeganBefore m k (item ∷ p) = BeganBefore m k p

  -- this barrier was done, and is good
  abbrev pub WasDone : ℕ → Past B C I → Type 0
  WasDone k [] = ⊥
  WasDone k (Made (BarrierDone m height true) ∷ p) = (k ≡ m) ⊎ WasDone k p
  WasDone k (item ∷ p) = WasDone k p

  -- a barrier is good where each that began before it, since the opening, was done before and is
  -- good
  abbrev pub GoodIsInOrder : Past B C I → Mark B → Type 0
  GoodIsInOrder p (BarrierDone k height true) = (m : ℕ) → BeganBefore m k p → WasDone m p
  GoodIsInOrder p mark = Unit {0}

  -- A barrier begins over the anchor's height, which is above the durable one and above that of
  -- every live barrier. It is done over the same height, and broken only where a flush of it was
  -- interrupted.
  abbrev pub BarrierIsOver : Header B → Past B C I → Mark B → Type 0
  BarrierIsOver header p (BarrierBegun k height) =
      MatchOption (anchor_of header p) ⊥ (λ anchor. height ≡ anchor.height)
      × (durable p < height.0)
      ×
      ((m : ℕ) (low : Height)
      → live_barrier m p ≡ true
      → begun_over m p ≡ Some low
      → low.0 < height.0)
  BarrierIsOver header p (BarrierDone k height good) =
      (live_barrier k p ≡ true)
      × (begun_over k p ≡ Some height)
      × (good ≡ false → WasInterrupted k p)
  BarrierIsOver header p mark = Unit {0}
