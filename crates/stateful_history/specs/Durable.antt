-- Durable heights, and the rules on barriers and acknowledgements.
use Rattle.std.specs.Prelude.{◌≡◌, ℕ, ◌≤◌, ◌<◌, ◌⊎◌, true, max, [], ◌∷◌, MatchOption}
use Rattle.stateful_base.specs.Names.{Header}
use Rattle.stateful_history.specs.Past.{Past, Came, Made}
use Rattle.stateful_history.specs.Opening.{opening}
use Rattle.stateful_history.specs.declared.event.Event.TheVariants.{Flushed, Restart}
use Rattle.stateful_history.specs.declared.mark.Mark.{Mark}
use Rattle.stateful_history.specs.declared.mark.Mark.TheVariants.{Opened, Converged, Applied}
use Rattle.stateful_history.specs.declared.mark.Mark.TheVariants.{BarrierBegun, BarrierDone}
use Rattle.stateful_history.specs.declared.mark.Mark.TheVariants.{Acknowledged, Recorded}
use Rattle.stateful_db.specs.declared.barrier.Flushed.TheVariants.{Good}

module _ {B C I : Type 0} where
  -- the greatest of the opening's height and those of the good barriers that were done since
  abbrev pub durable : Past B C I → ℕ
  durable [] = 0
  durable (Came (Restart floor keep) ∷ p) = 0
  durable (Made (Opened anchor) ∷ p) = anchor.height.0
  durable (Made (Converged anchor) ∷ p) = anchor.height.0
  durable (Made (BarrierDone k height true) ∷ p) = max height.0 (durable p)
  durable (item ∷ p) = durable p

  -- a block of this height was applied since the opening
  abbrev pub WasApplied : Header B → ℕ → Past B C I → Type 0
  WasApplied header n [] = ⊥
  WasApplied header n (Came (Restart floor keep) ∷ p) = ⊥
  WasApplied header n (Made (Opened anchor) ∷ p) = ⊥
  WasApplied header n (Made (Converged anchor) ∷ p) = ⊥
  WasApplied header n (Made (Applied b) ∷ p) = (header.height b.block ≡ n) ⊎ WasApplied header n p
  WasApplied header n (item ∷ p) = WasApplied header n p

  -- this barrier began over this height, which was applied before
  abbrev pub BeganOver : Header B → ℕ → ℕ → Past B C I → Type 0
  BeganOver header k n [] = ⊥
  BeganOver header k n (Made (BarrierBegun m height) ∷ p) =
      ((k ≡ m) × (height.0 ≡ n) × WasApplied header n p) ⊎ BeganOver header k n p
  BeganOver header k n (item ∷ p) = BeganOver header k n p

  -- a good flush of this database came for this barrier
  abbrev pub WasFlushed : ℕ → ℕ → Past B C I → Type 0
  WasFlushed k i [] = ⊥
  WasFlushed k i (Came (Flushed m n Good) ∷ p) = ((k ≡ m) × (i ≡ n)) ⊎ WasFlushed k i p
  WasFlushed k i (item ∷ p) = WasFlushed k i p

  -- a good barrier began behind the apply of its height, and each database was flushed for it
  abbrev pub GoodIsFlushed : Header B → ℕ → Past B C I → Mark B → Type 0
  GoodIsFlushed header count p (BarrierDone k height true) =
      BeganOver header k height.0 p × ((i : ℕ) → i < count → WasFlushed k i p)
  GoodIsFlushed header count p mark = Unit {0}

  -- a tip of at least this height was recorded since the restart
  abbrev pub WasRecorded : ℕ → Past B C I → Type 0
  WasRecorded n [] = ⊥
  WasRecorded n (Came (Restart floor keep) ∷ p) = ⊥
  WasRecorded n (Made (Recorded anchor) ∷ p) = (n ≤ anchor.height.0) ⊎ WasRecorded n p
  WasRecorded n (item ∷ p) = WasRecorded n p

  -- only durable heights are acknowledged; in a sync only those that a recorded tip covers
  abbrev pub AcknowledgedIsDurable : Past B C I → Mark B → Type 0
  AcknowledgedIsDurable p (Acknowledged t height) =
      MatchOption (opening p) (WasRecorded height.0 p) (λ anchor. height.0 ≤ durable p)
  AcknowledgedIsDurable p mark = Unit {0}
