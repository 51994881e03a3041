-- Restarts: at which heights the databases can be opened again, and what they then hold.
use Rattle.std.specs.Prelude.{◌≡◌, ◌≤◌, ◌⊎◌, ◌+◌, ℕ, Some, None, [], ◌∷◌, unwrap_or, option_map}
use Rattle.stateful_base.specs.Names.{Named}
use Rattle.stateful_base.specs.Anchor.{anchor_by}
use Rattle.stateful_base.specs.declared.floor.Floor.{Floor}
use Rattle.stateful_base.specs.declared.number.Height.{Height}
use Rattle.stateful_history.specs.Setting.{Setting, step_of}
use Rattle.stateful_history.specs.Past.{Past, Came, Made, Cut, Tried}
use Rattle.stateful_history.specs.Opening.{opening}
use Rattle.stateful_history.specs.declared.event.Event.{Event}
use Rattle.stateful_history.specs.declared.event.Event.TheVariants.{Restart}
use Rattle.stateful_history.specs.declared.mark.Mark.{Mark}
use Rattle.stateful_history.specs.declared.mark.Mark.TheVariants.{Opened, Converged, Acknowledged}
use Rattle.stateful_history.specs.declared.mark.Mark.TheVariants.{Pruned}

-- the height that a restart opens where no completion is recorded: the processed one, or 0
abbrev pub reopened_height : Floor → ℕ
reopened_height floor = unwrap_or (option_map (λ (h : Height). h.0) floor.processed) 0

module _ {B C I : Type 0} where
  -- Since the last opening, which isn't above this height, the databases were never pruned past it,
  -- in whole or in part, and no restart was at a lower one.
  abbrev pub IsUntouched : ℕ → Past B C I → Type 0
  IsUntouched q [] = ⊥
  IsUntouched q (Made (Opened anchor) ∷ p) = anchor.height.0 ≤ q
  IsUntouched q (Made (Converged anchor) ∷ p) = anchor.height.0 ≤ q
  IsUntouched q (Made (Pruned marshal target) ∷ p) = (target.0 ≤ q) × IsUntouched q p
  IsUntouched q (Cut target ∷ p) = (target.0 ≤ q) × IsUntouched q p
  IsUntouched q (Came (Restart floor keep) ∷ p) = (q ≤ reopened_height floor) × IsUntouched q p
  IsUntouched q (Tried height ∷ p) = (q ≤ height.0) × IsUntouched q p
  IsUntouched q (item ∷ p) = IsUntouched q p

  -- This height was opened, or it was acknowledged while it was untouched. Since then the databases
  -- were never pruned past it, in whole or in part, and no restart was at a lower one. A sync
  -- begins anew.
  abbrev pub WasReached : ℕ → Past B C I → Type 0
  WasReached q [] = ⊥
  WasReached q (Made (Opened anchor) ∷ p) = (anchor.height.0 ≡ q) ⊎ WasReached q p
  WasReached q (Made (Converged anchor) ∷ p) = anchor.height.0 ≡ q
  WasReached q (Made (Acknowledged t height) ∷ p) =
      ((height.0 ≡ q) × IsUntouched q p) ⊎ WasReached q p
  WasReached q (Made (Pruned marshal target) ∷ p) = (target.0 ≤ q) × WasReached q p
  WasReached q (Cut target ∷ p) = (target.0 ≤ q) × WasReached q p
  WasReached q (Came (Restart floor keep) ∷ p) = (q ≤ reopened_height floor) × WasReached q p
  WasReached q (Tried height ∷ p) = (q ≤ height.0) × WasReached q p
  WasReached q (item ∷ p) = WasReached q p

  -- nothing was opened before
  abbrev pub IsUnopened : Past B C I → Type 0
  IsUnopened [] = Unit {0}
  IsUnopened (Made (Opened anchor) ∷ p) = ⊥
  IsUnopened (Made (Converged anchor) ∷ p) = ⊥
  IsUnopened (item ∷ p) = IsUnopened p

  -- The databases can be opened at this height: it is that of the last opening, or was acknowledged
  -- since, or was opened or acknowledged earlier, and its checkpoints are there; or nothing was
  -- opened before, and it is 0. A height below the last opening's that is acknowledged anew counts
  -- where it was reached before.
  abbrev pub CanReopen : ℕ → Past B C I → Type 0
  CanReopen q p = WasReached q p ⊎ (IsUnopened p × (q ≡ 0))

module _ {B S T : Type 0} (s : Setting B S T) where
  -- the states after the store's blocks from height 1 up to this height
  pub data FoldsTo (genesis : S) : ℕ → S → Type 0 where
    start : FoldsTo genesis 0 genesis
    next : {n : ℕ} {b : Named B} {t u : S}
        → FoldsTo genesis n t
        → s.stored (n + 1) ≡ Some b
        → step_of s t b ≡ Some u
        → FoldsTo genesis (n + 1) u

  -- what a restart at this height finds: the fold from genesis up to it, and the store's block
  -- there, which commits to it
  pub record Finds (genesis : S) (q : ℕ) (block : Named B) (state : S) : Type 0 where
    pub stored : s.stored q ≡ Some block
    pub folded : FoldsTo genesis q state
    pub targets : s.target_of state ≡ s.meaning.targets block.block

  -- a restart opens once, at the height that it names and the store's block there
  abbrev pub OpenedIsStored : {C I : Type 0} → Event B C I → Past B C I → Mark B → Type 0
  OpenedIsStored (Restart floor keep) p (Opened anchor) =
      (opening p ≡ None)
      ×
      ((b : Named B)
      × (s.stored (reopened_height floor) ≡ Some b)
      × (anchor ≡ anchor_by s.header b)
      × (anchor.height.0 ≡ reopened_height floor))
  OpenedIsStored event p (Opened anchor) = ⊥
  OpenedIsStored event p mark = Unit {0}
