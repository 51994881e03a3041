-- Why a block is judged false.
use Rattle.std.specs.Prelude.{◌≡◌, ◌≢◌, ◌≤◌, ◌+◌, ◌⊎◌, false, Some, None, MatchOption}
use Rattle.stateful_base.specs.Names.{Named}
use Rattle.stateful_base.specs.declared.digest.Digest.{Digest}
use Rattle.stateful_history.specs.Setting.{Setting, parent_of, height_of, step_of}
use Rattle.stateful_history.specs.Past.{Past}
use Rattle.stateful_history.specs.Anchors.{tip_of}
use Rattle.stateful_history.specs.Asked.{verified}
use Rattle.stateful_history.specs.Met.{Met}
use Rattle.stateful_history.specs.Known.{Known, IsUnknown, IsPastTip}
use Rattle.stateful_history.specs.States.{HasState}
use Rattle.stateful_history.specs.Canonical.{canonical, IsCanonical}
use Rattle.stateful_history.specs.declared.mark.Mark.{Mark}
use Rattle.stateful_history.specs.declared.mark.Mark.TheVariants.{Verdict}

module _ {B C I S T : Type 0} (s : Setting B S T) (base : S) (p : Past B C I) where
  -- up from the block through its ancestors, as far as they are blocks of the history and none is
  -- known
  pub data Missing (b : Named B) : Named B → Type 0 where
    itself : IsUnknown s p b.digest → Missing b b
    above : {x y : Named B}
        → Missing b x
        → Met s p y
        → y.digest ≡ parent_of s x
        → IsUnknown s p y.digest
        → Missing b y

  -- an ancestor of it, from its parent on, is missing
  pub record IsMissingAbove (b ancestor : Named B) : Type 0 where
    pub parent : Named B
    pub met : Met s p parent
    pub is_parent : parent.digest ≡ parent_of s b
    pub missing : Missing parent ancestor

  -- no higher than the tip
  abbrev pub IsCovered : Named B → Type 0
  IsCovered b = MatchOption (tip_of s.header p) ⊥ (λ tip. height_of s b ≤ tip.height.0)

  -- another block is the finalized one of its height
  pub record IsReplaced (b : Named B) : Type 0 where
    pub covered : IsCovered b
    pub other : Digest
    pub is : canonical s p (height_of s b) ≡ Some other
    pub differs : other ≢ b.digest

  -- the block leads to no states, isn't acceptable, leads to other targets than it commits to, or
  -- comes too late
  abbrev pub IsBad : S → Named B → Type 0
  IsBad t b =
      (step_of s t b ≡ None)
      ⊎ ((s.meaning.accept t b.block ≡ false)
      ⊎ (((u : S) × (step_of s t b ≡ Some u) × (s.target_of u ≢ s.meaning.targets b.block))
      ⊎ (IsPastTip s p b → ⊥)))

  -- a missing block of it stands on a known one, and is bad on its states
  pub record FailsOnKnown (b : Named B) : Type 0 where
    pub first : Named B
    pub missing : Missing b first
    pub known : Known s p (parent_of s first)
    pub state : S
    pub has_state : HasState s base p (parent_of s first) state
    pub bad : IsBad state first

  -- a missing ancestor of it isn't one above its parent
  pub record SkipsHeight (b : Named B) : Type 0 where
    pub ancestor : Named B
    pub missing : IsMissingAbove b ancestor
    pub parent : Named B
    pub met : Met s p parent
    pub is_parent : parent.digest ≡ parent_of s ancestor
    pub skips : height_of s ancestor ≢ height_of s parent + 1

  -- a missing ancestor of it is no higher than the tip
  pub record LeavesTip (b : Named B) : Type 0 where
    pub ancestor : Named B
    pub missing : IsMissingAbove b ancestor
    pub covered : IsCovered ancestor

  -- why the block is judged false
  pub record HasReason (b : Named B) : Type 0 where
    pub unknown : IsUnknown s p b.digest
    pub not_final : IsCanonical s p b → ⊥
    pub because : IsReplaced b ⊎ (FailsOnKnown b ⊎ (SkipsHeight b ⊎ LeavesTip b))

-- a false verdict has its reason
abbrev pub FalseHasReason : {B C I S T : Type 0} → Setting B S T → S → Past B C I → Mark B → Type 0
FalseHasReason s base p (Verdict t false) = MatchOption (verified t p) ⊥ (λ b. HasReason s base p b)
FalseHasReason s base p mark = Unit {0}
