-- The ancestors of a block, through the blocks of the history.
use Rattle.std.specs.Prelude.{◌≡◌}
use Rattle.stateful_base.specs.Names.{Named}
use Rattle.stateful_base.specs.declared.digest.Digest.{Digest}
use Rattle.stateful_history.specs.Setting.{Setting, parent_of}
use Rattle.stateful_history.specs.Past.{Past}
use Rattle.stateful_history.specs.Met.{Met}

module _ {B C I S T : Type 0} (s : Setting B S T) (p : Past B C I) where
  -- the block itself, its parent, its parent's parent and so on, as far as they are blocks of the
  -- history
  pub data Up (b : Named B) : Named B → Type 0 where
    itself : Up b b
    above : {x y : Named B} → Up b x → Met s p y → y.digest ≡ parent_of s x → Up b y

  -- the block of this digest is the block or an ancestor of it
  pub record IsOnPath (b : Named B) (d : Digest) : Type 0 where
    pub ancestor : Named B
    pub up : Up b ancestor
    pub is : ancestor.digest ≡ d

  -- the block of this digest is a proper ancestor of itself
  pub record IsCircular (d : Digest) : Type 0 where
    pub block : Named B
    pub met : Met s p block
    pub is : block.digest ≡ d
    pub parent : Named B
    pub parent_met : Met s p parent
    pub is_parent : parent.digest ≡ parent_of s block
    pub back : IsOnPath parent d
