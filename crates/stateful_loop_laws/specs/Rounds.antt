-- Rounds of finalized blocks.
use Rattle.std.specs.Prelude.{◌≡◌, ℕ, Contains}
use Rattle.stateful_base.specs.Names.{Named}
use Rattle.stateful_base.specs.Round.{IsLater}
use Rattle.stateful_history.specs.Met.{Met}
use Rattle.stateful_history.specs.Past.{Past, Came}
use Rattle.stateful_history.specs.Setting.{Setting, parent_of, round_of}
use Rattle.stateful_history.specs.declared.event.Event.TheVariants.{Finalized}

-- each block that came as finalized is of a later round than its parent
abbrev pub RoundsRise : {B C I S T : Type 0} → Setting B S T → Past B C I → Type 0
RoundsRise {B} s p =
    (t : ℕ) (parent b : Named B) → Contains p (Came (Finalized t b)) → Met s p parent
    → parent.digest ≡ parent_of s b → IsLater (round_of s parent) (round_of s b)
