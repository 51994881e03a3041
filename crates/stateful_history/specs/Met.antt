-- The blocks of a history.
use Rattle.std.specs.Prelude.{◌≡◌, ℕ, ◌⊎◌, Some, [], ◌∷◌, Contains}
use Rattle.stateful_base.specs.Names.{Named}
use Rattle.stateful_base.specs.declared.block.Ancestry.{Ancestry}
use Rattle.stateful_history.specs.Setting.{Setting}
use Rattle.stateful_history.specs.Past.{Past, Item, Came, Made}
use Rattle.stateful_history.specs.declared.event.Event.TheVariants.{Verify, Prepare, Propose}
use Rattle.stateful_history.specs.declared.event.Event.TheVariants.{Finalized, Fetched}
use Rattle.stateful_history.specs.declared.mark.Mark.TheVariants.{Built, Answered, Began, Applied}

-- a block of the ancestry
abbrev pub IsOf : {B : Type 0} → Ancestry B → Named B → Type 0
IsOf ancestry b = (b ≡ ancestry.first) ⊎ Contains ancestry.rest b

module _ {B C I : Type 0} where
  -- the item brings this block
  abbrev pub Brings : Item B C I → Named B → Type 0
  Brings (Came (Verify t ancestry)) b = IsOf ancestry b
  Brings (Came (Prepare t context ancestry input)) b = IsOf ancestry b
  Brings (Came (Propose t context ancestry input)) b = IsOf ancestry b
  Brings (Came (Finalized t c)) b = b ≡ c
  Brings (Came (Fetched fetch answer)) b = answer ≡ Some b
  Brings (Made (Built j t c)) b = b ≡ c
  Brings (Made (Answered t decision c)) b = b ≡ c
  Brings (Made (Began t c)) b = b ≡ c
  Brings (Made (Applied c)) b = b ≡ c
  Brings item b = ⊥

  -- a block of the history: the store was handed it, or an event or a mark brought it
  abbrev pub Met : {S T : Type 0} → Setting B S T → Past B C I → Named B → Type 0
  Met s [] b = (h : ℕ) × (s.stored h ≡ Some b)
  Met s (item ∷ p) b = Brings item b ⊎ Met s p b

  -- blocks of the history with equal digests are equal
  abbrev pub TrueNames : {S T : Type 0} → Setting B S T → Past B C I → Type 0
  TrueNames s p = (x y : Named B) → Met s p x → Met s p y → x.digest ≡ y.digest → x ≡ y
