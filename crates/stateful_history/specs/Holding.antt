-- What the databases hold.
use Rattle.std.specs.Prelude.{◌≡◌, ◌≤◌, ℕ, ◌+◌, ◌-◌, ◌<◌, ◌⊎◌, ◌++◌, ◌∷◌, [], Option, Some, None}
use Rattle.std.specs.Prelude.{MatchOption, List}
use Rattle.stateful_base.specs.Names.{Named}
use Rattle.stateful_base.specs.declared.anchor.Anchor.{Anchor}
use Rattle.stateful_db.specs.Databases.{Databases}
use Rattle.stateful_history.specs.Setting.{Setting}
use Rattle.stateful_history.specs.Past.{Past, Came, Made}
use Rattle.stateful_history.specs.Opening.{opening}
use Rattle.stateful_history.specs.Anchors.{applied}
use Rattle.stateful_history.specs.States.{fold, prefixes}
use Rattle.stateful_history.specs.Durable.{durable}
use Rattle.stateful_history.specs.declared.event.Event.TheVariants.{Restart}
use Rattle.stateful_history.specs.declared.mark.Mark.TheVariants.{Opened, Converged, Pruned}

module _ {B C I Ids S T : Type 0} (s : Setting B S T) (d : Databases Ids S T) where
  -- The databases are here and hold the fold over what was applied since this opening. From a place
  -- of its own on, each database keeps the states before and after each applied block, less what
  -- was pruned, and is durable at least as far as the durable height.
  pub record HoldsSince (base : S) (p : Past B C I) (m : d.Members) (anchor : Anchor) : Type 0 where
    pub point : Ids × S
    pub here : d.point m ≡ Some point
    pub state : fold s (Some base) (applied p) ≡ Some point.1
    pub origin : ℕ → ℕ
    pub keeps : (i : ℕ) → i < d.count → d.Keeps m i (origin i) (prefixes s (Some base) (applied p))
    pub durable : (i : ℕ) → i < d.count → origin i + (durable p - anchor.height.0) ≤ d.durable m i

  -- the databases hold what was applied since the opening, where there is one
  abbrev pub Holds : S → Past B C I → d.Members → Type 0
  Holds base p m = MatchOption (opening p) (Unit {0}) (λ anchor. HoldsSince base p m anchor)

module _ {B C I : Type 0} where
  -- the height of the block to whose targets the databases were pruned last since the opening
  abbrev pub pruned_to : Past B C I → Option ℕ
  pruned_to [] = None
  pruned_to (Came (Restart floor keep) ∷ p) = None
  pruned_to (Made (Opened anchor) ∷ p) = None
  pruned_to (Made (Converged anchor) ∷ p) = None
  pruned_to (Made (Pruned marshal target) ∷ p) = Some target.0
  pruned_to (item ∷ p) = pruned_to p

module _ {B C I Ids S T : Type 0} (s : Setting B S T) (d : Databases Ids S T) where
  -- The databases hold the fold over what was applied since this opening, and of their checkpoints
  -- from the opening's on they lack those that are older than the target of the last prune, and no
  -- other.
  pub record HoldsLessPruned (base : S) (p : Past B C I) (m : d.Members)
      (anchor : Anchor) : Type 0 where
    pub holds : HoldsSince s d base p m anchor
    pub first : (i : ℕ) → i < d.count → MatchOption (pruned_to p) (d.first m i ≤ holds.origin i)
        (λ target. d.first m i ≡ holds.origin i + (target - anchor.height.0))

module _ {B Ids S T : Type 0} (s : Setting B S T) (d : Databases Ids S T) where
  -- the database of this number, where it is here, has its part of the fold over these blocks
  pub record HasFold (base : S) (blocks : List (Named B)) (m : d.Members) (i : ℕ) : Type 0 where
    pub state : S
    pub folded : fold s (Some base) blocks ≡ Some state
    pub has : d.HasState m i state
