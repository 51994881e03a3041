-- What the databases keep since the opening, place by place.
use Rattle.std.specs.Prelude.{◌≡◌, ◌≤◌, ℕ, ◌+◌, ◌-◌, ◌<◌, Some, length}
use Rattle.stateful_base.specs.declared.anchor.Anchor.{Anchor}
use Rattle.stateful_db.specs.Databases.{Databases}
use Rattle.stateful_history.specs.Setting.{Setting}
use Rattle.stateful_history.specs.Past.{Past}
use Rattle.stateful_history.specs.Opening.{opening}
use Rattle.stateful_history.specs.Anchors.{applied}
use Rattle.stateful_history.specs.States.{prefixes}
use Rattle.stateful_history.specs.Durable.{durable, WasApplied}

module _ {B C I Ids S T : Type 0} (s : Setting B S T) (d : Databases Ids S T) where
  -- From a place of its own on, each database keeps the states before and after each block that was
  -- applied since this opening, of which the newest is its last checkpoint, and it is durable at
  -- least as far as the durable height. The anchor is as far above the opening as blocks were
  -- applied, and each height above the opening's up to the anchor's was applied.
  pub record Keeping (base : S) (p : Past B C I) (m : d.Members) (anchor first : Anchor)
      (origin : ℕ → ℕ) : Type 0 where
    pub opened : opening p ≡ Some first
    pub height : anchor.height.0 ≡ first.height.0 + length (applied p)
    pub climbs : (n : ℕ) → first.height.0 < n → n ≤ anchor.height.0 → WasApplied s.header n p
    pub keeps : (i : ℕ) → i < d.count → d.Keeps m i (origin i) (prefixes s (Some base) (applied p))
    pub newest : (i : ℕ) → i < d.count → d.place m i ≡ origin i + length (applied p)
    pub above : first.height.0 ≤ durable p
    pub durable : (i : ℕ) → i < d.count → origin i + (durable p - first.height.0) ≤ d.durable m i
