-- What the fields show.
use Rattle.std.specs.Prelude.{◌≡◌, ℕ, Option, Some, None, List, [], ◌∷◌, map}
use Rattle.stateful_base.specs.declared.number.Height.{Height}
use Rattle.stateful_durability.specs.declared.durability.Receipt.{Receipt}
use Rattle.stateful_durability.specs.Durability.{Coverage, IsInOrder}

-- its height and its ticket
abbrev pub pair_of : Receipt → ℕ × ℕ
pair_of receipt = (receipt.height.0, receipt.ticket)

-- the heights of the open barriers, from that of the oldest and that of the newer one, which there
-- is only beside the oldest
abbrev pub open_barriers : Option Height → Option Height → List ℕ
open_barriers None _ = []
open_barriers (Some oldest) None = oldest.0 ∷ []
open_barriers (Some oldest) (Some newer) = oldest.0 ∷ newer.0 ∷ []

-- from the durable height, the applied one, those of the open barriers and the receipts
abbrev pub coverage : Height → Height → Option Height → Option Height → List Receipt → Coverage
coverage durable applied oldest newer held = record {
  durable = durable.0;
  applied = applied.0;
  barriers = open_barriers oldest newer;
  held = map pair_of held;
}

-- what holds of the fields: a newer barrier is open only beside the oldest, and what they show is
-- in order
pub record IsSound (oldest newer : Option Height) (shown : Coverage) : Type 0 where
  pub oldest_first : oldest ≡ None → newer ≡ None
  pub in_order : IsInOrder shown
