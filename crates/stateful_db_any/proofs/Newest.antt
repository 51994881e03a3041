-- the newest write of batches that stand one on the other
use Rattle.std.proofs.Common.{◌≡◌, ℕ, List, [], ◌∷◌, Option, All, refl, ap, ◌∙◌}
use Rattle.std.specs.BTreeMap.{is_at}
use Rattle.std.specs.Map.{lookup}
use Rattle.std.specs.Option.{unwrap_or}
use Rattle.std.specs.declared.cmp.Ordering.{Ordering}
use Rattle.std.specs.Cmp.{IsTotalOrder}
use Rattle.std.proofs.lemmas.List.Elements.{All-head, All-tail}
use Rattle.stateful_db_any.specs.Ops.{Changes}
use Rattle.stateful_db_any.specs.Any.{State, value_at}
use Rattle.stateful_db_any.specs.Newest.{newest_or, IsOrdered, sealed_on}
use Rattle.stateful_db_any.proofs.Values.{sealed_value}

module _ {K V : Type 0} {cmp : K → K → Ordering} (total : IsTotalOrder cmp) (spell_key : K → List ℕ) (spell_value : V → List ℕ) where
  pub sealed_newest : (batches : List (Changes K V)) (s : State K V) (key : K) → All (IsOrdered cmp) batches
      → value_at cmp (sealed_on cmp spell_key spell_value batches s) key ≡ newest_or cmp key batches (value_at cmp s key)
  sealed_newest [] s key ordered = refl
  sealed_newest (batch ∷ older) s key ordered =
      sealed_value total spell_key spell_value batch (sealed_on cmp spell_key spell_value older s) key (All-head (IsOrdered cmp) batch older ordered)
      ∙ ap (λ (v : Option V). unwrap_or (lookup (is_at (cmp key)) batch.writes) v) (sealed_newest older s key (All-tail (IsOrdered cmp) batch older ordered))
