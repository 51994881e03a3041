-- How far applied heights are durable, and the receipts that wait.
use Rattle.std.specs.Prelude.{◌≡◌, ℕ, ◌≤◌, nat_le, nat_lt, Option, Some, None, unwrap_or, List, ◌∷◌}
use Rattle.std.specs.Prelude.{◌++◌, length, drop, All, filter}
use Rattle.std.specs.List.{last_or}
use Rattle.std.specs.List.Sorted.{IsNonDecreasingBy, IsStrictlyIncreasing}
use Rattle.stateful_base.specs.declared.number.Height.{Height}

-- the durable height, the last applied one, those of the open barriers, the oldest first, and the
-- receipts that wait, each as its height and its ticket
pub record Coverage : Type 0 where
  pub durable : ℕ
  pub applied : ℕ
  pub barriers : List ℕ
  pub held : List (ℕ × ℕ)

-- What is durable was applied. At most two barriers are open. From the durable height on their
-- heights ascend strictly, and they were applied. The receipts stand by ascending heights, which
-- were applied.
pub record IsInOrder (c : Coverage) : Type 0 where
  pub durable : c.durable ≤ c.applied
  pub at_most_two : length c.barriers ≤ 2
  pub barriers_ascend : IsStrictlyIncreasing (c.durable ∷ c.barriers)
  pub barriers_applied : All (λ height. height ≤ c.applied) c.barriers
  pub ascending : IsNonDecreasingBy (λ receipt. receipt.0) c.held
  pub applied : All (λ receipt. receipt.0 ≤ c.applied) c.held

-- the height that the newest open barrier covers, or else the durable one
abbrev pub covered_by_barriers : Coverage → ℕ
covered_by_barriers c = unwrap_or (last_or None c.barriers) c.durable

-- those of heights up to this one
abbrev pub receipts_up_to : ℕ → List (ℕ × ℕ) → List (ℕ × ℕ)
receipts_up_to height receipts = filter (λ receipt. nat_le receipt.0 height) receipts

-- those of heights above this one
abbrev pub receipts_above : ℕ → List (ℕ × ℕ) → List (ℕ × ℕ)
receipts_above height receipts = filter (λ receipt. nat_lt height receipt.0) receipts

-- the receipts and one more, which stands behind those of its height and of lower ones
abbrev pub with_duplicate : List (ℕ × ℕ) → ℕ → ℕ → List (ℕ × ℕ)
with_duplicate receipts height ticket =
    receipts_up_to height receipts ++ (height, ticket) ∷ receipts_above height receipts

-- the receipts of durable heights
abbrev pub covered_receipts : Coverage → List (ℕ × ℕ)
covered_receipts c = receipts_up_to c.durable c.held

-- the oldest barrier isn't open any more, and the height that is given is durable
abbrev pub after_completion : Coverage → Option Height → Coverage
after_completion c None = record c { barriers = drop 1 c.barriers }
after_completion c (Some height) = record c { durable = height.0; barriers = drop 1 c.barriers }

-- this receipt, which is of a durable height, stood in front and is taken
pub record Releases (old new : Coverage) (receipt : ℕ × ℕ) : Type 0 where
  pub durable : receipt.0 ≤ old.durable
  pub front : old ≡ record new { held = receipt ∷ new.held }
