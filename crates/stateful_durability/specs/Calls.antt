-- What becomes of receipts over many calls.
use Rattle.std.specs.Prelude.{◌≡◌, ℕ, ◌<◌, Option, List, [], ◌∷◌, ◌++◌, All}
use Rattle.std.specs.List.Sorted.{IsPermutation}
use Rattle.stateful_base.specs.declared.number.Height.{Height}
use Rattle.stateful_durability.specs.Durability.{Coverage, after_completion, with_duplicate}
use Rattle.stateful_durability.specs.Durability.{Releases}

-- these receipts are released one after another, until none is held that is of a durable height
abbrev pub ReleasesAll : Coverage → List (ℕ × ℕ) → Coverage → Type 0
ReleasesAll c [] last = All (λ receipt. c.durable < receipt.0) c.held × (last ≡ c)
ReleasesAll c (receipt ∷ receipts) last =
    (next : Coverage) × Releases c next receipt × ReleasesAll next receipts last

-- whoever has receipts released until there is none gets these, in this order
abbrev pub ReleasesExactly : Coverage → List (ℕ × ℕ) → Type 0
ReleasesExactly c receipts =
    (released : List (ℕ × ℕ)) (last : Coverage) → ReleasesAll c released last → released ≡ receipts

-- one call that changed the value, with the receipts that it recorded and those that it released
pub data Call : Coverage → List (ℕ × ℕ) → List (ℕ × ℕ) → Coverage → Type 0 where
  applies : {c : Coverage} (height : ℕ) → Call c [] [] (record c { applied = height })
  sets_barrier : {c : Coverage} (height : ℕ)
      → Call c [] [] (record c { barriers = c.barriers ++ height ∷ [] })
  completes : {c : Coverage} (completion : Option Height)
      → Call c [] [] (after_completion c completion)
  records : {c : Coverage} (height ticket : ℕ)
      → Call c ((height, ticket) ∷ []) [] (record c { held = c.held ++ (height, ticket) ∷ [] })
  records_duplicate : {c : Coverage} (height ticket : ℕ)
      → Call c ((height, ticket) ∷ []) [] (record c { held = with_duplicate c.held height ticket })
  releases : {c next : Coverage} {receipt : ℕ × ℕ}
      → Releases c next receipt
      → Call c [] (receipt ∷ []) next

-- calls, one after another
pub data Calls : Coverage → List (ℕ × ℕ) → List (ℕ × ℕ) → Coverage → Type 0 where
  none : {c : Coverage} → Calls c [] [] c
  further : {c d e : Coverage} {recorded released more_recorded more_released : List (ℕ × ℕ)}
      → Call c recorded released d
      → Calls d more_recorded more_released e
      → Calls c (recorded ++ more_recorded) (released ++ more_released) e

-- whatever calls follow, each receipt that is held or recorded is released once, or is still held
abbrev pub KeepsReceipts : Coverage → Type 0
KeepsReceipts c =
    (recorded released : List (ℕ × ℕ)) (last : Coverage)
    → Calls c recorded released last
    → IsPermutation (c.held ++ recorded) (released ++ last.held)
