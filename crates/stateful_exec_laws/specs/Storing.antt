-- What the store has.
use Rattle.std.proofs.Common.{◌≡◌, ℕ, Option, None, nat_lt, if◌then◌else◌}
use Rattle.stateful_base.specs.Names.{Named}
use Rattle.stateful_history.specs.Canonical.{pruned_below}
use Rattle.stateful_history.specs.Past.{Past}

-- the blocks that the store has now are those that it was handed and that weren't pruned since
abbrev pub IsStoredNow : {B C I : Type 0}
    → (ℕ → Option (Named B))
    → Past B C I
    → (ℕ → Option (Named B))
    → Type 0
IsStoredNow stored p stored_now =
    (h : ℕ) → stored_now h ≡ (if nat_lt h (pruned_below p) then None else stored h)
