-- Counts of faults, and what a failed call says of them.
use Rattle.std.specs.Prelude.{ℕ, ◌+◌, ◌-◌, ◌^◌, ◌≤◌, ◌==◌, min, Bool, if◌then◌else◌, List, Result}
use Rattle.std.specs.Prelude.{OnErr}
use Rattle.std.specs.List.{list_any}

-- one more, or the last number that there is
abbrev pub risen : ℕ → ℕ
risen count = min (count + 1) (2 ^ 64 - 1)

-- the count behind a call, which rises where the call fails
abbrev pub risen_if : Bool → ℕ → ℕ
risen_if fails count = if fails then risen count else count

-- the count rose, or stands at its type's end
abbrev pub Rose : ℕ → ℕ → Type 0
Rose before now = risen before ≤ now

-- the count never falls, and where the call failed it rose
pub record HasCause {T E : Type 0} (before now : ℕ) (result : Result T E) : Type 0 where
  pub later : before ≤ now
  pub failed : OnErr result (Rose before now)

-- whether the call of this number is one of those that are to fail
abbrev pub is_listed : List ℕ → ℕ → Bool
is_listed failing call = list_any (λ number. number == call) failing
