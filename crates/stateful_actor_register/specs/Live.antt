-- What is live, by number, and where there is room for more.
use Rattle.std.specs.Prelude.{◌≡◌, ℕ, ◌==◌, Bool, Option, Some, None, List}
use Rattle.std.specs.List.{list_any}
use Rattle.std.specs.Option.{IsSome}
use Rattle.std.specs.Ordering.{nat_cmp}
use Rattle.std.specs.List.Sorted.{IsStrictlyIncreasing}
use Rattle.std.specs.BTreeMap.{get}
use Rattle.stateful_actor_register.specs.declared.live.Live.{Live}

module _ {V : Type 0} where
  -- the value of an entry, if there is one and it isn't room alone
  abbrev pub value_of : Option (Option V) → Option V
  value_of None = None
  value_of (Some value) = value

  -- the value that is live under a number
  abbrev pub entry : Live V → ℕ → Option V
  entry live k = value_of (get nat_cmp live.entries k)

  -- a value can be put under this number without more memory
  abbrev pub HasRoom : Live V → ℕ → Type 0
  HasRoom live k = IsSome (get nat_cmp live.entries k)

-- the list has each number that passes the test, and no other, in ascending order
pub record IsListOf (test : ℕ → Bool) (numbers : List ℕ) : Type 0 where
  pub ascending : IsStrictlyIncreasing numbers
  pub each : (k : ℕ) → list_any (λ n. k == n) numbers ≡ test k
