-- What is seen of a sync of one database of a set, whatever its operations are.
use Rattle.std.specs.Prelude.{◌≡◌, ℕ, ◌+◌, ◌-◌, ◌&&◌, ◌==◌, length, Bool, true, false, is_some}
use Rattle.std.specs.Prelude.{Option, Some, None}
use Rattle.std.specs.Int.NonZero.{non_zero_u64_get}
use Rattle.stateful_base.specs.declared.digest.Digest.{Digest}
use Rattle.stateful_base.specs.declared.target.Target.{Target}
use Rattle.stateful_db_pass.specs.declared.pass.Fetches.{Fetches}
use Rattle.stateful_db_pass.specs.declared.pass.Fetches.TheVariants.{Latest, Range}
use Rattle.stateful_db_pass.specs.Fetched.{Fetched}
use Rattle.stateful_db_pass.specs.Counted as counted
use Rattle.stateful_db_pass.specs.Counted.{AreBatches}

-- the target, as a root with the range that it leads to; what is fetched toward it; whether the
-- digest before the range is there; and how many operations are there
pub record Seeking : Type 0 where
  pub target : Target
  pub fetches : Fetches
  pub begun : Bool
  pub operations : ℕ

abbrev pub seeking : {Op : Type 0} → Fetched Op → Seeking
seeking p = record {
  target = p.target;
  fetches = p.fetches;
  begun = is_some p.before;
  operations = length p.ops;
}

-- a sync toward this target of which nothing is there
abbrev pub seek : Target → Fetches → Seeking
seek target fetches =
    record { target = target; fetches = fetches; begun = false; operations = 0 }

-- how many operations the range has
abbrev pub count : Seeking → ℕ
count s = s.target.end.0 - s.target.start.0

-- the digest before the range is there, and each of its operations
abbrev pub is_reached : Seeking → Bool
is_reached s = s.begun && (s.operations == count s)

abbrev pub Needs_with : Seeking → Bool → Fetches → ℕ → Type 0
Needs_with s false Latest n = n ≡ 1
Needs_with s true Latest n = n ≡ 0
Needs_with s false (Range batch) n =
    (m : ℕ) × (n ≡ m + 1) × AreBatches (non_zero_u64_get batch) (count s) m
Needs_with s true (Range batch) n =
    AreBatches (non_zero_u64_get batch) (count s - s.operations) n

-- So many requests are left: one for the digest before the range, and one for each batch that
-- lacks; or one for the latest operation.
abbrev pub Needs : Seeking → ℕ → Type 0
Needs s n = Needs_with s s.begun s.fetches n

module _ {Op : Type 0} (p : Fetched Op) where
  fetched_with : (before : Option Digest) (fetches : Fetches) (n : ℕ)
      → Needs_with (seeking p) (is_some before) fetches n
      → counted.Needs_with p before fetches n
  fetched_with None Latest n needs = needs
  fetched_with (Some before) Latest n needs = needs
  fetched_with None (Range batch) n needs = needs
  fetched_with (Some before) (Range batch) n needs = needs

  seeking_with : (before : Option Digest) (fetches : Fetches) (n : ℕ)
      → counted.Needs_with p before fetches n
      → Needs_with (seeking p) (is_some before) fetches n
  seeking_with None Latest n needs = needs
  seeking_with (Some before) Latest n needs = needs
  seeking_with None (Range batch) n needs = needs
  seeking_with (Some before) (Range batch) n needs = needs

  -- as many requests are left as what was fetched needs
  pub fetched_needs : (n : ℕ) → Needs (seeking p) n → counted.Needs p n
  fetched_needs n needs = fetched_with p.before p.fetches n needs

  pub seeking_needs : (n : ℕ) → counted.Needs p n → Needs (seeking p) n
  seeking_needs n needs = seeking_with p.before p.fetches n needs
