-- Certificates of votes.
use Rattle.std.specs.Prelude.{ℕ, ◌<◌, ◌≤◌, ◌-◌, ◌^◌, List, All, length}
use Rattle.std.specs.List.Sorted.{IsStrictlyIncreasing}
use Rattle.stateful_base.specs.Format.{Format}
use Rattle.stateful_base.specs.Scheme.{max_faults}
use Rattle.stateful_base.specs.Number.{u32_format}
use Rattle.stateful_types.specs.Items.{items_format}

-- how many signers there are, and then the number of each
abbrev pub votes_format : Format (List ℕ)
votes_format = items_format u32_format

-- of so many participants all but the faulty ones signed, each named once, in ascending order
pub record IsQuorum (participants : ℕ) (signers : List ℕ) : Type 0 where
  pub countable : participants < 2 ^ 32
  pub ascending : IsStrictlyIncreasing signers
  pub known : All (λ signer. signer < participants) signers
  pub enough : participants - max_faults participants ≤ length signers
