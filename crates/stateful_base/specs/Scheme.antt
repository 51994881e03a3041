-- How many participants may be faulty.
use Rattle.std.specs.Prelude.{ℕ, ◌-◌, ◌/◌}

-- how many of n participants may be faulty: fewer than a third of them
abbrev pub max_faults : ℕ → ℕ
max_faults n = (n - 1) / 3
