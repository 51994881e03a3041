use Rattle.std.proofs.Common.{◌≡◌, ◌+◌, drop}
use Rattle.stateful_db_keyless.specs.Reads.{first_unreadable}
use Rattle.stateful_db_keyless.proofs.keyless.range.check_ranges.Given as goal

-- the ones that are left say the same
abbrev pub invariant-loop-location : goal.invariant-loop-location
invariant-loop-location l = first_unreadable l.floor (l.from + l.count) (drop l.location-index l.locations) ≡ first_unreadable l.floor (l.from + l.count) l.locations
