-- How the tickets of a mailbox stand.
use Rattle.std.specs.Prelude.{ℕ, Bool, true, false, if◌then◌else◌, Option, Some, None, List}
use Rattle.stateful_table.specs.Table.{at, put, without, total}
use Rattle.stateful_p2p.specs.declared.tickets.Standing.{Standing}
use Rattle.stateful_p2p.specs.declared.tickets.Standing.TheVariants.{Open, Answered, Dropped}

abbrev pub stands_live : Option Standing → Bool
stands_live None = false
stands_live (Some Open) = true
stands_live (Some Answered) = true
stands_live (Some Dropped) = false

abbrev pub stands_dropped : Option Standing → Bool
stands_dropped None = false
stands_dropped (Some Open) = false
stands_dropped (Some Answered) = false
stands_dropped (Some Dropped) = true

-- the ticket is live: it was drawn, and neither let go nor ended by a good candidate
abbrev pub is_live : List (ℕ × Standing) → ℕ → Bool
is_live tickets t = stands_live (at tickets t)

-- the ticket was let go before a candidate
abbrev pub is_dropped : List (ℕ × Standing) → ℕ → Bool
is_dropped tickets t = stands_dropped (at tickets t)

abbrev pub ended_from : Option Standing → List (ℕ × Standing) → ℕ → List (ℕ × Standing)
ended_from None tickets t = tickets
ended_from (Some Open) tickets t = put tickets t Dropped
ended_from (Some Answered) tickets t = without tickets t
ended_from (Some Dropped) tickets t = tickets

-- the tickets once this one ended, which is kept in mind only where no candidate came for it
abbrev pub ended : List (ℕ × Standing) → ℕ → List (ℕ × Standing)
ended tickets t = ended_from (at tickets t) tickets t

-- the tickets once a candidate came for this one
abbrev pub answered : List (ℕ × Standing) → ℕ → List (ℕ × Standing)
answered tickets t = if is_live tickets t then put tickets t Answered else tickets

abbrev pub live_weight : Standing → ℕ
live_weight Open = 1
live_weight Answered = 1
live_weight Dropped = 0

-- how many tickets are live
abbrev pub live_count : List (ℕ × Standing) → ℕ
live_count tickets = total live_weight tickets
