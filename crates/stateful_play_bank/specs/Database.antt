-- What a transcript shows of one database, wherever it is.
use Rattle.std.specs.Prelude.{◌≡◌, ℕ, ◌-◌, List}
use Rattle.std.specs.Ordering.{nat_cmp}
use Rattle.stateful_db.specs.Member.{Member, here, closed, lost, away}
use Rattle.stateful_db_plain.specs.Whole.{Whole}
use Rattle.stateful_db_any.specs.Any as any
use Rattle.stateful_db_any.specs.Entries.{AreLive}
use Rattle.stateful_db_keyless.specs.Keyless as keyless
use Rattle.stateful_db_compact.specs.Compacted as compact
use Rattle.stateful_script_text.specs.declared.shown.Shown.{Shown}
use Rattle.stateful_script_text.specs.declared.shown.Shown.TheVariants.{Balances, Range, Size, Closed}
use Rattle.stateful_script_text.specs.declared.shown.Shown.TheVariants.{Lost, Away}

-- of one that is kept whole: the range and the balances of the newest state
abbrev pub whole_of : Member Whole → Shown
whole_of (here s) = Balances (s.disk.newest.size - 1) s.disk.newest.size s.disk.newest.entries
whole_of (closed disk) = Closed
whole_of (lost disk) = Lost
whole_of away = Away

-- of one of keys: the range of the newest state, and its live keys with their values
abbrev pub ShowsKeys : Member (any.State ℕ ℕ) → Shown → Type 0
ShowsKeys (here s) shown =
    (balances : List (ℕ × ℕ))
    × AreLive nat_cmp s.disk.newest balances
    × (shown
    ≡ Balances s.disk.newest.target.start.0 s.disk.newest.target.end.0 balances)
ShowsKeys (closed disk) shown = shown ≡ Closed
ShowsKeys (lost disk) shown = shown ≡ Lost
ShowsKeys away shown = shown ≡ Away

-- of a keyless one: the range of the newest state
abbrev pub range_of : Member (keyless.State ℕ) → Shown
range_of (here s) = Range s.disk.newest.target.start.0 s.disk.newest.target.end.0
range_of (closed disk) = Closed
range_of (lost disk) = Lost
range_of away = Away

-- of a compact one: the size of the newest state
abbrev pub size_of : Member (compact.State ℕ) → Shown
size_of (here s) = Size (compact.target_of s.disk.newest).size.0
size_of (closed disk) = Closed
size_of (lost disk) = Lost
size_of away = Away
