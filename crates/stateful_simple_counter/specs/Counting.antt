-- The counter's rules.
use Rattle.std.specs.Prelude.{ℕ, ◌+◌, ◌-◌, ◌^◌, ◌==◌, not, List, Some, unwrap_or, min}
use Rattle.stateful_db_plain.specs.Whole.{value_at, put}
use Rattle.stateful_simple_app.specs.Blocks.{number_bytes}
use Rattle.stateful_simple_app.specs.Rules.{Entries, Rules}
use Rattle.stateful_simple_counter.specs.declared.counter.Add.{Add}

-- eight bytes, the highest first
abbrev pub add_bytes : Add → List ℕ
add_bytes added = number_bytes added.0

-- the count is the entry of key 0, and 0 where there is none
abbrev pub count_in : Entries → ℕ
count_in entries = unwrap_or (value_at entries 0) 0

-- the count with a number added, which stays at the last number
abbrev pub added_to : ℕ → ℕ → ℕ
added_to count added = min (count + added) (2 ^ 64 - 1)

-- a block adds its number; one that adds 0 isn't acceptable, and a request says what to add
abbrev pub counting : Rules Add Add
counting = record {
  genesis = record { 0 = 0 };
  step = λ entries added. Some (put entries 0 (Some (added_to (count_in entries) added.0)));
  accept = λ entries added. not (added.0 == 0);
  choose = λ entries asked. Some asked;
}
