use Rattle.std.proofs.Common.{◌≡◌, ◌≤◌, ◌-◌, Some, length}
use Rattle.stateful_script.specs.Cursor.{fields_left}
use Rattle.stateful_script.specs.EventLines.{numbers_at}
use Rattle.stateful_script.proofs.event.next_numbers.Given as goal

abbrev pub invariant-numbers : goal.invariant-numbers
invariant-numbers l = record {
  read : numbers_at (length l.numbers) (fields_left l.fn.fields) ≡ Some (l.numbers, fields_left l.fields);
  within : length l.numbers ≤ l.count;
}

abbrev pub decreases-numbers : goal.decreases-numbers
decreases-numbers l = l.count - length l.numbers
