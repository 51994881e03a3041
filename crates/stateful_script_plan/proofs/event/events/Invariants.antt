use Rattle.std.proofs.Common.{◌≡◌, ◌≤◌, ◌++◌, drop}
use Rattle.stateful_script_plan.specs.Events.{events_from, events_of}
use Rattle.stateful_script_plan.proofs.event.events.Given as goal

abbrev pub invariant-loop-next : goal.invariant-loop-next
invariant-loop-next l = record {
  all : l.made.items ++ events_from l.planned l.ticket (drop l.next-index l.script) ≡ events_of l.planned l.script;
  within : l.ticket ≤ l.next-index;
}
