use Rattle.std.proofs.Common.{◌≡◌, ◌++◌, map}
use Rattle.stateful_sync.specs.Classify.{anchored, handover_at, Leads}
use Rattle.stateful_sync.proofs.classification.hand_over.Given as goal

abbrev pub invariant-loop-ticket : goal.invariant-loop-ticket
invariant-loop-ticket g l = record {
  all : l.yielded ++ l.ticket-iterator.rest.items ≡ l.fn.sorted.items;
  are : l.handovers.items ≡ map (handover_at g.B.Block.header l.anchor) l.yielded;
  leads : Leads g.B.Block.header l.anchor (anchored l.anchor) l.yielded l.last;
}
