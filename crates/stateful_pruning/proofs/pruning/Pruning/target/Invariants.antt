use Rattle.std.proofs.Common.{◌<◌, map}
use Rattle.std.specs.List.{AllWithin}
use Rattle.stateful_pruning.specs.Rule.{Entry}
use Rattle.stateful_pruning.specs.Shown.{entry_of}
use Rattle.stateful_pruning.proofs.pruning.Pruning.target.Given as goal

-- the entries that were passed over have too many operations
abbrev pub invariant-loop-place : goal.invariant-loop-place
invariant-loop-place g l =
    AllWithin (λ (entry : Entry g.row.T.Denot). l.most < entry.operations) (map entry_of l.self-inside.entries.items) l.place l.outside
