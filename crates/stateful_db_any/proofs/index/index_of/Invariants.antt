use Rattle.std.proofs.Common.{◌≡◌, ℕ, ◌-◌, List, drop, Option, Some, None, slice_get}
use Rattle.std.specs.Map.{lookup}
use Rattle.std.specs.Option.{option_map}
use Rattle.std.specs.BTreeMap.{is_at}
use Rattle.stateful_db.specs.Disk.{all}
use Rattle.stateful_db_medium.specs.declared.checkpoints.Checkpoint.{Checkpoint}
use Rattle.stateful_db_log.specs.Logs.{disk_of}
use Rattle.stateful_db_any.specs.declared.op.AnyOp.{AnyOp}
use Rattle.stateful_db_any.specs.Live.{last_write}
use Rattle.stateful_db_any.proofs.index.index_of.Given as goal

-- the index has what the operations so far write, and those that are left lead to the same
abbrev pub invariant-loop-at : goal.invariant-loop-at
invariant-loop-at g l =
    let cmp = g.K.Ord.cmp in
    (s : Checkpoint (List (AnyOp g.row.K.Denot g.row.V.Denot))) (key : g.row.K.Denot)
    → slice_get (all (disk_of l.medium)) l.number ≡ Some s
    → (now : Option (ℕ × g.row.V.Denot)) × ((lookup (is_at (cmp key)) l.index.entries ≡ option_map (λ x. x.0) now) × (last_write cmp key l.at (drop (l.at - s.target.start.0) s.kept) now ≡ last_write cmp key s.target.start.0 s.kept None))
