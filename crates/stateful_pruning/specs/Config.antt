-- What a config asks for.
use Rattle.std.specs.Prelude.{ℕ, ◌+◌, ◌^◌, ◌<◌, ◌≤◌, ◌⊎◌}
use Rattle.std.specs.Int.NonZero.{non_zero_usize_get}
use Rattle.stateful_pruning.specs.declared.config.PruneConfig.{PruneConfig}
use Rattle.stateful_pruning.specs.Rule.{Schedule}

-- so many blocks behind the acknowledgements that may be pending and the newest block
abbrev pub window_size : ℕ → ℕ → ℕ
window_size max_pending_acks retained = max_pending_acks + 1 + retained

-- the windows and the rest of what the config says
abbrev pub schedule_of : PruneConfig → ℕ → ℕ → Schedule
schedule_of config max_pending_acks offset = record {
  interval = non_zero_usize_get config.maintenance_interval;
  offset = offset;
  marshal_window = window_size max_pending_acks config.retained_marshal_blocks;
  qmdb_window = window_size max_pending_acks config.retained_qmdb_blocks;
  retained_operations = config.retained_qmdb_operations;
}

-- marshal retains at least as many blocks as QMDB, and the offset is below the interval
abbrev pub IsConsistent : PruneConfig → ℕ → Type 0
IsConsistent config offset =
    (config.retained_qmdb_blocks ≤ config.retained_marshal_blocks)
    × (offset < non_zero_usize_get config.maintenance_interval)

-- marshal retains fewer blocks than QMDB, or the offset isn't below the interval
abbrev pub IsInconsistent : PruneConfig → ℕ → Type 0
IsInconsistent config offset =
    (config.retained_marshal_blocks < config.retained_qmdb_blocks)
    ⊎ (non_zero_usize_get config.maintenance_interval ≤ offset)

-- no window passes the greatest `usize`
abbrev pub FitsWindows : PruneConfig → ℕ → Type 0
FitsWindows config max_pending_acks =
    (window_size max_pending_acks config.retained_marshal_blocks < 2 ^ 64)
    × (window_size max_pending_acks config.retained_qmdb_blocks < 2 ^ 64)

-- a window passes the greatest `usize`
abbrev pub PassesWindows : PruneConfig → ℕ → Type 0
PassesWindows config max_pending_acks =
    (2 ^ 64 ≤ window_size max_pending_acks config.retained_marshal_blocks)
    ⊎ (2 ^ 64 ≤ window_size max_pending_acks config.retained_qmdb_blocks)
