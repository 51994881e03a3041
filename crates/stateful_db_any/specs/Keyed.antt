-- The index of a database of keys.
use Rattle.std.specs.Prelude.{◌≡◌, ℕ, List, option_map}
use Rattle.std.specs.Map.{lookup}
use Rattle.std.specs.BTreeMap.{is_at}
use Rattle.std.specs.declared.cmp.Ordering.{Ordering}
use Rattle.stateful_db_log.specs.declared.open_log.OpenLog.{OpenLog}
use Rattle.stateful_db_log.specs.Logs as logs
use Rattle.stateful_db_any.specs.declared.op.AnyOp.{AnyOp}
use Rattle.stateful_db_any.specs.Any.{live_at}

-- the index has the live keys of the newest checkpoint, each with the location of its last write
abbrev pub HasLive : {K V : Type 0}
    → (K → K → Ordering)
    → OpenLog (AnyOp K V)
    → List (K × ℕ)
    → Type 0
HasLive cmp log index =
    (key : _)
    → lookup (is_at (cmp key)) index
    ≡ option_map (λ x. x.0) (live_at cmp (logs.standing_of log).disk.newest key)
