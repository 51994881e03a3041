-- What the fields show.
use Rattle.std.specs.Prelude.{map}
use Rattle.std.specs.Int.NonZero.{non_zero_usize_get}
use Rattle.stateful_pruning.specs.declared.pruning.Pruning.TheInside.{Inside}
use Rattle.stateful_pruning.specs.declared.pruning.Entry.{Entry as Fields}
use Rattle.stateful_pruning.specs.Rule.{Entry}
use Rattle.stateful_pruning.specs.Pruning.{Recorded}

-- its height is a number
abbrev pub entry_of : {T : Type 0} → Fields T → Entry T
entry_of fields =
    record { height = fields.height.0; targets = fields.targets; operations = fields.operations }

-- the fields as the schedule and the entries that are kept
abbrev pub recorded : {T : Type 0} → Inside T → Recorded T
recorded fields = record {
  schedule = record {
    interval = non_zero_usize_get fields.interval;
    offset = fields.offset;
    marshal_window = fields.marshal_window;
    qmdb_window = fields.qmdb_window;
    retained_operations = fields.retained_operations;
  };
  kept = map entry_of fields.entries.items;
}
