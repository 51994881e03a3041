-- Targets of compact databases, as a root with a range.
use Rattle.std.specs.Prelude.{◌-◌}
use Rattle.stateful_base.specs.declared.target.Target.{Target}
use Rattle.stateful_base.specs.declared.target.CompactTarget.{CompactTarget}

-- the last operation alone, or nothing
abbrev pub compact_target : CompactTarget → Target
compact_target t = record { root = t.root; start = record { 0 = t.size.0 - 1 }; end = t.size }
