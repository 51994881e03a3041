use Rattle.std.proofs.Common.{◌≡◌, ℕ, ◌+◌, drop, Option}
use Rattle.std.specs.Map.{lookup}
use Rattle.std.specs.Option.{option_map}
use Rattle.std.specs.BTreeMap.{is_at}
use Rattle.stateful_db_any.specs.Live.{last_write}
use Rattle.stateful_db_any.proofs.index.note_each.Given as goal

-- the index has what the operations so far write, and those that are left lead to the same
abbrev pub invariant-loop-i : goal.invariant-loop-i
invariant-loop-i g l =
    let cmp = g.K.Ord.cmp in
    (key : g.row.K.Denot) (before : Option (ℕ × g.row.V.Denot))
    → lookup (is_at (cmp key)) l.fn.index.entries ≡ option_map (λ x. x.0) before
    → (now : Option (ℕ × g.row.V.Denot)) × ((lookup (is_at (cmp key)) l.index.entries ≡ option_map (λ x. x.0) now) × (last_write cmp key (l.from + l.i) (drop l.i l.ops) now ≡ last_write cmp key l.from l.ops before))
