use Rattle.std.proofs.Common.{◌∙◌}
use Rattle.std.specs.Ordering.{nat_cmp}
use Rattle.std.specs.BTreeMap.{is_at}
use Rattle.std.proofs.lemmas.Map.Entries.{sum_by-remove_entry}
use Rattle.stateful_table.proofs.Tables.{remove_is_without, put-without}
use Rattle.stateful_table.proofs.table.Table.remove.Goals as goal

pub returns-clause-others : goal.returns-clause-others
returns-clause-others g c = rw (← c.self.view_is) (c.remove.ensures.entries ∙ remove_is_without c.self.inside.entries.entries c.args.number c.self.invariant)

pub returns-clause-sums : goal.returns-clause-sums
returns-clause-sums g c =
    λ weigh. rw (c.remove.ensures.entries, ← c.self.view_is) (sum_by-remove_entry weigh (is_at (nat_cmp c.args.number)) c.self.inside.entries.entries)

pub returns-clause-again : goal.returns-clause-again
returns-clause-again g c =
    λ value.
    let entries = c.self.inside.entries.entries in
    rw (c.remove.ensures.entries, remove_is_without entries c.args.number c.self.invariant, ← c.self.view_is) (put-without entries c.args.number value c.self.invariant)
