use Rattle.std.proofs.lemmas.Cmp.{nat_cmp_total}
use Rattle.std.proofs.lemmas.Map.Entries.{sum_by-insert_entry}
use Rattle.stateful_table.proofs.Tables.{surely, none_some}
use Rattle.stateful_table.proofs.table.Table.replace.Goals as goal

pub returns-clause-sums : goal.returns-clause-sums
returns-clause-sums g c =
    λ weigh.
    let there = rw (← c.self.view_is) at c.requires in
    let is = surely c.insert.result c.insert.ensures.entries c.insert.ensures.absent (λ none. none_some _ none there) in
    rw (is, ← c.self.view_is) (sum_by-insert_entry weigh nat_cmp_total c.self.inside.entries.entries c.args.number c.args.value c.self.invariant)
