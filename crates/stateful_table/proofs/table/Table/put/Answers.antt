use Rattle.std.proofs.lemmas.Cmp.{nat_cmp_total}
use Rattle.std.proofs.lemmas.Map.Entries.{sum_by-insert_entry}
use Rattle.stateful_table.proofs.Tables.{put-put}
use Rattle.stateful_table.proofs.table.Table.put.Goals as goal

pub returns-clause-sums : goal.returns-clause-sums
returns-clause-sums g c =
    λ weigh. rw (c.in_ok-insert.ensures.entries, ← c.self.view_is) (sum_by-insert_entry weigh nat_cmp_total c.self.inside.entries.entries c.args.number c.args.value c.self.invariant)

pub returns-clause-twice : goal.returns-clause-twice
returns-clause-twice g c =
    λ later. rw (c.in_ok-insert.ensures.entries, ← c.self.view_is) (put-put c.self.inside.entries.entries c.args.number c.args.value later)
