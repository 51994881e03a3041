use Rattle.std.proofs.Common.{ℕ, refl, ap, ◌∙◌}
use Rattle.stateful_db_plain.specs.Writes.{Change}
use Rattle.stateful_db_plain.proofs.Showing.{roots_same}
use Rattle.stateful_db_plain.proofs.batch.PlainUnmerkleizedUnmerkleized.merkleize.Goals as goal

pub invariant_of-result : goal.invariant_of-result
invariant_of-result c =
    let u = c.args.self in
    let change : Change = record { writes = u.writes.entries; target = c.in_ok-target.target } in
    let own : ℕ × Change = (u.id, change) in
    let layer = c.in_ok-layer.ensures ∙ ap (λ (x : Change). (u.id, x)) c.new.ensures in
    record { roots = roots_same own _ u.below u.below u.base u.base layer refl refl c.in_ok-target.ensures.roots }
