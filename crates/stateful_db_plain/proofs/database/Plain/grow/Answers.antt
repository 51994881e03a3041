use Rattle.std.proofs.Common.{◌∙◌}
use Rattle.stateful_db_medium.specs.Kept as kept
use Rattle.stateful_db_plain.proofs.Rooted.{rooted_pushed, standing_grown}
use Rattle.stateful_db_plain.proofs.Showing.{seal_id}
use Rattle.stateful_db_plain.proofs.database.Plain.grow.Goals as goal

pub invariant_of-self : goal.invariant_of-self
invariant_of-self c =
    let db = c.args.self.now in
    record { rooted = rooted_pushed (kept.standing_of db.opened) (kept.standing_of c.push.new.self) c.push.result c.id.result c.in_ok-state.state c.push.ensures.ok c.push.ensures.err db.rooted c.in_ok-state.ensures.rooted }

pub returns-clause-ok : goal.returns-clause-ok
returns-clause-ok c = λ p chain shown.
    let db = c.args.self.now in
    standing_grown (kept.standing_of db.opened) (kept.standing_of c.push.new.self) p.0 c.id.result c.in_ok-state.state p.1 c.in_ok-push.ensures.ok
    (c.id.ensures ∙ seal_id c.args.batch.now p chain shown) (c.in_ok-state.ensures.state p chain shown)
