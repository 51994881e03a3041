use Rattle.std.proofs.Common.{◌≡◌, ◌==◌, false, arith, sym}
use Rattle.std.proofs.lemmas.Bool.Decides.{nat_tests}
use Rattle.stateful_db_compact.proofs.CompactChains.{draft_has}
use Rattle.stateful_db_compact.proofs.compact.batch.KeylessUnjournaledUnmerkleized.stands_on.Goals as goal

pub returns-else-self-at : goal.returns-else-self-at
returns-else-self-at g c = λ chain shown.
    let other : (c.args.self.now.id == c.args.at) ≡ false = grind (arith, nat_tests, c.if-self-at.false) in
    rw (draft_has g.V.Field.fields.spelling c.args.self.now chain c.args.at shown, other) (sym c.has-inside.ensures)
