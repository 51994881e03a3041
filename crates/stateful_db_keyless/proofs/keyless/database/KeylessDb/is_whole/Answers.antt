use Rattle.std.proofs.Common.{ap, arith}
use Rattle.std.proofs.lemmas.Bool.Decides.{nat_tests}
use Rattle.stateful_base.specs.declared.target.Target.{Target}
use Rattle.stateful_db_log.specs.LogSound.{length_newest}
use Rattle.stateful_db_keyless.proofs.keyless.database.KeylessDb.is_whole.Goals as goal

pub returns : goal.returns
returns g c = λ holds.
    let start = ap (λ (t : Target). t.start.0) c.target-range.ensures in
    let end = ap (λ (t : Target). t.end.0) c.target-range.ensures in
    let count = length_newest c.args.self.now.log in
    grind (arith, nat_tests)
