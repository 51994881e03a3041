use Rattle.stateful_db_pass.specs.Counted.{requests_fall}
use Rattle.stateful_db_pass.proofs.law.requests_fall.Goals as goal

pub returns : goal.returns
returns g c = λ p response n within lacks fits needs. requests_fall g.Op.Linked.alone p response n within lacks fits needs
