use Rattle.stateful_db_pass.proofs.Answering.{answers_fit}
use Rattle.stateful_db_pass.proofs.law.answers_fit.Goals as goal

pub returns : goal.returns
returns g c = λ p batch h response range held answers. answers_fit g.Op.Linked.linked g.Op.Linked.alone p batch h response range held answers
