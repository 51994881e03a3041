use Rattle.std.proofs.Common.{◌∙◌}
use Rattle.stateful_db_plain.proofs.Showing.{draft_layers}
use Rattle.stateful_db_plain.proofs.batch.PlainUnmerkleized.layers.Goals as goal

pub returns-clause-all : goal.returns-clause-all
returns-clause-all c = λ chain shown. c.above.ensures ∙ draft_layers c.args.self.now chain shown
