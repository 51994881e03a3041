use Rattle.std.proofs.Common.{map}
use Rattle.stateful_db.specs.Pair.{left}
use Rattle.stateful_bank_logs.proofs.Balancing.{holds_none}
use Rattle.stateful_bank_pair.proofs.pair.PairWorld.begin.Goals as goal

pub returns : goal.returns
returns c = λ i p chain shown. (holds_none c.args.batch.0 i.0 (left p) (map left chain) shown.0, shown.1)
