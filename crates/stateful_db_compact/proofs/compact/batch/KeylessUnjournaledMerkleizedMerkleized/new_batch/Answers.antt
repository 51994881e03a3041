use Rattle.std.proofs.Common.{arith}
use Rattle.stateful_db_compact.proofs.CompactChains.{opens}
use Rattle.stateful_db_compact.proofs.compact.batch.KeylessUnjournaledMerkleizedMerkleized.new_batch.Goals as goal

pub returns : goal.returns
returns g c = λ p chain shown less. opens g.V.Field.fields.spelling c.args.self.now c.in_ok-with.field-0 c.args.id c.size.result p chain shown c.in_ok-with.ensures c.size.ensures (omega arith) less
