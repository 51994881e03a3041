use Rattle.stateful_db_plain.proofs.Showing.{draft_write}
use Rattle.stateful_db_plain.proofs.batch.PlainUnmerkleized.write.Goals as goal

pub returns : goal.returns
returns c = λ p chain shown. draft_write c.args.self c.insert.new.self p chain c.args.key c.args.value c.in_ok-insert.ensures.entries shown
