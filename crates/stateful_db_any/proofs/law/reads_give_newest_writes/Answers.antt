use Rattle.stateful_db_any.proofs.Newest.{sealed_newest}
use Rattle.stateful_db_any.proofs.law.reads_give_newest_writes.Goals as goal

pub returns : goal.returns
returns g c = λ batches s key ordered. sealed_newest g.met.K.Ord.total g.K.Field.fields.spelling g.V.Field.fields.spelling batches s key ordered
