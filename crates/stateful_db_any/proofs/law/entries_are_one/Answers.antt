use Rattle.stateful_db_any.proofs.Entries.{one_list}
use Rattle.stateful_db_any.proofs.law.entries_are_one.Goals as goal

pub returns : goal.returns
returns g c = λ s entries others live same. one_list g.met.K.Ord.total g.met.K.Field.exact s entries others live same
