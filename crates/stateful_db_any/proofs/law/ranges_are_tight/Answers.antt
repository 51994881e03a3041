use Rattle.stateful_db_any.proofs.Reading.{live_after, begins_with}
use Rattle.stateful_db_any.proofs.law.ranges_are_tight.Goals as goal

pub returns-clause-live : goal.returns-clause-live
returns-clause-live g c = λ s more key. live_after g.met.K.Ord.total g.K.Field.fields.spelling g.V.Field.fields.spelling s more key

pub returns-clause-begins : goal.returns-clause-begins
returns-clause-begins g c = λ s more some. begins_with g.met.K.Ord.total g.K.Field.fields.spelling g.V.Field.fields.spelling s more some
