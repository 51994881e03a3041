use Rattle.stateful_db_keyless.proofs.Following.{keeps_following}
use Rattle.stateful_db_keyless.proofs.law.compact_follows_keyless.Goals as goal

pub returns : goal.returns
returns g c = keeps_following g.V.Field.fields.spelling
