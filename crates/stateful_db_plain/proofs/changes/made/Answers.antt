use Rattle.std.proofs.Common.{◌∙◌, Result, Ok, Err, IfOk}
use Rattle.stateful_db_plain.specs.Whole.{value_at}
use Rattle.stateful_db_plain.proofs.changes.made.Goals as goal

leads : {T E : Type 0} (P Q : T → Type 0) → ((x : T) → P x → Q x) → (r : Result T E) → IfOk r P → IfOk r Q
leads P Q f (Ok x) p = f x p
leads P Q f (Err e) p = tt

pub returns-clause-values : goal.returns-clause-values
returns-clause-values c =
    leads _ _ (λ after values. λ key. values key ∙ c.in_ok-writes.ensures key (value_at c.args.entries.now.entries key)) c.changed.result c.changed.ensures.values
