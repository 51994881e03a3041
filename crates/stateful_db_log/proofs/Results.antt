-- What a result leads to.
use Rattle.std.specs.Prelude.{Result, Ok, Err, IfOk, IfErr}

module _ {T E : Type 0} where
  pub ok-leads : (P Q : T → Type 0) → ((x : T) → P x → Q x) → (r : Result T E) → IfOk r P → IfOk r Q
  ok-leads P Q leads (Ok x) p = leads x p
  ok-leads P Q leads (Err e) p = tt

  pub err-leads : (P Q : E → Type 0) → ((e : E) → P e → Q e) → (r : Result T E) → IfErr r P → IfErr r Q
  err-leads P Q leads (Ok x) p = tt
  err-leads P Q leads (Err e) p = leads e p
