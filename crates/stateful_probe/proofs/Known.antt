-- What is known of keys, of an option and of an error.
use Rattle.std.proofs.Common.{◌≡◌, Bool, Ordering, is_eq, Option, Some, Result, Ok, Err, sym, ◌∙◌}
use Rattle.std.specs.Cmp.{IsEquivalence}
use Rattle.std.specs.Prelude.{IfErr}
use Rattle.std.proofs.lemmas.Option.{same_Some}

-- which keys are the same, by their order
pub record AreKeys {K : Type 0} (eq : K → K → Bool) (cmp : K → K → Ordering) : Type 0 where
  pub same : IsEquivalence eq
  pub agrees : (x y : K) → eq x y ≡ is_eq (cmp x y)

-- an option holds one value at most
pub one_value : {A : Type 0} (o : Option A) (a b : A) → o ≡ Some a → o ≡ Some b → a ≡ b
one_value o a b e e' = same_Some a b (sym e ∙ e')

-- what holds whatever the error is
pub if_any_err : {T E P : Type 0} (result : Result T E) → P → IfErr result (λ e. P)
if_any_err (Ok x) p = tt
if_any_err (Err e) p = p
