-- Databases on which no call was made, one of them or several.
use Rattle.std.proofs.Common.{◌≡◌, ℕ, suc, zero, List, [], ◌∷◌, Option, Some, drop, get_or, ap, ◌∙◌, refl, arith}
use Rattle.stateful_db.specs.Calls.{Calls, uncalled}
use Rattle.stateful_db.specs.Pair.{by_number}
use Rattle.stateful_db.specs.declared.database.DbCall.{DbCall}
use Rattle.stateful_bank_app.specs.Fresh.{AreUncalled}

-- one database
pub one_uncalled : (calls : ℕ → Option Calls) (failing : List (List (DbCall × ℕ)))
    → calls 0 ≡ Some (uncalled (get_or failing 0 [])) → AreUncalled 1 calls failing
one_uncalled calls failing first zero within = first
one_uncalled calls failing first (suc i) within = absurd (omega (arith, within))

later : (failing : List (List (DbCall × ℕ))) (i : ℕ) → get_or (drop 1 failing) i [] ≡ get_or failing (suc i) []
later [] i = refl
later (list ∷ lists) i = refl

-- one database, and those behind it
pub both_uncalled : (calls : Option Calls) (others : ℕ → Option Calls) (count : ℕ) (failing : List (List (DbCall × ℕ)))
    → calls ≡ Some (uncalled (get_or failing 0 [])) → AreUncalled count others (drop 1 failing)
    → AreUncalled (suc count) (by_number calls others) failing
both_uncalled calls others count failing first behind zero within = first
both_uncalled calls others count failing first behind (suc i) within =
    behind i (omega (arith, within)) ∙ ap (λ list. Some (uncalled list)) (later failing i)
