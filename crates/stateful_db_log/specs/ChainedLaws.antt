-- The digest behind lists of operations that are joined.
use Rattle.std.proofs.Common.{◌≡◌, ℕ, List, [], ◌∷◌, ◌++◌, refl}
use Rattle.stateful_base.specs.declared.digest.Digest.{Digest}
use Rattle.stateful_db_log.specs.Chained.{linked, chained}

module _ {Op : Type 0} (spell : Op → List ℕ) where
  pub chained-append : (d : Digest) (xs ys : List Op)
      → chained spell d (xs ++ ys) ≡ chained spell (chained spell d xs) ys
  chained-append d [] ys = refl
  chained-append d (x ∷ xs) ys = chained-append (linked d (spell x)) xs ys
