-- What a test that decides a fact shows.
use Rattle.std.proofs.Common.{◌≡◌, ◌↔◌, Bool, true, false, sym, subst, IsTrue}

-- a test that is false refutes what it decides
pub refuted : {A : Type 0} (T : A → Type 0) (r : Bool) (x y : A) → x ≡ y → (IsTrue r ↔ T x) → r ≡ false → T y → ⊥
refuted {A = A} T r x y e is f t = let k : IsTrue r = is.1 (subst T (sym e) t) in cc

-- a test that is true shows it
pub shown : {A : Type 0} (T : A → Type 0) (r : Bool) (x y : A) → x ≡ y → (IsTrue r ↔ T x) → r ≡ true → T y
shown {A = A} T r x y e is t = subst T e (is.0 t)
