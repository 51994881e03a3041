-- What is found has a property, where something is found.
use Rattle.std.proofs.Common.{◌≡◌, Bool, true, false, cond, Option, Some, None, option_and_then, option_map, refl, subst}
use Rattle.std.proofs.lemmas.Option.{option_and_then_some, same_Some}

module _ {A : Type 0} (P : A → Type 0) where
  abbrev pub Has : Option A → Type 0
  Has o = (a : A) → o ≡ Some a → P a

  pub nothing : Has None
  nothing a h = absurd (cc)

  pub this : (a : A) → P a → Has (Some a)
  this a p b h = subst P (same_Some a b h) p

  -- by a test
  pub chosen : (b : Bool) (x y : Option A) → (b ≡ true → Has x) → (b ≡ false → Has y) → Has (cond b x y)
  chosen true x y first second = first refl
  chosen false x y first second = second refl

  pub where_true : (b : Bool) (x : Option A) → (b ≡ true → Has x) → Has (cond b x None)
  where_true b x first = chosen b x None first (λ no. nothing)

  -- by what was found before
  pub bound : {B : Type 0} (f : B → Option A) (o : Option B) → ((b : B) → o ≡ Some b → Has (f b)) → Has (option_and_then f o)
  bound f o each a h = option_and_then_some f o a h (λ b is here. each b is a here)

  pub mapped : {B : Type 0} (f : B → A) (o : Option B) → ((b : B) → o ≡ Some b → P (f b)) → Has (option_map f o)
  mapped f None each = nothing
  mapped f (Some b) each = this (f b) (each b refl)
