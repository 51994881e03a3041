-- Formats whose first byte says which case it is.
use Rattle.std.specs.Prelude.{◌≡◌, ℕ, ◌<◌, ◌^◌, ◌⊎◌, List, [], ◌∷◌}
use Rattle.std.proofs.Common.{inl, inr}
use Rattle.stateful_base.specs.Format.{Format, IsFormat}

-- no bytes
abbrev pub nothing : Format (Unit {0})
nothing = record { fits = λ _. Unit {0}; spelling = λ _. [] }

-- a byte, and a value behind it
abbrev pub tagged : {A : Type 0} → ℕ → Format A → Format A
tagged tag f = record { fits = f.fits; spelling = λ a. tag ∷ f.spelling a }

module _ {A B : Type 0} (f : Format A) (g : Format B) where
  abbrev pub either_fits : A ⊎ B → Type 0
  either_fits (inl a) = f.fits a
  either_fits (inr b) = g.fits b

  abbrev pub either_bytes : A ⊎ B → List ℕ
  either_bytes (inl a) = f.spelling a
  either_bytes (inr b) = g.spelling b

  -- a value of one format or of the other
  abbrev pub either : Format (A ⊎ B)
  either = record { fits = either_fits; spelling = either_bytes }

-- two cases, each with its byte and the format of what is behind it
abbrev pub two_cases : {A B : Type 0} → ℕ → Format A → ℕ → Format B → Format (A ⊎ B)
two_cases tag f other g = either (tagged tag f) (tagged other g)

-- a format whose spellings begin with one of these bytes
pub record IsTaggedBy {X : Type 0} (whole : Format X) (IsTag : ℕ → Type 0) : Type 0 where
  pub law : IsFormat whole
  pub begins : (x : X)
      → whole.fits x
      → (tag : ℕ) × (rest : List ℕ) × IsTag tag × (whole.spelling x ≡ tag ∷ rest)
  pub bytes : (tag : ℕ) → IsTag tag → tag < 2 ^ 8
