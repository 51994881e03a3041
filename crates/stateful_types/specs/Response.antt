-- Responses of a sync in bytes.
use Rattle.std.specs.Prelude.{◌≡◌, ℕ, ◌≤◌, List, [], ◌∷◌, ◌++◌, length}
use Rattle.std.specs.Int.NonZero.{non_zero_u64_get}
use Rattle.stateful_base.specs.Format.{Format}
use Rattle.stateful_base.specs.Number.{u32_format}
use Rattle.stateful_types.specs.Items.{items_format}
use Rattle.stateful_base.specs.Digest.{digest_format}
use Rattle.stateful_types.specs.declared.request.Request.{Request}
use Rattle.stateful_types.specs.declared.request.Request.TheVariants as asked
use Rattle.stateful_types.specs.declared.response.Response.{Response}
use Rattle.stateful_types.specs.declared.response.Response.TheVariants.{Operations, Boundary}

abbrev pub response_fits : {Op : Type 0} → Format Op → Response Op → Type 0
response_fits op (Operations operations) = (items_format op).fits operations
response_fits op (Boundary before operation) = digest_format.fits before × op.fits operation

-- byte 0, the number of operations and each of them, or byte 1, the digest and the operation
abbrev pub response_bytes : {Op : Type 0} → Format Op → Response Op → List ℕ
response_bytes op (Operations operations) = 0 ∷ [] ++ (items_format op).spelling operations
response_bytes op (Boundary before operation) =
    1 ∷ [] ++ digest_format.spelling before ++ op.spelling operation

abbrev pub response_format : {Op : Type 0} → Format Op → Format (Response Op)
response_format op = record { fits = response_fits op; spelling = response_bytes op }

-- a request allows as many operations as it asks for, and one for a boundary any number
abbrev pub Allows : Request → ℕ → Type 0
Allows (asked.Operations size start max_ops) count = count ≤ non_zero_u64_get max_ops
Allows (asked.Boundary size start) count = Unit {0}

-- the response's number of operations is one that the request allows
abbrev pub IsAllowed : {Op : Type 0} → Request → Response Op → Type 0
IsAllowed request (Operations operations) = Allows request (length operations)
IsAllowed request (Boundary before operation) = Unit {0}

-- the bytes begin with byte 0 and a number of operations that the request doesn't allow
pub record HasTooMany (request : Request) (bytes : List ℕ) (count : ℕ) : Type 0 where
  pub rest : List ℕ
  pub fits : u32_format.fits count
  pub place : bytes ≡ 0 ∷ [] ++ u32_format.spelling count ++ rest
  pub many : Allows request count → ⊥
