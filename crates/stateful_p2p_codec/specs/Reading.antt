-- What the bytes of a delivery are.
use Rattle.std.specs.Prelude.{◌≡◌, ℕ, Option, Result, Ok, Err, List, ◌⊎◌}
use Rattle.std.specs.Option.{MatchOption}
use Rattle.stateful_base.specs.Format.{Format}
use Rattle.stateful_types.specs.Response.{response_format, IsAllowed}
use Rattle.stateful_base.specs.declared.codec.CodecError.{CodecError}
use Rattle.stateful_base.specs.declared.codec.CodecError.TheVariants.{OutOfMemory}
use Rattle.stateful_types.specs.declared.request.Request.{Request}
use Rattle.stateful_types.specs.declared.request.Request.TheVariants as asked
use Rattle.stateful_types.specs.declared.response.Response.{Response}
use Rattle.stateful_types.specs.declared.response.Response.TheVariants.{Operations, Boundary}

-- the response is of the request's kind: operations, or a boundary
abbrev pub IsOfKind : {Op : Type 0} → Request → Response Op → Type 0
IsOfKind (asked.Operations size start max_ops) (Operations operations) = Unit {0}
IsOfKind (asked.Operations size start max_ops) (Boundary before op) = ⊥
IsOfKind (asked.Boundary size start) (Operations operations) = ⊥
IsOfKind (asked.Boundary size start) (Boundary before op) = Unit {0}

-- The bytes are a response to the key, and nothing else: it is of the key's kind, and has no more
-- operations than were asked for.
pub record IsResponse {Op : Type 0} (operations : Format Op) (key : Request) (bytes : List ℕ)
    (response : Response Op) : Type 0 where
  pub fits : (response_format operations).fits response
  pub whole : bytes ≡ (response_format operations).spelling response
  pub allowed : IsAllowed key response
  pub kind : IsOfKind key response

-- what was read: the response that the bytes are, or none where they are no response to the key
abbrev pub IsReadAs : {Op : Type 0} → Format Op → Request → List ℕ → Option (Response Op) → Type 0
IsReadAs operations key bytes found =
    MatchOption found ((response : Response _) → IsResponse operations key bytes response → ⊥)
    (IsResponse operations key bytes)

-- the bytes are a response, and nothing else, with no more operations than were asked for
pub record IsWhole {Op : Type 0} (operations : Format Op) (key : Request) (bytes : List ℕ)
    (response : Response Op) : Type 0 where
  pub fits : (response_format operations).fits response
  pub whole : bytes ≡ (response_format operations).spelling response
  pub allowed : IsAllowed key response

-- what a reader of whole responses answered: the one that the bytes are, and an error only where
-- they are none, or for want of memory
abbrev pub IsWholeAs : {Op : Type 0}
    → Format Op
    → Request
    → List ℕ
    → Result (Response Op) CodecError
    → Type 0
IsWholeAs operations key bytes (Ok response) =
    IsWhole operations key bytes response
    × ((other : Response _) → IsWhole operations key bytes other → other ≡ response)
IsWholeAs operations key bytes (Err error) =
    (error ≡ OutOfMemory) ⊎ ((response : Response _) → IsWhole operations key bytes response → ⊥)
