-- Messages between resolvers in bytes, and how long they are.
use Rattle.std.specs.Prelude.{ℕ, ◌+◌, ◌*◌, ◌≤◌, max, List, [], ◌∷◌, ◌++◌, length, All}
use Rattle.stateful_base.specs.Format.{Format}
use Rattle.stateful_base.specs.Number.{u64_format}
use Rattle.stateful_types.specs.Request.{request_format}
use Rattle.stateful_types.specs.Response.{response_format}
use Rattle.stateful_types.specs.declared.request.Request.{Request}
use Rattle.stateful_types.specs.declared.response.Response.{Response}
use Rattle.stateful_types.specs.declared.response.Response.TheVariants.{Operations, Boundary}

-- how many bytes a message has at most, where no more than so many operations are served and each
-- has so many bytes at most
abbrev pub payload_size : ℕ → ℕ → ℕ
payload_size most op = 9 + max (5 + most * op) (33 + op)

-- what a message is: a request, a response, or that nothing is served
pub data Payload (Op : Type 0) : Type 0 where
  asks : Request → Payload Op
  answers : Response Op → Payload Op
  not_served : Payload Op

module _ {Op : Type 0} (operations : Format Op) where
  abbrev pub payload_fits : Payload Op → Type 0
  payload_fits (asks request) = request_format.fits request
  payload_fits (answers response) = (response_format operations).fits response
  payload_fits not_served = Unit {0}

  -- byte 0 and a request, byte 1 and a response, or byte 2
  abbrev pub payload_bytes : Payload Op → List ℕ
  payload_bytes (asks request) = 0 ∷ request_format.spelling request
  payload_bytes (answers response) = 1 ∷ (response_format operations).spelling response
  payload_bytes not_served = 2 ∷ []

  -- a number of eight bytes, and the payload
  abbrev pub frame_format : Format (ℕ × Payload Op)
  frame_format = record {
    fits = λ frame. u64_format.fits frame.0 × payload_fits frame.1;
    spelling = λ frame. u64_format.spelling frame.0 ++ payload_bytes frame.1;
  }

  -- the operation has at most so many bytes
  abbrev pub IsShort : ℕ → Op → Type 0
  IsShort op operation = length (operations.spelling operation) ≤ op

  -- no more operations than are served, each with at most so many bytes
  abbrev pub IsSmall : ℕ → ℕ → Payload Op → Type 0
  IsSmall most op (asks request) = Unit {0}
  IsSmall most op (answers (Operations list)) = (length list ≤ most) × All (IsShort op) list
  IsSmall most op (answers (Boundary before operation)) = IsShort op operation
  IsSmall most op not_served = Unit {0}

  -- no message with such a payload is longer than the formula says
  abbrev pub IsBounded : ℕ → ℕ → Type 0
  IsBounded most op =
      (frame : ℕ × Payload Op)
      → frame_format.fits frame
      → IsSmall most op frame.1
      → length (frame_format.spelling frame) ≤ payload_size most op
