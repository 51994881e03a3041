-- How long messages between resolvers are.
use Rattle.std.proofs.Common.{ℕ, ◌+◌, ◌*◌, ◌≤◌, List, [], ◌∷◌, ◌++◌, length, All, arith, length-append}
use Rattle.std.specs.List.{flat_map}
use Rattle.std.specs.Prelude.{max}
use Rattle.std.specs.Int.{w32, w64, to_be_bytes}
use Rattle.std.specs.Int.NonZero.{non_zero_u64_get}
use Rattle.std.proofs.lemmas.List.Elements.{All-head, All-tail}
use Rattle.std.proofs.Math.Nat.{suc-mul, mul-le-mul_right}
use Rattle.stateful_base.specs.Format.{Format}
use Rattle.stateful_base.specs.FixedLaws.{wide32, wide64}
use Rattle.stateful_types.specs.Request.{request_bytes}
use Rattle.stateful_types.specs.declared.request.Request.{Request}
use Rattle.stateful_types.specs.declared.request.Request.TheVariants as asked
use Rattle.stateful_types.specs.declared.response.Response.TheVariants.{Operations, Boundary}
use Rattle.stateful_p2p_codec.specs.Limits.{Payload, asks, answers, not_served, payload_bytes, payload_fits, IsShort, IsSmall, IsBounded}

most_right : (a b : ℕ) → b ≤ max a b
most_right a b = grind arith

most_left : (a b : ℕ) → a ≤ max a b
most_left a b = grind arith

short_request : (request : Request) → length (request_bytes request) ≤ 25
short_request (asked.Operations size start max_ops) =
    let a = to_be_bytes w64 size.0 in
    let b = to_be_bytes w64 start.0 in
    let c = to_be_bytes w64 (non_zero_u64_get max_ops) in
    let e = length-append (0 ∷ [] ++ a ++ b) c in
    let f = length-append (0 ∷ [] ++ a) b in
    let g = length-append (0 ∷ []) a in
    omega (arith, e, f, g, wide64.len size.0, wide64.len start.0, wide64.len (non_zero_u64_get max_ops))
short_request (asked.Boundary size start) =
    let a = to_be_bytes w64 size.0 in
    let b = to_be_bytes w64 start.0 in
    let f = length-append (1 ∷ [] ++ a) b in
    let g = length-append (1 ∷ []) a in
    omega (arith, f, g, wide64.len size.0, wide64.len start.0)

module _ {Op : Type 0} (operations : Format Op) where
  -- so many operations, each with at most so many bytes
  short_all : (op : ℕ) (list : List Op) → All (IsShort operations op) list → length (flat_map operations.spelling list) ≤ length list * op
  short_all op [] short = omega arith
  short_all op (x ∷ xs) short =
      let one = All-head (IsShort operations op) x xs short in
      let rest = short_all op xs (All-tail (IsShort operations op) x xs short) in
      let e = length-append (operations.spelling x) (flat_map operations.spelling xs) in
      let m = suc-mul (length xs) op in
      omega (arith, e, m, one, rest)

  short_payload : (most op : ℕ) (payload : Payload Op) → payload_fits operations payload → IsSmall operations most op payload → length (payload_bytes operations payload) ≤ 1 + max (5 + most * op) (33 + op)
  short_payload most op (asks request) fits small = omega (arith, short_request request, most_right (5 + most * op) (33 + op))
  short_payload most op not_served fits small = omega (arith, most_right (5 + most * op) (33 + op))
  short_payload most op (answers (Boundary before operation)) fits small =
      let e = length-append (1 ∷ [] ++ before.0) (operations.spelling operation) in
      let f = length-append (1 ∷ []) before.0 in
      omega (arith, e, f, fits.0.0, small, most_right (5 + most * op) (33 + op))
  short_payload most op (answers (Operations list)) fits small =
      let count = to_be_bytes w32 (length list) in
      let rest = flat_map operations.spelling list in
      let e = length-append (0 ∷ []) (count ++ rest) in
      let f = length-append count rest in
      let all = short_all op list small.1 in
      let m = mul-le-mul_right op small.0 in
      omega (arith, e, f, wide32.len (length list), all, m, most_left (5 + most * op) (33 + op))

  pub bounded : (most op : ℕ) → IsBounded operations most op
  bounded most op frame fits small =
      let e = length-append (to_be_bytes w64 frame.0) (payload_bytes operations frame.1) in
      omega (arith, e, wide64.len frame.0, short_payload most op frame.1 fits.1 small)
