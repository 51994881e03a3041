-- Requests of a sync in bytes, and their order.
use Rattle.std.specs.Prelude.{ℕ, List, [], ◌∷◌, ◌++◌}
use Rattle.std.specs.declared.cmp.Ordering.{Ordering}
use Rattle.std.specs.declared.cmp.Ordering.TheVariants.{Less, Greater}
use Rattle.std.specs.Ordering.{nat_cmp, ordering_then}
use Rattle.std.specs.Int.NonZero.{non_zero_u64_get}
use Rattle.stateful_base.specs.Format.{Format}
use Rattle.stateful_base.specs.Number.{nonzero_format, location_format}
use Rattle.stateful_types.specs.declared.request.Request.{Request}
use Rattle.stateful_types.specs.declared.request.Request.TheVariants.{Operations, Boundary}

abbrev pub request_fits : Request → Type 0
request_fits (Operations size start max_ops) =
    location_format.fits size × location_format.fits start × nonzero_format.fits max_ops
request_fits (Boundary size start) = location_format.fits size × location_format.fits start

-- byte 0 and three numbers, or byte 1 and two
abbrev pub request_bytes : Request → List ℕ
request_bytes (Operations size start max_ops) =
    0 ∷ [] ++ location_format.spelling size ++ location_format.spelling start
    ++ nonzero_format.spelling max_ops
request_bytes (Boundary size start) =
    1 ∷ [] ++ location_format.spelling size ++ location_format.spelling start

abbrev pub request_format : Format Request
request_format = record { fits = request_fits; spelling = request_bytes }

-- the order of requests: by their kind, those for operations first, and then by their numbers
abbrev pub request_cmp : Request → Request → Ordering
request_cmp (Operations size start max_ops) (Operations size' start' max_ops') =
    ordering_then (nat_cmp size.0 size'.0)
    (ordering_then (nat_cmp start.0 start'.0)
    (nat_cmp (non_zero_u64_get max_ops) (non_zero_u64_get max_ops')))
request_cmp (Operations size start max_ops) (Boundary size' start') = Less
request_cmp (Boundary size start) (Operations size' start' max_ops') = Greater
request_cmp (Boundary size start) (Boundary size' start') =
    ordering_then (nat_cmp size.0 size'.0) (nat_cmp start.0 start'.0)
