-- What a database that is kept as a log answers to a request.
use Rattle.std.specs.Prelude.{◌≡◌, ℕ, ◌+◌, ◌-◌, ◌<◌, ◌≤◌, min, slice_get, Some}
use Rattle.std.specs.Int.NonZero.{non_zero_u64_get}
use Rattle.stateful_base.specs.declared.digest.Digest.{Digest}
use Rattle.stateful_types.specs.declared.request.Request.{Request}
use Rattle.stateful_types.specs.declared.request.Request.TheVariants as asks
use Rattle.stateful_types.specs.declared.response.Response.{Response}
use Rattle.stateful_types.specs.declared.response.Response.TheVariants as told
use Rattle.stateful_db_log.specs.Between.{between}
use Rattle.stateful_db_log.specs.Held.{Held, end_of, digest_at}

module _ {Op : Type 0} where
  -- the operation at a start is held, and each behind it up to a size
  pub record HoldsFrom (h : Held Op) (size start : ℕ) : Type 0 where
    pub low : h.first ≤ start
    pub ranged : start < size
    pub high : size ≤ end_of h

  -- what is asked for is held
  abbrev pub IsHeld : Held Op → Request → Type 0
  IsHeld h (asks.Operations size start max_ops) = HoldsFrom h size.0 start.0
  IsHeld h (asks.Boundary size start) = HoldsFrom h size.0 start.0

module _ {Op : Type 0} (link : ℕ → Digest → Op → Digest) where
  -- The operations from the start on, as many as are asked for or as there are up to the size; or
  -- the operation at the start with the digest before it.
  abbrev pub Answers : Held Op → Request → Response Op → Type 0
  Answers h (asks.Operations size start max_ops) response =
      let count = min (non_zero_u64_get max_ops) (size.0 - start.0) in
      response ≡ told.Operations (between h.first h.ops start.0 (start.0 + count))
  Answers h (asks.Boundary size start) response =
      (op : Op)
      × (slice_get h.ops (start.0 - h.first) ≡ Some op)
      × (response ≡ told.Boundary (digest_at link h start.0) op)
