-- What is answered to a request.
use Rattle.std.specs.Prelude.{◌≡◌, ℕ, ◌+◌, List, Contains, replicate}
use Rattle.stateful_types.specs.declared.request.Request.{Request}
use Rattle.stateful_types.specs.declared.request.Request.TheVariants as asks
use Rattle.stateful_types.specs.declared.response.Response.{Response}
use Rattle.stateful_types.specs.declared.response.Response.TheVariants as told
use Rattle.stateful_db.specs.Disk.{Disk, all}
use Rattle.stateful_db_plain.specs.Whole.{Whole}

-- the state of a kept checkpoint, whose range has this end
pub record IsKept (d : Disk Whole) (end : ℕ) (w : Whole) : Type 0 where
  pub kept : Contains (all d) w
  pub size : w.size ≡ end

-- a request asks for the last location of this state, which is kept
abbrev pub AsksFor : Disk Whole → Request → Whole → Type 0
AsksFor d (asks.Operations size start max_ops) w = ⊥
AsksFor d (asks.Boundary size start) w = (start.0 + 1 ≡ size.0) × IsKept d size.0 w

-- the entries of a state, with 32 bytes that are 0 before them
abbrev pub response_of : Whole → Response (List (ℕ × ℕ))
response_of w = told.Boundary (record { 0 = replicate 32 0 }) w.entries
