-- What a sync of a database has fetched, what it asks for next, and what a response adds to it.
use Rattle.std.specs.Prelude.{◌≡◌, ℕ, ◌+◌, ◌-◌, ◌<◌, ◌&&◌, ◌==◌, min, length, Bool, true}
use Rattle.std.specs.Prelude.{is_some, List, [], ◌∷◌, ◌++◌, Option, Some, None}
use Rattle.std.specs.Int.NonZero.{non_zero_u64_get}
use Rattle.std.specs.declared.num.NonZeroU64.{NonZeroU64}
use Rattle.stateful_base.specs.declared.digest.Digest.{Digest}
use Rattle.stateful_base.specs.declared.target.Target.{Target}
use Rattle.stateful_types.specs.declared.request.Request.{Request}
use Rattle.stateful_types.specs.declared.request.Request.TheVariants as asks
use Rattle.stateful_types.specs.declared.response.Response.{Response}
use Rattle.stateful_types.specs.declared.response.Response.TheVariants as told
use Rattle.stateful_db_log.specs.Linking.{behind}
use Rattle.stateful_db_pass.specs.declared.pass.Fetches.{Fetches}
use Rattle.stateful_db_pass.specs.declared.pass.Fetches.TheVariants.{Latest, Range}

-- the target, what is fetched toward it, the digest before the range once it is there, and the
-- operations that are there, from the start of the range on
pub record Fetched (Op : Type 0) : Type 0 where
  pub target : Target
  pub fetches : Fetches
  pub before : Option Digest
  pub ops : List Op

module _ {Op : Type 0} where
  -- a sync toward this target that has fetched nothing
  abbrev pub toward : Target → Fetches → Fetched Op
  toward target fetches =
      record { target = target; fetches = fetches; before = None; ops = [] }

  -- the same sync begins anew
  abbrev pub anew : Fetched Op → Fetched Op
  anew p = toward p.target p.fetches

  -- how many operations the range has
  abbrev pub count : Fetched Op → ℕ
  count p = p.target.end.0 - p.target.start.0

  -- how many of them lack
  abbrev pub lacking : Fetched Op → ℕ
  lacking p = count p - length p.ops

  -- the digest before the range is there, and each of its operations
  abbrev pub is_reached : Fetched Op → Bool
  is_reached p = is_some p.before && (length p.ops == count p)

  -- the digest before the range, and its first operation
  abbrev pub boundary : Fetched Op → Request
  boundary p = asks.Boundary p.target.end p.target.start

  -- so many operations at most, behind those that are there
  abbrev pub further : Fetched Op → NonZeroU64 → Request
  further p batch =
      asks.Operations p.target.end (record { 0 = p.target.start.0 + length p.ops }) batch

  abbrev pub request_with : Fetched Op → Option Digest → Fetches → Request
  request_with p None fetches = boundary p
  request_with p (Some before) Latest = boundary p
  request_with p (Some before) (Range batch) = further p batch

  -- what is asked for next
  abbrev pub request : Fetched Op → Request
  request p = request_with p p.before p.fetches

module _ {Op : Type 0} (alone : Op → Bool) where
  -- An operation with the digest before it is what was asked for: the only one of the range, from
  -- which alone a database can be made; or the first one of a range that isn't empty.
  abbrev pub FitsBoundary : Fetched Op → Option Digest → Fetches → Op → Type 0
  FitsBoundary p (Some before) fetches op = ⊥
  FitsBoundary p None Latest op =
      (p.target.start.0 + 1 ≡ p.target.end.0) × (alone op ≡ true)
  FitsBoundary p None (Range batch) op = p.target.start.0 < p.target.end.0

  -- operations are what was asked for: as many as a batch has, or as many as lack
  abbrev pub FitsOperations : Fetched Op → Option Digest → Fetches → List Op → Type 0
  FitsOperations p None fetches ops = ⊥
  FitsOperations p (Some before) Latest ops = ⊥
  FitsOperations p (Some before) (Range batch) ops =
      length ops ≡ min (non_zero_u64_get batch) (lacking p)

  -- the response is of the kind and of the length that was asked for
  abbrev pub Fits : Fetched Op → Response Op → Type 0
  Fits p (told.Boundary before op) = FitsBoundary p p.before p.fetches op
  Fits p (told.Operations operations) = FitsOperations p p.before p.fetches operations

module _ {Op : Type 0} where
  -- the digest before the range is there, and these operations more
  abbrev pub added : Fetched Op → Digest → List Op → Fetched Op
  added p before ops = record p { before = Some before; ops = p.ops ++ ops }

  -- what counts of an operation that comes with the digest before the range: it is all that is
  -- fetched, or it comes once more with the others
  abbrev pub first_ops : Fetches → Op → List Op
  first_ops Latest op = op ∷ []
  first_ops (Range batch) op = []

  -- what is there with a response that fits
  abbrev pub with_response : Fetched Op → Response Op → Fetched Op
  with_response p (told.Boundary before op) = added p before (first_ops p.fetches op)
  with_response p (told.Operations operations) = record p { ops = p.ops ++ operations }

module _ {Op : Type 0} (linked : ℕ → Digest → Op → Digest) where
  -- the operations that are there lead from the digest before the range to the target's root
  abbrev pub Leads : Fetched Op → Type 0
  Leads p = (before : Digest)
      × (p.before ≡ Some before)
      × (behind linked p.target.start.0 before p.ops ≡ p.target.root)
