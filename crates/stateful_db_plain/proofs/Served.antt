-- kept checkpoints by their ends
use Rattle.std.proofs.Common.{◌≡◌, ◌==◌, ℕ, true, Option, Some, None, slice_get, get_or, position, ◌+◌, MatchOption, subst, sym, ap, ◌∙◌, arith}
use Rattle.std.proofs.lemmas.Bool.Decides.{nat_tests}
use Rattle.std.proofs.lemmas.List.Quantifiers.{position-Some}
use Rattle.std.proofs.lemmas.Option.{slice_get-get_or, get_or_from_slice_get}
use Rattle.stateful_base.specs.declared.number.Location.{Location}
use Rattle.stateful_types.specs.declared.request.Request.{Request}
use Rattle.stateful_types.specs.declared.request.Request.TheVariants as asks
use Rattle.stateful_db.specs.CheckpointLaws.{position-passes}
use Rattle.stateful_db.specs.Disk.{Disk, all}
use Rattle.stateful_db_medium.specs.Mapped.{mapped, map-append_one, slice_get-map}
use Rattle.stateful_db_medium.specs.declared.checkpoints.Checkpoint.{Checkpoint}
use Rattle.stateful_db_plain.specs.Whole.{Whole}
use Rattle.stateful_db_plain.specs.Rooted.{state_of}
use Rattle.stateful_db_plain.specs.Serving.{IsKept, AsksFor}

passes : (w : Whole) (end : ℕ) → w.size ≡ end → (w.size == end) ≡ true
passes w end is = grind (arith, nat_tests)

is_end : (w : Whole) (end : ℕ) → (w.size == end) ≡ true → w.size ≡ end
is_end w end is = grind (arith, nat_tests)

-- where none passes, none with this end is kept
pub none_kept : (d : Disk Whole) (end : ℕ) (w : Whole) → position (λ (v : Whole). v.size == end) (all d) ≡ None → IsKept d end w → ⊥
none_kept d end w none kept =
    let (k, within, is) = kept.kept in
    let at : slice_get (all d) k ≡ Some w = slice_get-get_or (all d) k w within ∙ ap Some is in
    position-passes (λ (v : Whole). v.size == end) (all d) k w at (passes w end kept.size) none

-- the first that passes is kept, and has this end
pub kept_at : (d : Disk (Checkpoint Whole)) (end n : ℕ) (k : Checkpoint Whole) → position (λ (v : Whole). v.size == end) (all (mapped state_of d)) ≡ Some n → slice_get (all d) n ≡ Some k
    → IsKept (mapped state_of d) end (state_of k)
kept_at d end n k found at =
    let w = state_of k in
    let ws = all (mapped state_of d) in
    let here : slice_get ws n ≡ Some w = ap (λ xs. slice_get xs n) (sym (map-append_one state_of d.older d.newest)) ∙ slice_get-map state_of (all d) n k at in
    let first = position-Some (λ (v : Whole). v.size == end) ws n w found in
    let same : get_or ws n w ≡ w = get_or_from_slice_get ws n w w here in
    record {
      kept = (n, first.0, same);
      size = is_end w end (ap (λ (v : Whole). v.size == end) (sym same) ∙ first.1);
    }

-- a kept state is asked for by its last location
pub asks_kept : (d : Disk Whole) (r : Request) (size start : Location) (o : Option Whole) → r ≡ asks.Boundary size start → start.0 + 1 ≡ size.0
    → MatchOption o ((w : Whole) → IsKept d size.0 w → ⊥) (λ w. IsKept d size.0 w) → MatchOption o ((w : Whole) → AsksFor d r w → ⊥) (λ w. AsksFor d r w)
asks_kept d r size start None is last none = λ w asked.
    let P : Request → Type 0 = λ q. AsksFor d q w in
    let here : AsksFor d (asks.Boundary size start) w = subst P is asked in
    none w here.1
asks_kept d r size start (Some w) is last kept =
    let P : Request → Type 0 = λ q. AsksFor d q w in
    subst P (sym is) (last, kept)
