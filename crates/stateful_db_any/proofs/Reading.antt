-- what reads through sealed batches say
use Rattle.std.proofs.Common.{◌≡◌, ℕ, ◌+◌, ◌-◌, ◌≤◌, ◌<◌, nat_lt, inl, inr, true, List, [], ◌∷◌, ◌++◌, length, drop, None, refl, sym, ap, ◌∙◌, subst, arith, slice_get, length-drop, length-append}
use Rattle.std.specs.Bool.{if◌then◌else◌}
use Rattle.std.specs.Option.{option_map}
use Rattle.std.specs.declared.cmp.Ordering.{Ordering}
use Rattle.std.specs.Cmp.{IsTotalOrder}
use Rattle.stateful_db.specs.CheckpointLaws.{slice_get-drop}
use Rattle.stateful_base.specs.declared.target.Target.{Target}
use Rattle.stateful_db_log.specs.Logs.{extended}
use Rattle.stateful_db_overlay.specs.Chains.{Leads}
use Rattle.stateful_db_any.specs.declared.op.AnyOp.{AnyOp}
use Rattle.stateful_db_any.specs.Live.{last_write, stays, passed}
use Rattle.stateful_db_any.specs.Any.{State, size_of, IsWhole, live_at, after}
use Rattle.stateful_db_any.specs.Through.{Written, Change, op_over, op_through, place_over, place_through, IsIndexed}
use Rattle.stateful_db_any.specs.Shown.{After}
use Rattle.stateful_db_log.proofs.Slices.{cases, test-true, test-false, slice_get-front, slice_get-back}
use Rattle.stateful_db_any.proofs.Writes.{last_write-append, last_write-passed, passed-le, first_stays}

module _ {K V : Type 0} {cmp : K → K → Ordering} (total : IsTotalOrder cmp) where
  -- where a key was written last behind more operations
  pub place_more : (s : State K V) (w : Written K V) (key : K) → IsWhole s → w.from ≡ size_of s → IsIndexed cmp w
      → option_map (λ x. x.0) (last_write cmp key s.target.start.0 (s.kept ++ w.ops) None) ≡ place_over cmp w key (option_map (λ x. x.0) (live_at cmp s key))
  place_more s w key whole from indexed =
      let at : s.target.start.0 + length s.kept ≡ w.from = whole ∙ sym from in
      ap (λ o. option_map (λ (x : ℕ × V). x.0) o)
      (last_write-append cmp key s.target.start.0 s.kept w.ops None ∙ ap (λ n. last_write cmp key n w.ops (live_at cmp s key)) at)
      ∙ indexed key (live_at cmp s key)

  -- the operation at a location, among a state's and more behind them
  pub op_more : (s : State K V) (w : Written K V) (at : ℕ) → IsWhole s → w.from ≡ size_of s → s.target.start.0 ≤ at
      → op_over w at (slice_get s.kept (at - s.target.start.0)) ≡ slice_get (s.kept ++ w.ops) (at - s.target.start.0)
  op_more s w at whole from low =
      let i = at - s.target.start.0 in
      elim (cases (nat_lt at w.from)) [
        | inl before ↦
            let less = test-true at w.from before in
            ap (λ b. if b then slice_get s.kept i else slice_get w.ops (at - w.from)) before
            ∙ sym (slice_get-front s.kept w.ops i (omega (arith, whole)))
        | inr behind ↦
            let le = test-false at w.from behind in
            let same : i ≡ length s.kept + (at - w.from) = omega (arith, whole) in
            ap (λ b. if b then slice_get s.kept i else slice_get w.ops (at - w.from)) behind
            ∙ sym (ap (λ n. slice_get (s.kept ++ w.ops) n) same ∙ slice_get-back s.kept w.ops (at - w.from))
      ]

module _ {K V : Type 0} {cmp : K → K → Ordering} (total : IsTotalOrder cmp) (spell_key : K → List ℕ) (spell_value : V → List ℕ) where
  -- behind operations the range has the operations that are kept
  pub kept_after : (s : State K V) (more : List (AnyOp K V)) → (after cmp spell_key spell_value s more).kept ≡ drop (passed cmp (s.kept ++ more)) (s.kept ++ more)
  kept_after s more =
      let n = passed cmp (s.kept ++ more) in
      let same : s.target.start.0 + n - s.target.start.0 ≡ n = omega arith in
      ap (λ m. drop m (s.kept ++ more)) same

  pub whole_after : (s : State K V) (more : List (AnyOp K V)) → IsWhole s → IsWhole (after cmp spell_key spell_value s more)
  whole_after s more whole =
      let n = passed cmp (s.kept ++ more) in
      omega (arith, whole, ap length (kept_after s more), length-drop n (s.kept ++ more), length-append s.kept more, passed-le cmp (s.kept ++ more))

  pub live_after : (s : State K V) (more : List (AnyOp K V)) (key : K) → live_at cmp (after cmp spell_key spell_value s more) key ≡ last_write cmp key s.target.start.0 (s.kept ++ more) None
  live_after s more key =
      let n = passed cmp (s.kept ++ more) in
      ap (λ xs. last_write cmp key (s.target.start.0 + n) xs None) (kept_after s more)
      ∙ last_write-passed total key s.target.start.0 (s.kept ++ more)

  pub begins_with : (s : State K V) (more : List (AnyOp K V)) → 0 < length (s.kept ++ more) → (op : AnyOp K V) × ((later : List (AnyOp K V)) × (((after cmp spell_key spell_value s more).kept ≡ op ∷ later) × (stays cmp op later ≡ true)))
  begins_with s more some =
      let (op, (later, (is, stay))) = first_stays cmp (s.kept ++ more) some in
      (op, (later, (kept_after s more ∙ is, stay)))

  -- the last writes behind more operations, and then from the first that has to be kept on
  pub extended_live : (s : State K V) (more : List (AnyOp K V)) (range : Target) (from : ℕ) (key : K) → IsWhole s → from ≡ size_of s → range.start.0 ≡ s.target.start.0 + passed cmp (s.kept ++ more)
      → live_at cmp (extended s more range) key ≡ last_write cmp key from more (live_at cmp s key)
  extended_live s more range from key whole at start =
      let n = passed cmp (s.kept ++ more) in
      let first = s.target.start.0 in
      let dropped : range.start.0 - first ≡ n = omega (arith, start) in
      let joint : first + length s.kept ≡ from = whole ∙ sym at in
      ap (λ m. last_write cmp key m (drop (range.start.0 - first) (s.kept ++ more)) None) start
      ∙ ap (λ m. last_write cmp key (first + n) (drop m (s.kept ++ more)) None) dropped
      ∙ last_write-passed total key first (s.kept ++ more)
      ∙ last_write-append cmp key first s.kept more None
      ∙ ap (λ m. last_write cmp key m more (live_at cmp s key)) joint

  -- the state behind a sealed batch
  pub after_is : (l : Change K V) (s t : State K V) → After cmp spell_key spell_value l s t → extended s l.written.ops l.target ≡ t
  after_is l s t h = ap (λ (r : Target). extended s l.written.ops r) (h.1.1.1 ∙ ap (λ (x : State K V). x.target) h.1.1.0) ∙ sym h.1.1.0

  abbrev Step : Change K V → State K V → State K V → Type 0
  Step = After cmp spell_key spell_value

  -- what holds of the state to which sealed batches lead
  pub record Reads (ls : List (ℕ × Change K V)) (s t : State K V) : Type 0 where
    pub whole : IsWhole t
    pub low : s.target.start.0 ≤ t.target.start.0
    pub place : (key : K) → place_through cmp ls key (option_map (λ x. x.0) (live_at cmp s key)) ≡ option_map (λ x. x.0) (live_at cmp t key)
    pub op : (at : ℕ) → t.target.start.0 ≤ at → op_through ls at (slice_get s.kept (at - s.target.start.0)) ≡ slice_get t.kept (at - t.target.start.0)

  step : (l : ℕ × Change K V) (ls : List (ℕ × Change K V)) (s u t : State K V) → Reads ls s u → Step l.1 u t → Reads (l ∷ ls) s t
  step l ls s u t reads after_is =
      let w = l.1.written in
      let next = after cmp spell_key spell_value u w.ops in
      let n = passed cmp (u.kept ++ w.ops) in
      let P : State K V → Type 0 = λ x. Reads (l ∷ ls) s x in
      subst P (sym after_is.1.1.0) (record {
        whole = whole_after u w.ops reads.whole;
        low = omega (arith, reads.low);
        place = λ key.
            ap (λ below. place_over cmp w key below) (reads.place key)
            ∙ sym (ap (λ o. option_map (λ (x : ℕ × V). x.0) o) (live_after u w.ops key) ∙ place_more total u w key reads.whole after_is.0 after_is.1.0);
        op = λ at le.
            let low : u.target.start.0 ≤ at = omega (arith, le) in
            let place : n + (at - (u.target.start.0 + n)) ≡ at - u.target.start.0 = omega (arith, le) in
            ap (λ below. op_over w at below) (reads.op at low)
            ∙ op_more total u w at reads.whole after_is.0 low
            ∙ sym (ap (λ xs. slice_get xs (at - (u.target.start.0 + n))) (kept_after u w.ops)
            ∙ slice_get-drop n (at - (u.target.start.0 + n)) (u.kept ++ w.ops)
            ∙ ap (λ m. slice_get (u.kept ++ w.ops) m) place);
      })

  pub reads_through : (ls : List (ℕ × Change K V)) (s t : State K V) → Leads Step ls s t → IsWhole s → Reads ls s t
  reads_through [] s t leads whole =
      let P : State K V → Type 0 = λ x. Reads [] s x in
      subst P (sym leads) (record { whole = whole; low = omega arith; place = λ key. refl; op = λ at le. refl })
  reads_through (l ∷ ls) s t leads whole = step l ls s leads.0 t (reads_through ls s leads.0 leads.1.0 whole) leads.1.1
