-- what reads through sealed batches say
use Rattle.std.proofs.Common.{◌≡◌, ℕ, ◌+◌, ◌-◌, ◌≤◌, nat_lt, inl, inr, List, [], ◌∷◌, ◌++◌, length, drop, refl, sym, ap, ◌∙◌, subst, arith, slice_get, length-drop, length-append}
use Rattle.std.specs.Bool.{if◌then◌else◌}
use Rattle.stateful_db.specs.CheckpointLaws.{slice_get-drop}
use Rattle.stateful_db_log.proofs.Slices.{cases, test-true, test-false, slice_get-front, slice_get-back}
use Rattle.stateful_db_overlay.specs.Chains.{Leads}
use Rattle.stateful_db_compact.specs.declared.op.KeylessOp.{KeylessOp}
use Rattle.stateful_db_keyless.specs.declared.keyless.batch.KeylessChanges.{KeylessChanges}
use Rattle.stateful_db_keyless.specs.Keyless.{State, size_of}
use Rattle.stateful_db_keyless.specs.KeylessShown.{After}
use Rattle.stateful_db_keyless.specs.Through.{IsWhole, op_over, op_through}

module _ {V : Type 0} where
  -- the operation at a location, among a state's and more behind them
  pub op_more : (s : State V) (from : ℕ) (ops : List (KeylessOp V)) (at : ℕ) → IsWhole s → from ≡ size_of s → s.target.start.0 ≤ at
      → op_over from ops at (slice_get s.kept (at - s.target.start.0)) ≡ slice_get (s.kept ++ ops) (at - s.target.start.0)
  op_more s from ops at whole begins low =
      let i = at - s.target.start.0 in
      elim (cases (nat_lt at from)) [
        | inl before ↦
            let less = test-true at from before in
            ap (λ b. if b then slice_get s.kept i else slice_get ops (at - from)) before
            ∙ sym (slice_get-front s.kept ops i (omega (arith, whole)))
        | inr behind ↦
            let le = test-false at from behind in
            let same : i ≡ length s.kept + (at - from) = omega (arith, whole) in
            ap (λ b. if b then slice_get s.kept i else slice_get ops (at - from)) behind
            ∙ sym (ap (λ n. slice_get (s.kept ++ ops) n) same ∙ slice_get-back s.kept ops (at - from))
      ]

  -- a state has the operations of the one before and those behind them, from its floor on
  pub kept_from : (ch : KeylessChanges V) (s t : State V) (at : ℕ) → After ch s t → t.target.start.0 ≤ at
      → slice_get t.kept (at - t.target.start.0) ≡ slice_get (s.kept ++ ch.ops.items) (at - s.target.start.0)
  kept_from ch s t at h le =
      let start : t.target.start.0 ≡ ch.target.start.0 = ap (λ (x : State V). x.target.start.0) h.1.0 in
      let n = ch.target.start.0 - s.target.start.0 in
      let place : n + (at - t.target.start.0) ≡ at - s.target.start.0 = omega (arith, start, le, h.1.1.1.0) in
      ap (λ (x : State V). slice_get x.kept (at - t.target.start.0)) h.1.0
      ∙ slice_get-drop n (at - t.target.start.0) (s.kept ++ ch.ops.items)
      ∙ ap (λ m. slice_get (s.kept ++ ch.ops.items) m) place

  -- what holds of the state to which sealed batches lead
  pub record Reads (ls : List (ℕ × KeylessChanges V)) (s t : State V) : Type 0 where
    pub whole : IsWhole t
    pub low : s.target.start.0 ≤ t.target.start.0
    pub op : (at : ℕ) → t.target.start.0 ≤ at → op_through ls at (slice_get s.kept (at - s.target.start.0)) ≡ slice_get t.kept (at - t.target.start.0)

  step : (l : ℕ × KeylessChanges V) (ls : List (ℕ × KeylessChanges V)) (s u t : State V) → Reads ls s u → After l.1 u t → Reads (l ∷ ls) s t
  step l ls s u t reads h =
      let n = l.1.target.start.0 - u.target.start.0 in
      let ops = l.1.ops.items in
      let start : t.target.start.0 ≡ l.1.target.start.0 = ap (λ (x : State V). x.target.start.0) h.1.0 in
      let end : t.target.end.0 ≡ l.1.target.end.0 = ap (λ (x : State V). x.target.end.0) h.1.0 in
      let kept : length t.kept ≡ length (drop n (u.kept ++ ops)) = ap (λ (x : State V). length x.kept) h.1.0 in
      record {
        whole = omega (arith, start, end, kept, length-drop n (u.kept ++ ops), length-append u.kept ops, h.1.1.0, h.1.1.1.0, h.1.1.1.1, reads.whole);
        low = omega (arith, reads.low, start, h.1.1.1.0);
        op = λ at le.
            let low : u.target.start.0 ≤ at = omega (arith, start, le, h.1.1.1.0) in
            ap (λ below. op_over l.1.from ops at below) (reads.op at low)
            ∙ op_more u l.1.from ops at reads.whole h.0 low
            ∙ sym (kept_from l.1 u t at h le);
      }

  pub reads_through : (ls : List (ℕ × KeylessChanges V)) (s t : State V) → Leads After ls s t → IsWhole s → Reads ls s t
  reads_through [] s t leads whole =
      let P : State V → Type 0 = λ x. Reads [] s x in
      subst P (sym leads) (record { whole = whole; low = omega arith; op = λ at le. refl })
  reads_through (l ∷ ls) s t leads whole = step l ls s leads.0 t (reads_through ls s leads.0 leads.1.0 whole) leads.1.1
