use Rattle.std.proofs.Common.{◌≡◌, ◌<◌, ◌≤◌, ℕ, suc, ◌+◌, ◌-◌, ◌^◌, List, Ok, Err, ap, sym, subst, ◌∙◌, arith}
use Rattle.stateful_base.proofs.Formats.{Met, met, reads, passed}
use Rattle.stateful_db_plain.specs.Bounded.{bounded_format}
use Rattle.stateful_db_plain.specs.Ops.{entries_format}
use Rattle.stateful_db_plain.specs.OpsLaws.{entries_alone}
use Rattle.stateful_db_plain.specs.Whole.{Whole}
use Rattle.stateful_db_plain.proofs.OpReads.{ReadsOn, greatest, reads_none, reads_key_err, reads_value_err, reads_memory, reads_more, reads_all, inserted}
use Rattle.stateful_db_plain.proofs.op.read_entries.Goals as goal

pub loop-left-init : goal.loop-left-init
loop-left-init c =
    let before = c.args.input.now in
    let P : List (ℕ × ℕ) → Type 0 = λ es. ReadsOn c.args.count before before es c.args.count 0 in
    subst P (sym c.new-entries.ensures.empty) (reads_none c.args.count before c.ranges.count.fits)

pub returns-in_err-key : goal.returns-in_err-key
returns-in_err-key c =
    let l = c.loop-left in
    let n = l.left - 1 in
    let count = c.args.count in
    let before = c.args.input.now in
    let after = c.read_bounded.new.input in
    let es = l.entries.entries in
    let left : l.left ≡ suc n = omega arith in
    let room : 0 + count ≤ 2 ^ 64 = omega (arith, c.ranges.count.fits) in
    let P : ℕ → Type 0 = λ p. ReadsOn count before l.input es p l.least in
    let Q : ℕ → Type 0 = λ k. Met (bounded_format l.least (2 ^ 64 - 1 - k)) (Err c.in_err-key.field-0.0) l.input after in
    passed (entries_format count 0) (entries_alone count 0 room) _ _ _ _ c.from_residual.ensures.1
    (reads_key_err count before l.input es n l.least (subst P left l.invariant) c.in_err-key.field-0.0 after (subst Q c.from.ensures (met c.in_err-key.ensures)))

pub returns-in_err-value : goal.returns-in_err-value
returns-in_err-value c =
    let l = c.loop-left in
    let n = l.left - 1 in
    let count = c.args.count in
    let before = c.args.input.now in
    let last = c.read_bounded.new.input in
    let es = l.entries.entries in
    let left : l.left ≡ suc n = omega arith in
    let room : 0 + count ≤ 2 ^ 64 = omega (arith, c.ranges.count.fits) in
    let P : ℕ → Type 0 = λ p. ReadsOn count before l.input es p l.least in
    let Q : ℕ → Type 0 = λ k. Met (bounded_format l.least (2 ^ 64 - 1 - k)) (Ok c.in_ok-key.key) l.input last in
    passed (entries_format count 0) (entries_alone count 0 room) _ _ _ _ c.from_residual-in_err-value.ensures.1
    (reads_value_err count before l.input es n l.least (subst P left l.invariant) c.in_ok-key.key last (subst Q c.from.ensures (met c.in_ok-key.ensures)) c.in_err-value.field-0.0 _ (met c.in_err-value.ensures.reads))

pub returns-in_err-insert : goal.returns-in_err-insert
returns-in_err-insert c =
    let l = c.loop-left in
    let n = l.left - 1 in
    let count = c.args.count in
    let before = c.args.input.now in
    let last = c.read_bounded.new.input in
    let es = l.entries.entries in
    let left : l.left ≡ suc n = omega arith in
    let room : 0 + count ≤ 2 ^ 64 = omega (arith, c.ranges.count.fits) in
    let P : ℕ → Type 0 = λ p. ReadsOn count before l.input es p l.least in
    let Q : ℕ → Type 0 = λ k. Met (bounded_format l.least (2 ^ 64 - 1 - k)) (Ok c.in_ok-key.key) l.input last in
    passed (entries_format count 0) (entries_alone count 0 room) _ _ _ _ c.from_residual-in_err-insert.ensures.1
    (reads_memory count before l.input es n l.least (subst P left l.invariant) c.in_ok-key.key last (subst Q c.from.ensures (met c.in_ok-key.ensures)) c.in_ok-value.value _ (met c.in_ok-value.ensures.reads))

pub loop-left-preserved : goal.loop-left-preserved
loop-left-preserved c =
    let l = c.loop-left in
    let n = l.left - 1 in
    let count = c.args.count in
    let before = c.args.input.now in
    let last = c.read_bounded.new.input in
    let after = c.read_u64.new.input in
    let next = c.saturating_add-least.result in
    let es = l.entries.entries in
    let k = c.in_ok-key.key in
    let v = c.in_ok-value.value in
    let left : l.left ≡ suc n = omega arith in
    let P : ℕ → Type 0 = λ p. ReadsOn count before l.input es p l.least in
    let Q : ℕ → Type 0 = λ i. Met (bounded_format l.least (2 ^ 64 - 1 - i)) (Ok k) l.input last in
    let R : List (ℕ × ℕ) → Type 0 = λ xs. ReadsOn count before after xs n next in
    let on : ReadsOn count before l.input es (suc n) l.least = subst P left l.invariant in
    let key : Met (bounded_format l.least (greatest n)) (Ok k) l.input last = subst Q c.from.ensures (met c.in_ok-key.ensures) in
    let value = met c.in_ok-value.ensures.reads in
    let high : k ≤ greatest n = key.first.0.1.1 in
    let same = c.in_ok-insert.ensures.entries ∙ inserted count before l.input es n l.least on k last key v after value in
    let more : 0 < n → k + 1 ≡ next = λ some. omega (arith, c.saturating_add-least.ensures) in
    subst R (sym same) (reads_more count before l.input es n l.least on k last key v after value next more)

pub returns : goal.returns
returns c =
    let l = c.loop-left in
    let count = c.args.count in
    let before = c.args.input.now in
    let left : l.left ≡ 0 = omega arith in
    let room : 0 + count ≤ 2 ^ 64 = omega (arith, c.ranges.count.fits) in
    let P : ℕ → Type 0 = λ p. ReadsOn count before l.input l.entries.entries p l.least in
    let Q : List (ℕ × ℕ) → Type 0 = λ es. Met (entries_format count 0) (Ok es) before l.input in
    let same = ap (λ (s : Whole). s.entries) c.in_ok-state.ensures in
    reads (entries_format count 0) (entries_alone count 0 room) _ _ _
    (subst Q (sym same) (reads_all count before l.input l.entries.entries l.least (subst P left l.invariant)))
