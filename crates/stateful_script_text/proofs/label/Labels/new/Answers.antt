use Rattle.std.proofs.Common.{◌≡◌, ◌<◌, ◌+◌, ◌-◌, ℕ, suc, List, length, get_or, drop, sym, subst, arith}
use Rattle.stateful_script_text.specs.LabelIndex.{IsIndexFrom}
use Rattle.stateful_script_text.specs.declared.shown.Label.{Label}
use Rattle.stateful_script_text.proofs.Index.{IsIndex-front, drop-cons}
use Rattle.stateful_script_text.proofs.label.Labels.new.Goals as goal

pub loop-place-preserved : goal.loop-place-preserved
loop-place-preserved c =
    let n = c.loop-place.place in
    let labels = c.args.labels.now in
    let places = c.loop-place.places in
    let label : Label = get_or labels (n - 1) c.index-labels-place.result in
    let behind : n ≡ suc (n - 1) = (let l = c.loop-place-test.true in omega (arith, l)) in
    let within : n - 1 < length labels = (let l = c.loop-place-test.true in let m = c.loop-place.auto.place in omega (arith, l, m)) in
    let index : IsIndexFrom (n - 1 + 1) (drop (suc (n - 1)) labels) places =
    subst (λ (k : ℕ). IsIndexFrom k (drop (suc (n - 1)) labels) places) (omega arith) (subst (λ (k : ℕ). IsIndexFrom k (drop k labels) places) behind c.loop-place.invariant) in
    subst (λ (ls : List Label). IsIndexFrom (n - 1) ls c.insert.new.self)
    (sym (drop-cons labels (n - 1) c.index-labels-place.result within))
    (IsIndex-front label (drop (suc (n - 1)) labels) (n - 1) places c.insert.new.self index c.in_ok-insert.ensures.updates)
