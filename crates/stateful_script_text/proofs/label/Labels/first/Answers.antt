use Rattle.std.proofs.Common.{◌≡◌, ◌∙◌, ℕ, List, None, ◌<◌, length, slice_get, sym, subst, arith}
use Rattle.std.specs.List.{find}
use Rattle.std.specs.Option.{option_copied}
use Rattle.stateful_script_text.specs.LabelIndex.{is_of}
use Rattle.stateful_script_text.specs.declared.shown.Label.{Label}
use Rattle.stateful_script_text.proofs.Index.{IsFound-at, find-none, copied-get}
use Rattle.stateful_script_text.proofs.label.Labels.first.Goals as goal

pub returns-in_err-place : goal.returns-in_err-place
returns-in_err-place c =
    let labels = c.self.inside.labels.now in
    let none = find-none (is_of c.args.digest) 0 labels (sym (c.self.invariant c.args.digest) ∙ sym c.in_err-place.ensures.value) in
    rw c.from_residual.ensures (subst (λ (ls : List Label). None ≡ find (is_of c.args.digest) ls) c.self.view_is (sym none))

pub returns : goal.returns
returns c =
    let labels = c.self.inside.labels.now in
    let at = IsFound-at (is_of c.args.digest) 0 labels c.in_ok-place.place.now (sym (c.self.invariant c.args.digest) ∙ sym c.in_ok-place.ensures.value) in
    let place : c.in_ok-place.place.now ≡ at.offset = (let p = at.place in omega (arith, p)) in
    let within = subst (λ (n : ℕ). n < length labels) (sym place) at.within in
    let is = subst (λ (n : ℕ). slice_get labels n ≡ find (is_of c.args.digest) labels) (sym place) (sym at.found) in
    subst (λ (ls : List Label). option_copied c.get-2.result ≡ find (is_of c.args.digest) ls) c.self.view_is
    (copied-get labels c.in_ok-place.place.now c.get-2.result within c.get-2.ensures.lookup ∙ is)
