use Rattle.std.proofs.Common.{◌≡◌, ◌-◌, ◌<◌, ◌≤◌, leb, true, false, rules, arith, length, sym, ap, ◌∙◌, ⊎_elim}
use Rattle.std.proofs.lemmas.List.{get_or-map, length-map}
use Rattle.std.proofs.lemmas.Bool.Decides.{leb_tells}
use Rattle.stateful_pruning.specs.Rule.{MayPrune, IsTarget}
use Rattle.stateful_pruning.specs.Shown.{entry_of, recorded}
use Rattle.stateful_pruning.proofs.Target.{full_from, none_without_operations, none_outside, is_target}
use Rattle.stateful_pruning.proofs.pruning.Pruning.target.Goals as goal

pub returns-in_err-most-clause-variant : goal.returns-in_err-most-clause-variant
returns-in_err-most-clause-variant g c =
    let full = full_from c.args.self.now c.args.operations (rw c.self.view_is at c.self.invariant) c.requires.full c.requires.newest in
    let few : c.args.operations < c.args.self.now.schedule.retained_operations = rw (← c.self.view_is) (omega (arith, c.in_err-most.ensures)) in
    let none : MayPrune c.args.self.now.schedule c.args.self.now.kept → ⊥ = none_without_operations _ _ _ full few in
    rw c.from_residual.ensures (λ some. absurd (search rules), λ may. absurd (none may))

pub returns-then-entry-most-clause-target : goal.returns-then-entry-most-clause-target
returns-then-entry-most-clause-target g c =
    let a = c.self.inside in
    let p = recorded a in
    let full = full_from p c.args.operations c.self.invariant (rw (← c.self.view_is) at c.requires.full) (rw (← c.self.view_is) at c.requires.newest) in
    let entry = c.index-entry.result.now in
    let i = c.loop-place.place - 1 in
    let within : i < length a.entries.items = omega (arith, length-map a.entries.items entry_of, full.full, full.qmdb) in
    rw (← c.self.view_is)
    (is_target p.schedule p.kept c.args.operations full c.in_ok-most.most i (entry_of entry)
    (omega (arith, c.in_ok-most.ensures))
    (omega arith)
    (ap entry_of c.index-entry.ensures ∙ sym (get_or-map entry_of a.entries.items i entry (entry_of entry) within))
    c.if-entry-most.true
    (λ k d from to. c.loop-place.invariant k d (omega arith) to))

pub returns-then-entry-most-clause-variant : goal.returns-then-entry-most-clause-variant
returns-then-entry-most-clause-variant g c =
    let is : IsTarget c.args.self.now.schedule c.args.self.now.kept (entry_of c.index-entry.result.now) = returns-then-entry-most-clause-target g c in
    (λ _. (is.older, _, is.newer, is.allowed), λ _. search rules)

pub loop-place-preserved : goal.loop-place-preserved
loop-place-preserved g c k d from to =
    let a = c.self.inside in
    let entry = c.index-entry.result.now in
    let i = c.loop-place.place - 1 in
    let full : length a.entries.items ≡ a.marshal_window = sym (length-map a.entries.items entry_of) ∙ (rw (← c.self.view_is) at c.requires.full) in
    ⊎_elim
    (λ (seen : (leb c.loop-place.place k ≡ true) × (c.loop-place.place ≤ k)). c.loop-place.invariant k d seen.1 to)
    (λ (here : (leb c.loop-place.place k ≡ false) × (k < c.loop-place.place)).
    let at : k ≡ i = omega (arith, here.1) in
    rw (at, get_or-map entry_of a.entries.items i entry d (omega (arith, c.self.invariant.qmdb, c.self.invariant.marshal)), ← c.index-entry.ensures) c.if-entry-most.false)
    (leb_tells c.loop-place.place k)

pub returns-clause-variant : goal.returns-clause-variant
returns-clause-variant g c =
    let a = c.self.inside in
    let p = recorded a in
    let full = full_from p c.args.operations c.self.invariant (rw (← c.self.view_is) at c.requires.full) (rw (← c.self.view_is) at c.requires.newest) in
    let none : MayPrune p.schedule p.kept → ⊥ = none_outside p.schedule p.kept c.args.operations full c.in_ok-most.most (omega (arith, c.in_ok-most.ensures)) (λ k d from to. c.loop-place.invariant k d (omega arith) to) in
    rw (← c.self.view_is) (λ some. absurd (search rules), λ may. absurd (none may))
