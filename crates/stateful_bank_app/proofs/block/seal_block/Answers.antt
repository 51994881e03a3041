use Rattle.stateful_bank_app.specs.Rules.{changes_of}
use Rattle.stateful_bank_app.proofs.Blocks.{none_behind, sealed_behind}
use Rattle.stateful_bank_app.proofs.block.seal_block.Goals as goal

pub returns-in_default : goal.returns-in_default
returns-in_default g c = λ i p below opened at.
    let w = g.W.World.rules in
    let behind = c.in_ok-done.ensures (w.none p.1) i p below (c.begin.ensures i p below opened) at in
    let none = rw c.in_default.is at behind in
    none_behind w g.W.World.holds g.W.Databases.DatabaseSet.shows i p below c.args.ops.now c.args.height.0 (changes_of w p.1 c.args.ops.now) none

pub returns-in-Ok : goal.returns-in-Ok
returns-in-Ok g c = λ i p below opened at.
    let w = g.W.World.rules in
    let behind = c.in_ok-done.ensures (w.none p.1) i p below (c.begin.ensures i p below opened) at in
    let held = rw c.in-Some.is at behind in
    sealed_behind w g.W.World.holds g.W.Databases.DatabaseSet.shows i p below c.args.ops.now c.args.height.0 c.in-Some.done c.in-Ok.sealed (changes_of w p.1 c.args.ops.now) held (λ now holds. c.in-Ok.ensures.ok now i p below holds at)
