use Rattle.stateful_bank_app.proofs.Drafting.{place_of, stands, held_behind_each, refused_behind_each}
use Rattle.stateful_bank_app.proofs.draft.do_ops.Goals as goal

pub returns-in-Some : goal.returns-in-Some
returns-in-Some g c = λ changes i p below held at.
    let w = g.W.World.rules in
    let holds = g.W.World.holds in
    let s = place_of w changes i p below in
    let behind = rw c.in-Some.is at c.in_ok-batch.ensures in
    held_behind_each w holds s _ _ c.args.ops.now (behind s (stands w holds changes i p below _ _ held at))

pub returns-in-None : goal.returns-in-None
returns-in-None g c = λ changes i p below held at.
    let w = g.W.World.rules in
    let holds = g.W.World.holds in
    let s = place_of w changes i p below in
    let behind = rw c.in-None.is at c.in_ok-batch.ensures in
    refused_behind_each w holds s c.args.ops.now (behind s (stands w holds changes i p below _ _ held at))
