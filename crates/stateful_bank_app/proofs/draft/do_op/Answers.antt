use Rattle.stateful_bank_app.proofs.Drafting.{place_of, stands, held_behind, refused_behind}
use Rattle.stateful_bank_app.proofs.draft.do_op.Goals as goal

pub returns-in-Some : goal.returns-in-Some
returns-in-Some g c = λ changes i p below held at.
    let w = g.W.World.rules in
    let holds = g.W.World.holds in
    let s = place_of w changes i p below in
    let behind = rw c.in-Some.is at c.in_ok-batch.ensures in
    held_behind w holds s _ _ c.args.op.now (behind s (stands w holds changes i p below _ _ held at))

pub returns-in-None : goal.returns-in-None
returns-in-None g c = λ changes i p below held at.
    let w = g.W.World.rules in
    let holds = g.W.World.holds in
    let s = place_of w changes i p below in
    let behind = rw c.in-None.is at c.in_ok-batch.ensures in
    refused_behind w holds s c.args.op.now (behind s (stands w holds changes i p below _ _ held at))
