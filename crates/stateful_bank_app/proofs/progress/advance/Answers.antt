use Rattle.std.proofs.Common.{subst, arith, ◌+◌, ◌<◌, ◌≤◌, length}
use Rattle.stateful_bank_app.proofs.Turning.{IsNext, refused, further, complete}
use Rattle.stateful_bank_app.proofs.progress.advance.Goals as goal

pub returns-in_default : goal.returns-in_default
returns-in_default g c = λ i p below is at.
    let w = g.W.World.rules in
    let holds = g.W.World.holds in
    let progress = c.args.progress in
    let ops = c.args.ops.now in
    refused w holds progress ops i p below is (subst (λ after. IsNext w holds after progress.batch ops progress.done i p below) c.in_default.is (λ changes held. c.in_ok-batch.ensures changes i p below held at))

pub returns-then-saturating_sub-gt1 : goal.returns-then-saturating_sub-gt1
returns-then-saturating_sub-gt1 g c = λ i p below is at.
    let w = g.W.World.rules in
    let holds = g.W.World.holds in
    let progress = c.args.progress in
    let ops = c.args.ops.now in
    let more : progress.done + 1 < length ops = omega arith in
    further w holds progress ops i p below is c.in-Some.batch (subst (λ after. IsNext w holds after progress.batch ops progress.done i p below) c.in-Some.is (λ changes held. c.in_ok-batch.ensures changes i p below held at)) more

pub returns : goal.returns
returns g c = λ i p below is at.
    let w = g.W.World.rules in
    let holds = g.W.World.holds in
    let progress = c.args.progress in
    let ops = c.args.ops.now in
    let last : length ops ≤ progress.done + 1 = omega arith in
    complete w holds progress ops i p below is c.in-Some.batch (subst (λ after. IsNext w holds after progress.batch ops progress.done i p below) c.in-Some.is (λ changes held. c.in_ok-batch.ensures changes i p below held at)) last
