use Rattle.std.proofs.Common.{◌≡◌, true, Err, ap, sym, ◌∙◌}
use Rattle.std.proofs.lemmas.Bool.{false≢true}
use Rattle.stateful_db.specs.declared.application.AppFault.TheVariants.{Failed}
use Rattle.stateful_bank.specs.Op.{accept}
use Rattle.stateful_bank.specs.Proposal.{IsDeclined}
use Rattle.stateful_bank_app.proofs.Building.{is_sealed, voted, staged, finish_full, finish_room}
use Rattle.stateful_bank_app.proofs.build.finish.Goals as goal

pub returns-in_err-merkleized-clause-exhausted : goal.returns-in_err-merkleized-clause-exhausted
returns-in_err-merkleized-clause-exhausted g c = λ failed b shows at.
    let w = g.W.World.rules in
    let holds = g.W.World.holds in
    let target_of = g.W.Databases.DatabaseSet.kind.target_of in
    let sealed = g.W.Databases.DatabaseSet.shows in
    let height_is = ap (λ h. h.0) c.in-Some.ensures.1 in
    let fault = rw failed at c.from_residual.ensures.1 in
    let seal_failed : c.seal.result ≡ Err Failed = c.in_err-merkleized.was ∙ ap Err (sym fault) in
    finish_full w holds target_of sealed b c.args.proposal c.args.batch shows _ at c.as_slice-ops.result.now c.as_slice-ops.ensures c.in-Some.height.0 height_is g.W.Databases.DatabaseSet.kind.Full (c.seal.ensures.exhausted seal_failed)

-- a batch that stands on the databases isn't stale
pub returns-in_default-2-clause-ok : goal.returns-in_default-2-clause-ok
returns-in_default-2-clause-ok g c = λ b same shows at.
    let w = g.W.World.rules in
    let holds = g.W.World.holds in
    let target_of = g.W.Databases.DatabaseSet.kind.target_of in
    let sealed = g.W.Databases.DatabaseSet.shows in
    let height_is = ap (λ h. h.0) c.in-Some.ensures.1 in
    absurd (is_sealed w holds target_of sealed b c.args.proposal c.args.batch shows _ at c.as_slice-ops.result.now c.as_slice-ops.ensures c.in-Some.height.0 height_is c.in_ok-merkleized.field-0 c.in_ok-merkleized.ensures.ok c.in_default-2.is)

pub returns-in-Vote-clause-ok : goal.returns-in-Vote-clause-ok
returns-in-Vote-clause-ok g c = λ b same shows at.
    let w = g.W.World.rules in
    let holds = g.W.World.holds in
    let target_of = g.W.Databases.DatabaseSet.kind.target_of in
    let sealed = g.W.Databases.DatabaseSet.shows in
    let height_is = ap (λ h. h.0) c.in-Some.ensures.1 in
    let asked : IsDeclined c.args.proposal → ⊥ = λ declined. absurd (false≢true (c.if-is_declined.ensures.1 declined)) in
    let good : accept c.args.proposal.ops ≡ true = sym (c.if-not-is_acceptable.ensures ∙ ap accept c.as_slice-ops.ensures) in
    voted w holds target_of sealed b c.args.proposal c.args.batch shows _ at c.as_slice-ops.result.now c.as_slice-ops.ensures c.in-Some.height.0 height_is c.in_ok-merkleized.field-0 c.in_ok-merkleized.ensures.ok c.in-Some-2.merkleized c.in-Some-2.is c.in-Ok.targets c.in-Ok.ensures c.into_block-block.result c.into_block-block.ensures asked good same c.in-Vote.is

pub returns-in-Vote-clause-within : goal.returns-in-Vote-clause-within
returns-in-Vote-clause-within g c = λ built b shows at.
    let w = g.W.World.rules in
    let holds = g.W.World.holds in
    let target_of = g.W.Databases.DatabaseSet.kind.target_of in
    let sealed = g.W.Databases.DatabaseSet.shows in
    let height_is = ap (λ h. h.0) c.in-Some.ensures.1 in
    finish_room w holds target_of sealed b c.args.proposal c.args.batch shows _ at c.as_slice-ops.result.now c.as_slice-ops.ensures c.in-Some.height.0 height_is g.W.Databases.DatabaseSet.kind.Full c.in_ok-merkleized.ensures.within

pub returns-in-Stage-clause-ok : goal.returns-in-Stage-clause-ok
returns-in-Stage-clause-ok g c = λ b same shows at.
    let w = g.W.World.rules in
    let holds = g.W.World.holds in
    let target_of = g.W.Databases.DatabaseSet.kind.target_of in
    let sealed = g.W.Databases.DatabaseSet.shows in
    let height_is = ap (λ h. h.0) c.in-Some.ensures.1 in
    let asked : IsDeclined c.args.proposal → ⊥ = λ declined. absurd (false≢true (c.if-is_declined.ensures.1 declined)) in
    let good : accept c.args.proposal.ops ≡ true = sym (c.if-not-is_acceptable.ensures ∙ ap accept c.as_slice-ops.ensures) in
    staged w holds target_of sealed b c.args.proposal c.args.batch shows _ at c.as_slice-ops.result.now c.as_slice-ops.ensures c.in-Some.height.0 height_is c.in_ok-merkleized.field-0 c.in_ok-merkleized.ensures.ok c.in-Some-2.merkleized c.in-Some-2.is c.in-Ok.targets c.in-Ok.ensures c.into_block-block.result c.into_block-block.ensures asked good same c.in-Stage.is

pub returns-in-Stage-clause-within : goal.returns-in-Stage-clause-within
returns-in-Stage-clause-within g c = λ built b shows at.
    let w = g.W.World.rules in
    let holds = g.W.World.holds in
    let target_of = g.W.Databases.DatabaseSet.kind.target_of in
    let sealed = g.W.Databases.DatabaseSet.shows in
    let height_is = ap (λ h. h.0) c.in-Some.ensures.1 in
    finish_room w holds target_of sealed b c.args.proposal c.args.batch shows _ at c.as_slice-ops.result.now c.as_slice-ops.ensures c.in-Some.height.0 height_is g.W.Databases.DatabaseSet.kind.Full c.in_ok-merkleized.ensures.within
