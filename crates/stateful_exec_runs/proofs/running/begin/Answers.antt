use Rattle.std.proofs.Common.{◌≡◌, ◌≢◌, ◌∙◌}
use Rattle.stateful_base.specs.declared.digest.Digest.{Digest}
use Rattle.stateful_exec_model.specs.Starting.{databases, batch}
use Rattle.stateful_exec_tables.proofs.Tests.{refuted, shown}
use Rattle.stateful_exec_runs.proofs.running.begin.Goals as goal

pub returns-then-is-clause-ok : goal.returns-then-is-clause-ok
returns-then-is-clause-ok g c = databases (shown (λ (d : Digest). d ≡ c.args.anchor.digest) c.is.result _ _ c.digest-parent.ensures c.is.ensures c.if-is.true) c.in_ok-new_batches.ensures.ok

pub returns-clause-ok : goal.returns-clause-ok
returns-clause-ok g c =
    let other : c.args.parent.now.digest ≢ c.args.anchor.digest = (λ e. refuted (λ (d : Digest). d ≡ c.args.anchor.digest) c.is.result _ _ c.digest-parent.ensures c.is.ensures c.if-is.false e) in
    let f = c.in-Some.ensures.found in
    batch c.in-Some.entry.now other f.0 (f.1 ∙ c.digest-parent.ensures) c.in_ok-fork_batches-in-Some.ensures.ok
