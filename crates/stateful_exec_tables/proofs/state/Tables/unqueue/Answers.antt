use Rattle.std.proofs.Common.{◌∙◌, ap, subst, sym, inr}
use Rattle.stateful_base.specs.Names.{Named}
use Rattle.stateful_base.specs.declared.digest.Digest.{Digest}
use Rattle.stateful_exec_tables.specs.Tables.{Knows}
use Rattle.stateful_exec_tables.specs.declared.state.Tables.{Tables}
use Rattle.stateful_exec_tables.proofs.Tests.{refuted, shown}
use Rattle.stateful_exec_tables.proofs.Queues.{handed_on, not_queued, unknown, taken_out, is_ready}
use Rattle.stateful_exec_tables.proofs.state.Tables.unqueue.Goals as goal

pub returns-in_default-clause-ok : goal.returns-in_default-clause-ok
returns-in_default-clause-ok g c = not_queued c.args.self.now c.args.ticket _ c.in_default.ensures.value c.in_default.ensures.others

pub returns-then-not-knows-clause-ok : goal.returns-then-not-knows-clause-ok
returns-then-not-knows-clause-ok g c =
    let first = ap (λ (b : Named g.row.B.Denot). b.digest) c.in_ok-parent.ensures in
    unknown c.args.self.now c.args.ticket c.in-Some.proposal c.in-Some.ensures.value _ c.in-Some.ensures.others
    (refuted (λ (d : Digest). Knows c.args.self.now d) c.knows.result _ _ (c.digest.ensures ∙ first) c.knows.ensures c.if-not-knows.true)

pub returns-clause-ok : goal.returns-clause-ok
returns-clause-ok g c =
    let first = ap (λ (b : Named g.row.B.Denot). b.digest) c.in_ok-parent.ensures in
    let known = shown (λ (d : Digest). Knows c.args.self.now d) c.knows.result _ _ (c.digest.ensures ∙ first) c.knows.ensures c.if-not-knows.false in
    taken_out c.args.self.now c.args.ticket c.in-Some.proposal c.in-Some.ensures.value _ c.in-Some.ensures.others
    c.in_ok-job.job c.in_ok-parent.parent _ known c.in_ok-parent.ensures c.in_ok-job.ensures.job c.in_ok-job.ensures.left c.in_ok-job.ensures.ok

pub returns-clause-known : goal.returns-clause-known
returns-clause-known g c =
    let known = shown (λ (d : Digest). Knows c.args.self.now d) c.knows.result _ _ c.digest.ensures c.knows.ensures c.if-not-knows.false in
    subst (λ (v : Tables g.row.B.Denot g.row.C.Denot g.row.I.Denot g.row.R.Denot g.row.U.Denot). Knows v c.in_ok-parent.parent.digest) (sym c.in_ok-job.ensures.ok) known

pub returns-in_err-job-clause-fault : goal.returns-in_err-job-clause-fault
returns-in_err-job-clause-fault g c =
    let first = ap (λ (b : Named g.row.B.Denot). b.digest) c.in_ok-parent.ensures in
    let known = shown (λ (d : Digest). Knows c.args.self.now d) c.knows.result _ _ (c.digest.ensures ∙ first) c.knows.ensures c.if-not-knows.false in
    let is = is_ready c.args.self.now c.args.ticket c.in-Some.proposal c.in-Some.ensures.value _ c.in-Some.ensures.others known in
    handed_on _ c.from_residual-in_err-job.result c.in_err-job.field-0.0 c.from_residual-in_err-job.ensures.1 (inr (c.in_err-job.ensures.err.0, c.in_err-job.ensures.err.1, c.in-Some.proposal, is))
