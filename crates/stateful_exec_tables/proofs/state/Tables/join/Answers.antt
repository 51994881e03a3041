use Rattle.std.proofs.Common.{◌∙◌, ap, subst}
use Rattle.stateful_base.specs.Names.{Named}
use Rattle.stateful_base.specs.declared.digest.Digest.{Digest}
use Rattle.stateful_exec_tables.specs.Tables.{Knows, HasRun, RunsNone}
use Rattle.stateful_exec_tables.proofs.Tests.{refuted, shown}
use Rattle.stateful_exec_tables.proofs.state.Tables.join.Goals as goal

pub returns-then-knows-clause-joins : goal.returns-then-knows-clause-joins
returns-then-knows-clause-joins g c =
    let block = ap (λ (b : Named g.row.B.Denot). b.digest) c.parent-block.ensures in
    shown (λ (d : Digest). Knows c.args.self.now d) c.knows.result _ _ (c.digest.ensures ∙ block) c.knows.ensures c.if-knows.true

pub returns-in-Some-clause-joins : goal.returns-in-Some-clause-joins
returns-in-Some-clause-joins g c =
    let block = ap (λ (b : Named g.row.B.Denot). b.digest) c.parent-block.ensures in (
      refuted (λ (d : Digest). Knows c.args.self.now d) c.knows.result _ _ (c.digest.ensures ∙ block) c.knows.ensures c.if-knows.false,
      subst (λ (d : Digest). HasRun c.args.self.now d c.in-Some.job) (c.digest-2.ensures ∙ block) c.in-Some.ensures.found,
    )

pub returns-then-not-knows-clause-joins : goal.returns-then-not-knows-clause-joins
returns-then-not-knows-clause-joins g c =
    let block = ap (λ (b : Named g.row.B.Denot). b.digest) c.parent-block.ensures in
    let parent = ap (λ (b : Named g.row.B.Denot). b.digest) c.advance-parent.ensures.parent in (
      refuted (λ (d : Digest). Knows c.args.self.now d) c.knows.result _ _ (c.digest.ensures ∙ block) c.knows.ensures c.if-knows.false,
      subst (λ (d : Digest). RunsNone c.args.self.now d) (c.digest-2.ensures ∙ block) c.in_default.ensures.none,
      refuted (λ (d : Digest). Knows c.args.self.now d) c.knows-2.result _ _ (c.digest-3.ensures ∙ parent) c.knows-2.ensures c.if-not-knows.true,
    )

pub returns-clause-joins : goal.returns-clause-joins
returns-clause-joins g c =
    let block = ap (λ (b : Named g.row.B.Denot). b.digest) c.parent-block.ensures in
    let parent = ap (λ (b : Named g.row.B.Denot). b.digest) c.advance-parent.ensures.parent in (
      refuted (λ (d : Digest). Knows c.args.self.now d) c.knows.result _ _ (c.digest.ensures ∙ block) c.knows.ensures c.if-knows.false,
      subst (λ (d : Digest). RunsNone c.args.self.now d) (c.digest-2.ensures ∙ block) c.in_default.ensures.none,
      shown (λ (d : Digest). Knows c.args.self.now d) c.knows-2.result _ _ (c.digest-3.ensures ∙ parent) c.knows-2.ensures c.if-not-knows.false,
      c.in_ok-block.ensures ∙ c.parent-block.ensures,
      c.advance-parent.ensures.parent,
    )
