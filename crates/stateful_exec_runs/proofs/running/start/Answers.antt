use Rattle.std.proofs.Common.{◌∙◌, ◌∷◌, [], ap, subst, sym}
use Rattle.stateful_base.specs.declared.block.Ancestry.{Ancestry}
use Rattle.stateful_base.specs.declared.outcome.Finality.TheVariants.{Candidate}
use Rattle.stateful_db.specs.Works.{run_of}
use Rattle.stateful_exec_model.specs.Workings.{workings}
use Rattle.stateful_exec_model.proofs.Starting.{IsOver-weaker}
use Rattle.stateful_exec_runs.proofs.running.start.Goals as goal

pub returns-clause-ok : goal.returns-clause-ok
returns-clause-ok g c =
    let w = workings g.A.Block.Block.header g.A.Block.Block.context_of g.A.Context.Rounded.round_of g.A.Application.works g.A.Databases.DatabaseSet.kind g.A.Databases.DatabaseSet.shows in
    let next = g.A.Databases.DatabaseSet.next c.args.databases.now in
    let own = c.context-context.ensures.same ∙ ap g.A.Block.Block.context_of c.inner.ensures in
    IsOver-weaker w _ _ _ _ _ _ _ _ (λ q cs opened. record {
      round = ap g.A.Context.Rounded.round_of (sym own) ∙ c.context-context.ensures.round ∙ ap g.A.Block.Block.header.round c.inner.ensures;
      runs =
          let runs = subst (λ (a : Ancestry g.row.A-Block.Denot). g.A.Application.works.runs c.in_ok-process.field-0 (run_of Candidate c.context-context.result a next q cs) 0) c.in_ok-ancestry.ensures (c.in_ok-process.ensures.ok _ q cs opened) in
          subst (λ x. g.A.Application.works.runs c.in_ok-process.field-0 (run_of Candidate x (record { first = c.args.block.now; rest = c.args.parent ∷ [] }) next q cs) 0) own runs;
    }) c.in_ok-batches.ensures.ok
