use Rattle.std.proofs.Common.{rules}
use Rattle.std.proofs.lemmas.Result.{IfErr-weaker}
use Rattle.stateful_exec_model.specs.Finalizing.{IsLeftBehind}
use Rattle.stateful_exec_model.specs.Workings.{workings}
use Rattle.stateful_exec_model.proofs.Fronts.{not_hooked}
use Rattle.stateful_exec_finals.proofs.anchoring.observe.Goals as goal

pub returns-clause-fault : goal.returns-clause-fault
returns-clause-fault g c =
    let w = workings g.A.Block.Block.header g.A.Block.Block.context_of g.A.Context.Rounded.round_of g.A.Application.works g.A.Databases.DatabaseSet.kind g.A.Databases.DatabaseSet.shows in
    let members = g.A.Databases.DatabaseSet.members c.args.databases.now in
    let left : IsLeftBehind w c.args.block.now c.args.captured members c.in_ok-hooked.hooked = search rules in
    IfErr-weaker c.hook_on.result _ _ (not_hooked w _ c.args.block.now c.args.captured members c.args.tables.now.next_job c.in_ok-hooked.hooked left) c.hook_on.ensures.fault
