use Rattle.stateful_passes.proofs.Lessening.{asked, keeps_kind}
use Rattle.stateful_passes.proofs.asking.ask.Goals as goal

pub returns-clause-asks : goal.returns-clause-asks
returns-clause-asks g c =
    asked g.R.SyncSource.serves g.Op.Linked.linked g.Op.Linked.alone c.args.pass.now c.args.source.now c.progress.result c.progress.new.self c.progress.new.source
    c.is_reached.ensures.within c.requires (c.progress.ensures.progresses c.requires)
    c.progress.ensures.reached

pub returns-clause-kind : goal.returns-clause-kind
returns-clause-kind g c =
    let told = c.progress.ensures.progresses c.requires in
    keeps_kind g.Op.Linked.linked g.Op.Linked.alone c.args.pass.now told.0 c.progress.result c.progress.new.self told.2
