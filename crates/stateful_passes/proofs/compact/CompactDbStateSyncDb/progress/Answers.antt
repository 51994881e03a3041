use Rattle.std.proofs.Common.{Option, Ok, subst}
use Rattle.std.proofs.lemmas.Bool.{false≢true}
use Rattle.stateful_base.specs.declared.target.Target.{Target}
use Rattle.stateful_db_log.specs.Linking.{log_link}
use Rattle.stateful_db_compact.specs.Ops.{op_bytes, is_commit}
use Rattle.stateful_passes.specs.Asks.{Asks, told}
use Rattle.stateful_passes.proofs.Calling.{listed_call, listed_causes, unlisted_call}
use Rattle.stateful_passes.proofs.compact.CompactDbStateSyncDb.progress.Goals as goal

-- the call is listed
pub returns-then-fails-clause-asks : goal.returns-then-fails-clause-asks
returns-then-fails-clause-asks g c =
    listed_call _ _ c.args.pass.now.pass c.args.source.now c.fails.ensures.called (c.fails.ensures.listed.0 c.if-fails.true) (c.fails.ensures.rose c.if-fails.true)

pub returns-then-fails-clause-causes : goal.returns-then-fails-clause-causes
returns-then-fails-clause-causes g c =
    listed_causes _ _ _ (c.fails.ensures.rose c.if-fails.true)

-- it isn't, and the source is asked
pub returns-in-Ok-Some-clause-asks : goal.returns-in-Ok-Some-clause-asks
returns-in-Ok-Some-clause-asks g c =
    let p = c.args.pass.now.pass in
    unlisted_call _ _ c.fails.ensures.called (λ is. absurd (false≢true (c.if-fails.ensures.listed.1 is)))
    (subst (λ (reached : Option Target). Asks g.R.SyncSource.serves (log_link (op_bytes g.V.Field.fields.spelling)) is_commit p c.args.source.now (told p.target (Ok reached)) c.ask.new.pass c.ask.new.source) c.in-Ok-Some.field-0-is c.in-Ok-Some.ensures.asks)

pub returns-in-Ok-None-clause-asks : goal.returns-in-Ok-None-clause-asks
returns-in-Ok-None-clause-asks g c =
    let p = c.args.pass.now.pass in
    unlisted_call _ _ c.fails.ensures.called (λ is. absurd (false≢true (c.if-fails.ensures.listed.1 is)))
    (subst (λ (reached : Option Target). Asks g.R.SyncSource.serves (log_link (op_bytes g.V.Field.fields.spelling)) is_commit p c.args.source.now (told p.target (Ok reached)) c.ask.new.pass c.ask.new.source) c.in-Ok-None.field-0-is c.in-Ok-None.ensures.asks)
