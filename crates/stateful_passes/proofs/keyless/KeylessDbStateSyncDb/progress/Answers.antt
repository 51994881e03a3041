use Rattle.std.proofs.Common.{inl}
use Rattle.std.proofs.lemmas.Bool.{false≢true}
use Rattle.stateful_passes.proofs.Calling.{listed_call, listed_causes, unlisted_call}
use Rattle.stateful_passes.proofs.keyless.KeylessDbStateSyncDb.progress.Goals as goal

-- the call is listed
pub returns-then-fails-clause-asks : goal.returns-then-fails-clause-asks
returns-then-fails-clause-asks g c =
    listed_call _ _ c.args.pass.now.pass c.args.source.now c.fails.ensures.called (c.fails.ensures.listed.0 c.if-fails.true) (c.fails.ensures.rose c.if-fails.true)

pub returns-then-fails-clause-causes : goal.returns-then-fails-clause-causes
returns-then-fails-clause-causes g c =
    listed_causes _ _ _ (c.fails.ensures.rose c.if-fails.true)

-- it isn't, and the source is asked
pub returns-clause-asks : goal.returns-clause-asks
returns-clause-asks g c =
    unlisted_call _ _ c.fails.ensures.called (λ is. absurd (false≢true (c.if-fails.ensures.listed.1 is))) c.ask.ensures.asks

pub returns-clause-causes : goal.returns-clause-causes
returns-clause-causes g c = record {
  later = c.ask.ensures.later;
  failed = λ is. inl (c.ask.ensures.failed is);
  valid = c.ask.ensures.valid;
}
