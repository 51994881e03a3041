use Rattle.std.proofs.Common.{◌∙◌}
use Rattle.std.specs.BTreeSet.{keys}
use Rattle.stateful_exec_tables.proofs.Pauses.{Collects-first, Collects-none, Collects-one, Collects-all, finds_more}
use Rattle.stateful_exec_tables.proofs.state.Tables.live_fetches.Goals as goal

pub loop-requested-init : goal.loop-requested-init
loop-requested-init g c =
    Collects-first c.args.self.now.requests _ (keys c.new-fetches.result) (c.into_iter-requested-iterator.ensures.into_iter_gives ∙ c.iter-requested-items.ensures.rest ∙ c.entries.ensures) c.new-fetches.ensures.empty c.new-fetches.ensures.ordered

pub loop-requested-preserved-in_ok-insert : goal.loop-requested-preserved-in_ok-insert
loop-requested-preserved-in_ok-insert g c =
    Collects-one c.args.self.now.requests _ _ (keys c.loop-requested.fetches) c.loop-requested.invariant _ c.in-Some.requested.now c.in-Some.ensures.steps c.in-Some-fetch.fetch c.in-Some-fetch.ensures.some (keys c.insert.new.self)
    (finds_more c.in-Some-fetch.fetch (keys c.loop-requested.fetches) (keys c.insert.new.self) (λ d. c.in_ok-insert.ensures.updates.0 d)) c.in_ok-insert.ensures.ordered

pub loop-requested-preserved : goal.loop-requested-preserved
loop-requested-preserved g c =
    Collects-none c.args.self.now.requests _ _ (keys c.loop-requested.fetches) c.loop-requested.invariant _ c.in-Some.requested.now c.in-Some.ensures.steps c.in_default.ensures.none

pub returns : goal.returns
returns g c = record {
  ascending = c.loop-requested.invariant.ascending;
  each = Collects-all c.args.self.now.requests _ (keys c.loop-requested.fetches) c.loop-requested.invariant c.in-None.ensures.steps.0;
}
