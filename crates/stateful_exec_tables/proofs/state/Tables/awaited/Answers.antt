use Rattle.std.proofs.Common.{ℕ, ◌<◌, ◌^◌, List, length, subst, ◌∙◌, refl}
use Rattle.stateful_exec_pause.specs.Pausing.{IsAwaited}
use Rattle.stateful_exec_tables.specs.declared.tables.LiveRun.{LiveRun}
use Rattle.stateful_exec_walk.proofs.Walking.{refused}
use Rattle.stateful_exec_tables.proofs.Pauses.{Counts-first, Counts-one, Counts-other, Counts-all}
use Rattle.stateful_exec_tables.proofs.state.Tables.awaited.Goals as goal

pub loop-run-init : goal.loop-run-init
loop-run-init g c = record {
  counts = Counts-first (λ (e : ℕ × LiveRun g.row.B.Denot g.row.R.Denot). IsAwaited g.B.Block.header c.args.self.now.pause e.1.block) c.args.self.now.runs _ _ (c.into_iter-run-iterator.ensures.into_iter_gives ∙ c.iter-run-items.ensures.rest ∙ c.entries.ensures) refl;
  small = subst (λ (l : List (ℕ × LiveRun g.row.B.Denot g.row.R.Denot)). length l < 2 ^ 63) c.entries.ensures c.iter-run-items.ensures.fits;
}

pub loop-run-preserved-then-awaits : goal.loop-run-preserved-then-awaits
loop-run-preserved-then-awaits g c = record {
  counts = Counts-one (λ (e : ℕ × LiveRun g.row.B.Denot g.row.R.Denot). IsAwaited g.B.Block.header c.args.self.now.pause e.1.block) c.args.self.now.runs _ _ _ c.loop-run.invariant.counts _ c.in-Some.ensures.steps (c.awaits.ensures.0 c.if-awaits.true);
  small = c.loop-run.invariant.small;
}

pub loop-run-preserved : goal.loop-run-preserved
loop-run-preserved g c = record {
  counts = Counts-other (λ (e : ℕ × LiveRun g.row.B.Denot g.row.R.Denot). IsAwaited g.B.Block.header c.args.self.now.pause e.1.block) c.args.self.now.runs _ _ _ c.loop-run.invariant.counts _ c.in-Some.ensures.steps (λ is. refused _ _ c.awaits.ensures c.if-awaits.false is);
  small = c.loop-run.invariant.small;
}

pub returns : goal.returns
returns g c = Counts-all (λ (e : ℕ × LiveRun g.row.B.Denot g.row.R.Denot). IsAwaited g.B.Block.header c.args.self.now.pause e.1.block) c.args.self.now.runs _ _ c.loop-run.invariant.counts c.in-None.ensures.steps.0
