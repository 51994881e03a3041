use Rattle.std.proofs.Common.{◌≡◌, ◌∙◌, sym}
use Rattle.stateful_exec_walk.proofs.Walking.{refused}
use Rattle.stateful_exec_tables.proofs.Entries.{Searches-first, Searches-found, Searches-next}
use Rattle.stateful_exec_tables.proofs.state.Tables.run_of.Goals as goal

pub loop-job-init : goal.loop-job-init
loop-job-init g c =
    Searches-first c.args.self.now.runs (λ run. run.block.digest ≡ c.args.digest) c.entries.result.now _ c.entries.ensures c.iter-job-items.ensures.found (c.into_iter-job-iterator.ensures.into_iter_gives ∙ c.iter-job-items.ensures.rest)

pub returns-then-is-clause-found : goal.returns-then-is-clause-found
returns-then-is-clause-found g c =
    Searches-found c.args.self.now.runs (λ run. run.block.digest ≡ c.args.digest) _ _ c.in-Some.job.now c.in-Some.run'.now c.loop-job.invariant c.in-Some.ensures.steps
    (sym c.digest.ensures ∙ c.is.ensures.0 c.if-is.true)

pub loop-job-preserved : goal.loop-job-preserved
loop-job-preserved g c =
    Searches-next c.args.self.now.runs (λ run. run.block.digest ≡ c.args.digest) _ _ c.in-Some.job.now c.in-Some.run'.now c.loop-job.invariant c.in-Some.ensures.steps
    (λ same. refused _ _ c.is.ensures c.if-is.false (c.digest.ensures ∙ same))
