use Rattle.std.proofs.Common.{◌≡◌, ◌∙◌}
use Rattle.stateful_exec_tables.specs.declared.tables.Phase.TheVariants.{Fetching}
use Rattle.stateful_exec_walk.proofs.Walking.{refused}
use Rattle.stateful_exec_tables.proofs.Entries.{Searches-first, Searches-found, Searches-next}
use Rattle.stateful_exec_tables.proofs.state.Tables.request_of.Goals as goal

pub loop-ticket-init : goal.loop-ticket-init
loop-ticket-init g c =
    Searches-first c.args.self.now.requests (λ r. r.phase ≡ Fetching c.args.fetch) c.entries.result.now _ c.entries.ensures c.iter-ticket-items.ensures.found (c.into_iter-ticket-iterator.ensures.into_iter_gives ∙ c.iter-ticket-items.ensures.rest)

pub returns-then-fetches-clause-found : goal.returns-then-fetches-clause-found
returns-then-fetches-clause-found g c =
    Searches-found c.args.self.now.requests (λ r. r.phase ≡ Fetching c.args.fetch) _ _ c.in-Some.ticket.now c.in-Some.requested.now c.loop-ticket.invariant c.in-Some.ensures.steps
    (c.fetches.ensures.0 c.if-fetches.true)

pub loop-ticket-preserved : goal.loop-ticket-preserved
loop-ticket-preserved g c =
    Searches-next c.args.self.now.requests (λ r. r.phase ≡ Fetching c.args.fetch) _ _ c.in-Some.ticket.now c.in-Some.requested.now c.loop-ticket.invariant c.in-Some.ensures.steps
    (λ same. refused _ _ c.fetches.ensures c.if-fetches.false same)
