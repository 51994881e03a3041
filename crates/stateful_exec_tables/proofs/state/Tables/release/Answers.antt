use Rattle.std.proofs.Common.{◌∙◌, ap, refl}
use Rattle.stateful_exec_tables.specs.declared.state.Tables.{Tables}
use Rattle.stateful_exec_tables.proofs.Releasing.{Drains-first, Drains-there, Drains-on, Drains-next, Drains-all, Drains-left, still}
use Rattle.stateful_exec_tables.proofs.state.Tables.release.Goals as goal

pub loop-ticket-init : goal.loop-ticket-init
loop-ticket-init g c = (
  Drains-first c.args.job c.args.self.now.requests _ _ c.in_ok-tickets.ensures.ordered (c.into_iter-ticket-iterator.ensures.into_iter_gives.0 ∙ c.into_vec-ticket-items.ensures ∙ c.in_ok-tickets.ensures.tickets) c.new-out.ensures.items,
  refl,
)

pub take-request-requires : goal.take-request-requires
take-request-requires g c =
    Drains-there c.args.job c.args.self.now.requests _ _ _ c.loop-ticket.invariant.0 c.in-Some.ticket _ c.in-Some.ensures.steps.0

pub unreachable-requires : goal.unreachable-requires
unreachable-requires g c =
    Drains-on c.args.job c.args.self.now.requests _ _ _ c.loop-ticket.invariant.0 c.in-Some.ticket _ c.in-Some.ensures.steps.0 c.take-request.result c.take-request.ensures.request c.in_default.not-Executing

pub loop-ticket-preserved : goal.loop-ticket-preserved
loop-ticket-preserved g c = (
  Drains-next c.args.job c.args.self.now.requests _ _ _ c.loop-ticket.invariant.0 c.in-Some.ticket _ c.in-Some.ensures.steps.0 c.take-request.result c.take-request.ensures.request
      c.in-Executing.job c.in-Executing.path c.in-Executing.is _ _ (ap (λ (t : Tables g.row.B.Denot g.row.C.Denot g.row.I.Denot g.row.R.Denot g.row.U.Denot). t.requests) c.take-request.ensures.rest) c.in_ok-push.ensures.items,
  still c.args.self.now c.loop-ticket.self c.take-request.new.self c.in-Some.ticket c.loop-ticket.invariant.1 c.take-request.ensures.rest,
)

pub returns-clause-released : goal.returns-clause-released
returns-clause-released g c =
    Drains-all c.args.job c.args.self.now.requests _ _ _ c.loop-ticket.invariant.0 _ c.loop-ticket.ticket-iterator.rest.ok.0 c.in-None.ensures.steps.0

pub returns-clause-rest : goal.returns-clause-rest
returns-clause-rest g c =
    c.loop-ticket.invariant.1 ∙ ap (λ rs. record c.args.self.now { requests = rs }) (Drains-left c.args.job c.args.self.now.requests _ _ _ c.loop-ticket.invariant.0 _ c.loop-ticket.ticket-iterator.rest.ok.0 c.in-None.ensures.steps.0)
