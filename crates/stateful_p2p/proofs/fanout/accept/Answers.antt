use Rattle.std.proofs.Common.{◌∷◌}
use Rattle.std.specs.Prelude.{option_to_list}
use Rattle.stateful_p2p.specs.Resolving.{accepts}
use Rattle.stateful_p2p_tables.specs.declared.out.ActorOut.TheVariants.{Forget}
use Rattle.stateful_p2p_tables.proofs.Releasing.{on_ok, both_more}
use Rattle.stateful_p2p.proofs.fanout.accept.Goals as goal

pub returns-clause-judges : goal.returns-clause-judges
returns-clause-judges g c =
    on_ok c.push_some.result c.push_some.ensures
    (λ e. (
      Forget c.args.ticket ∷ option_to_list c.in_ok-settled.settled,
      rw (c.remove.ensures.others, c.end.ensures) (accepts c.in_ok-settled.ensures.releases),
      both_more c.args.outs.now.items c.push.new.self.items c.push_some.new.outs.items (Forget c.args.ticket) (option_to_list c.in_ok-settled.settled) c.in_ok-push.ensures.items e,
    ))
