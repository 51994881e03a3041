use Rattle.std.proofs.Common.{[], ◌∷◌, sym, append-nil}
use Rattle.std.specs.Prelude.{option_to_list}
use Rattle.stateful_p2p.specs.Resolving.{leaves, leaves_unfetched}
use Rattle.stateful_p2p_tables.specs.declared.out.ActorOut.TheVariants.{Forget}
use Rattle.stateful_p2p_tables.proofs.Releasing.{on_ok, both_more}
use Rattle.stateful_p2p.proofs.fanout.leave.Goals as goal

pub returns-in_default-clause-leaves : goal.returns-in_default-clause-leaves
returns-in_default-clause-leaves g c = ([], rw c.let_go.ensures (leaves_unfetched (rw c.in_default.is at c.in_ok-settled.ensures.forgets)), sym (append-nil _))

pub returns-clause-leaves : goal.returns-clause-leaves
returns-clause-leaves g c =
    on_ok c.push_some.result c.push_some.ensures
    (λ e. (
      Forget c.args.ticket ∷ option_to_list c.in-Some.settled,
      rw c.let_go.ensures (leaves (rw c.in-Some.is at c.in_ok-settled.ensures.forgets)),
      both_more c.args.outs.now.items c.push.new.self.items c.push_some.new.outs.items (Forget c.args.ticket) (option_to_list c.in-Some.settled) c.in_ok-push.ensures.items e,
    ))
