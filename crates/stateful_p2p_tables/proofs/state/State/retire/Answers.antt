use Rattle.std.proofs.Common.{[], ◌∷◌, ◌++◌, take, get_or, sym, append-nil, append_assoc}
use Rattle.std.proofs.lemmas.List.{take_more}
use Rattle.stateful_p2p_tables.specs.Deliveries.{nobody}
use Rattle.stateful_p2p_tables.proofs.Releasing.{retired_join}
use Rattle.stateful_p2p_tables.proofs.state.State.retire.Goals as goal

pub loop-ticket-init : goal.loop-ticket-init
loop-ticket-init g c = (c.requires, ([], rw c.new-settled.ensures.items nobody, sym (append-nil _)))

pub loop-ticket-preserved : goal.loop-ticket-preserved
loop-ticket-preserved g c =
    let gone = c.args.gone.now in
    let i = c.loop-ticket.ticket-index in
    let so_far = c.loop-ticket.invariant.1 in
    let one = c.in_ok-retire_one.ensures.retires in (
      c.in_ok-retire_one.ensures.sound,
      (
        so_far.0 ++ one.0,
        rw (take_more gone i 0 c.loop-ticket-test.true, one.4)
            (retired_join c.args.self.now (take i gone) (get_or gone i 0 ∷ []) so_far.0 c.loop-ticket.settled.items one.0 one.1 c.loop-ticket.self c.retire_one.new.self so_far.1 one.2),
        rw (one.3, so_far.2) (append_assoc c.args.outs.now.items so_far.0 one.0),
      ),
    )
