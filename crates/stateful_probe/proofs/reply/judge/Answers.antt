use Rattle.stateful_probe.proofs.reply.judge.Goals as goal

pub returns-in-Whole : goal.returns-in-Whole
returns-in-Whole g c = c.verify_finalization.ensures c.args.peer.now c.args.value (rw c.in-Whole.is at c.in_ok-decode_finalization.ensures)
