use Rattle.stateful_p2p_codec.proofs.Payloads.{bounded}
use Rattle.stateful_p2p_codec.proofs.limits.no_payload_is_longer.Goals as goal

pub returns : goal.returns
returns g c = λ most op. bounded g.Op.Operation.operations most op
