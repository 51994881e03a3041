use Rattle.stateful_probe.proofs.Messages.{tagged}
use Rattle.stateful_probe.proofs.Reading.{passed_on, untagged}
use Rattle.stateful_probe.proofs.reply.read_reply.Goals as goal

pub returns-in_err-read : goal.returns-in_err-read
returns-in_err-read g c = passed_on _ _ _ _ _ c.from_residual.ensures.1 (untagged _ _ _ _ c.in_err-read.ensures.reads)

pub returns-in-Response : goal.returns-in-Response
returns-in-Response g c = rw (tagged c.in-Response.is c.in_ok-read.ensures.reads) c.read_response.ensures.read
