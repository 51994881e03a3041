use Rattle.stateful_base.proofs.Formats.{write_rest}
use Rattle.stateful_probe.proofs.Messages.{response_case}
use Rattle.stateful_probe.proofs.wire.Message.write.Goals as goal

pub returns-in_ok-write-in-Response : goal.returns-in_ok-write-in-Response
returns-in_ok-write-in-Response g c =
    rw c.in-Response.is
    (write_rest _ _ _ _ (response_case g.S.Scheme.certificates g.met.S.Scheme.lawful) c.in-Response.finalization _ _ _ _ c.in_ok-write-in-Response.ensures.appended c.write-in-Response-2.ensures)
