use Rattle.stateful_base.proofs.Formats.{met}
use Rattle.stateful_types.proofs.Tags.{nothing_met, head_err, case_ok, case_err}
use Rattle.stateful_probe.proofs.Messages.{tag_head, tagged, message_tags, request_case, response_case}
use Rattle.stateful_probe.proofs.wire.Message.read.Goals as goal

pub returns-in_err-read : goal.returns-in_err-read
returns-in_err-read g c = head_err (message_tags g.S.Scheme.certificates g.met.S.Scheme.lawful) tag_head c.from_residual.ensures.1 c.in_err-read.ensures.reads

pub returns-in_err-read-in-Response : goal.returns-in_err-read-in-Response
returns-in_err-read-in-Response g c =
    let certificate = g.S.Scheme.certificates in
    let alone = g.met.S.Scheme.lawful in
    case_err (message_tags certificate alone) (response_case certificate alone) c.from_residual-in_err-read-in-Response.ensures.1
    (tagged c.in-Response.is c.in_ok-read.ensures.reads) (met c.in_err-read-in-Response.ensures)

pub returns-in-Request : goal.returns-in-Request
returns-in-Request g c =
    let certificate = g.S.Scheme.certificates in
    let alone = g.met.S.Scheme.lawful in
    case_ok (message_tags certificate alone) (request_case certificate alone) (tagged c.in-Request.is c.in_ok-read.ensures.reads) nothing_met

pub returns-in_ok-read-in-Response : goal.returns-in_ok-read-in-Response
returns-in_ok-read-in-Response g c =
    let certificate = g.S.Scheme.certificates in
    let alone = g.met.S.Scheme.lawful in
    case_ok (message_tags certificate alone) (response_case certificate alone) (tagged c.in-Response.is c.in_ok-read.ensures.reads) (met c.in_ok-read-in-Response.ensures)
