use Rattle.std.proofs.Common.{Some, None, Err, ap}
use Rattle.stateful_probe.specs.Probe.{passed_over, untagged}
use Rattle.stateful_probe.proofs.Stepping.{request_read, response_read, nothing_read, served_by}
use Rattle.stateful_probe.proofs.service.receive.Goals as goal
use Rattle.stateful_probe.proofs.service.receive.Goals.{in-Ok-Request+in_ok-value-in-Ok-Request+in-Some+in_ok-push-in-Ok-Request, in-Ok-Request+in_ok-value-in-Ok-Request+in_default, in-Ok-Response, in-Err+in_ok-push-in-Err}

pub returns : goal.returns
returns g c = λ config state serving. elim c.match-read.branch [
  | in-Ok-Request+in_ok-value-in-Ok-Request+in-Some+in_ok-push-in-Ok-Request w ↦
      rw (w.outs-is, w.in_ok-push-in-Ok-Request.ensures.items, c.requires)
      (served_by _ _ state c.args.peer c.args.value (Some w.in-Some.value) serving
      (request_read _ _ (rw w.in-Ok-Request.field-0-is at w.in-Ok-Request.ensures).reads)
      (rw w.in-Some.is at w.in_ok-value-in-Ok-Request.ensures))
  | in-Ok-Request+in_ok-value-in-Ok-Request+in_default w ↦
      rw (w.outs-is, c.requires)
      (served_by _ _ state c.args.peer c.args.value None serving
      (request_read _ _ (rw w.in-Ok-Request.field-0-is at w.in-Ok-Request.ensures).reads)
      (rw w.in_default.is at w.in_ok-value-in-Ok-Request.ensures))
  | in-Ok-Response w ↦
      rw (w.outs-is, c.requires)
      (passed_over {peer = c.args.peer} {bytes = c.args.value} serving
      (response_read _ _ (rw w.in-Ok-Response.field-0-is at w.in-Ok-Response.ensures).reads))
  | in-Err+in_ok-push-in-Err w ↦
      let none = nothing_read _ _ _ (λ e. w.in-Err.ensures.memory (ap Err e)) w.in-Err.ensures.reads in
      rw (w.outs-is, w.in_ok-push-in-Err.ensures.items, c.requires)
      (untagged {peer = c.args.peer} {bytes = c.args.value} serving none.0 none.1)
]
