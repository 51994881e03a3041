use Rattle.std.proofs.Common.{Err, ap}
use Rattle.stateful_base.specs.Number.{u64_format}
use Rattle.stateful_base.specs.Digest.{digest_format}
use Rattle.stateful_base.specs.Round.{round_format}
use Rattle.stateful_base.specs.FixedLaws.{u64_alone}
use Rattle.stateful_base.proofs.Formats.{met, both_ok, first_err, second_err}
use Rattle.stateful_base.proofs.Values.{round_alone, digest_alone, place_format, place_alone}
use Rattle.stateful_probe.proofs.Known.{if_any_err}
use Rattle.stateful_probe.proofs.Reading.{header_read, header_unread}
use Rattle.stateful_probe.proofs.reply.read_header.Goals as goal

pub returns-clause-found : goal.returns-clause-found
returns-clause-found c = header_read _ _ _ _ _ _ _ c.in_ok-round.ensures.reads c.in_ok-read_u64.ensures.reads c.in_ok-payload.ensures.reads

pub returns-in_err-round-clause-none : goal.returns-in_err-round-clause-none
returns-in_err-round-clause-none c = if_any_err c.from_residual.result (header_unread _ _ _ (λ e. c.in_err-round.ensures.memory (ap Err e))
    (first_err place_format digest_format place_alone digest_alone _ _ _ (first_err round_format u64_format round_alone u64_alone _ _ _ (met c.in_err-round.ensures.reads))))

pub returns-in_err-read_u64-clause-none : goal.returns-in_err-read_u64-clause-none
returns-in_err-read_u64-clause-none c = if_any_err c.from_residual-in_err-read_u64.result (header_unread _ _ _ (λ e. c.in_err-read_u64.ensures.memory (ap Err e))
    (first_err place_format digest_format place_alone digest_alone _ _ _ (second_err round_format u64_format round_alone _ _ _ _ _ (met c.in_ok-round.ensures.reads) (met c.in_err-read_u64.ensures.reads))))

pub returns-in_err-payload-clause-none : goal.returns-in_err-payload-clause-none
returns-in_err-payload-clause-none c = if_any_err c.from_residual-in_err-payload.result (header_unread _ _ _ (λ e. c.in_err-payload.ensures.memory (ap Err e))
    (second_err place_format digest_format place_alone _ _ _ _ _ (both_ok round_format u64_format round_alone _ _ _ _ _ (met c.in_ok-round.ensures.reads) (met c.in_ok-read_u64.ensures.reads)) (met c.in_err-payload.ensures.reads)))
