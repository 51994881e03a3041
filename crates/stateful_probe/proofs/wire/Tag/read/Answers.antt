use Rattle.std.proofs.Common.{arith}
use Rattle.stateful_types.proofs.Tags.{nothing_met, tag_err, tag_wrong, tag_is, case_ok}
use Rattle.stateful_probe.proofs.Messages.{tag_tags, request_tag, response_tag}
use Rattle.stateful_probe.proofs.wire.Tag.read.Goals as goal

pub returns-in_err-other-clause-reads : goal.returns-in_err-other-clause-reads
returns-in_err-other-clause-reads c = tag_err tag_tags c.from_residual.ensures.1 c.in_err-other.ensures.reads

pub returns-in-0-clause-reads : goal.returns-in-0-clause-reads
returns-in-0-clause-reads c = case_ok tag_tags request_tag (tag_is c.in-0.is c.in_ok-other.ensures.reads) nothing_met

pub returns-in-1-clause-reads : goal.returns-in-1-clause-reads
returns-in-1-clause-reads c = case_ok tag_tags response_tag (tag_is c.in-1.is c.in_ok-other.ensures.reads) nothing_met

pub returns-in_default-clause-reads : goal.returns-in_default-clause-reads
returns-in_default-clause-reads c = tag_wrong tag_tags (λ is. absurd (omega arith)) c.in_ok-other.ensures.reads
