use Rattle.stateful_probe.proofs.Messages.{tag_tags, message_tags}
use Rattle.stateful_probe.proofs.wire.no_message_begins_another.Goals as goal

pub returns-clause-tags : goal.returns-clause-tags
returns-clause-tags g c = tag_tags.law

pub returns-clause-messages : goal.returns-clause-messages
returns-clause-messages g c = (message_tags g.S.Scheme.certificates g.met.S.Scheme.lawful).law
