use Rattle.stateful_base.specs.Number.{u32_format}
use Rattle.stateful_base.specs.FixedLaws.{u8_alone, u32_alone, u64_alone}
use Rattle.stateful_types.specs.ItemsLaws.{items_alone}
use Rattle.stateful_base.proofs.Values.{height_alone, location_alone, digest_alone, round_alone, finalization_alone}
use Rattle.stateful_types.proofs.Requests.{request_tags}
use Rattle.stateful_types.proofs.Responses.{response_tags}
use Rattle.stateful_types.proofs.law.no_spelling_begins_another.Goals as goal

pub returns : goal.returns
returns g c = record {
  numbers = (u8_alone, u32_alone, u64_alone);
  places = (height_alone, location_alone, round_alone);
  digests = digest_alone;
  votes = items_alone u32_format u32_alone;
  finalizations = finalization_alone g.S.Scheme.certificates g.met.S.Scheme.lawful;
  requests = request_tags.law;
  responses = (response_tags g.Op.Operation.operations g.met.Op.Operation.lawful).law;
}
