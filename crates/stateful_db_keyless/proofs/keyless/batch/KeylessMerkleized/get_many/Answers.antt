use Rattle.std.proofs.Common.{◌∙◌}
use Rattle.std.proofs.lemmas.Option.{slice_get-get_or}
use Rattle.stateful_db_keyless.specs.Reads.{log_of, value_at}
use Rattle.stateful_db_keyless.proofs.Locations.{each_low, next_value}
use Rattle.stateful_db_keyless.proofs.keyless.batch.KeylessMerkleized.get_many.Goals as goal

pub loop-location-preserved : goal.loop-location-preserved
loop-location-preserved g c = λ p chain shown point readable.
    let locations = c.args.locations.now in
    let i = c.loop-location.location-index in
    let log = (log_of p.1) in
    let there = slice_get-get_or locations i _ c.loop-location-test.true in
    let value = c.in_ok-value.ensures p chain shown point (each_low log.floor log.end locations i _ readable there) in
    c.in_ok-push.ensures.items ∙ next_value (λ at. value_at log at) c.loop-location.values.items locations i _ c.in_ok-value.value (c.loop-location.invariant p chain shown point readable) there value
