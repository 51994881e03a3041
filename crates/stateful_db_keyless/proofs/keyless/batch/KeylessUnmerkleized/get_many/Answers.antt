use Rattle.std.proofs.Common.{map, ap, ◌∙◌}
use Rattle.std.proofs.lemmas.Option.{slice_get-get_or}
use Rattle.std.proofs.lemmas.List.{take_all}
use Rattle.stateful_db_keyless.specs.Reads.{log_over, value_at}
use Rattle.stateful_db_keyless.proofs.Locations.{each_low, next_value}
use Rattle.stateful_db_keyless.proofs.keyless.batch.KeylessUnmerkleized.get_many.Goals as goal

pub loop-location-preserved : goal.loop-location-preserved
loop-location-preserved g c = λ p q chain ch shown holds point readable.
    let locations = c.args.locations.now in
    let i = c.loop-location.location-index in
    let log = (log_over ch q.1) in
    let there = slice_get-get_or locations i _ c.loop-location-test.true in
    let value = c.in_ok-value.ensures p q chain ch shown holds point (each_low log.floor log.end locations i _ readable there) in
    c.in_ok-push.ensures.items ∙ next_value (λ at. value_at log at) c.loop-location.values.items locations i _ c.in_ok-value.value (c.loop-location.invariant p q chain ch shown holds point readable) there value

pub returns-clause-value : goal.returns-clause-value
returns-clause-value g c = λ p q chain ch shown holds point.
    let locations = c.args.locations.now in
    let readable = c.in_ok-check.ensures.ok p q chain ch shown holds in
    c.loop-location.invariant p q chain ch shown holds point readable ∙ ap (λ xs. map (λ at. value_at (log_over ch q.1) at) xs) (take_all c.loop-location.location-index locations c.loop-location-test.false)
