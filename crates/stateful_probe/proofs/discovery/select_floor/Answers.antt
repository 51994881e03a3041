use Rattle.std.proofs.Common.{◌≡◌, Some, rules}
use Rattle.std.specs.Option.{is_some}
use Rattle.stateful_probe.specs.Setup.{scheme_in}
use Rattle.stateful_probe.proofs.discovery.select_floor.Goals as goal

pub returns : goal.returns
returns g c = λ keys known.
    let participants = rw (← c.in-Some.ensures.found) at known in
    let same : c.participants.result.now ≡ keys = cc in
    let selects = (rw c.in-Some-2.is at c.in_ok-floor.ensures.selects) (λ f. is_some (scheme_in c.args.schemes.now.schemes f.round.epoch)) (λ f b h. search rules) in
    record {
      chosen = Some c.in-Some-2.floor;
      selects = rw same at selects;
      handed = rw c.as_slice.ensures at c.in_ok-hand_out.ensures;
      next_is = let with = rw c.in-Some-2.is at c.in_ok-floor.ensures.ok in cc;
    }
