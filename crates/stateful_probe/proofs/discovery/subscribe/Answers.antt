use Rattle.std.proofs.Common.{◌≡◌, ◌∙◌, Some, None, refl, sym, ap}
use Rattle.stateful_probe.specs.Probe.{answered, closed}
use Rattle.stateful_probe.proofs.Stepping.{begins_by, waits_by}
use Rattle.stateful_probe.proofs.discovery.subscribe.Goals as goal
use Rattle.stateful_probe.proofs.discovery.subscribe.Goals.{then-is_empty+in_ok-request_latest, else-is_empty}

pub returns-in-Some : goal.returns-in-Some
returns-in-Some g c = λ latest. rw (c.in_ok-push.ensures.items, c.requires.none)
    (answered {t = c.args.ticket} {f = c.in_ok-finalization.finalization} (sym c.in-Some.ensures ∙ ap Some (sym c.in_ok-finalization.ensures)))

pub returns-then-serving : goal.returns-then-serving
returns-then-serving g c = λ latest.
    let none : c.args.state.now.sample.floor ≡ None = cc in
    rw (c.in_ok-push-2.ensures.items, c.requires.none) (closed {t = c.args.ticket} none (cc))

pub returns : goal.returns
returns g c = λ latest.
    let none : c.args.state.now.sample.floor ≡ None = cc in
    elim c.if-is_empty.branch [
      | then-is_empty+in_ok-request_latest w ↦
          begins_by _ latest c.args.state.now c.args.ticket _ c.if-is_empty.state c.push-2.new.self none (cc) (cc)
          (rw w.outs-is (rw c.requires.none at w.in_ok-request_latest.ensures.asked))
          (rw w.state-is w.in_ok-request_latest.ensures.restarted)
          c.in_ok-push-3.ensures.ok
      | else-is_empty w ↦
          waits_by _ latest c.args.state.now c.args.ticket _ c.if-is_empty.state c.push-2.new.self none (cc)
          (rw w.outs-is c.requires.none)
          (rw w.state-is refl)
          c.in_ok-push-3.ensures.ok
    ]
