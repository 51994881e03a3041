use Rattle.std.proofs.Common.{false, [], ◌∷◌, map, sym, ◌∙◌, arith}
use Rattle.std.proofs.lemmas.Bool.{eqb-true, eqb-false}
use Rattle.stateful_p2p.specs.Fanout.{unheard, malformed, untaken, taken}
use Rattle.stateful_p2p_tables.specs.declared.out.ActorOut.TheVariants.{Candidate, Feedback, Unjudged}
use Rattle.stateful_p2p_tables.proofs.Releasing.{on_both}
use Rattle.stateful_p2p.proofs.Offering.{none_left, some_left}
use Rattle.stateful_p2p.proofs.Performing.{takes_same}
use Rattle.stateful_p2p.proofs.Spreading.{awaiting_sound, on_any}
use Rattle.stateful_p2p.proofs.fanout.deliver.Goals as goal

pub returns-in_default-clause-delivers : goal.returns-in_default-clause-delivers
returns-in_default-clause-delivers g c = (Unjudged c.args.delivery ∷ [], unheard (rw c.in_default.is at c.in_ok-takers.ensures), c.in_ok-push.ensures.items)

pub returns-in_default-2-clause-delivers : goal.returns-in_default-2-clause-delivers
returns-in_default-2-clause-delivers g c =
    (Feedback c.args.delivery false ∷ [], malformed (takes_same c.args.state.now c.args.delivery _ _ (rw c.in-Some.is at c.in_ok-takers.ensures)) (rw c.in_default-2.is at c.in_ok-response.ensures), c.in_ok-push-2.ensures.items)

pub returns-then-is_empty-clause-delivers : goal.returns-then-is_empty-clause-delivers
returns-then-is_empty-clause-delivers g c =
    let takes = takes_same c.args.state.now c.args.delivery _ _ (rw c.in-Some.is at c.in_ok-takers.ensures) in
    let none = none_left c.in-Some.takers.items (let e = eqb-true _ 0 (sym c.is_empty.ensures ∙ c.if-is_empty.true) in omega arith) in
    (Unjudged c.args.delivery ∷ [], untaken (rw none at takes) (rw c.in-Some-2.is at c.in_ok-response.ensures), c.in_ok-push-3.ensures.items)

pub returns-clause-delivers : goal.returns-clause-delivers
returns-clause-delivers g c =
    let takes = takes_same c.args.state.now c.args.delivery _ _ (rw c.in-Some.is at c.in_ok-takers.ensures) in
    let some = some_left c.in-Some.takers.items (λ none. let e = eqb-false _ 0 (sym c.is_empty.ensures ∙ c.if-is_empty.false) in e (omega arith)) in
    on_both c.offer.result c.offer.ensures.waits c.offer.ensures.told
    (λ waits told. (
      map (λ t. Candidate t) c.in-Some.takers.items,
      rw (waits, c.in_ok-await_verdicts.ensures, c.as_slice-2.ensures.value, c.as_slice.ensures.value) (taken takes some (rw c.in-Some-2.is at c.in_ok-response.ensures)),
      rw c.as_slice-2.ensures.value at told,
    ))

pub returns-clause-sound : goal.returns-clause-sound
returns-clause-sound g c =
    let takes = takes_same c.args.state.now c.args.delivery _ _ (rw c.in-Some.is at c.in_ok-takers.ensures) in
    on_any c.offer.result (rw (c.in_ok-await_verdicts.ensures, c.as_slice.ensures.value) (awaiting_sound c.args.state.now c.args.delivery c.args.key c.in-Some.takers.items c.requires.sound c.requires.new takes))
