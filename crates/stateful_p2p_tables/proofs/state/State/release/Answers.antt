use Rattle.std.proofs.Common.{◌≡◌, ◌-◌, Some, true, false}
use Rattle.std.proofs.lemmas.Bool.{eq-eqb}
use Rattle.stateful_table.specs.Table.{at}
use Rattle.stateful_p2p_tables.proofs.Releasing.{released_none, released_by}
use Rattle.stateful_p2p_tables.proofs.Counting.{released_sound, heard_less, not_zero}
use Rattle.stateful_p2p_tables.proofs.state.State.release.Goals as goal

pub returns-in_default-clause-releases : goal.returns-in_default-clause-releases
returns-in_default-clause-releases g c = released_none c.args.self.now c.args.ticket c.args.verdict c.remove.new.self (rw (← c.remove.ensures.value) c.in_default.is) c.remove.ensures.others

pub returns-then-verdicts-eq0-clause-releases : goal.returns-then-verdicts-eq0-clause-releases
returns-then-verdicts-eq0-clause-releases g c =
    let at_t : at c.args.self.now.unjudged c.args.ticket ≡ Some c.in-Some.delivery = rw (← c.remove.ensures.value) c.in-Some.is in
    let at_d : at c.args.self.now.deliveries c.in-Some.delivery ≡ Some c.in-Some-remove.verdicts = rw (← c.remove-2.ensures.value) c.in-Some-remove.is in
    rw c.outcome.ensures
    (released_by c.args.self.now c.args.ticket c.args.verdict c.in-Some.delivery c.in-Some-remove.verdicts c.hear.new.self c.remove.new.self c.remove-2.new.self at_t at_d
    c.in_ok-hear.ensures c.remove.ensures.others c.remove-2.ensures.others true (eq-eqb c.hear.new.self.awaited 0 c.if-verdicts-eq0.true))

pub returns-then-verdicts-eq0-clause-sound : goal.returns-then-verdicts-eq0-clause-sound
returns-then-verdicts-eq0-clause-sound g c =
    let at_t : at c.args.self.now.unjudged c.args.ticket ≡ Some c.in-Some.delivery = rw (← c.remove.ensures.value) c.in-Some.is in
    let at_d : at c.args.self.now.deliveries c.in-Some.delivery ≡ Some c.in-Some-remove.verdicts = rw (← c.remove-2.ensures.value) c.in-Some-remove.is in
    let less : c.hear.new.self.awaited ≡ c.in-Some-remove.verdicts.awaited - 1 = rw c.in_ok-hear.ensures (heard_less c.in-Some-remove.verdicts c.args.ticket c.args.verdict) in
    rw c.remove-2.ensures.others
    (rw (eq-eqb c.hear.new.self.awaited 0 c.if-verdicts-eq0.true) at
    (released_sound c.args.self.now c.args.ticket c.in-Some.delivery c.in-Some-remove.verdicts c.hear.new.self c.remove.new.self c.requires at_d less (λ weigh. rw at_t at (c.remove.ensures.sums weigh))))

pub returns-clause-releases : goal.returns-clause-releases
returns-clause-releases g c =
    let at_t : at c.args.self.now.unjudged c.args.ticket ≡ Some c.in-Some.delivery = rw (← c.remove.ensures.value) c.in-Some.is in
    let at_d : at c.args.self.now.deliveries c.in-Some.delivery ≡ Some c.in-Some-remove.verdicts = rw (← c.remove-2.ensures.value) c.in-Some-remove.is in
    rw c.in_ok-put.ensures.ok
    (released_by c.args.self.now c.args.ticket c.args.verdict c.in-Some.delivery c.in-Some-remove.verdicts c.hear.new.self c.remove.new.self c.remove-2.new.self at_t at_d
    c.in_ok-hear.ensures c.remove.ensures.others c.remove-2.ensures.others false (not_zero c.hear.new.self.awaited c.if-verdicts-eq0.false))

pub returns-clause-sound : goal.returns-clause-sound
returns-clause-sound g c =
    let at_t : at c.args.self.now.unjudged c.args.ticket ≡ Some c.in-Some.delivery = rw (← c.remove.ensures.value) c.in-Some.is in
    let at_d : at c.args.self.now.deliveries c.in-Some.delivery ≡ Some c.in-Some-remove.verdicts = rw (← c.remove-2.ensures.value) c.in-Some-remove.is in
    let less : c.hear.new.self.awaited ≡ c.in-Some-remove.verdicts.awaited - 1 = rw c.in_ok-hear.ensures (heard_less c.in-Some-remove.verdicts c.args.ticket c.args.verdict) in
    rw (c.in_ok-put.ensures.ok, c.remove-2.ensures.others)
    (rw (not_zero c.hear.new.self.awaited c.if-verdicts-eq0.false) at
    (released_sound c.args.self.now c.args.ticket c.in-Some.delivery c.in-Some-remove.verdicts c.hear.new.self c.remove.new.self c.requires at_d less (λ weigh. rw at_t at (c.remove.ensures.sums weigh))))
