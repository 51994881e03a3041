use Rattle.std.proofs.Common.{sym, ◌∙◌, subst, arith}
use Rattle.stateful_types.specs.declared.request.Request.{Request}
use Rattle.stateful_db_medium.specs.Kept.{disk_of}
use Rattle.stateful_passes.specs.CompactServed.{AsksFor, Holds}
use Rattle.stateful_passes.proofs.Boundaries.{found, missing}
use Rattle.stateful_passes.proofs.compact_served.asked_for.Goals as goal

pub returns-in_err-number-in-Boundary-clause-none :
    goal.returns-in_err-number-in-Boundary-clause-none
returns-in_err-number-in-Boundary-clause-none g c = λ none held.
    let d = disk_of c.args.medium.now in
    let asked = subst (λ (r : Request). Holds d r) c.in-Boundary.is held in
    missing d c.in-Boundary.size c.in-Boundary.start asked.0 (sym c.number_with_end.ensures ∙ c.in_err-number-in-Boundary.was) asked.1

pub returns-in_ok-number-in-Boundary-clause-some :
    goal.returns-in_ok-number-in-Boundary-clause-some
returns-in_ok-number-in-Boundary-clause-some g c =
    let d = disk_of c.args.medium.now in
    subst (λ (r : Request). AsksFor d r c.get.result.now) (sym c.in-Boundary.is)
    (found d c.in-Boundary.size c.in-Boundary.start c.in_ok-number-in-Boundary.number c.get.result.now
    (sym c.number_with_end.ensures ∙ c.in_ok-number-in-Boundary.was) c.get.ensures (omega (arith, c.saturating_sub.ensures, c.if-saturating_sub-eq1.true)))
