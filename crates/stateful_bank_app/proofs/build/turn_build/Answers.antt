use Rattle.std.proofs.Common.{◌≡◌, Err, sym, ◌∙◌, ap, refl, subst, ◌+◌}
use Rattle.stateful_db.specs.declared.application.AppFault.TheVariants.{Failed}
use Rattle.stateful_bank_app.specs.Runs.{LeadsToFull, LeadsToRoom}
use Rattle.stateful_bank_app.proofs.Building.{same, refused_ends, refused_cost, further_build, further_cost, complete_shows, complete_cost, ends}
use Rattle.stateful_bank_app.proofs.build.turn_build.Goals as goal

-- an operation that isn't allowed
pub returns-in-Ok-Refused-clause-ok : goal.returns-in-Ok-Refused-clause-ok
returns-in-Ok-Refused-clause-ok g c = λ b turns q is here point.
    let w = g.W.World.rules in
    let holds = g.W.World.holds in
    let target_of = g.W.Databases.DatabaseSet.kind.target_of in
    let shows = g.W.Databases.DatabaseSet.shows in
    let held = sym c.take.ensures.value ∙ c.in-Some.is in
    refused_ends w holds target_of shows c.args.build.now b turns is c.in-Some.proposal c.in-Some.progress held _ c.as_slice.result.now c.as_slice.ensures (record { point = q; is = here; among = point }) _ c.in-Ok-Refused.ensures c.in-Ok-Refused.field-0-is

pub returns-in-Ok-Refused-clause-cost : goal.returns-in-Ok-Refused-clause-cost
returns-in-Ok-Refused-clause-cost g c = λ b turns q is here point.
    let w = g.W.World.rules in
    let holds = g.W.World.holds in
    let target_of = g.W.Databases.DatabaseSet.kind.target_of in
    let shows = g.W.Databases.DatabaseSet.shows in
    let held = sym c.take.ensures.value ∙ c.in-Some.is in
    refused_cost w holds target_of shows c.args.build.now b turns is c.in-Some.proposal c.in-Some.progress held _ c.as_slice.result.now c.as_slice.ensures (record { point = q; is = here; among = point }) _ c.in-Ok-Refused.ensures c.in-Ok-Refused.field-0-is

-- an operation that isn't the last
pub returns-in-Ok-Further-clause-ok : goal.returns-in-Ok-Further-clause-ok
returns-in-Ok-Further-clause-ok g c = λ b turns q is here point.
    let w = g.W.World.rules in
    let holds = g.W.World.holds in
    let target_of = g.W.Databases.DatabaseSet.kind.target_of in
    let shows = g.W.Databases.DatabaseSet.shows in
    let held = sym c.take.ensures.value ∙ c.in-Some.is in
    further_build w holds target_of shows c.args.build.now b turns is c.in-Some.proposal c.in-Some.progress held _ c.as_slice.result.now c.as_slice.ensures (record { point = q; is = here; among = point }) _ c.in-Ok-Further.ensures c.in-Ok-Further.progress _ c.in-Ok-Further.field-0-is refl

pub returns-in-Ok-Further-clause-cost : goal.returns-in-Ok-Further-clause-cost
returns-in-Ok-Further-clause-cost g c = λ b turns q is here point.
    let w = g.W.World.rules in
    let holds = g.W.World.holds in
    let target_of = g.W.Databases.DatabaseSet.kind.target_of in
    let shows = g.W.Databases.DatabaseSet.shows in
    let held = sym c.take.ensures.value ∙ c.in-Some.is in
    further_cost w holds target_of shows c.args.build.now b turns is c.in-Some.proposal c.in-Some.progress held _ c.as_slice.result.now c.as_slice.ensures (record { point = q; is = here; among = point }) _ c.in-Ok-Further.ensures c.in-Ok-Further.progress c.in-Ok-Further.field-0-is

-- the last operation
pub returns-in_ok-given-in-Ok-Complete-clause-ok : goal.returns-in_ok-given-in-Ok-Complete-clause-ok
returns-in_ok-given-in-Ok-Complete-clause-ok g c = λ b turns q is here point.
    let w = g.W.World.rules in
    let holds = g.W.World.holds in
    let target_of = g.W.Databases.DatabaseSet.kind.target_of in
    let shows = g.W.Databases.DatabaseSet.shows in
    let held = sym c.take.ensures.value ∙ c.in-Some.is in
    let shown = complete_shows w holds target_of shows c.args.build.now b turns is c.in-Some.proposal c.in-Some.progress held _ c.as_slice.result.now c.as_slice.ensures (record { point = q; is = here; among = point }) _ c.in-Ok-Complete.ensures c.in-Ok-Complete.batch c.in-Ok-Complete.field-0-is in
    ends w holds target_of shows _ b _ (c.in_ok-given-in-Ok-Complete.ensures.ok b (same w holds target_of shows c.args.build.now b turns is c.in-Some.proposal c.in-Some.progress held) shown (record { point = q; is = here; among = point }))

pub returns-in_ok-given-in-Ok-Complete-clause-cost : goal.returns-in_ok-given-in-Ok-Complete-clause-cost
returns-in_ok-given-in-Ok-Complete-clause-cost g c = λ b turns q is here point.
    let w = g.W.World.rules in
    let holds = g.W.World.holds in
    let target_of = g.W.Databases.DatabaseSet.kind.target_of in
    let shows = g.W.Databases.DatabaseSet.shows in
    let held = sym c.take.ensures.value ∙ c.in-Some.is in
    complete_cost w holds target_of shows c.args.build.now b turns is c.in-Some.proposal c.in-Some.progress held _ c.as_slice.result.now c.as_slice.ensures (record { point = q; is = here; among = point }) _ c.in-Ok-Complete.ensures c.in-Ok-Complete.batch c.in-Ok-Complete.field-0-is

pub returns-in_ok-given-in-Ok-Complete-clause-within : goal.returns-in_ok-given-in-Ok-Complete-clause-within
returns-in_ok-given-in-Ok-Complete-clause-within g c = λ built b turns q is here point.
    let w = g.W.World.rules in
    let holds = g.W.World.holds in
    let target_of = g.W.Databases.DatabaseSet.kind.target_of in
    let shows = g.W.Databases.DatabaseSet.shows in
    let held = sym c.take.ensures.value ∙ c.in-Some.is in
    let shown = complete_shows w holds target_of shows c.args.build.now b turns is c.in-Some.proposal c.in-Some.progress held _ c.as_slice.result.now c.as_slice.ensures (record { point = q; is = here; among = point }) _ c.in-Ok-Complete.ensures c.in-Ok-Complete.batch c.in-Ok-Complete.field-0-is in
    let asked = same w holds target_of shows c.args.build.now b turns is c.in-Some.proposal c.in-Some.progress held in
    subst (λ p. LeadsToRoom w g.W.Databases.DatabaseSet.kind.Full b.at.1 p.ops (p.height.0 + 1)) asked (c.in_ok-given-in-Ok-Complete.ensures.within built b shown (record { point = q; is = here; among = point }))

pub returns-in_err-given-in-Ok-Complete-clause-exhausted : goal.returns-in_err-given-in-Ok-Complete-clause-exhausted
returns-in_err-given-in-Ok-Complete-clause-exhausted g c = λ failed b turns q is here point.
    let w = g.W.World.rules in
    let holds = g.W.World.holds in
    let target_of = g.W.Databases.DatabaseSet.kind.target_of in
    let shows = g.W.Databases.DatabaseSet.shows in
    let held = sym c.take.ensures.value ∙ c.in-Some.is in
    let shown = complete_shows w holds target_of shows c.args.build.now b turns is c.in-Some.proposal c.in-Some.progress held _ c.as_slice.result.now c.as_slice.ensures (record { point = q; is = here; among = point }) _ c.in-Ok-Complete.ensures c.in-Ok-Complete.batch c.in-Ok-Complete.field-0-is in
    let asked = same w holds target_of shows c.args.build.now b turns is c.in-Some.proposal c.in-Some.progress held in
    let fault = rw failed at c.from_residual.ensures.1 in
    let finish_failed : c.finish.result ≡ Err Failed = c.in_err-given-in-Ok-Complete.was ∙ ap Err (sym fault) in
    subst (λ p. LeadsToFull w g.W.Databases.DatabaseSet.kind.Full b.at.1 p.ops (p.height.0 + 1)) asked (c.finish.ensures.exhausted finish_failed b shown (record { point = q; is = here; among = point }))
