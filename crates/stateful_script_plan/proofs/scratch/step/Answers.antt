use Rattle.std.proofs.Common.{ap, ◌∙◌, subst}
use Rattle.stateful_bank_app.specs.Rules.{stepped}
use Rattle.stateful_script_plan.specs.Scratch.{Begins}
use Rattle.stateful_script_plan.proofs.Scratches.{keeps_none, keeps_sealed}
use Rattle.stateful_script_plan.proofs.scratch.step.Goals as goal

pub returns-in-Some-2-clause-after : goal.returns-in-Some-2-clause-after
returns-in-Some-2-clause-after g c = λ at states here drawn keeps.
    let set = g.W.Databases.DatabaseSet in
    let k = set.next c.batch_over.new.databases in
    let there = ap set.kind.point c.in_ok-batch.ensures.members ∙ here in
    let step = λ (s : g.row.W-Databases-States.Denot). stepped g.W.World.rules s c.args.ops.now c.args.height.0 in
    let begins = subst (λ batch. Begins set.kind set.opened k at batch states) c.in-Some.is (c.in_ok-batch.ensures.begins at states here drawn keeps) in
    let seals = rw c.in-Some-2.is at c.in_ok-batch-2.ensures in
    keeps_sealed set.kind at set.opened set.shows (set.kind.point (set.members c.batch_over.new.databases)) there k c.in-Some.batch step g.met.W.Databases.DatabaseSet.laws.ids c.in-Some-2.batch states begins seals

pub returns-in-None-clause-after : goal.returns-in-None-clause-after
returns-in-None-clause-after g c = λ at states here drawn keeps.
    let set = g.W.Databases.DatabaseSet in
    let k = set.next c.batch_over.new.databases in
    let there = ap set.kind.point c.in_ok-batch.ensures.members ∙ here in
    let step = λ (s : g.row.W-Databases-States.Denot). stepped g.W.World.rules s c.args.ops.now c.args.height.0 in
    let begins = subst (λ batch. Begins set.kind set.opened k at batch states) c.in-Some.is (c.in_ok-batch.ensures.begins at states here drawn keeps) in
    let seals = rw c.in-None.is at c.in_ok-batch-2.ensures in
    keeps_none set.kind at set.opened set.shows (set.kind.point (set.members c.batch_over.new.databases)) there k c.in-Some.batch step states begins seals
