use Rattle.std.proofs.Common.{◌∷◌, [], subst}
use Rattle.stateful_script_plan.specs.Scratch.{Keeps}
use Rattle.stateful_script_plan.proofs.Scratches.{begins_initial, begins_sealed}
use Rattle.stateful_script_plan.proofs.scratch.batch_over.Goals as goal

pub returns-in-Ok-clause-begins : goal.returns-in-Ok-clause-begins
returns-in-Ok-clause-begins g c = λ at states here drawn keeps.
    let set = g.W.Databases.DatabaseSet in
    let begun = c.in-Ok.ensures.ok at here drawn in
    begins_initial set.kind at set.opened set.shows (set.next c.args.databases.now) (set.next c.new_batches.new.self) c.in-Ok.batch states begun.0 begun.1 (c.in-Ok.ensures.keeps (at ∷ []) drawn)
    (subst (λ kept. Keeps set.kind set.shows (set.next c.args.databases.now) at kept states) c.in-Initial.is keeps)

pub returns-in-Ok-fork_batches-clause-begins : goal.returns-in-Ok-fork_batches-clause-begins
returns-in-Ok-fork_batches-clause-begins g c = λ at states here drawn keeps.
    let set = g.W.Databases.DatabaseSet in
    begins_sealed set.kind at set.opened set.shows (set.next c.args.databases.now) (set.next c.args.databases.now) (set.next c.fork_batches.new.self) c.in-Sealed.parent c.in-Ok-fork_batches.batch states
    (λ q above shown issued. c.in-Ok-fork_batches.ensures.ok at q above [] here shown issued) c.in-Ok-fork_batches.ensures.keeps
    (subst (λ kept. Keeps set.kind set.shows (set.next c.args.databases.now) at kept states) c.in-Sealed.is keeps)
