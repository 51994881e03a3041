use Rattle.std.proofs.Common.{ℕ, List, sym, subst}
use Rattle.stateful_history.specs.Past.{after_entry}
use Rattle.stateful_history.specs.declared.mark.Mark.{Mark}
use Rattle.stateful_actor_register.specs.Register.{RegisterStands}
use Rattle.stateful_actor_register.proofs.Entries.{RegisterStands-same}
use Rattle.stateful_actor_laws.specs.Machine.{numbered}
use Rattle.stateful_actor_step.proofs.inside.Core.end_work.Goals as goal

pub returns : goal.returns
returns g c = λ p stands.
    let count = g.A.Databases.DatabaseSet.kind.count in
    let shared : RegisterStands (numbered count) p c.in_ok-live.live = RegisterStands-same _ _ _ _ stands c.in_ok-live.ensures in
    let noted = c.in_ok-record.ensures.ok p (subst (λ (n : ℕ). RegisterStands n p c.in_ok-live.live) (sym c.count.ensures) shared) in
    c.in_ok-end_all.ensures c.count.result (after_entry p c.args.event.now c.args.marks.now.items)
    (subst (λ (marks : List (Mark g.row.A-Block.Denot)). RegisterStands c.count.result (after_entry p c.args.event.now marks) c.record.new.self) c.as_slice.ensures.value noted)
