use Rattle.std.proofs.Common.{ap, ◌∙◌}
use Rattle.stateful_base.specs.declared.target.Target.{Target}
use Rattle.stateful_db_overlay.specs.Stack.{above_in}
use Rattle.stateful_db_plain.specs.Whole.{Whole}
use Rattle.stateful_db_plain.specs.Writes.{Change, Makes}
use Rattle.stateful_db_plain.proofs.Showing.{makes_from, seal_state}
use Rattle.stateful_db_plain.proofs.batch.PlainMerkleized.checkpoint.Goals as goal

pub returns-clause-rooted : goal.returns-clause-rooted
returns-clause-rooted c =
    let m = c.args.self.now in
    let own = m.layer.1.writes in
    let below = above_in m.layer.0 m.below in
    let kept = c.in_ok-kept.kept in
    let writes = c.writes-own.ensures ∙ ap (λ (x : Change). x.writes) c.changes.ensures in
    let layers = c.above-layers.ensures ∙ ap (λ n. above_in n m.below) c.id.ensures in
    let size = ap (λ (s : Whole). s.size) c.in_ok-kept.ensures ∙ ap (λ (g : Target). g.end.0) c.target-target.ensures in
    let makes : Makes own below m.base kept =
    makes_from c.writes-own.result.now.entries own c.above-layers.result.now below c.entries.result.now.entries c.in_ok-entries.entries.entries m.base kept writes layers c.entries.ensures (ap (λ (s : Whole). s.entries) c.in_ok-kept.ensures)
    c.in_ok-entries.ensures.ordered c.in_ok-entries.ensures.values in
    c.target-target.ensures ∙ m.roots kept size makes

pub returns-clause-state : goal.returns-clause-state
returns-clause-state c = λ p chain shown.
    let m = c.args.self.now in
    let own = m.layer.1.writes in
    let below = above_in m.layer.0 m.below in
    let kept = c.in_ok-kept.kept in
    let writes = c.writes-own.ensures ∙ ap (λ (x : Change). x.writes) c.changes.ensures in
    let layers = c.above-layers.ensures ∙ ap (λ n. above_in n m.below) c.id.ensures in
    let size = ap (λ (s : Whole). s.size) c.in_ok-kept.ensures ∙ ap (λ (g : Target). g.end.0) c.target-target.ensures in
    let makes : Makes own below m.base kept =
    makes_from c.writes-own.result.now.entries own c.above-layers.result.now below c.entries.result.now.entries c.in_ok-entries.entries.entries m.base kept writes layers c.entries.ensures (ap (λ (s : Whole). s.entries) c.in_ok-kept.ensures)
    c.in_ok-entries.ensures.ordered c.in_ok-entries.ensures.values in
    seal_state m p chain kept shown size makes
