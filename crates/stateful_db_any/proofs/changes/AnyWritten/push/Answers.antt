use Rattle.std.proofs.Common.{◌≡◌, ◌+◌, ap, sym, ◌∙◌, arith, length, ℕ, Option, Some, None, cond}
use Rattle.std.specs.Map.{lookup}
use Rattle.std.specs.BTreeMap.{BTreeMap, is_at}
use Rattle.stateful_db_any.proofs.Indexing.{noted, indexed_more}
use Rattle.stateful_db_any.proofs.changes.AnyWritten.push.Goals as goal
use Rattle.stateful_db_any.proofs.changes.AnyWritten.push.Goals.{in-Commit, in-Update+in_ok-duplicate-in-Update+in_ok-insert-in-Update, in-Delete+in_ok-duplicate-in-Delete+in_ok-insert-in-Delete}

pub invariant_of-result : goal.invariant_of-result
invariant_of-result g c =
    let cmp = g.K.Ord.cmp in
    let old = c.self.inside in
    let op = c.args.op in
    let new : (key : g.row.K.Denot) → lookup (is_at (cmp key)) c.match-op.index.entries ≡ noted cmp key (old.from + length old.ops.items) op (lookup (is_at (cmp key)) old.index.entries) =
    λ key.
    let at = old.from + length old.ops.items in
    let was = lookup (is_at (cmp key)) old.index.entries in
    let count : c.len.result ≡ length old.ops.items = omega (arith, c.len.ensures) in
    let entry : BTreeMap g.row.K.Denot (Option ℕ) → Option (Option ℕ) = λ m. lookup (is_at (cmp key)) m.entries in
    elim c.match-op.branch [
      | in-Commit w ↦ ap entry w.index-is ∙ sym (ap (λ o. noted cmp key at o was) w.in-Commit.is)
      | in-Update+in_ok-duplicate-in-Update+in_ok-insert-in-Update w ↦
          ap entry w.index-is
          ∙ w.in_ok-insert-in-Update.ensures.updates.0 key
          ∙ ap (λ k. cond (is_at (cmp k) key) (Some (Some (old.from + c.len.result))) was) w.in_ok-duplicate-in-Update.ensures
          ∙ ap (λ n. cond (is_at (cmp w.in-Update.key) key) (Some (Some (old.from + n))) was) count
          ∙ sym (ap (λ o. noted cmp key at o was) w.in-Update.is)
      | in-Delete+in_ok-duplicate-in-Delete+in_ok-insert-in-Delete w ↦
          ap entry w.index-is
          ∙ w.in_ok-insert-in-Delete.ensures.updates.0 key
          ∙ ap (λ k. cond (is_at (cmp k) key) (Some None) was) w.in_ok-duplicate-in-Delete.ensures
          ∙ sym (ap (λ o. noted cmp key at o was) w.in-Delete.is)
    ] in
    let more = indexed_more cmp old.from old.ops.items old.index.entries c.match-op.index.entries op c.self.invariant new in
    rw c.in_ok-push.ensures.items more
