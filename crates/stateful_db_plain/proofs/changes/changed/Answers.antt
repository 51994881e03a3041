use Rattle.std.proofs.Common.{ℕ, List, Option, ap, sym, subst, ◌∙◌}
use Rattle.std.specs.Ordering.{nat_cmp}
use Rattle.std.specs.Map.{keys_of}
use Rattle.std.specs.List.Sorted.{IsStrictlySortedBy}
use Rattle.stateful_db_plain.specs.Whole.{value_at}
use Rattle.stateful_db_plain.specs.Writes.{value_over}
use Rattle.stateful_db_plain.proofs.Written.{first_made, rest_ordered}
use Rattle.stateful_db_plain.proofs.changes.changed.Goals as goal

pub loop-key-preserved : goal.loop-key-preserved
loop-key-preserved c =
    let k = c.in-Some.key.now in
    let v = c.in-Some.value.now in
    let rest = c.next.new.self in
    let Up : List (ℕ × Option ℕ) → Type 0 = λ ws. IsStrictlySortedBy nat_cmp (keys_of ws) in
    let up = subst Up c.in-Some.ensures.steps c.loop-key.invariant.left in
    record {
      left = rest_ordered k v rest up;
      values = λ key.
          let had = value_at c.loop-key.after.entries key in
          first_made k v rest key had _ up (c.in_ok-put.ensures key)
          ∙ ap (λ ws. value_over ws key had) (sym c.in-Some.ensures.steps)
          ∙ c.loop-key.invariant.values key;
    }
