use Rattle.std.proofs.Common.{◌++◌, append_assoc, ap, sym, ◌∙◌}
use Rattle.stateful_db_plain.specs.Whole.{pair_bytes, entry_bytes}
use Rattle.stateful_db_plain.proofs.state.add_entries.Goals as goal

pub loop-key-preserved : goal.loop-key-preserved
loop-key-preserved c = λ m holds.
    let (n, now, left) = c.loop-key.invariant m holds in
    let pair = pair_bytes c.in-Some.key.now c.in-Some.value.now in (
      n ++ pair,
      c.add_entry.ensures n now,
      append_assoc n pair (entry_bytes c.next.new.self)
          ∙ sym (ap (λ rest. n ++ entry_bytes rest) c.in-Some.ensures.steps) ∙ left,
    )
