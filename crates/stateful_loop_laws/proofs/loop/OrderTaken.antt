-- What is taken in leaves heights and receipts in order, and so does an opening.
use Rattle.std.proofs.Common.{◌≡◌, ◌≤◌, ℕ, [], List, Option, sym, ap, subst, arith}
use Rattle.std.proofs.lemmas.List.Elements.{All-nil}
use Rattle.std.proofs.lemmas.List.Sorted.{IsNonDecreasingBy-short}
use Rattle.stateful_base.specs.Names.{Named}
use Rattle.stateful_base.specs.declared.floor.Floor.{Floor}
use Rattle.stateful_durability.specs.Durability.{IsInOrder}
use Rattle.stateful_history.specs.declared.event.Event.{Event}
use Rattle.stateful_exec_model.specs.Workings.{Workings}
use Rattle.stateful_loop_model.specs.Intake.{Counts, TakesIn, enters, cancels, fetched, turns, flushes, stops, progresses, restarts, TurnsJob, build, hook, run}
use Rattle.stateful_loop_model.specs.Moments.{Moment}
use Rattle.stateful_loop_model.specs.Opening.{Opens}

-- where nothing is above the opening
pub opened_order : (height : ℕ) → IsInOrder (record { durable = height; applied = height; barriers = []; held = [] })
opened_order height = record {
  durable = omega arith;
  at_most_two = omega arith;
  barriers_ascend = λ k within. absurd (omega arith);
  barriers_applied = All-nil (λ n. n ≤ height);
  ascending = IsNonDecreasingBy-short (λ (r : ℕ × ℕ). r.0) [] (omega arith);
  applied = All-nil (λ (r : ℕ × ℕ). r.0 ≤ height);
}

module _ {B C I P R D H G U : Type 0} (w : Workings B C I P R D H G U) where
  -- the databases are opened
  pub opens_order : (stored : ℕ → Option (Named B)) (floor : Floor) (keep : List ℕ) (m now : Moment w) → Opens w stored floor keep m now
      → IsInOrder now.loop.durability
  opens_order stored floor keep m now o =
      subst IsInOrder (sym (ap (λ l. l.durability) o.loop)) (opened_order (w.header.height o.block.block))

  turned : (counts : Counts R D H) (j : ℕ) (m now : Moment w) → TurnsJob w counts j m now → now.loop.durability ≡ m.loop.durability
  turned counts j m now (build live turns_it is) = ap (λ n. n.loop.durability) is
  turned counts j m now (hook unbuilt live turns_it is) = ap (λ n. n.loop.durability) is
  turned counts j m now (run unbuilt unhooked completes is) = ap (λ n. n.loop.durability) is

  same : (stored : ℕ → Option (Named B)) (counts : Counts R D H) (e : Event B C I) (m now : Moment w) → TakesIn w stored counts m now e
      → now.loop.durability ≡ m.loop.durability
  same stored counts e m now (enters by is) = ap (λ n. n.loop.durability) is
  same stored counts e m now (cancels r) = ap (λ n. n.loop.durability) r.becomes
  same stored counts e m now (fetched r is) = ap (λ n. n.loop.durability) is
  same stored counts e m now (turns {j = j} r) = turned counts j m now r
  same stored counts e m now (flushes r) = ap (λ n. n.loop.durability) r.becomes
  same stored counts e m now (stops is) = ap (λ n. n.loop.durability) is
  same stored counts e m now (progresses is) = ap (λ n. n.loop.durability) is
  same stored counts e m now (restarts is) = ap (λ n. n.loop.durability) is

  -- an event is taken in
  pub taken_in_order : (stored : ℕ → Option (Named B)) (counts : Counts R D H) (e : Event B C I) (m now : Moment w)
      → TakesIn w stored counts m now e → IsInOrder m.loop.durability → IsInOrder now.loop.durability
  taken_in_order stored counts e m now takes o = subst IsInOrder (sym (same stored counts e m now takes)) o
