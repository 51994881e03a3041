use Rattle.stateful_db.proofs.Handles.{unbroken_good, unbroken_open, Polled-good, Polled-open, Polled-all}
use Rattle.stateful_db.proofs.barrier.Barrier.poll.Goals as goal
use Rattle.stateful_db.proofs.barrier.Barrier.poll.Goals.{in-Some-Good, in-None}

pub loop-handle-preserved : goal.loop-handle-preserved
loop-handle-preserved c =
    elim c.match-handle.branch [
      | in-Some-Good w ↦
          let answer = rw w.in-Some-Good.is at w.in-Some-Good.field-0-is in
          let good = rw answer at w.in-Some-Good.is in
          record {
            polled = rw w.poll-is (Polled-good _ _ _ c.loop-handle-test.true _ good c.loop-handle.invariant.unbroken c.loop-handle.invariant.polled);
            unbroken = unbroken_good _ _ _ c.loop-handle-test.true good c.loop-handle.invariant.unbroken;
          }
      | in-None w ↦
          record {
            polled = rw w.poll-is (Polled-open _ _ _ c.loop-handle-test.true w.in-None.is c.loop-handle.invariant.unbroken);
            unbroken = unbroken_open _ _ _ c.loop-handle-test.true w.in-None.is c.loop-handle.invariant.unbroken;
          }
    ]

pub returns : goal.returns
returns c = rw (← c.self.view_is, ← c.deref-handle-items.ensures.value) (Polled-all _ _ _ c.loop-handle-test.false c.loop-handle.invariant.polled)
