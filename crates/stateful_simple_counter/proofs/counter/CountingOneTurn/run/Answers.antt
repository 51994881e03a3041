use Rattle.stateful_simple_counter.proofs.counter.CountingOneTurn.run.Goals as goal

-- the sum is of the count that was read
pub returns : goal.returns
returns c = λ place entries holds.
    let count = c.get.ensures place entries holds in
    rw (c.saturating_add.ensures, c.unwrap_or-count.ensures, count) at (c.in_ok-draft.ensures place entries holds)
