use Rattle.std.proofs.Common.{◌≡◌, drop}
use Rattle.stateful_bank.specs.Accounts.{do_ops}
use Rattle.stateful_bank.proofs.accounts.do_ops.Given as goal

-- of each state at the start there is one now, from which the rest of the operations leads to where all of them do
abbrev pub invariant-loop-op : goal.invariant-loop-op
invariant-loop-op g l =
    let book = g.A.Accounts.book in
    (s : book.State) → g.A.Accounts.shows l.initial.accounts s → (t : book.State) × g.A.Accounts.shows l.accounts t × (do_ops book t (drop l.op-index l.ops) ≡ do_ops book s l.ops)
