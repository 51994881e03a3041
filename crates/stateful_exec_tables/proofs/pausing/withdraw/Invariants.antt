use Rattle.std.proofs.Common.{◌≡◌, ◌++◌, ℕ, map}
use Rattle.std.specs.BTreeSet.{keys}
use Rattle.stateful_history.specs.declared.mark.Mark.TheVariants as mark
use Rattle.stateful_exec_tables.proofs.pausing.withdraw.Given as goal

abbrev pub invariant-loop-fetch : goal.invariant-loop-fetch
invariant-loop-fetch g l = l.marks.items ++ map (λ (f : ℕ). mark.Withdrawn f) l.fetch-iterator ≡ l.fn.marks.items ++ map (λ (f : ℕ). mark.Withdrawn f) (keys l.fetches)
