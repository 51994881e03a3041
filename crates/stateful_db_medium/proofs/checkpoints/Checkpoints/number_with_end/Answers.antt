use Rattle.stateful_db_medium.specs.declared.checkpoints.Checkpoint.{Checkpoint}
use Rattle.std.proofs.Common.{◌≡◌, ◌==◌, sym, ◌∙◌, ap, eq-eqb, None, Some, position, rules, length}
use Rattle.stateful_db_medium.proofs.Positions.{position_last}
use Rattle.stateful_db_medium.proofs.checkpoints.Checkpoints.number_with_end.Goals as goal

pub returns-in-None : goal.returns-in-None
returns-in-None g c =
    let kept = c.args.self.now in
    let none : position {X = (Checkpoint g.row.X.Denot)} (λ s. s.target.end.0 == c.args.end.0) kept.older.items ≡ None = search (rules, c.number_in.ensures, c.in-None.is, c.as_slice.ensures.value) in
    let same = c.if-self-end.true in
    let found = position_last (λ s. s.target.end.0 == c.args.end.0) kept.older.items kept.newest none (eq-eqb _ _ same) in
    let count = sym c.as_slice.ensures.len ∙ ap (λ xs. length xs) c.as_slice.ensures.value in
    ap (λ n. Some n) (c.len.ensures ∙ count) ∙ sym found
