use Rattle.std.proofs.Common.{◌≡◌, ◌+◌, ◌++◌, ℕ, List, refl, subst, sym, ap, ◌∙◌, arith}
use Rattle.std.proofs.lemmas.Bool.Decides.{nat_tests}
use Rattle.stateful_db_overlay.specs.Chains.{Leads}
use Rattle.stateful_base.specs.declared.target.Target.{Target}
use Rattle.stateful_db_any.specs.Live.{passed}
use Rattle.stateful_db_any.specs.Through.{Change}
use Rattle.stateful_db_any.specs.Shown.{After}
use Rattle.stateful_db_any.specs.Stored.{standing_of}
use Rattle.stateful_db_any.proofs.applied.follows.Goals as goal

pub returns-clause-start : goal.returns-clause-start
returns-clause-start g c = λ same.
    let K = g.row.K.Denot in
    let V = g.row.V.Denot in
    let cmp = g.K.Ord.cmp in
    let s = (standing_of c.args.db.now).disk.newest in
    let old = c.changes.inside in
    let P : List (ℕ × Change K V) → Type 0 = λ ls. Leads (After cmp g.K.Field.fields.spelling g.V.Field.fields.spelling) ls s s in
    let leads = subst P (sym (c.as_slice.ensures.value ∙ c.new-none.ensures.items)) refl in
    let start = ap (λ (t : Target). t.start.0) c.target-range.ensures in
    let from = sym c.from.ensures ∙ c.if-from-range.false ∙ ap (λ (t : Target). t.end.0) c.target-range.ensures in
    let kept = c.first_kept.ensures s leads (c.is_whole.ensures c.if-not-is_whole.false) from c.ops.ensures.indexed start in
    let is : old.target.start.0 ≡ c.first_kept.result = grind (arith, nat_tests, same) in
    sym (ap (λ (ch : Change K V). ch.target.start.0) c.changes.view_is)
    ∙ is ∙ kept
    ∙ ap (λ n. n + passed cmp (s.kept ++ old.written.ops)) start
    ∙ ap (λ (ch : Change K V). s.target.start.0 + passed cmp (s.kept ++ ch.written.ops)) c.changes.view_is
