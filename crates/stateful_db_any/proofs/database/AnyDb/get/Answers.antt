use Rattle.std.proofs.Common.{ℕ, List, refl, subst, sym, ◌∙◌}
use Rattle.stateful_db_overlay.specs.Chains.{Leads}
use Rattle.stateful_db_any.specs.Through.{Change}
use Rattle.stateful_db_any.specs.Shown.{After}
use Rattle.stateful_db_any.specs.Stored.{standing_of}
use Rattle.stateful_db_any.proofs.database.AnyDb.get.Goals as goal

pub returns-in-Ok-clause-value : goal.returns-in-Ok-clause-value
returns-in-Ok-clause-value g c =
    let s = (standing_of c.args.self.now).disk.newest in
    let P : List (ℕ × Change g.row.K.Denot g.row.V.Denot) → Type 0 = λ ls. Leads (After g.K.Ord.cmp g.K.Field.fields.spelling g.V.Field.fields.spelling) ls s s in
    c.in-Ok.ensures s (subst P (sym (c.as_slice.ensures.value ∙ c.new-none.ensures.items)) refl)
