use Rattle.std.proofs.Common.{◌≡◌, ◌∷◌, ℕ, List, Some, None, sym, ap, subst, ◌∙◌}
use Rattle.std.specs.Map.{lookup}
use Rattle.std.specs.Option.{option_copied}
use Rattle.std.specs.BTreeMap.{is_at}
use Rattle.stateful_db_overlay.specs.Stack.{above_in}
use Rattle.stateful_db_overlay.specs.Chains.{Leads}
use Rattle.stateful_db_any.specs.Any.{State, value_at}
use Rattle.stateful_db_any.specs.Through.{Change}
use Rattle.stateful_db_any.specs.Shown.{Draft, After, DraftShows}
use Rattle.stateful_db_any.specs.Stored.{standing_of}
use Rattle.stateful_db_any.proofs.Sealing.{draft_written, own_state, draft_read}
use Rattle.stateful_db_any.proofs.batch.AnyUnmerkleized.get.Goals as goal

pub returns-in-Ok-clause-value : goal.returns-in-Ok-clause-value
returns-in-Ok-clause-value g c = λ p chain shown point.
    let K = g.row.K.Denot in
    let V = g.row.V.Denot in
    let cmp = g.K.Ord.cmp in
    let spell_key = g.K.Field.fields.spelling in
    let spell_value = g.V.Field.fields.spelling in
    let old = c.self.inside in
    let u : Draft K V = record { id = old.id; below = old.below; parent = old.parent; changes = record { writes = old.writes.entries; metadata = old.metadata } } in
    let Shows : Draft K V → Type 0 = λ d. DraftShows cmp spell_key spell_value d (p ∷ chain) in
    let found : lookup (is_at (cmp c.args.key.now)) old.writes.entries ≡ Some c.in-Some.value.now = sym c.get.ensures.value ∙ ap option_copied c.in-Some.is in
    c.in-Ok.ensures ∙ sym (draft_written cmp spell_key spell_value g.met.K.Ord.total u p chain c.args.key.now c.in-Some.value.now (subst Shows (sym c.self.view_is) shown) c.self.invariant found)

pub returns-in-Ok-get-clause-value : goal.returns-in-Ok-get-clause-value
returns-in-Ok-get-clause-value g c = λ p chain shown point.
    let K = g.row.K.Denot in
    let V = g.row.V.Denot in
    let cmp = g.K.Ord.cmp in
    let db = c.args.db.now in
    let same = ap (λ (d : Draft K V). d.id) (sym c.self.view_is) ∙ c.if-self-at.true ∙ c.id-at.ensures in
    c.in-Ok-get.ensures.value
    ∙ ap (λ (s : State K V). value_at cmp s c.args.key.now) (own_state cmp g.K.Field.fields.spelling g.V.Field.fields.spelling c.args.self.now p chain (standing_of db).id (standing_of db).disk.newest shown point same)

pub returns-in-Ok-value_in-clause-value : goal.returns-in-Ok-value_in-clause-value
returns-in-Ok-value_in-clause-value g c = λ p chain shown point.
    let K = g.row.K.Denot in
    let V = g.row.V.Denot in
    let cmp = g.K.Ord.cmp in
    let spell_key = g.K.Field.fields.spelling in
    let spell_value = g.V.Field.fields.spelling in
    let old = c.self.inside in
    let u : Draft K V = record { id = old.id; below = old.below; parent = old.parent; changes = record { writes = old.writes.entries; metadata = old.metadata } } in
    let db = c.args.db.now in
    let n = (standing_of db).id in
    let s = (standing_of db).disk.newest in
    let Shows : Draft K V → Type 0 = λ d. DraftShows cmp spell_key spell_value d (p ∷ chain) in
    let layers : c.above.result.now ≡ above_in n old.below = c.above.ensures ∙ ap (λ i. above_in i old.below) c.id-at.ensures in
    let none : lookup (is_at (cmp c.args.key.now)) old.writes.entries ≡ None = sym c.get.ensures.value ∙ ap option_copied c.in-None-2.is in
    draft_read cmp spell_key spell_value g.met.K.Ord.total u p chain n s c.args.key.now c.in-Ok-value_in.value (subst Shows (sym c.self.view_is) shown) point
    (λ e. c.if-self-at.false (e ∙ sym c.id-at.ensures))
    c.self.invariant none
    (λ t leads.
    let Led : List (ℕ × Change K V) → Type 0 = λ ls. Leads (After cmp spell_key spell_value) ls s t in
    c.in-Ok-value_in.ensures t (subst Led (sym layers) leads))
