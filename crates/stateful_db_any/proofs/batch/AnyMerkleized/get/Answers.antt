use Rattle.std.proofs.Common.{◌≡◌, ◌∷◌, ◌++◌, ℕ, List, None, sym, ap, subst, ◌∙◌}
use Rattle.std.specs.Option.{option_map}
use Rattle.stateful_db_overlay.specs.Stack.{above_in}
use Rattle.stateful_db_overlay.specs.Chains.{Leads}
use Rattle.stateful_db_any.specs.Live.{last_write}
use Rattle.stateful_db_any.specs.Any.{State, value_at}
use Rattle.stateful_db_any.specs.Through.{Written, Change, IsIndexed}
use Rattle.stateful_db_any.specs.Shown.{Seal, After, SealShows}
use Rattle.stateful_db_any.specs.Stored.{standing_of}
use Rattle.stateful_db_any.proofs.Sealing.{seal_own, seal_read}
use Rattle.stateful_db_any.proofs.batch.AnyMerkleized.get.Goals as goal

pub returns-in-Ok-clause-value : goal.returns-in-Ok-clause-value
returns-in-Ok-clause-value g c = λ p chain shown point.
    let K = g.row.K.Denot in
    let V = g.row.V.Denot in
    let cmp = g.K.Ord.cmp in
    let db = c.args.db.now in
    let same = ap (λ (m : Seal K V). m.layer.0) (sym c.self.view_is) ∙ sym c.id.ensures ∙ c.if-id-at.true ∙ c.id-at.ensures in
    c.in-Ok.ensures.value
    ∙ ap (λ (s : State K V). value_at cmp s c.args.key.now) (seal_own cmp g.K.Field.fields.spelling g.V.Field.fields.spelling c.args.self.now p chain (standing_of db).id (standing_of db).disk.newest shown point same)

pub returns-in-Ok-value_over-clause-value : goal.returns-in-Ok-value_over-clause-value
returns-in-Ok-value_over-clause-value g c = λ p chain shown point.
    let K = g.row.K.Denot in
    let V = g.row.V.Denot in
    let cmp = g.K.Ord.cmp in
    let spell_key = g.K.Field.fields.spelling in
    let spell_value = g.V.Field.fields.spelling in
    let key = c.args.key.now in
    let old = c.self.inside in
    let m : Seal K V = record { layer = old.layer; below = old.below } in
    let db = c.args.db.now in
    let n = (standing_of db).id in
    let s = (standing_of db).disk.newest in
    let Shows : Seal K V → Type 0 = λ x. SealShows cmp spell_key spell_value x (p ∷ chain) in
    let layers : c.above.result.now ≡ above_in n old.below = c.above.ensures ∙ ap (λ i. above_in i old.below) c.id-at.ensures in
    let own : c.behind-self.inside.written ≡ old.layer.1.written = ap (λ (x : Change K V). x.written) (c.behind-self.view_is ∙ c.changes.ensures) in
    let Indexed : Written K V → Type 0 = λ w. IsIndexed cmp w in
    seal_read cmp spell_key spell_value g.met.K.Ord.total m p chain n s key c.in-Ok-value_over.value (subst Shows (sym c.self.view_is) shown) point
    (λ e. c.if-id-at.false (c.id.ensures ∙ e ∙ sym c.id-at.ensures))
    (λ t leads from indexed.
    let Led : List (ℕ × Change K V) → Type 0 = λ ls. Leads (After cmp spell_key spell_value) ls s t in
    c.in-Ok-value_over.ensures t (subst Led (sym layers) leads) (ap (λ (w : Written K V). w.from) own ∙ from) (subst Indexed (sym own) indexed)
    ∙ ap (λ (w : Written K V). option_map (λ x. x.1) (last_write cmp key t.target.start.0 (t.kept ++ w.ops) None)) own)
