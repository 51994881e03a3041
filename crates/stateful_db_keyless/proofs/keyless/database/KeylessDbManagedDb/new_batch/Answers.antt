use Rattle.std.proofs.Common.{◌<◌, [], ◌∷◌, None, refl, ap, sym, subst, ◌∙◌, rules}
use Rattle.stateful_db.specs.Disk.{point}
use Rattle.stateful_db_overlay.specs.Stack.{Stack}
use Rattle.stateful_db_overlay.specs.Chains.{Stands}
use Rattle.stateful_db_keyless.specs.declared.keyless.batch.KeylessUnmerkleized.{KeylessUnmerkleized}
use Rattle.stateful_db_keyless.specs.declared.keyless.batch.KeylessChanges.{KeylessChanges}
use Rattle.stateful_db_keyless.specs.declared.keyless.database.KeylessDb.{KeylessDb}
use Rattle.stateful_db_keyless.specs.Keyless.{begun}
use Rattle.stateful_db_keyless.specs.KeylessShown.{After, DraftShows}
use Rattle.stateful_db_keyless.specs.KeylessStored.{standing_of}
use Rattle.stateful_db_keyless.proofs.KeylessChains.{begins}
use Rattle.stateful_db_keyless.proofs.keyless.database.KeylessDbManagedDb.new_batch.Goals as goal

pub returns : goal.returns
returns g c =
    let V = g.row.V.Denot in
    let spell = g.V.Field.fields.spelling in
    let id = c.args.database.id in
    let t = c.target-target.result in
    let batch : KeylessUnmerkleized V = record { id = c.into_parts-id.result.1; below = c.over.result; size = t.end.0; floor = t.start.0; ops = c.new.result; before = t.root; metadata = None; asked = 0 } in
    let here = point (standing_of c.into_parts-id.result.0.now) in
    let P : KeylessDb V → Type 0 = λ d. (standing_of d).id < id → DraftShows spell batch ((id, begun spell (standing_of d).disk.newest) ∷ point (standing_of d) ∷ []) in
    let Q : Stack (KeylessChanges V) → Type 0 = λ b. Stands After b.base b.layers (here ∷ []) in
    let over = c.over.ensures ∙ ap (λ b. record { base = b; layers = [] }) c.id.ensures in
    let target = c.target-target.ensures in
    subst P c.into_parts-id.ensures.database (λ less.
    begins spell batch id here [] c.into_parts-id.ensures.id (subst Q (sym over) refl) (ap (λ x. x.end.0) target) (ap (λ x. x.start.0) target) (search (rules, c.new.ensures)) (ap (λ x. x.root) target) refl refl less)
