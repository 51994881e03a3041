use Rattle.std.proofs.Common.{◌<◌, [], ◌∷◌, None, refl, ap, subst, ◌∙◌, arith}
use Rattle.stateful_db.specs.Disk.{point}
use Rattle.stateful_db_compact.specs.declared.compact.batch.KeylessUnjournaledUnmerkleized.{KeylessUnjournaledUnmerkleized}
use Rattle.stateful_db_compact.specs.declared.compact.database.CompactDb.{CompactDb}
use Rattle.stateful_db_compact.specs.Compacted.{size_of, begun}
use Rattle.stateful_db_compact.specs.CompactShown.{DraftShows}
use Rattle.stateful_db_compact.specs.CompactStored.{standing_of}
use Rattle.stateful_db_compact.proofs.CompactChains.{begins}
use Rattle.stateful_db_compact.proofs.compact.database.CompactDbManagedDb.new_batch.Goals as goal

pub returns : goal.returns
returns g c =
    let V = g.row.V.Denot in
    let spell = g.V.Field.fields.spelling in
    let id = c.args.database.id in
    let batch : KeylessUnjournaledUnmerkleized V = record { id = c.into_parts-id.result.1; below = c.over.result; floor = c.newest-state.result.now.kept.floor; end = c.size.result; before = c.newest-state.result.now.target.root; metadata = None; asked = 0 } in
    let P : CompactDb V → Type 0 = λ d. d.opened.id < id → DraftShows spell batch ((id, begun spell (standing_of d).disk.newest) ∷ point (standing_of d) ∷ []) in
    let newest = c.newest-state.ensures in
    let over = c.over.ensures ∙ ap (λ b. record { base = b; layers = [] }) c.id.ensures in
    subst P c.into_parts-id.ensures.database (λ less.
    begins spell batch id (point (standing_of c.into_parts-id.result.0.now)) c.into_parts-id.ensures.id over (ap (λ s. s.kept.floor) newest) (c.size.ensures ∙ ap (λ s. size_of s) newest) (omega arith) (ap (λ s. s.target.root) newest) refl refl less)
