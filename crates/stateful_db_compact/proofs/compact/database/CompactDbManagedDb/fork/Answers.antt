use Rattle.std.proofs.Common.{◌≡◌, ℕ, ◌<◌, ◌∷◌, ◌++◌, ap, sym, subst, ◌∙◌}
use Rattle.stateful_db.specs.Disk.{point}
use Rattle.stateful_db_overlay.specs.Stack.{cut_at}
use Rattle.stateful_db_compact.specs.declared.compact.database.CompactDb.{CompactDb}
use Rattle.stateful_db_compact.specs.Compacted.{begun}
use Rattle.stateful_db_compact.specs.CompactShown.{DraftShows}
use Rattle.stateful_db_compact.specs.CompactStored.{standing_of}
use Rattle.stateful_db_compact.proofs.CompactChains.{draft_cut}
use Rattle.stateful_db_compact.proofs.compact.database.CompactDbManagedDb.fork.Goals as goal

pub returns : goal.returns
returns g c = λ q above older shown less.
    let V = g.row.V.Denot in
    let spell = g.V.Field.fields.spelling in
    let id = c.args.database.id in
    let batch = c.in_ok-batch.batch in
    let here = point (standing_of c.args.database.database.now) in
    let Less : ℕ → Type 0 = λ n. q.0 < n in
    let drafted = c.in_ok-batch.ensures q (above ++ here ∷ older) shown (subst Less (sym c.into_parts-id.ensures.id) less) in
    let Shows : ℕ → Type 0 = λ n. DraftShows spell batch ((n, begun spell q.1) ∷ q ∷ above ++ here ∷ older) in
    let at : c.id.result ≡ here.0 = c.id.ensures ∙ ap (λ (d : CompactDb V). (standing_of d).id) c.into_parts-id.ensures.database in
    let cut : c.cut.new.self ≡ cut_at here.0 batch.below = c.cut.ensures ∙ ap (λ n. cut_at n batch.below) at in
    draft_cut spell batch (record batch { below = c.cut.new.self }) (id, begun spell q.1) q here above older (subst Shows c.into_parts-id.ensures.id drafted) (ap (λ b. record batch { below = b }) cut)
