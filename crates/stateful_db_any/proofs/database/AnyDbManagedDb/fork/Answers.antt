use Rattle.std.proofs.Common.{◌≡◌, ℕ, ◌<◌, ◌∷◌, ◌++◌, ap, sym, subst, ◌∙◌}
use Rattle.stateful_db.specs.Disk.{point}
use Rattle.stateful_db_overlay.specs.Stack.{Stack, cut_at}
use Rattle.stateful_db_any.specs.Through.{Change}
use Rattle.stateful_db_any.specs.Any.{begun}
use Rattle.stateful_db_any.specs.Shown.{Draft, DraftShows}
use Rattle.stateful_db_any.specs.Stored.{standing_of}
use Rattle.stateful_db_any.proofs.Sealing.{draft_cut}
use Rattle.stateful_db_any.proofs.database.AnyDbManagedDb.fork.Goals as goal

pub returns : goal.returns
returns g c = λ q above older shown less.
    let K = g.row.K.Denot in
    let V = g.row.V.Denot in
    let cmp = g.K.Ord.cmp in
    let spell_key = g.K.Field.fields.spelling in
    let spell_value = g.V.Field.fields.spelling in
    let id = c.args.database.id in
    let batch = c.in_ok-batch.batch in
    let here = point (standing_of c.args.database.database.now) in
    let Less : ℕ → Type 0 = λ n. q.0 < n in
    let drafted = c.in_ok-batch.ensures q (above ++ here ∷ older) shown (subst Less (sym c.into_parts-id.ensures.id) less) in
    let Shows : ℕ → Type 0 = λ n. DraftShows cmp spell_key spell_value batch ((n, begun cmp spell_key spell_value q.1) ∷ q ∷ above ++ here ∷ older) in
    let at : c.id.result ≡ here.0 = c.id.ensures ∙ ap (λ d. (standing_of d).id) c.into_parts-id.ensures.database in
    let old = c.batch.inside in
    let with : Stack (Change K V) → Draft K V = λ below. record { id = old.id; below = below; parent = old.parent; changes = record { writes = old.writes.entries; metadata = old.metadata } } in
    let cut : c.cut.new.self ≡ cut_at here.0 old.below = c.cut.ensures ∙ ap (λ n. cut_at n old.below) at in
    let same = ap with cut ∙ ap (λ (u : Draft K V). record u { below = cut_at here.0 u.below }) c.batch.view_is in
    draft_cut cmp spell_key spell_value batch (with c.cut.new.self) (id, begun cmp spell_key spell_value q.1) q here above older (subst Shows c.into_parts-id.ensures.id drafted) same
