use Rattle.std.proofs.Common.{◌≡◌, ◌+◌, ◌++◌, ◌∷◌, [], ℕ, List, length, is_some, sym, ap, subst, ◌∙◌, arith, length-append}
use Rattle.std.specs.Map.{lookup}
use Rattle.std.specs.BTreeMap.{is_at}
use Rattle.stateful_db_overlay.specs.Stack.{above_in}
use Rattle.stateful_db_overlay.specs.Chains.{Leads}
use Rattle.stateful_db_log.specs.Chained.{chained}
use Rattle.stateful_db_log.specs.Linking.{behind-log}
use Rattle.stateful_db_any.specs.declared.op.AnyOp.{AnyOp}
use Rattle.stateful_db_any.specs.declared.op.AnyOp.TheVariants.{Commit}
use Rattle.stateful_db_any.specs.Ops.{op_bytes}
use Rattle.stateful_db_any.specs.Live.{passed}
use Rattle.stateful_db_any.specs.Any.{ops_for}
use Rattle.stateful_db_any.specs.Through.{Written, Change, IsIndexed, place_through}
use Rattle.stateful_db_any.specs.Shown.{Draft, After, DraftShows}
use Rattle.stateful_db_any.specs.Stored.{standing_of}
use Rattle.stateful_db_any.proofs.Sealing.{ops_for-le, draft_size, seals}
use Rattle.stateful_db_any.proofs.batch.AnyUnmerkleized.seal.Goals as goal

pub first_kept-start-requires : goal.first_kept-start-requires
first_kept-start-requires g c =
    let cmp = g.K.Ord.cmp in
    let live = λ (k : g.row.K.Denot). is_some (place_through cmp c.above-layers.result.now k (lookup (is_at (cmp k)) c.args.db.now.index.entries)) in
    let writes = c.self.inside.writes.entries in
    omega (arith, c.in_ok-written.ensures.from, ap length c.in_ok-written.ensures.ops, length-append (ops_for live writes) (Commit c.self.inside.metadata ∷ []), ops_for-le live writes, c.if-not-room.false, c.saturating_add-2.ensures, c.len.ensures.len)

pub link_each-requires : goal.link_each-requires
link_each-requires g c =
    let cmp = g.K.Ord.cmp in
    let live = λ (k : g.row.K.Denot). is_some (place_through cmp c.above-layers.result.now k (lookup (is_at (cmp k)) c.args.db.now.index.entries)) in
    let writes = c.self.inside.writes.entries in
    omega (arith, ap length c.ops.ensures.ops, ap length c.in_ok-written.ensures.ops, length-append (ops_for live writes) (Commit c.self.inside.metadata ∷ []), ops_for-le live writes, c.if-not-room.false, c.saturating_add-2.ensures, c.len.ensures.len)

pub overflow_add-target : goal.overflow_add-target
overflow_add-target g c =
    let cmp = g.K.Ord.cmp in
    let live = λ (k : g.row.K.Denot). is_some (place_through cmp c.above-layers.result.now k (lookup (is_at (cmp k)) c.args.db.now.index.entries)) in
    let writes = c.self.inside.writes.entries in
    omega (arith, ap length c.ops-2.ensures.ops, ap length c.in_ok-written.ensures.ops, length-append (ops_for live writes) (Commit c.self.inside.metadata ∷ []), ops_for-le live writes, c.if-not-room.false, c.saturating_add-2.ensures, c.len.ensures.len)

pub returns-clause-ok : goal.returns-clause-ok
returns-clause-ok g c = λ chain shown point.
    let K = g.row.K.Denot in
    let V = g.row.V.Denot in
    let cmp = g.K.Ord.cmp in
    let spell_key = g.K.Field.fields.spelling in
    let spell_value = g.V.Field.fields.spelling in
    let bytes = op_bytes spell_key spell_value in
    let old = c.self.inside in
    let u : Draft K V = record { id = old.id; below = old.below; parent = old.parent; changes = record { writes = old.writes.entries; metadata = old.metadata } } in
    let db = c.args.db.now in
    let n = (standing_of db).id in
    let s = (standing_of db).disk.newest in
    let l = c.in_ok-layer.layer in
    let w = c.in_ok-written.written in
    let is = c.in_ok-layer.ensures in
    let same : l.1.written ≡ w = ap (λ (x : ℕ × Change K V). x.1.written) is in
    let layers : c.above-layers.result.now ≡ above_in n old.below = c.above-layers.ensures ∙ ap (λ i. above_in i old.below) c.id.ensures in
    let Indexed : Written K V → Type 0 = λ x. IsIndexed cmp x in
    let indexed = subst Indexed (sym same) c.ops.ensures.indexed in
    let with : List (ℕ × Change K V) → List (AnyOp K V) = λ ls. ops_for (λ key. is_some (place_through cmp ls key (lookup (is_at (cmp key)) db.index.entries))) old.writes.entries ++ Commit old.metadata ∷ [] in
    let ops = ap (λ (x : Written K V). x.ops) same ∙ c.in_ok-written.ensures.ops ∙ ap with layers in
    let roots = c.link_each.ensures ∙ behind-log bytes old.parent.end.0 old.parent.root c.ops.result.now ∙ ap (λ xs. chained bytes old.parent.root xs) (c.ops.ensures.ops ∙ sym (ap (λ (x : Written K V). x.ops) same)) in
    let ends = ap (λ (xs : List (AnyOp K V)). old.parent.end.0 + length xs) (c.ops-2.ensures.ops ∙ sym (ap (λ (x : Written K V). x.ops) same)) in
    let Shows : Draft K V → Type 0 = λ d. DraftShows cmp spell_key spell_value d chain in
    seals cmp spell_key spell_value g.met.K.Ord.total u l n s db.index.entries c.link_each.result c.first_kept-start.result (old.parent.end.0 + length c.ops-2.result.now) chain
    (ap (λ (x : ℕ × Change K V). x.0) is)
    (ap (λ (x : Written K V). x.from) same ∙ c.in_ok-written.ensures.from)
    indexed ops db.indexed
    (ap (λ (x : ℕ × Change K V). x.1.target) is)
    roots
    (λ t leads whole from indexed_l begins.
    let Led : List (ℕ × Change K V) → Type 0 = λ ls. Leads (After cmp spell_key spell_value) ls s t in
    c.first_kept-start.ensures t (subst Led (sym layers) leads) whole (sym (ap (λ (x : Written K V). x.from) same) ∙ from) c.ops.ensures.indexed begins
    ∙ ap (λ (x : Written K V). old.parent.start.0 + passed cmp (t.kept ++ x.ops)) (sym same))
    ends
    (c.is_whole.ensures c.if-not-is_whole.false)
    (λ e. c.requires (sym (ap (λ (d : Draft K V). d.id) c.self.view_is) ∙ e))
    (subst Shows (sym c.self.view_is) shown)
    point

pub returns-clause-within : goal.returns-clause-within
returns-clause-within g c = λ p chain shown.
    let K = g.row.K.Denot in
    let V = g.row.V.Denot in
    let old = c.self.inside in
    let u : Draft K V = record { id = old.id; below = old.below; parent = old.parent; changes = record { writes = old.writes.entries; metadata = old.metadata } } in
    let Shows : Draft K V → Type 0 = λ d. DraftShows g.K.Ord.cmp g.K.Field.fields.spelling g.V.Field.fields.spelling d (p ∷ chain) in
    let (live, size) = draft_size g.K.Ord.cmp g.K.Field.fields.spelling g.V.Field.fields.spelling u p chain (subst Shows (sym c.self.view_is) shown) in
    omega (arith, size, ops_for-le live old.writes.entries, c.if-not-room.false, c.saturating_add-2.ensures, c.len.ensures.len)
