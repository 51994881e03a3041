use Rattle.std.proofs.Common.{◌≡◌, ◌++◌, Some, None, ap, sym, ◌∙◌, arith}
use Rattle.std.specs.Option.{option_copied}
use Rattle.stateful_db_any.specs.declared.op.AnyOp.TheVariants.{Commit, Update, Delete}
use Rattle.stateful_db_any.specs.Any.{State}
use Rattle.stateful_db_any.specs.Stored.{standing_of}
use Rattle.stateful_db_any.proofs.Reading.{reads_through}
use Rattle.stateful_db_any.proofs.Floor.{place_flat, op_flat}
use Rattle.stateful_db_any.proofs.Values.{value_none, value_some}
use Rattle.stateful_db_any.proofs.sealed.value_over.Goals as goal

pub returns-in_default : goal.returns-in_default
returns-in_default g c = λ t leads from indexed.
    let cmp = g.K.Ord.cmp in
    let total = g.met.K.Ord.total in
    let spell_key = g.K.Field.fields.spelling in
    let spell_value = g.V.Field.fields.spelling in
    let key = c.args.key.now in
    let own = c.args.own.now in
    let layers = c.args.layers.now in
    let db = c.args.db.now in
    let s = (standing_of db).disk.newest in
    let whole = c.is_whole.ensures c.if-not-is_whole.false in
    let reads = reads_through total spell_key spell_value layers s t leads whole in
    let joined : State g.row.K.Denot g.row.V.Denot = record { target = t.target; kept = t.kept ++ own.ops } in
    let at = c.place_of.ensures ∙ place_flat total spell_key spell_value layers s t own db.index.entries key reads from indexed (db.indexed key) in
    value_none cmp joined key (sym c.in_default.is ∙ at)

pub returns-in_ok-duplicate-in-Some-Update : goal.returns-in_ok-duplicate-in-Some-Update
returns-in_ok-duplicate-in-Some-Update g c = λ t leads from indexed.
    let cmp = g.K.Ord.cmp in
    let total = g.met.K.Ord.total in
    let spell_key = g.K.Field.fields.spelling in
    let spell_value = g.V.Field.fields.spelling in
    let key = c.args.key.now in
    let own = c.args.own.now in
    let layers = c.args.layers.now in
    let db = c.args.db.now in
    let s = (standing_of db).disk.newest in
    let whole = c.is_whole.ensures c.if-not-is_whole.false in
    let reads = reads_through total spell_key spell_value layers s t leads whole in
    let joined : State g.row.K.Denot g.row.V.Denot = record { target = t.target; kept = t.kept ++ own.ops } in
    let at = c.place_of.ensures ∙ place_flat total spell_key spell_value layers s t own db.index.entries key reads from indexed (db.indexed key) in
    let place = c.in-Some.place in
    let there = value_some cmp joined key place (sym c.in-Some.is ∙ at) in
    let found = sym (c.op_of.ensures (omega (arith, reads.low, there.low)) ∙ op_flat total spell_key spell_value layers s t own place reads from there.low ∙ there.op) in
    let same : Some (Update there.other there.value) ≡ Some (Update c.in-Some-Update.field-0-0 c.in-Some-Update.value) = found ∙ ap option_copied c.in-Some-Update.is ∙ ap Some c.in-Some-Update.field-0-is in
    let value : there.value ≡ c.in-Some-Update.value = cc in
    ap Some (c.in_ok-duplicate-in-Some-Update.ensures ∙ sym value) ∙ sym there.is

pub returns-in-Some-Commit : goal.returns-in-Some-Commit
returns-in-Some-Commit g c = λ t leads from indexed.
    let cmp = g.K.Ord.cmp in
    let total = g.met.K.Ord.total in
    let spell_key = g.K.Field.fields.spelling in
    let spell_value = g.V.Field.fields.spelling in
    let key = c.args.key.now in
    let own = c.args.own.now in
    let layers = c.args.layers.now in
    let db = c.args.db.now in
    let s = (standing_of db).disk.newest in
    let whole = c.is_whole.ensures c.if-not-is_whole.false in
    let reads = reads_through total spell_key spell_value layers s t leads whole in
    let joined : State g.row.K.Denot g.row.V.Denot = record { target = t.target; kept = t.kept ++ own.ops } in
    let at = c.place_of.ensures ∙ place_flat total spell_key spell_value layers s t own db.index.entries key reads from indexed (db.indexed key) in
    let place = c.in-Some.place in
    let there = value_some cmp joined key place (sym c.in-Some.is ∙ at) in
    let found = sym (c.op_of.ensures (omega (arith, reads.low, there.low)) ∙ op_flat total spell_key spell_value layers s t own place reads from there.low ∙ there.op) in
    let same : Some (Update there.other there.value) ≡ Some (Commit c.in-Some-Commit.field-0-0) = found ∙ ap option_copied c.in-Some-Commit.is ∙ ap Some c.in-Some-Commit.field-0-is in
    cc

pub returns-in-Some-Delete : goal.returns-in-Some-Delete
returns-in-Some-Delete g c = λ t leads from indexed.
    let cmp = g.K.Ord.cmp in
    let total = g.met.K.Ord.total in
    let spell_key = g.K.Field.fields.spelling in
    let spell_value = g.V.Field.fields.spelling in
    let key = c.args.key.now in
    let own = c.args.own.now in
    let layers = c.args.layers.now in
    let db = c.args.db.now in
    let s = (standing_of db).disk.newest in
    let whole = c.is_whole.ensures c.if-not-is_whole.false in
    let reads = reads_through total spell_key spell_value layers s t leads whole in
    let joined : State g.row.K.Denot g.row.V.Denot = record { target = t.target; kept = t.kept ++ own.ops } in
    let at = c.place_of.ensures ∙ place_flat total spell_key spell_value layers s t own db.index.entries key reads from indexed (db.indexed key) in
    let place = c.in-Some.place in
    let there = value_some cmp joined key place (sym c.in-Some.is ∙ at) in
    let found = sym (c.op_of.ensures (omega (arith, reads.low, there.low)) ∙ op_flat total spell_key spell_value layers s t own place reads from there.low ∙ there.op) in
    let same : Some (Update there.other there.value) ≡ Some (Delete c.in-Some-Delete.field-0-0) = found ∙ ap option_copied c.in-Some-Delete.is ∙ ap Some c.in-Some-Delete.field-0-is in
    cc

pub returns-in-None : goal.returns-in-None
returns-in-None g c = λ t leads from indexed.
    let cmp = g.K.Ord.cmp in
    let total = g.met.K.Ord.total in
    let spell_key = g.K.Field.fields.spelling in
    let spell_value = g.V.Field.fields.spelling in
    let key = c.args.key.now in
    let own = c.args.own.now in
    let layers = c.args.layers.now in
    let db = c.args.db.now in
    let s = (standing_of db).disk.newest in
    let whole = c.is_whole.ensures c.if-not-is_whole.false in
    let reads = reads_through total spell_key spell_value layers s t leads whole in
    let joined : State g.row.K.Denot g.row.V.Denot = record { target = t.target; kept = t.kept ++ own.ops } in
    let at = c.place_of.ensures ∙ place_flat total spell_key spell_value layers s t own db.index.entries key reads from indexed (db.indexed key) in
    let place = c.in-Some.place in
    let there = value_some cmp joined key place (sym c.in-Some.is ∙ at) in
    let found = sym (c.op_of.ensures (omega (arith, reads.low, there.low)) ∙ op_flat total spell_key spell_value layers s t own place reads from there.low ∙ there.op) in
    let same : Some (Update there.other there.value) ≡ None = found ∙ ap option_copied c.in-None.is in
    cc
