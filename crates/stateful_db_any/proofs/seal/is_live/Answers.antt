use Rattle.std.proofs.Common.{◌≡◌, ◌-◌, ◌++◌, ◌∷◌, Some, None, ap, sym, ◌∙◌, arith}
use Rattle.std.specs.Option.{option_copied}
use Rattle.stateful_db_any.specs.declared.op.AnyOp.TheVariants.{Commit, Update, Delete}
use Rattle.stateful_db_any.specs.Live.{is_last}
use Rattle.stateful_db_any.specs.Stored.{standing_of}
use Rattle.stateful_db_any.proofs.Reading.{reads_through}
use Rattle.stateful_db_any.proofs.Floor.{first_is, current, place_flat, op_flat}
use Rattle.stateful_db_any.proofs.seal.is_live.Goals as goal

pub returns-in-Some-Update : goal.returns-in-Some-Update
returns-in-Some-Update g c = λ t op later leads whole from indexed low is.
    let cmp = g.K.Ord.cmp in
    let total = g.met.K.Ord.total in
    let spell_key = g.K.Field.fields.spelling in
    let spell_value = g.V.Field.fields.spelling in
    let own = c.args.own.now in
    let layers = c.args.layers.now in
    let db = c.args.db.now in
    let at = c.args.at in
    let s = (standing_of db).disk.newest in
    let reads = reads_through total spell_key spell_value layers s t leads whole in
    let ops = t.kept ++ own.ops in
    let found = sym (first_is (at - t.target.start.0) ops later op is) ∙ sym (op_flat total spell_key spell_value layers s t own at reads from low) ∙ sym (c.op_of.ensures (omega (arith, low, reads.low))) in
    let key = c.in-Some-Update.key in
    let value = c.in-Some-Update.field-0-1 in
    let same : Some op ≡ Some (Update key value) = found ∙ ap option_copied c.in-Some-Update.is ∙ ap Some c.in-Some-Update.field-0-is in
    let op_is : op ≡ Update key value = cc in
    let place = c.place_of.ensures ∙ place_flat total spell_key spell_value layers s t own db.index.entries key reads from indexed (db.indexed key) in
    c.eq.ensures
    ∙ current total key value t.target.start.0 at ops later c.place_of.result low (is ∙ ap (λ o. o ∷ later) op_is) place
    ∙ sym (ap (λ o. is_last cmp o later) op_is)

pub returns-in-Some-Commit : goal.returns-in-Some-Commit
returns-in-Some-Commit g c = λ t op later leads whole from indexed low is.
    let cmp = g.K.Ord.cmp in
    let total = g.met.K.Ord.total in
    let spell_key = g.K.Field.fields.spelling in
    let spell_value = g.V.Field.fields.spelling in
    let own = c.args.own.now in
    let layers = c.args.layers.now in
    let db = c.args.db.now in
    let at = c.args.at in
    let s = (standing_of db).disk.newest in
    let reads = reads_through total spell_key spell_value layers s t leads whole in
    let ops = t.kept ++ own.ops in
    let found = sym (first_is (at - t.target.start.0) ops later op is) ∙ sym (op_flat total spell_key spell_value layers s t own at reads from low) ∙ sym (c.op_of.ensures (omega (arith, low, reads.low))) in
    let same : Some op ≡ Some (Commit c.in-Some-Commit.field-0-0) = found ∙ ap option_copied c.in-Some-Commit.is ∙ ap Some c.in-Some-Commit.field-0-is in
    let op_is : op ≡ Commit c.in-Some-Commit.field-0-0 = cc in
    sym (ap (λ o. is_last cmp o later) op_is)

pub returns-in-Some-Delete : goal.returns-in-Some-Delete
returns-in-Some-Delete g c = λ t op later leads whole from indexed low is.
    let cmp = g.K.Ord.cmp in
    let total = g.met.K.Ord.total in
    let spell_key = g.K.Field.fields.spelling in
    let spell_value = g.V.Field.fields.spelling in
    let own = c.args.own.now in
    let layers = c.args.layers.now in
    let db = c.args.db.now in
    let at = c.args.at in
    let s = (standing_of db).disk.newest in
    let reads = reads_through total spell_key spell_value layers s t leads whole in
    let ops = t.kept ++ own.ops in
    let found = sym (first_is (at - t.target.start.0) ops later op is) ∙ sym (op_flat total spell_key spell_value layers s t own at reads from low) ∙ sym (c.op_of.ensures (omega (arith, low, reads.low))) in
    let same : Some op ≡ Some (Delete c.in-Some-Delete.field-0-0) = found ∙ ap option_copied c.in-Some-Delete.is ∙ ap Some c.in-Some-Delete.field-0-is in
    let op_is : op ≡ Delete c.in-Some-Delete.field-0-0 = cc in
    sym (ap (λ o. is_last cmp o later) op_is)

pub returns-in-None : goal.returns-in-None
returns-in-None g c = λ t op later leads whole from indexed low is.
    let cmp = g.K.Ord.cmp in
    let total = g.met.K.Ord.total in
    let spell_key = g.K.Field.fields.spelling in
    let spell_value = g.V.Field.fields.spelling in
    let own = c.args.own.now in
    let layers = c.args.layers.now in
    let db = c.args.db.now in
    let at = c.args.at in
    let s = (standing_of db).disk.newest in
    let reads = reads_through total spell_key spell_value layers s t leads whole in
    let ops = t.kept ++ own.ops in
    let found = sym (first_is (at - t.target.start.0) ops later op is) ∙ sym (op_flat total spell_key spell_value layers s t own at reads from low) ∙ sym (c.op_of.ensures (omega (arith, low, reads.low))) in
    let same : Some op ≡ None = found ∙ ap option_copied c.in-None.is in
    cc
