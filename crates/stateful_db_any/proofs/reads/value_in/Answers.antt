use Rattle.std.proofs.Common.{◌≡◌, Some, None, ap, sym, ◌∙◌, arith}
use Rattle.std.specs.Option.{option_copied}
use Rattle.stateful_db_any.specs.declared.op.AnyOp.TheVariants.{Commit, Update, Delete}
use Rattle.stateful_db_any.specs.Through.{place_through}
use Rattle.stateful_db_any.specs.Stored.{standing_of}
use Rattle.stateful_db_any.proofs.Reading.{reads_through}
use Rattle.stateful_db_any.proofs.Values.{value_none, value_some}
use Rattle.stateful_db_any.proofs.reads.value_in.Goals as goal

pub returns-in_default : goal.returns-in_default
returns-in_default g c = λ t leads.
    let cmp = g.K.Ord.cmp in
    let key = c.args.key.now in
    let layers = c.args.layers.now in
    let s = (standing_of c.args.db.now).disk.newest in
    let whole = c.is_whole.ensures c.if-not-is_whole.false in
    let reads = reads_through g.met.K.Ord.total g.K.Field.fields.spelling g.V.Field.fields.spelling layers s t leads whole in
    value_none cmp t key (sym c.in_default.is ∙ c.place_in.ensures ∙ ap (λ below. place_through cmp layers key below) (c.args.db.now.indexed key) ∙ reads.place key)

pub returns-in_ok-duplicate-in-Some-Update : goal.returns-in_ok-duplicate-in-Some-Update
returns-in_ok-duplicate-in-Some-Update g c = λ t leads.
    let cmp = g.K.Ord.cmp in
    let key = c.args.key.now in
    let layers = c.args.layers.now in
    let s = (standing_of c.args.db.now).disk.newest in
    let place = c.in-Some.place in
    let whole = c.is_whole.ensures c.if-not-is_whole.false in
    let reads = reads_through g.met.K.Ord.total g.K.Field.fields.spelling g.V.Field.fields.spelling layers s t leads whole in
    let there = value_some cmp t key place (sym c.in-Some.is ∙ c.place_in.ensures ∙ ap (λ below. place_through cmp layers key below) (c.args.db.now.indexed key) ∙ reads.place key) in
    let found = sym (c.op_in.ensures (omega (arith, reads.low, there.low)) ∙ reads.op place there.low ∙ there.op) in
    let same : Some (Update there.other there.value) ≡ Some (Update c.in-Some-Update.field-0-0 c.in-Some-Update.value) = found ∙ ap option_copied c.in-Some-Update.is ∙ ap Some c.in-Some-Update.field-0-is in
    let value : there.value ≡ c.in-Some-Update.value = cc in
    ap Some (c.in_ok-duplicate-in-Some-Update.ensures ∙ sym value) ∙ sym there.is

pub returns-in-Some-Commit : goal.returns-in-Some-Commit
returns-in-Some-Commit g c = λ t leads.
    let cmp = g.K.Ord.cmp in
    let key = c.args.key.now in
    let layers = c.args.layers.now in
    let s = (standing_of c.args.db.now).disk.newest in
    let place = c.in-Some.place in
    let whole = c.is_whole.ensures c.if-not-is_whole.false in
    let reads = reads_through g.met.K.Ord.total g.K.Field.fields.spelling g.V.Field.fields.spelling layers s t leads whole in
    let there = value_some cmp t key place (sym c.in-Some.is ∙ c.place_in.ensures ∙ ap (λ below. place_through cmp layers key below) (c.args.db.now.indexed key) ∙ reads.place key) in
    let found = sym (c.op_in.ensures (omega (arith, reads.low, there.low)) ∙ reads.op place there.low ∙ there.op) in
    let same : Some (Update there.other there.value) ≡ Some (Commit c.in-Some-Commit.field-0-0) = found ∙ ap option_copied c.in-Some-Commit.is ∙ ap Some c.in-Some-Commit.field-0-is in
    cc

pub returns-in-Some-Delete : goal.returns-in-Some-Delete
returns-in-Some-Delete g c = λ t leads.
    let cmp = g.K.Ord.cmp in
    let key = c.args.key.now in
    let layers = c.args.layers.now in
    let s = (standing_of c.args.db.now).disk.newest in
    let place = c.in-Some.place in
    let whole = c.is_whole.ensures c.if-not-is_whole.false in
    let reads = reads_through g.met.K.Ord.total g.K.Field.fields.spelling g.V.Field.fields.spelling layers s t leads whole in
    let there = value_some cmp t key place (sym c.in-Some.is ∙ c.place_in.ensures ∙ ap (λ below. place_through cmp layers key below) (c.args.db.now.indexed key) ∙ reads.place key) in
    let found = sym (c.op_in.ensures (omega (arith, reads.low, there.low)) ∙ reads.op place there.low ∙ there.op) in
    let same : Some (Update there.other there.value) ≡ Some (Delete c.in-Some-Delete.field-0-0) = found ∙ ap option_copied c.in-Some-Delete.is ∙ ap Some c.in-Some-Delete.field-0-is in
    cc

pub returns-in-None : goal.returns-in-None
returns-in-None g c = λ t leads.
    let cmp = g.K.Ord.cmp in
    let key = c.args.key.now in
    let layers = c.args.layers.now in
    let s = (standing_of c.args.db.now).disk.newest in
    let place = c.in-Some.place in
    let whole = c.is_whole.ensures c.if-not-is_whole.false in
    let reads = reads_through g.met.K.Ord.total g.K.Field.fields.spelling g.V.Field.fields.spelling layers s t leads whole in
    let there = value_some cmp t key place (sym c.in-Some.is ∙ c.place_in.ensures ∙ ap (λ below. place_through cmp layers key below) (c.args.db.now.indexed key) ∙ reads.place key) in
    let found = sym (c.op_in.ensures (omega (arith, reads.low, there.low)) ∙ reads.op place there.low ∙ there.op) in
    let same : Some (Update there.other there.value) ≡ None = found ∙ ap option_copied c.in-None.is in
    cc
