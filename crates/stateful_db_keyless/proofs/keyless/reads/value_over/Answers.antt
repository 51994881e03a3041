use Rattle.std.proofs.Common.{ap, ◌∙◌, arith}
use Rattle.stateful_db_keyless.specs.KeylessStored.{standing_of}
use Rattle.stateful_db_keyless.specs.Reads.{read_as}
use Rattle.stateful_db_keyless.specs.Through.{op_over}
use Rattle.stateful_db_keyless.proofs.Reading.{reads_through, op_more}
use Rattle.stateful_db_keyless.proofs.keyless.reads.value_over.Goals as goal

pub returns : goal.returns
returns g c = λ t leads from low.
    let own = c.args.own.now in
    let layers = c.args.layers.now in
    let s = (standing_of c.args.db.now).disk.newest in
    let at = c.args.location.0 in
    let reads = reads_through layers s t leads (c.is_whole.ensures c.if-not-is_whole.false) in
    c.in_ok-value.ensures
    ∙ ap read_as (c.op_of.ensures (omega (arith, reads.low, low)) ∙ ap (λ below. op_over c.args.from own at below) (reads.op at low) ∙ op_more t c.args.from own at reads.whole from low)
