use Rattle.std.proofs.Common.{sym}
use Rattle.stateful_p2p_codec.proofs.Whole.{whole_err, whole_ok, whole_left, at_end, few}
use Rattle.stateful_p2p_codec.proofs.reading.read_whole.Goals as goal

pub returns-in-Err : goal.returns-in-Err
returns-in-Err g c = whole_err g.Op.Operation.operations c.args.key.now c.args.value c.in-Err.error c.read.new.input c.in-Err.ensures.otherwise

pub returns-in-Ok-end_of : goal.returns-in-Ok-end_of
returns-in-Ok-end_of g c =
    let e = c.in-Ok.ensures in
    whole_ok g.Op.Operation.operations c.args.key.now c.args.value c.in-Ok.response c.read.new.input e.found (e.otherwise (few c.args.key.now c.args.value c.in-Ok.response e.too_many))
    (at_end c.read.new.input (sym (rw c.in-Ok-end_of.is at c.end_of.ensures)))

pub returns : goal.returns
returns g c =
    let e = c.in-Ok.ensures in
    whole_left g.Op.Operation.operations c.args.key.now c.args.value c.in-Ok.response c.read.new.input e.found (e.otherwise (few c.args.key.now c.args.value c.in-Ok.response e.too_many))
    c.in-Err-end_of.error (sym (rw c.in-Err-end_of.is at c.end_of.ensures))
