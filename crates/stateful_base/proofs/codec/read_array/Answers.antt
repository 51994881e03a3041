use Rattle.std.proofs.Common.{[], refl, sym, subst, Ok}
use Rattle.stateful_base.specs.Format.{Reads}
use Rattle.stateful_base.specs.Number.{bytes_format}
use Rattle.stateful_base.proofs.Formats.{met, passed, err_leaves}
use Rattle.stateful_base.specs.FixedLaws.{bytes_alone}
use Rattle.stateful_base.proofs.codec.read_array.Goals as goal

pub returns-in_err-front-clause-reads : goal.returns-in_err-front-clause-reads
returns-in_err-front-clause-reads g c =
    let f = bytes_format g.row.N in
    let input = c.args.input.now in
    passed f (bytes_alone g.row.N) c.from_residual.result _ input input c.from_residual.ensures.1 (err_leaves f _ input _ input ([], refl) (met (rw c.as_slice.ensures at c.in_err-front.ensures.reads)))

pub returns-clause-reads : goal.returns-clause-reads
returns-clause-reads g c = subst (Reads (bytes_format g.row.N) (Ok c.in_ok-front.front) c.args.input.now) (sym c.advance.ensures) (rw c.as_slice.ensures at c.in_ok-front.ensures.reads)
