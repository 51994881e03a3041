use Rattle.std.proofs.Common.{refl, drop, take-append-drop, sym, take, arith}
use Rattle.stateful_base.specs.Number.{bytes_format}
use Rattle.stateful_base.proofs.Formats.{reads}
use Rattle.stateful_base.specs.FixedLaws.{bytes_alone}
use Rattle.stateful_base.proofs.Fixed.{bytes_ok, bytes_short, all_bytes}
use Rattle.stateful_base.proofs.codec.first_bytes.Goals as goal

pub returns-clause-reads : goal.returns-clause-reads
returns-clause-reads g c =
    let bytes = c.args.bytes.now in
    let first = c.in-Some.ensures.cases in
    reads (bytes_format g.row.N) (bytes_alone g.row.N) _ _ _ (bytes_ok g.row.N c.in-Some.front.now bytes (drop g.row.N bytes) (omega (arith, first.enough)) first.same refl (all_bytes bytes (λ i. omega (arith, c.type_inv.bytes i))))

pub returns-in_default-clause-reads : goal.returns-in_default-clause-reads
returns-in_default-clause-reads g c =
    let bytes = c.args.bytes.now in
    let short = c.in_default.ensures.cases in
    reads (bytes_format g.row.N) (bytes_alone g.row.N) _ _ _ (bytes_short g.row.N bytes (drop g.row.N bytes) (omega (arith, short)) (all_bytes bytes (λ i. omega (arith, c.type_inv.bytes i))) (take g.row.N bytes, sym (take-append-drop g.row.N bytes)))
