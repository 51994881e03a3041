use Rattle.std.proofs.Common.{[], length, slice_get, ap, sym, ◌∙◌, arith}
use Rattle.stateful_db.specs.Disk.{all}
use Rattle.stateful_db_medium.specs.Mapped.{mapped}
use Rattle.stateful_db_log.specs.Between.{between, state_in}
use Rattle.stateful_db_log.proofs.Windows.{Point, alone, between-all}
use Rattle.stateful_db_log.proofs.log_medium.LogMedium.replaced.Goals as goal

pub invariant_of-result : goal.invariant_of-result
invariant_of-result g c =
    let point : Point = record { target = c.args.target; kept = tt } in
    let disk = c.replaced.ensures.disk in
    record {
      begins = λ i k at.
          let same = alone point k i (ap (λ d. slice_get (all d) i) (sym disk) ∙ at) in
          omega (arith, c.requires.ranged, ap (λ (x : Point). x.target.start.0) same, ap (λ (x : Point). x.target.end.0) same);
      ends = omega (arith, ap (λ d. d.newest.target.end.0) disk, ap length c.of.ensures, c.requires.whole, c.requires.ranged);
    }

pub returns-clause-disk : goal.returns-clause-disk
returns-clause-disk g c =
    let target = c.args.target in
    let start = target.start.0 in
    ap (mapped (state_in start c.of.result)) c.replaced.ensures.disk
    ∙ ap (λ xs. record { older = []; newest = record { target = target; kept = xs }; pruned = 0; durable = 0 })
    (ap (λ xs. between start xs start target.end.0) c.of.ensures ∙ between-all start target.end.0 c.args.ops.items c.requires.whole)
