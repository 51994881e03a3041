use Rattle.std.proofs.Common.{◌≡◌, ◌≤◌, length, refl, ap, sym, subst, ◌∙◌, arith, slice_get}
use Rattle.stateful_base.specs.Causes.{Rose}
use Rattle.stateful_db.specs.Calls.{Calls, Called}
use Rattle.stateful_db.specs.Disk.{all, cut}
use Rattle.stateful_db.specs.declared.database.DbCall.TheVariants.{Prune}
use Rattle.stateful_db_medium.specs.Kept as kept
use Rattle.stateful_db_medium.specs.Mapped.{mapped, length-mapped, cut-mapped, agree_each}
use Rattle.stateful_db_log.specs.Between.{state_in}
use Rattle.stateful_db_log.specs.Held.{from}
use Rattle.stateful_db_log.specs.Logs.{standing_of, held_here, begin_of, calls_of, calls_here}
use Rattle.stateful_db_log.proofs.Windows.{cut_begins, standing_is, begin-mapped}
use Rattle.stateful_db_log.proofs.open_log.OpenLog.prune_first.Goals as goal

pub shortened-requires-clause-begins : goal.shortened-requires-clause-begins
shortened-requires-clause-begins g c = λ i k at.
    let o = c.args.self in
    let d = (kept.standing_of o.opened).disk in
    let within : c.args.count ≤ length d.older = omega (arith, c.requires.within, length-mapped (state_in o.first o.ops) d.older) in
    cut_begins o.first d c.args.count within o.begins i k (ap (λ s. slice_get (all s.disk) i) (sym c.in-Ok.ensures.ok) ∙ at)

pub returns-in-Ok-clause-ok : goal.returns-in-Ok-clause-ok
returns-in-Ok-clause-ok g c =
    let o = c.args.self in
    let new = c.shortened.result in
    let f = state_in o.first o.ops in
    let d = (kept.standing_of o.opened).disk in
    let n = c.args.count in
    let opened = c.shortened.ensures.opened in
    let pruned = c.in-Ok.ensures in
    let standing = ap (λ x. kept.standing_of x) opened ∙ pruned.ok in
    let calls : calls_here new ≡ kept.calls_of (kept.medium_of c.in-Ok.opened) = ap (λ x. kept.calls_of (kept.medium_of x)) opened in
    let disk : mapped (state_in new.first new.ops) (kept.standing_of new.opened).disk ≡ cut (mapped f d) n =
    ap (λ x. mapped (state_in new.first new.ops) (kept.standing_of x).disk) opened
    ∙ c.shortened.ensures.disk ∙ ap (λ s. mapped f s.disk) pruned.ok
    ∙ cut-mapped f f d n (agree_each f f (all (cut d n)) (λ i k at. refl)) in
    let begin : new.first ≡ begin_of (standing_of new).disk =
    c.shortened.ensures.begin ∙ ap (λ x. begin_of (kept.standing_of x).disk) (sym opened) ∙ sym (begin-mapped new.first new.ops (kept.standing_of new.opened).disk) in
    record {
      standing = standing_is (standing_of new) o.opened.id (cut (mapped f d) n) o.opened.out (ap (λ s. s.id) standing) disk (ap (λ s. s.out) standing);
      next = ap (λ x. kept.next_of (kept.medium_of x)) opened ∙ pruned.ok_next;
      count = omega (arith, pruned.ok_count, ap (λ (x : Calls). x.faults) calls);
      called = subst (Called Prune (calls_here o)) (sym calls) pruned.ok_called;
      first = c.shortened.ensures.later;
      held = c.shortened.ensures.held ∙ ap (from g.Op.Linked.linked (held_here o)) begin;
    }

pub returns-in-Err-clause-err : goal.returns-in-Err-clause-err
returns-in-Err-clause-err g c =
    let o = c.args.self in
    let left = c.broken.result.medium in
    let is = c.broken.ensures in
    let failed = c.in-Err.ensures in
    let calls : calls_of left ≡ kept.calls_of c.in-Err.change.medium = ap (λ x. kept.calls_of x) is.medium in
    record {
      disk = ap (λ n. mapped (state_in n left.ops) (kept.disk_of left.medium)) is.first
          ∙ ap (λ ops. mapped (state_in o.first ops) (kept.disk_of left.medium)) is.ops
          ∙ ap (λ x. mapped (state_in o.first o.ops) (kept.disk_of x)) is.medium
          ∙ ap (mapped (state_in o.first o.ops)) failed.err;
      next = ap (λ x. kept.next_of x) is.medium ∙ failed.err_next;
      count = omega (arith, failed.err_count, ap (λ (x : Calls). x.faults) calls);
      called = subst (Called Prune (calls_here o)) (sym calls) failed.err_called;
      held = λ i. record { first = is.first i; before = is.before i; ops = is.ops i };
      failed = λ why. subst (λ (x : Calls). Rose (calls_here o).faults x.faults) (sym calls) (failed.failed (sym is.why ∙ why));
      memory = λ why. failed.memory (sym is.why ∙ why);
    }
