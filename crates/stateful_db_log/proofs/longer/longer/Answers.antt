use Rattle.std.proofs.Common.{◌≡◌, ◌≤◌, ◌+◌, ◌-◌, ◌++◌, false, Result, Ok, Err, OnOk, is_err, length, take, slice_get, ap, sym, subst, ◌∙◌, arith}
use Rattle.std.proofs.lemmas.List.{take_at}
use Rattle.stateful_db.specs.Disk.{Disk, IsSound, all, applied}
use Rattle.stateful_db_medium.specs.declared.checkpoints.Checkpoint.{Checkpoint}
use Rattle.stateful_db_medium.specs.Kept as kept
use Rattle.stateful_db_medium.specs.Ranged.{range_of}
use Rattle.stateful_db_medium.specs.Soundness.{sound_opened}
use Rattle.stateful_db_medium.specs.Mapped.{mapped, applied-mapped}
use Rattle.stateful_db_log.specs.Between.{state_in}
use Rattle.stateful_db_log.specs.Logs.{extended}
use Rattle.stateful_db_log.proofs.Windows.{Holds, standing_is, more_begins, more_ends, more_agree, more_is}
use Rattle.stateful_db_log.proofs.longer.longer.Goals as goal

from_ok : {E P : Type 0} (r : Result (Unit {0}) E) → is_err r ≡ false → OnOk r P → P
from_ok (Ok done) good h = h
from_ok (Err refused) good h = cc

pub invariant_of-result : goal.invariant_of-result
invariant_of-result g c =
    let o = c.args.log in
    let d = (kept.standing_of o.opened).disk in
    let more = c.args.more.items in
    let k : Checkpoint (Unit {0}) = record { target = c.args.target; kept = tt } in
    let holds : Holds o.first o.ops d = record { sound = sound_opened o.opened; begins = o.begins; ends = o.ends } in
    let standing = c.in-Ok.ensures.ok in
    let P : Disk (Checkpoint (Unit {0})) → Type 0 = λ x. IsSound range_of x in
    let sound = subst P (ap (λ s. s.disk) standing) (sound_opened c.push.new.self) in
    let newest = c.target-newest.ensures in
    let range = c.is_next.ensures.range c.if-not-is_next.false in
    let behind = c.is_next.ensures.ends c.if-not-is_next.false in
    let low : d.newest.target.start.0 ≤ d.newest.target.end.0 = omega (arith, range, ap (λ t. t.start.0) newest, ap (λ t. t.end.0) newest) in
    let ends : c.args.target.end.0 ≡ d.newest.target.end.0 + length more = omega (arith, behind, ap (λ t. t.end.0) newest) in
    let added = from_ok c.append.result (sym c.is_err.ensures.value ∙ c.if-is_err.false) c.append.ensures.ok in
    record {
      begins = λ i x at. more_begins o.first o.ops more d k holds sound low ends i x (ap (λ s. slice_get (all s.disk) i) (sym standing) ∙ at);
      ends = omega (arith, ap (λ s. s.disk.newest.target.end.0) standing, more_ends o.first o.ops more d k holds sound low ends, ap length added);
    }

pub returns-in-Ok-clause-ok : goal.returns-in-Ok-clause-ok
returns-in-Ok-clause-ok g c =
    let o = c.args.log in
    let d = (kept.standing_of o.opened).disk in
    let more = c.args.more.items in
    let k : Checkpoint (Unit {0}) = record { target = c.args.target; kept = tt } in
    let holds : Holds o.first o.ops d = record { sound = sound_opened o.opened; begins = o.begins; ends = o.ends } in
    let standing = c.in-Ok.ensures.ok in
    let P : Disk (Checkpoint (Unit {0})) → Type 0 = λ x. IsSound range_of x in
    let sound = subst P (ap (λ s. s.disk) standing) (sound_opened c.push.new.self) in
    let newest = c.target-newest.ensures in
    let range = c.is_next.ensures.range c.if-not-is_next.false in
    let behind = c.is_next.ensures.ends c.if-not-is_next.false in
    let low : d.newest.target.start.0 ≤ d.newest.target.end.0 = omega (arith, range, ap (λ t. t.start.0) newest, ap (λ t. t.end.0) newest) in
    let ends : c.args.target.end.0 ≡ d.newest.target.end.0 + length more = omega (arith, behind, ap (λ t. t.end.0) newest) in
    let added = from_ok c.append.result (sym c.is_err.ensures.value ∙ c.if-is_err.false) c.append.ensures.ok in
    let f = state_in o.first o.ops in
    let f' = state_in o.first (o.ops ++ more) in
    let new = kept.standing_of c.push.new.self in
    let disk : mapped (state_in o.first c.append.new.self) new.disk ≡ applied (mapped f d) (extended (f d.newest) more c.args.target) =
    ap (λ xs. mapped (state_in o.first xs) new.disk) added
    ∙ ap (λ s. mapped f' s.disk) standing
    ∙ applied-mapped f f' d k (more_agree o.first o.ops more d k holds sound low ends)
    ∙ ap (λ s. applied (mapped f d) s) (more_is o.first o.ops more d k holds sound low ends) in
    standing_is _ c.args.id _ o.opened.out (ap (λ s. s.id) standing) disk (ap (λ s. s.out) standing)

pub invariant_of-close-in-Err : goal.invariant_of-close-in-Err
invariant_of-close-in-Err g c =
    let o = c.args.log in
    let d = (kept.standing_of o.opened).disk in
    let standing = c.in-Err.ensures.err in
    let newest = ap (λ t. t.end.0) c.target-newest.ensures in
    let added = from_ok c.append.result (sym c.is_err.ensures.value ∙ c.if-is_err.false) c.append.ensures.ok in
    let back : c.truncate.new.self ≡ o.ops = c.truncate.ensures ∙ ap (λ xs. take (c.target-newest.result.end.0 - o.first) xs) added ∙ take_at o.ops c.args.more.items (c.target-newest.result.end.0 - o.first) (omega (arith, newest, o.ends)) in
    record {
      begins = λ i x at. o.begins i x (ap (λ s. slice_get (all s.disk) i) (sym standing) ∙ at);
      ends = omega (arith, ap (λ s. s.disk.newest.target.end.0) standing, ap length back, o.ends);
    }

pub returns-in-Err-clause-err : goal.returns-in-Err-clause-err
returns-in-Err-clause-err g c =
    let o = c.args.log in
    let standing = c.in-Err.ensures.err in
    let newest = ap (λ t. t.end.0) c.target-newest.ensures in
    let added = from_ok c.append.result (sym c.is_err.ensures.value ∙ c.if-is_err.false) c.append.ensures.ok in
    let back : c.truncate.new.self ≡ o.ops = c.truncate.ensures ∙ ap (λ xs. take (c.target-newest.result.end.0 - o.first) xs) added ∙ take_at o.ops c.args.more.items (c.target-newest.result.end.0 - o.first) (omega (arith, newest, o.ends)) in
    c.close-in-Err.ensures.disk
    ∙ ap (λ xs. mapped (state_in o.first xs) (kept.standing_of c.push.new.self).disk) back
    ∙ ap (λ s. mapped (state_in o.first o.ops) s.disk) standing

pub returns-in-Ok-clause-ok_held : goal.returns-in-Ok-clause-ok_held
returns-in-Ok-clause-ok_held g c =
    let o = c.args.log in
    let added = from_ok c.append.result (sym c.is_err.ensures.value ∙ c.if-is_err.false) c.append.ensures.ok in
    ap (λ xs. record { first = o.first; before = o.before; ops = xs }) added

pub returns-in-Err-clause-err_held : goal.returns-in-Err-clause-err_held
returns-in-Err-clause-err_held g c =
    let o = c.args.log in
    let newest = ap (λ t. t.end.0) c.target-newest.ensures in
    let added = from_ok c.append.result (sym c.is_err.ensures.value ∙ c.if-is_err.false) c.append.ensures.ok in
    let back : c.truncate.new.self ≡ o.ops = c.truncate.ensures ∙ ap (λ xs. take (c.target-newest.result.end.0 - o.first) xs) added ∙ take_at o.ops c.args.more.items (c.target-newest.result.end.0 - o.first) (omega (arith, newest, o.ends)) in
    c.close-in-Err.ensures.held ∙ ap (λ xs. record { first = o.first; before = o.before; ops = xs }) back
