use Rattle.std.proofs.Common.{◌≡◌, ◌+◌, ◌-◌, List, min, max, take, length, ap, sym, subst, ◌∙◌, arith}
use Rattle.stateful_db.specs.Disk.{IsCrash, all}
use Rattle.stateful_db_medium.specs.Kept as kept
use Rattle.stateful_db_medium.specs.Soundness.{sound_medium}
use Rattle.stateful_db_medium.specs.Mapped.{mapped, crash-mapped}
use Rattle.stateful_db_log.specs.Between.{state_in}
use Rattle.stateful_db_log.proofs.Windows.{Holds, first_begins, first_ends, first_agree}
use Rattle.stateful_db_log.proofs.log_medium.LogMedium.cut.Goals as goal

pub invariant_of-result : goal.invariant_of-result
invariant_of-result g c =
    let m = c.args.self in
    let d = kept.disk_of m.medium in
    let e = kept.disk_of c.cut.new.self in
    let n = max (d.durable + 1 - d.pruned) (min (c.args.keep - d.pruned) (length (all d))) in
    let holds : Holds m.first m.ops d = record { sound = sound_medium m.medium; begins = m.begins; ends = m.ends } in
    let left : c.cut_off-left.result ≡ take (e.newest.target.end.0 - m.first) m.ops = c.cut_off-left.ensures ∙ ap (λ k. take (k.target.end.0 - m.first) m.ops) c.newest.ensures in
    let ends = first_ends m.first m.ops d e n holds (sound_medium c.cut.new.self) c.cut.ensures.disk.prefix in
    record {
      begins = first_begins m.first m.ops d e n holds (sound_medium c.cut.new.self) c.cut.ensures.disk.prefix;
      ends = omega (arith, ap length left, ends);
    }

pub returns-clause-disk : goal.returns-clause-disk
returns-clause-disk g c =
    let m = c.args.self in
    let d = kept.disk_of m.medium in
    let e = kept.disk_of c.cut.new.self in
    let n = max (d.durable + 1 - d.pruned) (min (c.args.keep - d.pruned) (length (all d))) in
    let holds : Holds m.first m.ops d = record { sound = sound_medium m.medium; begins = m.begins; ends = m.ends } in
    let left : c.cut_off-left.result ≡ take (e.newest.target.end.0 - m.first) m.ops = c.cut_off-left.ensures ∙ ap (λ k. take (k.target.end.0 - m.first) m.ops) c.newest.ensures in
    let agree = first_agree m.first m.ops d e n holds (sound_medium c.cut.new.self) c.cut.ensures.disk.prefix in
    let P : List g.row.Op.Denot → Type 0 = λ xs. IsCrash c.args.keep (mapped (state_in m.first m.ops) d) (mapped (state_in m.first xs) e) in
    subst P (sym left) (crash-mapped _ _ c.args.keep d e c.cut.ensures.disk agree)

pub returns-clause-held : goal.returns-clause-held
returns-clause-held g c =
    let m = c.args.self in
    let e = kept.disk_of c.cut.new.self in
    let left : c.cut_off-left.result ≡ take (e.newest.target.end.0 - m.first) m.ops = c.cut_off-left.ensures ∙ ap (λ k. take (k.target.end.0 - m.first) m.ops) c.newest.ensures in
    ap (λ xs. record { first = m.first; before = m.before; ops = xs }) left
