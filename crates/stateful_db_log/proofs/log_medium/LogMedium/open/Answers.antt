use Rattle.std.proofs.Common.{◌≡◌, ◌+◌, ◌-◌, List, take, length, ap, sym, subst, ◌∙◌, arith}
use Rattle.stateful_db.specs.Disk.{IsOpened}
use Rattle.stateful_db_medium.specs.Kept as kept
use Rattle.stateful_db_medium.specs.Soundness.{sound_medium, sound_opened}
use Rattle.stateful_db_medium.specs.Mapped.{mapped, opened-mapped}
use Rattle.stateful_db_log.specs.Between.{state_in}
use Rattle.stateful_db_log.proofs.Windows.{Holds, first_begins, first_ends, first_agree}
use Rattle.stateful_db_log.proofs.log_medium.LogMedium.open.Goals as goal

pub invariant_of-result : goal.invariant_of-result
invariant_of-result g c =
    let m = c.args.self in
    let d = kept.disk_of m.medium in
    let e = (kept.standing_of c.open-opened.result).disk in
    let n = c.args.number + 1 in
    let holds : Holds m.first m.ops d = record { sound = sound_medium m.medium; begins = m.begins; ends = m.ends } in
    let left : c.cut_off-left.result ≡ take (e.newest.target.end.0 - m.first) m.ops = c.cut_off-left.ensures ∙ ap (λ k. take (k.target.end.0 - m.first) m.ops) c.newest.ensures in
    let ends = first_ends m.first m.ops d e n holds (sound_opened c.open-opened.result) c.open-opened.ensures.opens.disk.kept in
    record {
      begins = first_begins m.first m.ops d e n holds (sound_opened c.open-opened.result) c.open-opened.ensures.opens.disk.kept;
      ends = omega (arith, ap length left, ends);
    }

pub returns-clause-opens : goal.returns-clause-opens
returns-clause-opens g c =
    let m = c.args.self in
    let d = kept.disk_of m.medium in
    let e = (kept.standing_of c.open-opened.result).disk in
    let n = c.args.number in
    let opens = c.open-opened.ensures.opens in
    let holds : Holds m.first m.ops d = record { sound = sound_medium m.medium; begins = m.begins; ends = m.ends } in
    let left : c.cut_off-left.result ≡ take (e.newest.target.end.0 - m.first) m.ops = c.cut_off-left.ensures ∙ ap (λ k. take (k.target.end.0 - m.first) m.ops) c.newest.ensures in
    let agree = first_agree m.first m.ops d e (n + 1) holds (sound_opened c.open-opened.result) opens.disk.kept in
    let P : List g.row.Op.Denot → Type 0 = λ xs. IsOpened n (mapped (state_in m.first m.ops) d) (mapped (state_in m.first xs) e) in
    record { id = opens.id; out = opens.out; disk = subst P (sym left) (opened-mapped _ _ n d e opens.disk agree) }

pub returns-clause-held : goal.returns-clause-held
returns-clause-held g c =
    let m = c.args.self in
    let e = (kept.standing_of c.open-opened.result).disk in
    let left : c.cut_off-left.result ≡ take (e.newest.target.end.0 - m.first) m.ops = c.cut_off-left.ensures ∙ ap (λ k. take (k.target.end.0 - m.first) m.ops) c.newest.ensures in
    ap (λ xs. record { first = m.first; before = m.before; ops = xs }) left
