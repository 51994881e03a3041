use Rattle.std.proofs.Common.{◌≡◌, ◌-◌, min, drop, length, ap, ◌∙◌, arith}
use Rattle.stateful_db_medium.specs.Kept as kept
use Rattle.stateful_db_medium.specs.Soundness.{sound_opened}
use Rattle.stateful_db_medium.specs.Mapped.{mapped, same-mapped}
use Rattle.stateful_db_log.specs.Between.{state_in}
use Rattle.stateful_db_log.proofs.Windows.{Holds, later_begins, later_ends, later_agree, begin_is}
use Rattle.stateful_db_log.proofs.shorter.shortened.Goals as goal

pub invariant_of-result : goal.invariant_of-result
invariant_of-result g c =
    let first = c.args.first in
    let ops = c.args.ops in
    let d = (kept.standing_of c.args.opened).disk in
    let k = c.oldest.result.now in
    let later = c.min-later.result in
    let holds : Holds first ops d = record { sound = sound_opened c.args.opened; begins = c.requires.begins; ends = c.requires.ends } in
    let is : later ≡ min k.target.start.0 k.target.end.0 = c.min-later.ensures in
    let ends = later_ends first ops d k later holds c.oldest.ensures is in
    record {
      begins = later_begins first ops d k later holds c.oldest.ensures is;
      ends = omega (arith, ap length c.drop_first.ensures, ends);
    }

pub returns-clause-disk : goal.returns-clause-disk
returns-clause-disk g c =
    let first = c.args.first in
    let ops = c.args.ops in
    let d = (kept.standing_of c.args.opened).disk in
    let k = c.oldest.result.now in
    let later = c.min-later.result in
    let holds : Holds first ops d = record { sound = sound_opened c.args.opened; begins = c.requires.begins; ends = c.requires.ends } in
    let is : later ≡ min k.target.start.0 k.target.end.0 = c.min-later.ensures in
    ap (λ xs. mapped (state_in later xs) d) c.drop_first.ensures
    ∙ same-mapped (state_in first ops) (state_in later (drop (later - first) ops)) d (later_agree first ops d k later holds c.oldest.ensures is)

pub returns-clause-begin : goal.returns-clause-begin
returns-clause-begin g c =
    let d = (kept.standing_of c.args.opened).disk in
    c.min-later.ensures ∙ begin_is d c.oldest.result.now c.oldest.ensures

pub returns-clause-held : goal.returns-clause-held
returns-clause-held g c =
    let later = c.min-later.result in
    let digest = c.link_first-digest.ensures in
    let left = c.drop_first.ensures in
    λ i. record { first = later; before = digest i; ops = left i }
