use Rattle.std.proofs.Common.{◌+◌, inl, inr, sym, subst}
use Rattle.stateful_db.specs.Disk.{Disk, all}
use Rattle.stateful_db.specs.Reopening.{OpensAt}
use Rattle.stateful_db_medium.specs.Kept as kept
use Rattle.stateful_db_medium.specs.Mapped.{mapped, mapped_standing, opened-mapped}
use Rattle.stateful_db_medium.specs.Openings.{reopens}
use Rattle.stateful_db_medium.specs.Ranged.{range_of}
use Rattle.stateful_db_medium.specs.declared.checkpoints.Checkpoint.{Checkpoint}
use Rattle.stateful_db_plain.specs.Whole.{Whole, target_of}
use Rattle.stateful_db_plain.specs.Rooted.{state_of, AreRooted}
use Rattle.stateful_db_plain.proofs.Rooted.{rooted_take, agree_here, number_of, fails_of, none_of}
use Rattle.stateful_db_plain.proofs.database.PlainManagedDb.init.Goals as goal

pub invariant_of-result : goal.invariant_of-result
invariant_of-result c =
    let P : Disk (Checkpoint Whole) → Type 0 = λ d. AreRooted (all d) in
    record { rooted = subst P (sym c.number_to_open.ensures.disk) c.args.medium.rooted }

pub invariant_of-result-2 : goal.invariant_of-result-2
invariant_of-result-2 c =
    let m = c.args.medium in
    let opened = kept.standing_of c.open.result in
    let P : Disk (Checkpoint Whole) → Type 0 = λ d. OpensAt range_of (λ t. t) c.in-Ok.number d opened in
    let opens = subst P c.number_to_open.ensures.disk c.open.ensures.opens in
    record { rooted = rooted_take (c.in-Ok.number + 1) (all (kept.disk_of m.medium)) (all opened.disk) opens.disk.kept m.rooted }

pub returns-clause-ok : goal.returns-clause-ok
returns-clause-ok c =
    let m = c.args.medium in
    let d = kept.disk_of m.medium in
    let opened = kept.standing_of c.open.result in
    let P : Disk (Checkpoint Whole) → Type 0 = λ x. OpensAt range_of (λ t. t) c.in-Ok.number x opened in
    let opens = subst P c.number_to_open.ensures.disk c.open.ensures.opens in
    reopens target_of (λ t. t) (mapped state_of d) c.args.expected c.in-Ok.number (mapped_standing state_of opened)
    (number_of d m.rooted c.args.expected c.in-Ok.number c.in-Ok.ensures.ok)
    (record { id = opens.id; out = opens.out; disk = opened-mapped state_of state_of c.in-Ok.number d opened.disk opens.disk (agree_here (all opened.disk)) })

pub returns-in-Err-clause-cause : goal.returns-in-Err-clause-cause
returns-in-Err-clause-cause c =
    let m = c.args.medium in
    fails_of (kept.disk_of m.medium) m.rooted c.args.expected _ c.in-Err.why c.in-Err.ensures.cause

pub returns-in-Err-clause-unlisted : goal.returns-in-Err-clause-unlisted
returns-in-Err-clause-unlisted c = λ is.
    let m = c.args.medium in
    elim (c.in-Err.ensures.unlisted is) [
      | inl listed ↦ inl listed
      | inr none ↦ inr (none_of (kept.disk_of m.medium) m.rooted c.args.expected none)
    ]
