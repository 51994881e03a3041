use Rattle.std.proofs.Common.{◌≤◌, length, unwrap_or, ap, sym, subst, ◌∙◌, arith}
use Rattle.stateful_db.specs.Disk.{Standing, all}
use Rattle.stateful_db.specs.Reopening.{with_end}
use Rattle.stateful_db_medium.specs.Kept as kept
use Rattle.stateful_db_medium.specs.Soundness.{sound_opened}
use Rattle.stateful_db_medium.specs.declared.checkpoints.Checkpoint.{Checkpoint}
use Rattle.stateful_db_plain.specs.Whole.{Whole, target_of}
use Rattle.stateful_db_plain.specs.Rooted.{AreRooted}
use Rattle.stateful_db_plain.specs.Stored.{standing_of}
use Rattle.stateful_db_plain.proofs.Rooted.{rooted_cut, standing_cut}
use Rattle.stateful_db_plain.proofs.database.PlainManagedDb.prune.Goals as goal

pub prune_first-requires-clause-kept : goal.prune_first-requires-clause-kept
prune_first-requires-clause-kept c =
    let keeps = c.requires.kept in
    let count = c.unwrap_or-count.ensures ∙ ap (λ o. unwrap_or o 0) (c.number_with_end.ensures ∙ keeps.found) in
    omega (arith, count, keeps.durable)

pub prune_first-requires-clause-within : goal.prune_first-requires-clause-within
prune_first-requires-clause-within c =
    let keeps = c.requires.kept in
    let count = c.unwrap_or-count.ensures ∙ ap (λ o. unwrap_or o 0) (c.number_with_end.ensures ∙ keeps.found) in
    omega (arith, count, keeps.durable, (sound_opened c.args.self.opened).within)

pub invariant_of-result : goal.invariant_of-result
invariant_of-result c =
    let o = c.args.self in
    let s = kept.standing_of o.opened in
    let P : Standing (Checkpoint Whole) → Type 0 = λ x. AreRooted (all x.disk) in
    let keeps = c.requires.kept in
    let count = c.unwrap_or-count.ensures ∙ ap (λ n. unwrap_or n 0) (c.number_with_end.ensures ∙ keeps.found) in
    let within : c.unwrap_or-count.result ≤ length s.disk.older = omega (arith, count, keeps.durable, (sound_opened o.opened).within) in
    record { rooted = subst P (sym c.in-Ok.ensures.ok) (rooted_cut s.disk o.rooted c.unwrap_or-count.result within) }

pub returns-in-Ok-clause-ok : goal.returns-in-Ok-clause-ok
returns-in-Ok-clause-ok c =
    let count = c.unwrap_or-count.ensures ∙ ap (λ o. unwrap_or o 0) c.number_with_end.ensures in
    standing_cut (kept.standing_of c.args.self.opened) (kept.standing_of c.in-Ok.opened) c.unwrap_or-count.result
    (unwrap_or (with_end target_of (λ t. t) c.args.target.now (standing_of c.args.self).disk) 0) c.in-Ok.ensures.ok count
