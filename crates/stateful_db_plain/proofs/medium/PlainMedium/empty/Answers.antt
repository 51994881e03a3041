use Rattle.std.proofs.Common.{◌≡◌, ap, sym, subst, ◌∙◌}
use Rattle.stateful_db.specs.Disk.{Disk, all}
use Rattle.stateful_db_medium.specs.declared.checkpoints.Checkpoint.{Checkpoint}
use Rattle.stateful_db_plain.specs.Whole.{Whole, target_of}
use Rattle.stateful_db_plain.specs.Rooted.{AreRooted}
use Rattle.stateful_db_plain.proofs.Rooted.{rooted_one}
use Rattle.stateful_db_plain.proofs.medium.PlainMedium.empty.Goals as goal

pub invariant_of-result : goal.invariant_of-result
invariant_of-result c =
    let first = c.checkpoint-first.result in
    let P : Disk (Checkpoint Whole) → Type 0 = λ d. AreRooted (all d) in
    let Q : Checkpoint Whole → Type 0 = λ k. k.target ≡ target_of k.kept in
    record { rooted = subst P (sym c.new.ensures.disk) (rooted_one first (ap (λ (k : Checkpoint Whole). k.target) c.checkpoint-first.ensures ∙ sym (ap (λ (k : Checkpoint Whole). target_of k.kept) c.checkpoint-first.ensures))) }
