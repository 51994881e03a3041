-- The checkpoints of media are in order.
use Rattle.std.proofs.Common.{ap, arith}
use Rattle.stateful_base.specs.declared.target.Target.{Target}
use Rattle.stateful_db.specs.Disk.{Disk, IsSound, all}
use Rattle.stateful_db_medium.specs.Kept as kept
use Rattle.stateful_db_medium.specs.Mapped.{mapped, sound-mapped}
use Rattle.stateful_db_medium.specs.Ranged.{range_of}
use Rattle.stateful_db_medium.specs.Soundness as opened
use Rattle.stateful_db_medium.specs.declared.checkpoints.Checkpoint.{Checkpoint}
use Rattle.stateful_db_plain.specs.declared.medium.PlainMedium.{PlainMedium}
use Rattle.stateful_db_plain.specs.declared.database.Plain.{Plain}
use Rattle.stateful_db_plain.specs.Whole.{Whole, target_of}
use Rattle.stateful_db_plain.specs.Rooted.{state_of, AreRooted}
use Rattle.stateful_db_plain.specs.Stored.{disk_of, standing_of}

-- the states of checkpoints in order are in order
sound_states : (d : Disk (Checkpoint Whole))
    → AreRooted (all d)
    → IsSound range_of d
    → IsSound target_of (mapped state_of d)
sound_states d rooted sound =
    sound-mapped state_of target_of d (record {
      kept = sound.kept;
      within = sound.within;
      ends = λ i j s t less at_i at_j.
          let later = sound.ends i j s t less at_i at_j in
          let one = ap (λ (x : Target). x.end.0) (rooted i s at_i) in
          let two = ap (λ (x : Target). x.end.0) (rooted j t at_j) in
          omega (arith, later, one, two);
      starts = λ i j s t less at_i at_j.
          let later = sound.starts i j s t less at_i at_j in
          let one = ap (λ (x : Target). x.start.0) (rooted i s at_i) in
          let two = ap (λ (x : Target). x.start.0) (rooted j t at_j) in
          omega (arith, later, one, two);
    })

pub sound_medium : (m : PlainMedium) → IsSound target_of (disk_of m)
sound_medium m = sound_states (kept.disk_of m.medium) m.rooted (opened.sound_medium m.medium)

pub sound_database : (d : Plain) → IsSound target_of (standing_of d).disk
sound_database d =
    sound_states (kept.standing_of d.opened).disk d.rooted (opened.sound_opened d.opened)
