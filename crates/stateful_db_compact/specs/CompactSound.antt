-- The checkpoints of compact media are in order.
use Rattle.std.proofs.Common.{arith}
use Rattle.stateful_db.specs.Disk.{Disk, IsSound}
use Rattle.stateful_db.specs.Targeted.{compact_target}
use Rattle.stateful_db_medium.specs.Ranged.{range_of}
use Rattle.stateful_db_medium.specs.Soundness as kept
use Rattle.stateful_db_compact.specs.declared.compact.medium.CompactMedium.{CompactMedium}
use Rattle.stateful_db_compact.specs.declared.compact.database.CompactDb.{CompactDb}
use Rattle.stateful_db_compact.specs.Compacted.{State, target_of}
use Rattle.stateful_db_compact.specs.CompactStored.{disk_of, standing_of}

module _ {V : Type 0} where
  compact_sound : (d : Disk (State V))
      → IsSound range_of d
      → IsSound (λ s. compact_target (target_of s)) d
  compact_sound d sound = record {
    kept = sound.kept;
    within = sound.within;
    ends = sound.ends;
    starts = λ i j s t less at_i at_j. let later = sound.ends i j s t less at_i at_j in omega arith;
  }

  pub sound_medium : (m : CompactMedium V) → IsSound (λ s. compact_target (target_of s)) (disk_of m)
  sound_medium m = compact_sound (disk_of m) (kept.sound_medium m.medium)

  pub sound_database : (d : CompactDb V)
      → IsSound (λ s. compact_target (target_of s)) (standing_of d).disk
  sound_database d = compact_sound (standing_of d).disk (kept.sound_opened d.opened)
