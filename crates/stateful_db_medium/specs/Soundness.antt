-- The checkpoints of media are in order.
use Rattle.stateful_db.specs.Disk.{IsSound, all}
use Rattle.stateful_db_medium.specs.Ranged.{range_of}
use Rattle.stateful_db_medium.specs.declared.checkpoints.Checkpoints.{Checkpoints}
use Rattle.stateful_db_medium.specs.declared.medium.Medium.{Medium}
use Rattle.stateful_db_medium.specs.declared.opened.Opened.{Opened}
use Rattle.stateful_db_medium.specs.Orders.{Ascend-later}
use Rattle.stateful_db_medium.specs.Kept.{disk_in, disk_of, standing_of}

module _ {X : Type 0} where
  pub sound_checkpoints : (c : Checkpoints X) → IsSound range_of (disk_in c)
  sound_checkpoints c =
      let later = Ascend-later range_of 0 c.pruned (all (disk_in c)) in
      record {
        kept = c.kept;
        within = c.within;
        ends = λ i j s t less at_i at_j. (later i j s t c.sizes less at_i at_j).1;
        starts = λ i j s t less at_i at_j. (later i j s t c.sizes less at_i at_j).0;
      }

  pub sound_medium : (m : Medium X) → IsSound range_of (disk_of m)
  sound_medium m = sound_checkpoints m.checkpoints

  pub sound_opened : (o : Opened X) → IsSound range_of (standing_of o).disk
  sound_opened o = sound_checkpoints o.medium.checkpoints
