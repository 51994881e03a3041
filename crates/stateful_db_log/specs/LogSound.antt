-- The checkpoints of log media are in order, and lie among the operations that are held.
use Rattle.std.proofs.Common.{◌≡◌, ℕ, zero, suc, ◌<◌, ◌≤◌, ◌-◌, List, [], ◌∷◌, ◌++◌, length, drop}
use Rattle.std.proofs.Common.{min, map, Some, slice_get, refl, ap, arith, length-take, length-drop}
use Rattle.stateful_db.specs.Disk.{IsSound, all}
use Rattle.stateful_db.specs.CheckpointLaws.{slice_get-last}
use Rattle.stateful_db_medium.specs.Kept as kept
use Rattle.stateful_db_medium.specs.Ranged.{range_of}
use Rattle.stateful_db_medium.specs.declared.checkpoints.Checkpoint.{Checkpoint}
use Rattle.stateful_db_medium.specs.Mapped.{sound-mapped}
use Rattle.stateful_db_medium.specs.Soundness as opened
use Rattle.stateful_db_log.specs.declared.log_medium.LogMedium.{LogMedium}
use Rattle.stateful_db_log.specs.declared.open_log.OpenLog.{OpenLog}
use Rattle.stateful_db_log.specs.Between.{state_in}
use Rattle.stateful_db_log.specs.Held.{end_of}
use Rattle.stateful_db_log.specs.Logs.{disk_of, standing_of, next_of, held_of, held_here}

-- what a checkpoint stands for is that of a kept one
pub stands : {K S : Type 0} (f : K → S) (older : List K) (newest : K) (i : ℕ) (s : S)
    → slice_get (map f older ++ f newest ∷ []) i ≡ Some s
    → (k : K) × ((slice_get (older ++ newest ∷ []) i ≡ Some k) × (f k ≡ s))
stands f [] newest zero s at = (newest, (refl, cc))
stands f [] newest (suc i) s at = cc
stands f (k ∷ older) newest zero s at = (k, (refl, cc))
stands f (k ∷ older) newest (suc i) s at = stands f older newest i s at

module _ {Op : Type 0} where
  pub sound_medium : (m : LogMedium Op) → IsSound range_of (disk_of m)
  sound_medium m =
      sound-mapped (state_in m.first m.ops) range_of (kept.disk_of m.medium)
      (opened.sound_medium m.medium)

  pub sound_log : (o : OpenLog Op) → IsSound range_of (standing_of o).disk
  sound_log o =
      sound-mapped (state_in o.first o.ops) range_of (kept.standing_of o.opened).disk
      (opened.sound_opened o.opened)

  -- a batch id is above 0
  pub numbered : (m : LogMedium Op) → 0 < next_of m
  numbered m = m.medium.numbered

  -- the newest checkpoint has as many operations as its range has locations
  pub length_newest : (o : OpenLog Op) → let s =
      (standing_of o).disk.newest in length s.kept ≡ s.target.end.0 - s.target.start.0
  length_newest o =
      let d = (kept.standing_of o.opened).disk in
      let start = d.newest.target.start.0 in
      let begins = o.begins (length d.older) d.newest (slice_get-last d.older d.newest) in
      omega (
        arith,
        begins,
        o.ends,
        length-take (d.newest.target.end.0 - start) (drop (start - o.first) o.ops),
        length-drop (start - o.first) o.ops,
      )

  -- a kept checkpoint has no more
  pub length_kept : (m : LogMedium Op) (i : ℕ) (s : Checkpoint (List Op))
      → slice_get (all (disk_of m)) i ≡ Some s
      → length s.kept ≤ s.target.end.0 - s.target.start.0
  length_kept m i s is =
      let d = kept.disk_of m.medium in
      let there = stands (state_in m.first m.ops) d.older d.newest i s is in
      let count : length (state_in m.first m.ops there.0).kept ≡ length s.kept =
      ap (λ (x : Checkpoint (List Op)). length x.kept) there.1.1 in
      omega (
        arith,
        ap (λ (x : Checkpoint (List Op)). x.target.end.0) there.1.1,
        ap (λ (x : Checkpoint (List Op)). x.target.start.0) there.1.1,
        count,
        length-take (there.0.target.end.0 - there.0.target.start.0)
            (drop (there.0.target.start.0 - m.first) m.ops),
      )

  -- each kept checkpoint begins and ends at the first operation that is held, or behind it
  pub held_low : (m : LogMedium Op) (i : ℕ) (s : Checkpoint (List Op))
      → slice_get (all (disk_of m)) i ≡ Some s
      → (held_of m).first ≤ min s.target.start.0 s.target.end.0
  held_low m i s is =
      let d = kept.disk_of m.medium in
      let there = stands (state_in m.first m.ops) d.older d.newest i s is in
      omega (
        arith,
        m.begins i there.0 there.1.0,
        ap (λ (x : Checkpoint (List Op)). x.target.start.0) there.1.1,
        ap (λ (x : Checkpoint (List Op)). x.target.end.0) there.1.1,
      )

  pub held_low_here : (o : OpenLog Op) (i : ℕ) (s : Checkpoint (List Op))
      → slice_get (all (standing_of o).disk) i ≡ Some s
      → (held_here o).first ≤ min s.target.start.0 s.target.end.0
  held_low_here o i s is =
      let d = (kept.standing_of o.opened).disk in
      let there = stands (state_in o.first o.ops) d.older d.newest i s is in
      omega (
        arith,
        o.begins i there.0 there.1.0,
        ap (λ (x : Checkpoint (List Op)). x.target.start.0) there.1.1,
        ap (λ (x : Checkpoint (List Op)). x.target.end.0) there.1.1,
      )

  -- and the newest ends where the operations that are held do
  pub held_high : (m : LogMedium Op) → (disk_of m).newest.target.end.0 ≡ end_of (held_of m)
  held_high m = m.ends

  pub held_high_here : (o : OpenLog Op)
      → (standing_of o).disk.newest.target.end.0 ≡ end_of (held_here o)
  held_high_here o = o.ends
