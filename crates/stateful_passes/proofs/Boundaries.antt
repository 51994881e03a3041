-- The kept checkpoint whose commit is asked for.
use Rattle.std.proofs.Common.{◌≡◌, ℕ, ◌+◌, ◌==◌, Some, None, true, subst, get_or}
use Rattle.std.specs.Prelude.{slice_get, position}
use Rattle.std.proofs.lemmas.Bool.{eqb-true, eq-eqb}
use Rattle.std.proofs.lemmas.List.Quantifiers.{position-Some}
use Rattle.std.proofs.lemmas.Option.{get_or_from_slice_get}
use Rattle.stateful_base.specs.declared.number.Location.{Location}
use Rattle.stateful_db.specs.Disk.{Disk, all}
use Rattle.stateful_db.specs.CheckpointLaws.{position-passes}
use Rattle.stateful_db_compact.specs.Compacted.{State, size_of}
use Rattle.stateful_passes.specs.CompactServed.{IsBehind}

module _ {V : Type 0} (d : Disk (State V)) (size start : Location) where
  -- the first kept checkpoint of so many operations is such a one
  pub found : (n : ℕ) (s : State V)
      → position (λ u. size_of u == size.0) (all d) ≡ Some n
      → slice_get (all d) n ≡ Some s
      → start.0 + 1 ≡ size.0
      → IsBehind d size start s
  found n s first is last =
      let passes = (position-Some (λ u. size_of u == size.0) (all d) n s first).1 in
      let same : get_or (all d) n s ≡ s = get_or_from_slice_get (all d) n s s is in
      record {
        number = n;
        kept = is;
        ends =
            eqb-true (size_of s) size.0
            (subst (λ u. (size_of u == size.0) ≡ true) same passes);
        last = last;
      }

  -- where there is none, no kept checkpoint is such a one
  pub missing : (s : State V)
      → position (λ u. size_of u == size.0) (all d) ≡ None
      → IsBehind d size start s
      → ⊥
  missing s none behind =
      position-passes (λ u. size_of u == size.0) (all d) behind.number s behind.kept
      (eq-eqb (size_of s) size.0 behind.ends) none
