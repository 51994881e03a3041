-- A database of a set that was opened at a target.
use Rattle.std.proofs.Common.{◌≡◌, ℕ, ◌-◌, ◌<◌, [], ◌∷◌, length, Option, Some, None, refl, arith}
use Rattle.std.proofs.lemmas.List.{drop_at}
use Rattle.stateful_base.specs.declared.target.Target.{Target}
use Rattle.stateful_db.specs.Databases.{IsOpening}
use Rattle.stateful_db.specs.Disk.{Disk, Standing, place}
use Rattle.stateful_db.specs.Member.{here, MemberKeeps}
use Rattle.stateful_db.specs.Reopening.{Reopens}
use Rattle.stateful_db.specs.Single.{single}

module _ {S T : Type 0} (target_of : S → T) (targeted : T → Target) (begun : S → S) (initial : S) where
  -- from its place on, a database has its newest checkpoint alone
  keeps_newest : (s : Standing S) → MemberKeeps (here s) (place s.disk) (s.disk.newest ∷ [])
  keeps_newest s =
      let up : place s.disk - s.disk.pruned ≡ length s.disk.older = omega arith in
      let down : s.disk.pruned - place s.disk ≡ 0 = omega arith in
      rw (up, down) (drop_at s.disk.older (s.disk.newest ∷ []) (length s.disk.older) refl)

  pub opening : (next : ℕ) (expected : Option T) (t : T) (d : Disk S) (s : Standing S) → 0 < next → expected ≡ Some t → Reopens target_of targeted expected d s → IsOpening (single target_of targeted begun initial) next (here s) t
  opening next None t d s numbered is opens = cc
  opening next (Some u) t d s numbered is (n, found, same, opens) = record {
    at = (s.id, s.disk.newest);
    here = refl;
    targets_are = cc;
    drawn = (omega (arith, opens.id), tt);
    idle = opens.out;
    durable = λ i within. opens.disk.durable;
    keeps = λ i within. keeps_newest s;
  }
