use Rattle.stateful_db_medium.specs.declared.checkpoints.Checkpoint.{Checkpoint}
use Rattle.stateful_db_medium.specs.Ranged.{range_of}
use Rattle.std.proofs.Common.{◌≡◌, ◌⊎◌, inl, inr, Result, Ok, Err, OnOk, OnErr, List, [], ◌∷◌, ◌++◌, length, ap, sym, subst, arith, length-append}
use Rattle.stateful_db_medium.specs.Orders.{Ascend}
use Rattle.stateful_db_medium.proofs.Ascending.{Ascend-push, Ascend-last}
use Rattle.stateful_db_medium.proofs.checkpoints.Checkpoints.push.Goals as goal

-- the checkpoints are those that were there before, and one more where it wasn't refused
left : {S E : Type 0} (r : Result (Unit {0}) E) (older older' : List S) (newest newest' state : S) → OnOk r (older' ≡ older ++ newest ∷ []) → OnOk r (newest' ≡ state) → OnErr r (older' ≡ older) → OnErr r (newest' ≡ newest) → (older' ++ newest' ∷ [] ≡ older ++ newest ∷ []) ⊎ (older' ++ newest' ∷ [] ≡ (older ++ newest ∷ []) ++ state ∷ [])
left (Ok done) older older' newest newest' state more last e f = inr cc
left (Err refused) older older' newest newest' state d e same still = inl cc

pub invariant_of-self : goal.invariant_of-self
invariant_of-self g c =
    let S = Checkpoint g.row.X.Denot in
    let kept = c.args.self.now in
    let older = c.append.new.older.items in
    let newest = c.append.new.newest in
    let said = c.append.ensures in
    let behind = c.is_behind.ensures in
    let last = Ascend-last range_of 0 kept.pruned kept.older.items kept.newest kept.sizes in
    let P : List S → Type 0 = λ ss. Ascend range_of 0 kept.pruned ss in
    elim (left c.append.result kept.older.items older kept.newest newest c.args.state said.ok_older said.ok_newest said.err_older said.err_newest) [
      | inl same ↦
          let count = ap length same in
          record {
            sizes = subst P (sym same) kept.sizes;
            kept = kept.kept;
            within = omega (arith, length-append {A = S});
            placed = omega (arith, length-append {A = S});
          }
      | inr more ↦
          let count = ap length more in
          record {
            sizes = subst P (sym more) (Ascend-push range_of 0 kept.pruned kept.older.items kept.newest c.args.state kept.sizes (behind.starts c.if-not-is_behind.false) (behind.ends c.if-not-is_behind.false));
            kept = kept.kept;
            within = omega (arith, length-append {A = S});
            placed = omega (arith, length-append {A = S});
          }
    ]
