-- What a fault leaves of the databases.
use Rattle.std.proofs.Common.{◌≡◌, ◌⊎◌, ◌<◌, ◌≤◌, ◌^◌, inl, inr, ◌∷◌, ℕ, List, Some, ap, ◌∙◌, refl, sym, subst, arith}
use Rattle.stateful_base.specs.Names.{Named}
use Rattle.stateful_db.specs.Databases.{Databases, Preserves}
use Rattle.stateful_db.specs.Laws.{Laws}
use Rattle.stateful_db.specs.declared.database.DbCall.{DbCall}
use Rattle.stateful_db.specs.declared.set.SetError.{SetError}
use Rattle.stateful_db.specs.declared.set.SetError.TheVariants as set
use Rattle.stateful_exec_model.specs.Finalizing.{Moves}
use Rattle.stateful_exec_model.specs.Workings.{Workings, Point}
use Rattle.stateful_loop_model.specs.Left.{KeepsStates, LeavesApply, LeavesRule, keeps, applying}
use Rattle.stateful_loop_model.specs.Moments.{Executing, Moment}
use Rattle.stateful_loop_model.specs.Rules.{IsFinalizing, HasStates}
use Rattle.stateful_loop_model.specs.declared.tables.Finalizing.{Finalizing}

module _ {Ids S T : Type 0} (d : Databases Ids S T) (laws : Laws d) where
  -- databases that are as they were keep what they kept
  pub Preserves-same : (old new : d.Members) → new ≡ old → Preserves d old new
  Preserves-same old new same = subst (λ (m : d.Members). Preserves d old m) (sym same)
      (record { kept = λ i k s within has. has; durable = λ i within. omega arith })

  module _ (old new : d.Members) (e : SetError) where
    -- a set failed at its finalize
    pub preserves_finalizing : (e ≡ set.Lost → ⊥) → (e ≡ set.Exhausted → ⊥)
        → ((n : ℕ) (k : DbCall) → e ≡ set.DatabaseFault n k → d.LostFinalizing old n new)
        → (e ≡ set.OutOfMemory → (new ≡ d.finalized old) ⊎ ((n : ℕ) × (n < d.count) × d.LostFinalizing old n new))
        → Preserves d old new
    preserves_finalizing lost exhausted fault memory = of e refl
      where
        of : (f : SetError) → e ≡ f → Preserves d old new
        of set.Lost is = absurd (lost is)
        of set.Exhausted is = absurd (exhausted is)
        of (set.DatabaseFault n k) is = laws.finalize.preserves_lost_finalizing old new n (fault n k is)
        of set.OutOfMemory is = ran_out (memory is)
          where
            ran_out : (new ≡ d.finalized old) ⊎ ((n : ℕ) × (n < d.count) × d.LostFinalizing old n new) → Preserves d old new
            ran_out (inl done) = subst (λ (m : d.Members). Preserves d old m) (sym done) (laws.finalize.preserves_finalized old)
            ran_out (inr (n, within, is_lost)) = laws.finalize.preserves_lost_finalizing old new n is_lost

    -- a set failed at a flush up to this place
    pub preserves_flushing : (index at : ℕ) → (e ≡ set.Lost → ⊥) → (e ≡ set.Exhausted → ⊥)
        → ((n : ℕ) (k : DbCall) → e ≡ set.DatabaseFault n k → d.LostFlushing old n at new)
        → (e ≡ set.OutOfMemory → d.LostFlushing old index at new) → Preserves d old new
    preserves_flushing index at lost exhausted fault memory = of e refl
      where
        of : (f : SetError) → e ≡ f → Preserves d old new
        of set.Lost is = absurd (lost is)
        of set.Exhausted is = absurd (exhausted is)
        of (set.DatabaseFault n k) is = laws.flush.preserves_lost_flushing old new n at (fault n k is)
        of set.OutOfMemory is = laws.flush.preserves_lost_flushing old new index at (memory is)

    -- a set failed at an apply of these states
    pub preserves_applying : (q : Ids × S) → (e ≡ set.Lost → new ≡ old) → (e ≡ set.Exhausted → ⊥)
        → ((n : ℕ) (k : DbCall) → e ≡ set.DatabaseFault n k → d.LostApplying old q n new)
        → (e ≡ set.OutOfMemory → (n : ℕ) × (n < d.count) × d.LostApplying old q n new) → Preserves d old new
    preserves_applying q lost exhausted fault memory = of e refl
      where
        of : (f : SetError) → e ≡ f → Preserves d old new
        of set.Lost is = Preserves-same old new (lost is)
        of set.Exhausted is = absurd (exhausted is)
        of (set.DatabaseFault n k) is = laws.apply.preserves_lost_applying old new q n (fault n k is)
        of set.OutOfMemory is = let ran_out = memory is in laws.apply.preserves_lost_applying old new q ran_out.0 ran_out.2

module _ {B C I P R D H G U : Type 0} (w : Workings B C I P R D H G U) where
  -- databases that are as they were
  pub keeps_same : (old new : w.kind.Members) → new ≡ old → KeepsStates w old new
  keeps_same old new same = subst (λ (m : w.kind.Members). KeepsStates w old m) (sym same)
      (record { states = λ i s has. has; preserves = λ few. record { kept = λ i k s within has. has; durable = λ i within. omega arith } })

  -- a barrier began, and memory ran out behind that
  pub keeps_finalized : Laws w.kind → (old new : w.kind.Members) → new ≡ w.kind.finalized old → KeepsStates w old new
  keeps_finalized laws old new is = subst (λ (m : w.kind.Members). KeepsStates w old m) (sym is)
      (record { states = laws.finalize.state_finalized old; preserves = λ few. laws.finalize.preserves_finalized old })

  module _ (laws : Laws w.kind) (b : Named B) (e now : Executing B C I R D H U) (old new : w.kind.Members) (batch : U) (captured : G)
      (moves : Moves w b old e.state now.state e.front now.front batch captured) where
    -- the block was applied, and memory ran out behind that
    pub left_applied : ((p q : Point w) (c : List (Point w)) → w.kind.point old ≡ Some p → w.shows batch (q ∷ p ∷ c) → new ≡ w.kind.applied old q)
        → LeavesApply w b e old new
    left_applied is = record {
      batch = batch;
      captured = captured;
      state = now.state;
      front = now.front;
      moves = moves;
      states = λ p q c here shows i. inr (laws.places.has_state new q i
          (ap w.kind.point (is p q c here shows) ∙ laws.apply.point_applied old p q here));
      preserves = λ p q c here shows few.
          subst (λ (m : w.kind.Members). Preserves w.kind old m) (sym (is p q c here shows)) (laws.apply.preserves_applied old q);
    }

    -- the set failed where the block was to be applied
    pub left_applying : (why : SetError)
        → ((p q : Point w) (c : List (Point w)) → w.kind.point old ≡ Some p → w.shows batch (q ∷ p ∷ c) → (i : ℕ)
        → w.kind.HasState new i p.1 ⊎ w.kind.HasState new i q.1)
        → (why ≡ set.Lost → new ≡ old) → (why ≡ set.Exhausted → ⊥)
        → ((n : ℕ) (k : DbCall) → why ≡ set.DatabaseFault n k → w.kind.count < 2 ^ 64 → (p q : Point w) (c : List (Point w))
        → w.kind.point old ≡ Some p → w.shows batch (q ∷ p ∷ c) → w.kind.LostApplying old q n new)
        → (why ≡ set.OutOfMemory → (p q : Point w) (c : List (Point w)) → w.kind.point old ≡ Some p → w.shows batch (q ∷ p ∷ c)
        → (n : ℕ) × (n < w.kind.count) × w.kind.LostApplying old q n new)
        → LeavesApply w b e old new
    left_applying why states lost exhausted fault memory = record {
      batch = batch;
      captured = captured;
      state = now.state;
      front = now.front;
      moves = moves;
      states = states;
      preserves = λ p q c here shows few. preserves_applying w.kind laws old new why q lost exhausted
          (λ n k is. fault n k is few p q c here shows) (λ is. memory is p q c here shows);
    }

  -- whatever it was, of the rule by which it is applied
  pub left_by_rule : (f : Finalizing B G) (m : Moment w) (new : w.kind.Members) → IsFinalizing w m f → HasStates w m f.block
      → KeepsStates w m.members new ⊎ LeavesApply w f.block m.execution m.members new → LeavesRule w m new
  left_by_rule f m new fin states (inl same) = keeps same
  left_by_rule f m new fin states (inr part) = applying fin states part
