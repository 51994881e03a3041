-- How a finalization goes on, from the clauses of execution, of the databases and of the durable heights.
use Rattle.std.proofs.Common.{◌≡◌, ◌⊎◌, inl, inr, ℕ, Bool, true, false, ◌<◌, Option, Some, None, List, [], ◌∷◌, ◌++◌, refl, sym, ap, ◌∙◌, subst, arith, All}
use Rattle.std.proofs.lemmas.Bool.{true≢false}
use Rattle.std.specs.Prelude.{IsSome, ◌↔◌}
use Rattle.stateful_base.specs.Names.{Named}
use Rattle.stateful_base.specs.declared.digest.Digest.{Digest}
use Rattle.stateful_base.specs.declared.number.Height.{Height}
use Rattle.stateful_db.specs.Databases.{Databases}
use Rattle.stateful_db.specs.declared.database.DbCall.{DbCall}
use Rattle.stateful_db.specs.declared.database.DbCall.TheVariants as call
use Rattle.stateful_db.specs.declared.set.SetError.{SetError}
use Rattle.stateful_db.specs.declared.set.SetError.TheVariants as set
use Rattle.stateful_durability.specs.Durability.{Coverage}
use Rattle.stateful_history.specs.declared.mark.Mark.{Mark}
use Rattle.stateful_history.specs.declared.mark.Mark.TheVariants as mark
use Rattle.stateful_exec_cache.specs.Cache.{IsIn}
use Rattle.stateful_exec_cache.specs.declared.cache.Cached.{Cached}
use Rattle.stateful_exec_model.specs.Finalizing.{Moves, FaultsMove, Observes}
use Rattle.stateful_exec_model.specs.Moments as exec
use Rattle.stateful_exec_tables.specs.Pausing.{AwaitsRuns, IsCount, none, one, other}
use Rattle.stateful_exec_model.specs.Pausing.{Resumes}
use Rattle.stateful_exec_model.specs.Workings.{Workings, Point}
use Rattle.stateful_exec_model.specs.declared.building.Building.{Building}
use Rattle.stateful_exec_model.specs.declared.front.Front.{Front}
use Rattle.stateful_exec_tables.specs.declared.state.Tables.{Tables}
use Rattle.stateful_loop_model.specs.Causes.{HasCounted, FaultsApply, Via, FaultsRule, memory, advancing, applying}
use Rattle.stateful_loop_model.specs.Errors.{error_of_set}
use Rattle.stateful_loop_model.specs.Moments.{Moment, Executing, moment, with_loop}
use Rattle.stateful_loop_model.specs.Reached.{reached_by}
use Rattle.stateful_loop_model.specs.Rules.{HasStates, BeginsBarrier, ObservesBlock, AppliesBlock, EndsFinalization, IsFinalizing, Can, collect, drain, run_or_apply, apply, go_on, break_or_complete, begin, take, Quiet}
use Rattle.stateful_loop_model.specs.declared.error.StepError.{StepError}
use Rattle.stateful_loop_model.specs.declared.error.StepError.TheVariants.{OutOfMemory}
use Rattle.stateful_loop_model.specs.declared.reached.Reached.TheVariants as reached
use Rattle.stateful_loop_model.specs.declared.tables.Finalizing.{Finalizing}
use Rattle.stateful_loop_model.specs.declared.tables.Processing.{Processing}

-- whether a block is cached, as the test says it
pub is_cached : {U : Type 0} (cache : List (Cached U)) (d own : Digest) (b : Bool) → d ≡ own → ((b ≡ true) ↔ IsIn cache d) → b ≡ true → IsIn cache own
is_cached cache d own b is told e = subst (IsIn cache) is (told.0 e)

pub not_cached : {U : Type 0} (cache : List (Cached U)) (d own : Digest) (b : Bool) → d ≡ own → ((b ≡ true) ↔ IsIn cache d)
    → b ≡ false → IsIn cache own → ⊥
not_cached cache d own b is told e has = true≢false (sym (told.1 (subst (IsIn cache) (sym is) has)) ∙ e)

-- a set failed at its apply
pub fault_applying : {Ids S T : Type 0} (d : Databases Ids S T) (before now : ℕ → ℕ) (old new : d.Members) (e : SetError)
    → (e ≡ set.Lost → d.point old ≡ None) → (e ≡ set.Exhausted → ⊥)
    → ((n : ℕ) (k : DbCall) → e ≡ set.DatabaseFault n k → HasCounted d before now new n k call.Apply)
    → FaultsApply d before now new old (error_of_set e)
fault_applying d before now old new set.Lost lost exhausted fault = lost refl
fault_applying d before now old new set.Exhausted lost exhausted fault = absurd (exhausted refl)
fault_applying d before now old new (set.DatabaseFault n k) lost exhausted fault = fault n k refl
fault_applying d before now old new set.OutOfMemory lost exhausted fault = tt

-- where none is counted, no other number is
pub counts_once : {T : Type 0} {P : T → Type 0} {xs : List T} (n : ℕ) → IsCount P xs 0 → IsCount P xs n → n ≡ 0
counts_once n zeros count = counted _ n 0 count zeros refl
  where
    counted : {T : Type 0} {P : T → Type 0} (xs : List T) (n k : ℕ) → IsCount P xs n → IsCount P xs k → k ≡ 0 → n ≡ 0
    counted [] n k none b e = refl
    counted (x ∷ xs) n k (one {n = p} is a) (one {n = q} has b) e = absurd (omega arith)
    counted (x ∷ xs) n k (one {n = p} is a) (other isnt b) e = absurd (isnt is)
    counted (x ∷ xs) n k (other isnt a) (one {n = q} has b) e = absurd (omega arith)
    counted (x ∷ xs) n k (other isnt a) (other hasnt b) e = counted xs n k a b e

module _ {B C I P R D H G U : Type 0} (w : Workings B C I P R D H G U) where
  -- moments that differ in what is told by an equation
  pub same_moment : (state : Tables B C I R U) (front : Option (Front B R U H)) (next : w.Ids) (b1 b2 : Option (Building B C D))
      (l1 l2 : Processing B C I G) (m1 m2 : w.kind.Members) (k1 k2 : List (Mark B))
      → b1 ≡ b2 → l1 ≡ l2 → m1 ≡ m2 → k1 ≡ k2
      → moment w (record { state = state; build = b1; front = front }) l1 m1 next k1 ≡ moment w (record { state = state; build = b2; front = front }) l2 m2 next k2
  same_moment state front next b1 b2 l1 l2 m1 m2 k1 k2 b l m k = cc

  -- the finalized block is applied
  pub applies_block : (f : Finalizing B G) (h now : Executing B C I R D H U) (l : Processing B C I G) (c : Coverage)
      (height : Height) (m n : w.kind.Members) (i j : w.Ids) (marks after : List (Mark B)) (batch : U) (captured : G)
      → Moves w f.block m h.state now.state h.front now.front batch captured → now.build ≡ h.build
      → ((p q : Point w) (c : List (Point w)) → w.kind.point m ≡ Some p → w.shows batch (q ∷ p ∷ c) → n ≡ w.kind.applied m q)
      → (w.kind.point n ≡ None → ⊥) → ((i : ℕ) → w.kind.tokens n i ≡ w.kind.tokens m i) → j ≡ i
      → height ≡ record { 0 = w.header.height f.block.block } → c ≡ record l.durability { applied = height.0 } → All (λ receipt. receipt.0 < height.0) c.held
      → after ≡ marks ++ mark.Applied f.block ∷ []
      → AppliesBlock w f (moment w h l m i marks)
      (moment w now (record l { front = Some (record f { captured = Some captured }); durability = c }) n j after)
  applies_block f h now l c height m n i j marks after batch captured moves build applied here tokens ids is covered above told =
      let k = w.header.height f.block.block in
      let level : height.0 ≡ k = ap (λ x. x.0) is in
      let covers : c ≡ record l.durability { applied = k } = covered ∙ ap (λ x. record l.durability { applied = x }) level in
      record {
        batch = batch;
        captured = captured;
        state = now.state;
        front = now.front;
        moves = moves;
        above = subst (λ x. All (λ receipt. receipt.0 < x) l.durability.held) level
            (subst (λ x. All (λ receipt. receipt.0 < height.0) x) (ap (λ x. x.held) covered) above);
        members = n;
        applied = applied;
        here = here;
        tokens = tokens;
        becomes = rw ids (rw told (rw build (rw covers refl)));
      }

  -- it doesn't matter which finalization the loop had in front
  pub applies_with : (f : Finalizing B G) (m now : Moment w) (front : Option (Finalizing B G)) → AppliesBlock w f m now
      → AppliesBlock w f (with_loop w m (record m.loop { front = front })) now
  applies_with f m now front a = record {
    batch = a.batch;
    captured = a.captured;
    state = a.state;
    front = a.front;
    moves = a.moves;
    above = a.above;
    members = a.members;
    applied = a.applied;
    here = a.here;
    tokens = a.tokens;
    becomes = a.becomes;
  }

  -- why the finalized block isn't applied
  pub fault_applied : (stored : ℕ → Option (Named B)) (rose : Type 0) (before now : ℕ → ℕ) (new : w.kind.Members) (f : Finalizing B G) (m : Moment w)
      → IsFinalizing w m f → HasStates w m f.block → (e : StepError)
      → (e ≡ OutOfMemory) ⊎ (Via (FaultsMove w rose f.block m.execution.state.cache m.execution.front) e ⊎ FaultsApply w.kind before now new m.members e)
      → FaultsRule w stored rose before now new m e
  fault_applied stored rose before now new f m fin states e (inl is) = memory is
  fault_applied stored rose before now new f m fin states e (inr (inl moves)) = advancing fin states moves
  fault_applied stored rose before now new f m fin states e (inr (inr applies)) = applying fin states applies

  -- the finalization has ended
  pub ends_finalization : (stored : ℕ → Option (Named B)) (t : ℕ) (b : Named B) (h mid now : Executing B C I R D H U)
      (l : Processing B C I G) (c : Coverage) (height : Height) (m n : w.kind.Members) (i j : w.Ids) (marks after : List (Mark B))
      → mid ≡ record h { front = None } → now.build ≡ mid.build → now.front ≡ mid.front
      → Resumes w stored (exec.moment w mid.state m i marks) (exec.moment w now.state n j after)
      → height ≡ record { 0 = w.header.height b.block } → c ≡ record l.durability { held = l.durability.held ++ (height.0, t) ∷ [] } → l.front ≡ None
      → EndsFinalization w stored (record { ticket = t; block = b; captured = None }) (moment w h l m i marks) (moment w now (record l { durability = c }) n j after)
  ends_finalization stored t b h mid now l c height m n i j marks after dropped build front resumes is held gone =
      let k = w.header.height b.block in
      let built : now.build ≡ h.build = build ∙ ap (λ x. x.build) dropped in
      let over : now.front ≡ None = front ∙ ap (λ x. x.front) dropped in
      let covers : c ≡ record l.durability { held = l.durability.held ++ (k, t) ∷ [] } =
      held ∙ ap (λ (x : Height). record l.durability { held = l.durability.held ++ (x.0, t) ∷ [] }) is in
      record {
        then = exec.moment w now.state n j after;
        resumes = subst (λ s. Resumes w stored (exec.moment w s m i marks) (exec.moment w now.state n j after)) (ap (λ x. x.state) dropped) resumes;
        becomes = rw built (rw over (rw covers (rw gone refl)));
      }

  -- nor does it where the application observes, or where the finalization ends
  pub observes_with : (f g : Finalizing B G) (captured : G) (m now : Moment w) (front : Option (Finalizing B G))
      → g.block ≡ f.block → g.ticket ≡ f.ticket → ObservesBlock w g captured m now
      → ObservesBlock w f captured (with_loop w m (record m.loop { front = front })) now
  observes_with f g captured m now front block ticket o = record {
    state = o.state;
    front = o.front;
    marks = o.marks;
    live = o.live;
    observes = subst (λ b. Observes w b captured m.members m.execution.state o.state m.marks o.marks o.front o.live) block o.observes;
    becomes = o.becomes ∙ rw (sym block) (rw (sym ticket) refl);
  }

  pub ends_with : (stored : ℕ → Option (Named B)) (f g : Finalizing B G) (m now : Moment w) (front : Option (Finalizing B G))
      → g.block ≡ f.block → g.ticket ≡ f.ticket → EndsFinalization w stored g m now
      → EndsFinalization w stored f (with_loop w m (record m.loop { front = front })) now
  ends_with stored f g m now front block ticket e = record {
    then = e.then;
    resumes = e.resumes;
    becomes = e.becomes ∙ rw (sym block) (rw (sym ticket) refl);
  }

  -- a barrier begins before the application has observed the finalized block
  pub covers_with : (f : Finalizing B G) (captured : G) (m now : Moment w) → f.captured ≡ Some captured
      → BeginsBarrier w (with_loop w m (record m.loop { front = Some (record f { captured = Some captured }) })) now
      → BeginsBarrier w (with_loop w m (record m.loop { front = Some f })) now
  covers_with f captured m now is begins =
      subst (λ x. BeginsBarrier w (with_loop w m (record m.loop { front = Some (record f { captured = x }) })) now) (sym is) begins

  -- a finalization in front that waits for a turn, or for runs that go on: nothing can go on
  pub quiet_waiting : (m : Moment w) (f : Finalizing B G) → IsFinalizing w m f
      → (reached_by m.execution.front ≡ reached.Begun → AwaitsRuns w.header m.execution.state 0 → ⊥)
      → (reached_by m.execution.front ≡ reached.Ran → ⊥) → (reached_by m.execution.front ≡ reached.Advanced → ⊥) → Quiet w m
  quiet_waiting m f fin begun ran advanced = λ can. refuted can
    where
      no_some : {T : Type 0} (o : Option T) → o ≡ None → IsSome o → ⊥
      no_some None e is = cc
      no_some (Some x) e is = cc

      in_front : m.loop.front ≡ None → ⊥
      in_front e = let both : Some f ≡ None = sym (fin.2) ∙ e in cc

      refuted : Can w m → ⊥
      refuted (collect up is) = is (fin.0.1)
      refuted (drain is built isnt) = no_some m.execution.build (fin.1) built
      refuted (run_or_apply is at idle) = begun (ap reached_by at) idle
      refuted (apply is at) = ran (ap reached_by at)
      refuted (go_on is at) = advanced (ap reached_by at)
      refuted (break_or_complete idle is) = in_front (idle.2)
      refuted (begin idle is) = in_front (idle.2)
      refuted (take idle is) = in_front (idle.2)
