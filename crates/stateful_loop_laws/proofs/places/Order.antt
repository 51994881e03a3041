-- Finalizations begin and are applied in order.
use Rattle.std.proofs.Common.{◌≡◌, ◌<◌, inl, inr, ℕ, Option, None, Some, subst, arith}
use Rattle.stateful_base.specs.Names.{Named}
use Rattle.stateful_history.specs.Finalizations.{finalized_since, FinalizesInOrder}
use Rattle.stateful_history.specs.Past.{Past}
use Rattle.stateful_history.specs.declared.mark.Mark.TheVariants.{Began, Applied}
use Rattle.stateful_exec_model.specs.Finalizing.{front_at}
use Rattle.stateful_exec_model.specs.Workings.{Workings}
use Rattle.stateful_exec_model.specs.declared.front.Front.{Front}
use Rattle.stateful_exec_model.specs.declared.front.Stage.TheVariants.{Begun, Ran}
use Rattle.stateful_exec_laws.specs.Due.{IsDue}
use Rattle.stateful_exec_laws.specs.Fronting.{FrontStands}
use Rattle.stateful_exec_laws.specs.Setting.{setting}
use Rattle.stateful_exec_laws.proofs.front.Marks.{begins-FinalizesInOrder, begun-FinalizesInOrder, ran-FinalizesInOrder}
use Rattle.stateful_loop_model.specs.Moments.{Moment}
use Rattle.stateful_loop_model.specs.Rules.{HasStates, BeginsFinalization}
use Rattle.stateful_loop_laws.specs.Execution.{IsFree, IsPlaced, Executes}
use Rattle.stateful_loop_laws.specs.Places.{PlacesKept}

module _ {B C I P R D H G U : Type 0} (w : Workings B C I P R D H G U) (stored : ℕ → Option (Named B)) (base : w.States) (p : Past B C I)
    (m now : Moment w) (e : Executes w stored base p m) where
  -- the finalization that begins is of the next block, and none goes on
  pub begins-in_order : PlacesKept w stored p m → m.execution.front ≡ None → (t : ℕ) (b : Named B)
      → m.execution.state.anchor.height.0 < w.header.height b.block → finalized_since t p ≡ Some b → BeginsFinalization w t b m now
      → FinalizesInOrder w.header p (Began t b)
  begins-in_order h front t b high came r =
      let free : IsFree w stored base p e.points e.point m.next m.execution.state =
      subst (λ (f : Option (Front B R U H)). IsPlaced w stored base p e.points e.point m.next m.execution.state f) front e.placed in
      begins-FinalizesInOrder w stored p m.execution.state.cache
      (subst (λ (f : Option (Front B R U H)). IsDue (setting w stored) p m.execution.state.cache f) front h.due) t b came
      m.execution.state.anchor free.ground.folded.tip_is (let up = r.may.next in omega (arith, up, high), r.may.on_anchor)

  fronts_at : (front : Option (Front B R U H)) → m.execution.front ≡ front → FrontStands w stored p e.point m.next m.execution.state.anchor front
  fronts_at front is = subst (λ (o : Option (Front B R U H)). FrontStands w stored p e.point m.next m.execution.state.anchor o) is e.fronts

  -- what is applied is the block whose finalization began
  pub applies-in_order : (b : Named B) → HasStates w m b → FinalizesInOrder w.header p (Applied b)
  applies-in_order b (inl begun) = begun-FinalizesInOrder w stored p e.point m.next m.execution.state.anchor b (fronts_at (front_at b Begun) begun.0)
  applies-in_order b (inr ran) = ran-FinalizesInOrder w stored p e.point m.next m.execution.state.anchor b ran.0
      (fronts_at (front_at b (Ran ran.0)) ran.1)
