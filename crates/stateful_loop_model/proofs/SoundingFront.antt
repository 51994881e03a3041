-- How far a finalization has come, in the loop and in execution.
use Rattle.std.proofs.Common.{◌≡◌, ◌≤◌, ℕ, List, All, length, map, Option, Some, None, sym, ap, ◌∙◌, subst}
use Rattle.stateful_base.specs.Names.{Named}
use Rattle.stateful_durability.specs.Durability.{Coverage}
use Rattle.stateful_exec_model.specs.Finalizing.{front_at}
use Rattle.stateful_exec_model.specs.Workings.{Workings}
use Rattle.stateful_exec_model.specs.declared.front.Front.{Front}
use Rattle.stateful_exec_model.specs.declared.front.Stage.{Stage}
use Rattle.stateful_exec_model.specs.declared.front.Stage.TheVariants.{Begun, Running, Ran, Advanced, Hooking}
use Rattle.stateful_loop_model.specs.Moments.{Moment}
use Rattle.stateful_loop_model.specs.Sound.{AgreesWith, FrontAgrees, AreHeld, IsUp, Sound, out_at}
use Rattle.stateful_loop_model.specs.declared.barriers.Active.{Active}
use Rattle.stateful_loop_model.specs.declared.tables.Finalizing.{Finalizing}

abbrev block_or : {B R U H : Type 0} → Named B → Option (Front B R U H) → Named B
block_or b None = b
block_or b (Some front) = front.block

abbrev stage_or : {B R U H : Type 0} → Stage R U H → Option (Front B R U H) → Stage R U H
stage_or s None = s
stage_or s (Some front) = front.stage

pub same_block : {B R U H : Type 0} (b c : Named B) (s t : Stage R U H) → front_at b s ≡ front_at c t → b ≡ c
same_block b c s t e = ap (block_or b) e

pub same_stage : {B R U H : Type 0} (b c : Named B) (s t : Stage R U H) → front_at b s ≡ front_at c t → s ≡ t
same_stage b c s t e = ap (stage_or s) e

module _ {B C I P R D H G U : Type 0} (w : Workings B C I P R D H G U) where
  -- the finalization of the loop is the one of execution's stage
  pub agrees_at : (c : Coverage) (f : Finalizing B G) (front : Option (Front B R U H)) (b : Named B) (s : Stage R U H)
      → FrontAgrees w c (Some f) front → front ≡ front_at b s → (f.block ≡ b) × AgreesWith w c f s
  agrees_at c f front b s (stage, is, agrees) e =
      let one : front_at f.block stage ≡ front_at b s = sym is ∙ e in
      (same_block f.block b stage s one, subst (AgreesWith w c f) (same_stage f.block b stage s one) agrees)

  -- barriers don't matter to it
  agrees_covered : (c : Coverage) (barriers : List ℕ) (f : Finalizing B G) (s : Stage R U H) → AgreesWith w c f s → AgreesWith w (record c { barriers = barriers }) f s
  agrees_covered c barriers f Begun h = h
  agrees_covered c barriers f (Running j run) h = h
  agrees_covered c barriers f (Ran batch) h = h
  agrees_covered c barriers f Advanced h = h
  agrees_covered c barriers f (Hooking j hook) h = h

  pub front_covered : (c : Coverage) (barriers : List ℕ) (f : Option (Finalizing B G)) (front : Option (Front B R U H))
      → FrontAgrees w c f front → FrontAgrees w (record c { barriers = barriers }) f front
  front_covered c barriers None front h = h
  front_covered c barriers (Some f) front (stage, is, agrees) = (stage, is, agrees_covered c barriers f stage agrees)

  -- a moment of which the front, the queue, the actions, the ids, the marks or other parts of the tables are others
  pub turned_sound : (m now : Moment w) → now.execution.state.anchor ≡ m.execution.state.anchor → now.members ≡ m.members → now.loop.up ≡ m.loop.up
      → now.loop.durability ≡ m.loop.durability → now.loop.barriers ≡ m.loop.barriers
      → (IsUp w m → FrontAgrees w m.loop.durability now.loop.front now.execution.front)
      → (IsUp w m → AreHeld w m.loop.durability now.loop.front) → Sound w m → Sound w now
  turned_sound m now anchor members up durability barriers front held s = record {
    none_away = subst w.kind.NoneAway (sym members) s.none_away;
    up = λ is. let u : IsUp w m = s.up (sym up ∙ is) in record {
      point = u.point;
      here = ap w.kind.point members ∙ u.here;
      applied = ap (λ (c : Coverage). c.applied) durability ∙ u.applied ∙ sym (ap (λ a. a.height.0) anchor);
      heights = ap (map (λ (active : Active). active.height.0)) barriers ∙ u.heights ∙ sym (ap (λ (c : Coverage). c.barriers) durability);
      few = subst (λ (xs : List Active). length xs ≤ 2) (sym barriers) u.few;
      counts = subst (λ (xs : List Active). All (λ active. length active.barrier ≡ w.kind.count) xs) (sym barriers) u.counts;
      tokens = λ i lt. ap (λ x. w.kind.tokens x i) members ∙ u.tokens i lt ∙ sym (ap (λ (xs : List Active). out_at xs i) barriers);
      front = subst (λ (c : Coverage). FrontAgrees w c now.loop.front now.execution.front) (sym durability) (front u);
      held = subst (λ (c : Coverage). AreHeld w c now.loop.front) (sym durability) (held u);
    };
  }
