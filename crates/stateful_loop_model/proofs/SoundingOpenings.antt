-- Behind an opening the machine is sound, and so it is once all that went on is dropped.
use Rattle.std.proofs.Common.{◌≡◌, ◌≤◌, ℕ, List, All, [], length, map, Option, None, inl, sym, ap, ◌∙◌, subst, true≢false, arith}
use Rattle.std.proofs.lemmas.List.Elements.{All-nil}
use Rattle.stateful_base.specs.Names.{Named}
use Rattle.stateful_base.specs.declared.floor.Floor.{Floor}
use Rattle.stateful_db.specs.Laws.{Laws}
use Rattle.stateful_durability.specs.Durability.{Coverage}
use Rattle.stateful_exec_model.specs.Workings.{Workings}
use Rattle.stateful_loop_model.specs.Clearing.{IsCleared}
use Rattle.stateful_loop_model.specs.Moments.{Moment}
use Rattle.stateful_loop_model.specs.Opening.{Opens}
use Rattle.stateful_loop_model.specs.Sound.{AreHeld, FrontAgrees, Sound, out_at}
use Rattle.stateful_loop_model.specs.declared.barriers.Active.{Active}
use Rattle.stateful_loop_model.specs.declared.tables.Finalizing.{Finalizing}
use Rattle.stateful_loop_model.specs.declared.tables.Processing.{Processing}

module _ {B C I P R D H G U : Type 0} (w : Workings B C I P R D H G U) where
  -- the machine is opened with no barrier and no finalization
  pub opens_sound : Laws w.kind → (stored : ℕ → Option (Named B)) (floor : Floor) (keep : List ℕ) (m now : Moment w) → Opens w stored floor keep m now
      → m.loop.barriers ≡ [] → m.loop.front ≡ None → Sound w now
  opens_sound laws stored floor keep m now o closed none =
      let barriers : now.loop.barriers ≡ [] = ap (λ (l : Processing B C I G). l.barriers) o.loop ∙ closed in
      let front : now.loop.front ≡ None = ap (λ (l : Processing B C I G). l.front) o.loop ∙ none in
      let height : ℕ = w.header.height o.block.block in
      let covered : now.loop.durability ≡ record { durable = height; applied = height; barriers = []; held = [] } =
      ap (λ (l : Processing B C I G). l.durability) o.loop in
      let c : Coverage = record { durable = height; applied = height; barriers = []; held = [] } in
      record {
        none_away = laws.places.away_here now.members o.opening.at o.opening.here;
        up = λ _. record {
          point = o.opening.at;
          here = o.opening.here;
          applied = ap (λ (d : Coverage). d.applied) covered ∙ sym (ap (λ a. a.height.0) o.anchor);
          heights = ap (map (λ (a : Active). a.height.0)) barriers ∙ sym (ap (λ (d : Coverage). d.barriers) covered);
          few = subst (λ (xs : List Active). length xs ≤ 2) (sym barriers) (omega arith);
          counts = subst (λ (xs : List Active). All (λ a. length a.barrier ≡ w.kind.count) xs) (sym barriers) (All-nil (λ (a : Active). length a.barrier ≡ w.kind.count));
          tokens = λ i lt. laws.places.tokens_idle now.members i o.opening.idle ∙ sym (ap (λ (xs : List Active). out_at xs i) barriers);
          front = subst (λ (x : Option (Finalizing B G)). FrontAgrees w now.loop.durability x now.execution.front) (sym front) o.nothing.1;
          held = subst (λ (x : Option (Finalizing B G)). AreHeld w now.loop.durability x) (sym front)
              (subst (λ (d : Coverage). AreHeld w d None) (sym covered) (λ n le. inl le));
        };
      }

  -- all is dropped, and no database is away
  pub cleared_sound : (m now : Moment w) → IsCleared w m now → w.kind.NoneAway m.members → Sound w now
  cleared_sound m now c away = record {
    none_away = subst w.kind.NoneAway (sym c.rest.0) away;
    up = λ up. absurd (true≢false (sym up ∙ c.up));
  }
