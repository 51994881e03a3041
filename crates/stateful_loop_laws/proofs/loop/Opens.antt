-- What the loop keeps stands after an opening, and the databases hold what it says.
use Rattle.std.proofs.Common.{◌≡◌, ◌∷◌, [], ℕ, List, Option, Some, MatchOption, sym, ap, ◌∙◌, subst, arith}
use Rattle.std.proofs.lemmas.Bool.{false≢true}
use Rattle.std.proofs.lemmas.List.Elements.{All-nil}
use Rattle.stateful_base.specs.Anchor.{anchor_by}
use Rattle.stateful_base.specs.Names.{Named}
use Rattle.stateful_base.specs.declared.anchor.Anchor.{Anchor}
use Rattle.stateful_base.specs.declared.floor.Floor.{Floor}
use Rattle.stateful_history.specs.Anchors.{applied}
use Rattle.stateful_history.specs.Holding.{HoldsSince, Holds}
use Rattle.stateful_history.specs.Past.{Past, Made}
use Rattle.stateful_history.specs.States.{fold}
use Rattle.stateful_history.specs.declared.mark.Mark.TheVariants.{Opened}
use Rattle.stateful_exec_model.specs.Workings.{Workings, Point}
use Rattle.stateful_exec_laws.specs.Setting.{setting}
use Rattle.stateful_loop_laws.specs.Checkpoints.{Keeping}
use Rattle.stateful_loop_laws.specs.Durability.{LoopBehind}
use Rattle.stateful_loop_laws.specs.OpenBarriers.{ActiveStands, BarriersStand, AwaitsLive}
use Rattle.stateful_loop_laws.specs.Stands.{LoopStands}
use Rattle.stateful_loop_laws.proofs.barriers.AwaitedItems.{AwaitsEach-none}
use Rattle.stateful_loop_laws.proofs.barriers.Down.{NoneLive}
use Rattle.stateful_loop_laws.proofs.loop.CheckpointsKept.{Keeping-opened}
use Rattle.stateful_loop_model.specs.Moments.{Moment}
use Rattle.stateful_loop_model.specs.Opening.{Opens}
use Rattle.stateful_loop_model.specs.declared.barriers.Active.{Active}

module _ {B C I P R D H G U : Type 0} (w : Workings B C I P R D H G U) (stored : ℕ → Option (Named B)) where
  module _ (stored_now : ℕ → Option (Named B)) (floor : Floor) (keep : List ℕ) (p : Past B C I) (m now : Moment w)
      (o : Opens w stored_now floor keep m now) where
    abbrev anchor : Anchor
    anchor = anchor_by w.header o.block

    abbrev q : Past B C I
    q = Made (Opened anchor) ∷ p

    -- where no barrier is open and none is live, and the numbers so far are below the next one
    pub LoopStands-opens : m.loop.barriers ≡ [] → NoneLive p m.loop.next_barrier → LoopStands w stored o.opening.at.1 q now
    LoopStands-opens none none_live =
        let barriers : now.loop.barriers ≡ [] = ap (λ l. l.barriers) o.loop ∙ none in
        let next : now.loop.next_barrier ≡ m.loop.next_barrier = ap (λ l. l.next_barrier) o.loop in
        record {
          first = anchor;
          origin = λ i. w.kind.place now.members i;
          keeping = subst (λ (a : Anchor). Keeping (setting w stored) w.kind o.opening.at.1 q now.members a anchor (λ i. w.kind.place now.members i))
              (sym o.anchor)
              (Keeping-opened (setting w stored) w.kind p now.members now.next (w.works.meaning.targets o.block.block) anchor o.opening);
          durable_is = ap (λ l. l.durability.durable) o.loop;
          barriers = subst (λ (xs : List Active). BarriersStand w.kind w.header q now.members anchor
              (λ i. w.kind.place now.members i) xs now.loop.next_barrier) (sym barriers) (record {
                each = All-nil (ActiveStands w.kind w.header q now.members anchor (λ i. w.kind.place now.members i));
                ascending = λ i j x lt l. absurd (omega arith);
                complete = λ k live. absurd (false≢true (sym (none_live.dead k) ∙ live));
                done = λ k since. absurd since;
                later = λ k n since before. absurd since;
                numbers = λ k begun. let low = none_live.below k begun in omega (arith, low, next);
              });
          awaits = AwaitsEach-none w.kind.count q now.loop.barriers none_live.dead;
          lives = subst (λ (xs : List Active). AwaitsLive w.kind.count q xs) (sym barriers) (λ k i some. absurd (false≢true some));
        }

    -- from the moment before the opening to the one behind it
    pub LoopBehind-opens : m.loop.barriers ≡ [] → NoneLive p m.loop.next_barrier → LoopBehind w stored o.opening.at.1 p m now
    LoopBehind-opens none none_live = record {
      more = Opened anchor ∷ [];
      marks_are = o.marks;
      loop = LoopStands-opens none none_live;
      said = ((tt, tt, tt, tt, tt), tt);
    }

  -- the databases hold what was applied
  pub LoopStands-holds : (base : w.States) (p : Past B C I) (m : Moment w) (point : Point w) → w.kind.point m.members ≡ Some point
      → fold (setting w stored) (Some base) (applied p) ≡ Some point.1 → LoopStands w stored base p m
      → Holds (setting w stored) w.kind base p m.members
  LoopStands-holds base p m point located folded h =
      subst (λ (o : Option Anchor). MatchOption o (Unit {0}) (λ a. HoldsSince (setting w stored) w.kind base p m.members a)) (sym h.keeping.opened)
      (record {
        point = point;
        here = located;
        state = folded;
        origin = h.origin;
        keeps = h.keeping.keeps;
        durable = h.keeping.durable;
      })
