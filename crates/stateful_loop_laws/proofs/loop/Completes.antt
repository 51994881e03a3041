-- What the loop keeps stands after the end of a barrier, and behind acknowledgements of durable heights.
use Rattle.std.proofs.Common.{◌≡◌, ◌≤◌, ◌<◌, ◌+◌, ◌-◌, ◌++◌, ◌∷◌, [], ℕ, List, All, length, map, drop, Option, Some, MatchOption, true, refl, sym, ap, subst, arith, nat_le}
use Rattle.std.proofs.lemmas.Bool.{leb-true}
use Rattle.std.proofs.lemmas.List.Elements.{All-head, All-tail, All-filter, filter_passes}
use Rattle.stateful_base.specs.Names.{Named}
use Rattle.stateful_base.specs.declared.anchor.Anchor.{Anchor}
use Rattle.stateful_durability.specs.Durability.{IsInOrder, receipts_up_to, receipts_above, after_completion}
use Rattle.stateful_history.specs.Durable.{durable, WasApplied, WasRecorded}
use Rattle.stateful_history.specs.Past.{Past, Made, after, EachMark}
use Rattle.stateful_history.specs.declared.mark.Mark.TheVariants.{BarrierDone}
use Rattle.stateful_exec_model.specs.Finalizing.{IsRedelivered}
use Rattle.stateful_exec_model.specs.Workings.{Workings}
use Rattle.stateful_exec_laws.specs.Setting.{setting}
use Rattle.stateful_loop_laws.specs.Durability.{IsDurablySaid, LoopBehind}
use Rattle.stateful_loop_laws.specs.OpenBarriers.{ActiveStands, BarriersStand, AwaitsEach, AwaitsLive}
use Rattle.stateful_loop_laws.specs.Stands.{LoopStands}
use Rattle.stateful_loop_laws.proofs.barriers.AwaitedItems.{AwaitsEach-done}
use Rattle.stateful_loop_laws.proofs.barriers.Done.{flushed_at, done_over, done_flushed, done_in_order, BarriersStand-done}
use Rattle.stateful_loop_laws.proofs.loop.CalmItems.{LeavesApplied-done}
use Rattle.stateful_loop_laws.proofs.loop.CheckpointsKept.{Keeping-left}
use Rattle.stateful_loop_laws.proofs.barriers.LiveItems.{AwaitsLive-done}
use Rattle.stateful_loop_laws.proofs.loop.Calm.{HasSameLoop-same, LoopStands-calm, LoopBehind-is}
use Rattle.stateful_loop_model.proofs.SoundingBarriers.{flushed_first}
use Rattle.stateful_loop_model.specs.Barriers.{flushed, is_flushed}
use Rattle.stateful_loop_model.specs.Moments.{Moment}
use Rattle.stateful_loop_model.specs.Rules.{CompletesBarrier, acknowledged}
use Rattle.stateful_loop_model.specs.Sound.{IsUp}
use Rattle.stateful_loop_model.specs.declared.barriers.Active.{Active}

module _ {B C I P R D H G U : Type 0} (w : Workings B C I P R D H G U) (stored : ℕ → Option (Named B)) (base : w.States) where
  -- the height of a receipt is durable, and no higher than the anchor
  pub record IsCovered (m : Moment w) (receipt : ℕ × ℕ) : Type 0 where
    pub durable : receipt.0 ≤ m.loop.durability.durable
    pub low : receipt.0 ≤ m.execution.state.anchor.height.0

  -- its acknowledgement keeps the rules
  pub IsDurablySaid-acknowledged : (p : Past B C I) (m : Moment w) (receipt : ℕ × ℕ) → IsCovered m receipt → LoopStands w stored base p m
      → IsDurablySaid w p (acknowledged receipt)
  IsDurablySaid-acknowledged p m receipt c h =
      let far : receipt.0 ≤ durable p = omega (arith, c.durable, h.durable_is) in (
        tt,
        tt,
        tt,
        subst (λ (o : Option Anchor). MatchOption o (WasRecorded receipt.0 p) (λ anchor. receipt.0 ≤ durable p)) (sym h.keeping.opened) far,
        subst (λ (o : Option Anchor). MatchOption o (Unit {0})
            (λ anchor. anchor.height.0 < receipt.0 → WasApplied w.header receipt.0 p × (receipt.0 ≤ durable p))) (sym h.keeping.opened)
            (λ above. (h.keeping.climbs receipt.0 above c.low, far)),
      )

  -- receipts are acknowledged one after another
  pub acknowledges_all : (p : Past B C I) (m : Moment w) (receipts : List (ℕ × ℕ)) → All (λ receipt. IsCovered m receipt) receipts
      → LoopStands w stored base p m
      → LoopStands w stored base (after p (map acknowledged receipts)) m × EachMark (IsDurablySaid w) p (map acknowledged receipts)
  acknowledges_all p m [] covered h = (h, tt)
  acknowledges_all p m (receipt ∷ receipts) covered h =
      let said = IsDurablySaid-acknowledged p m receipt (All-head (λ x. IsCovered m x) receipt receipts covered) h in
      let rest = acknowledges_all (Made (acknowledged receipt) ∷ p) m receipts (All-tail (λ x. IsCovered m x) receipt receipts covered)
      (LoopStands-calm w stored base p (Made (acknowledged receipt)) m m tt (HasSameLoop-same w m) h) in
      (rest.0, (said, rest.1))

  module _ (p : Past B C I) (m now : Moment w) (h : LoopStands w stored base p m) where
    -- a redelivered block of a durable height is acknowledged
    pub LoopBehind-acknowledges : (t : ℕ) (b : Named B) → IsRedelivered w.header m.execution.state.anchor b
        → w.header.height b.block ≤ m.loop.durability.durable
        → now ≡ record m { marks = m.marks ++ acknowledged (w.header.height b.block, t) ∷ [] } → LoopBehind w stored base p m now
    LoopBehind-acknowledges t b again far e =
        let receipt : ℕ × ℕ = (w.header.height b.block, t) in
        let covered : IsCovered m receipt = record { durable = far; low = again.low } in
        let then : Moment w = record m { marks = m.marks ++ acknowledged receipt ∷ [] } in
        LoopBehind-is w stored base p m now then e (record {
          more = acknowledged receipt ∷ [];
          marks_are = refl;
          loop = LoopStands-calm w stored base p (Made (acknowledged receipt)) m then tt
              (record { members = refl; anchor = refl; durable = refl; barriers = refl; next_barrier = refl }) h;
          said = (IsDurablySaid-acknowledged p m receipt covered h, tt);
        })

    module _ (active : Active) (more : List Active) (is : m.loop.barriers ≡ active ∷ more) (good : is_flushed active ≡ true) (u : IsUp w m)
        (order : IsInOrder m.loop.durability) (r : CompletesBarrier w active m now) where
      abbrev q : Past B C I
      q = Made (BarrierDone active.number active.height true) ∷ p

      abbrev receipts : List (ℕ × ℕ)
      receipts = receipts_up_to active.height.0 m.loop.durability.held

      abbrev then : Moment w
      then = record m {
        loop = record m.loop {
          durability = record (after_completion m.loop.durability
              (Some active.height)) { held = receipts_above active.height.0 m.loop.durability.held };
          barriers = drop 1 m.loop.barriers;
        };
        marks = m.marks ++ BarrierDone active.number active.height true ∷ map acknowledged receipts;
      }

      left : drop 1 m.loop.barriers ≡ more
      left = ap (drop 1) is

      stand : BarriersStand w.kind w.header p m.members h.first h.origin (active ∷ more) m.loop.next_barrier
      stand = subst (λ (xs : List Active). BarriersStand w.kind w.header p m.members h.first h.origin xs m.loop.next_barrier) is h.barriers

      count : length active.barrier ≡ w.kind.count
      count = All-head (λ (a : Active). length a.barrier ≡ w.kind.count) active more
          (subst (λ (xs : List Active). All (λ a. length a.barrier ≡ w.kind.count) xs) is u.counts)

      -- its height is the durable one
      reached : durable q ≡ active.height.0
      reached = omega (arith, h.durable_is, r.later)

      far : (i : ℕ) → i < w.kind.count → h.origin i + (active.height.0 - h.first.height.0) ≤ w.kind.durable m.members i
      far i l =
          (flushed_at w.kind w.header p m.members h.first h.origin active
          (All-head (ActiveStands w.kind w.header p m.members h.first h.origin) active more stand.each) count good i l).1

      LoopStands-done : LoopStands w stored base q then
      LoopStands-done = record {
        first = h.first;
        origin = h.origin;
        keeping = Keeping-left (setting w stored) w.kind base p m.members m.execution.state.anchor h.first h.origin h.keeping
            (Made (BarrierDone active.number active.height true)) m.members (LeavesApplied-done w.header p active.number active.height)
            (λ i states l k. k) (λ i l. refl) (omega (arith, h.keeping.above)) (λ i l. rw reached (far i l));
        durable_is = sym reached;
        barriers = subst (λ (xs : List Active). BarriersStand w.kind w.header q m.members h.first h.origin xs m.loop.next_barrier) (sym left)
            (BarriersStand-done w.kind w.header p m.members h.first h.origin active more m.loop.next_barrier stand);
        awaits = subst (λ (xs : List Active). AwaitsEach w.kind.count q xs) (sym left)
            (AwaitsEach-done w.kind.count p active more active.height true (subst (λ (xs : List Active). AwaitsEach w.kind.count p xs) is h.awaits));
        lives = subst (λ (xs : List Active). AwaitsLive w.kind.count q xs) (sym left)
            (AwaitsLive-done w.kind.count p active more active.height stand.ascending
            (subst (λ (xs : List Active). AwaitsLive w.kind.count p xs) is h.lives));
      }

      covered : All (λ receipt. IsCovered then receipt) receipts
      covered k d l =
          let low = All-filter (λ (x : ℕ × ℕ). nat_le x.0 active.height.0)
          (λ x. x.0 ≤ m.loop.durability.applied) m.loop.durability.held order.applied k d l in
          record {
            durable = leb-true _ _ (filter_passes (λ (x : ℕ × ℕ). nat_le x.0 active.height.0) m.loop.durability.held k d l);
            low = omega (arith, low, u.applied);
          }

      done_behind : LoopBehind w stored base p m now
      done_behind =
          let all = acknowledges_all q then receipts covered LoopStands-done in
          LoopBehind-is w stored base p m now then r.becomes (record {
            more = BarrierDone active.number active.height true ∷ map acknowledged receipts;
            marks_are = refl;
            loop = all.0;
            said = (
              (
                done_over w.kind w.header p m.members h.first h.origin active more m.loop.next_barrier stand,
                done_flushed w.kind w.header p m.members h.first h.origin active more m.loop.next_barrier stand count good,
                done_in_order w.kind w.header p m.members h.first h.origin active more m.loop.next_barrier stand,
                tt,
                tt,
              ),
              all.1,
            );
          })

    -- the oldest barrier, which was flushed, is done
    pub LoopBehind-completes : (active : Active) → IsUp w m → IsInOrder m.loop.durability → flushed m.loop.barriers ≡ Some active
        → CompletesBarrier w active m now → LoopBehind w stored base p m now
    LoopBehind-completes active u order done r =
        let (more, is, good) = flushed_first m.loop.barriers active done in
        done_behind active more is good u order r
