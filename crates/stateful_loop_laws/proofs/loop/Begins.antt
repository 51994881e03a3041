-- What the loop keeps stands behind the begin of a barrier, which is over the anchor and above every live one.
use Rattle.std.proofs.Common.{◌≡◌, ◌≢◌, ◌≤◌, ◌<◌, ◌∷◌, [], ℕ, List, All, length, Option, Some, None, MatchOption, true, refl, sym, ap, ◌∙◌, subst, arith, get_or, unwrap_or}
use Rattle.std.specs.List.{last_or}
use Rattle.std.specs.List.Sorted.{IsStrictlyIncreasing}
use Rattle.std.proofs.lemmas.List.{length-map, get_or-map}
use Rattle.std.proofs.lemmas.List.Elements.{All-nil, All-cons}
use Rattle.stateful_base.specs.Names.{Named}
use Rattle.stateful_base.specs.declared.anchor.Anchor.{Anchor}
use Rattle.stateful_base.specs.declared.number.Height.{Height}
use Rattle.stateful_db.specs.Laws.{Laws}
use Rattle.stateful_durability.specs.Durability.{IsInOrder, covered_by_barriers}
use Rattle.stateful_history.specs.Anchors.{anchor_of}
use Rattle.stateful_history.specs.Barriers.{live_barrier, begun_over}
use Rattle.stateful_history.specs.Durable.{durable}
use Rattle.stateful_history.specs.Numbers.{NumberIsNew}
use Rattle.stateful_history.specs.Past.{Past, Made}
use Rattle.stateful_history.specs.declared.mark.Mark.TheVariants.{BarrierBegun}
use Rattle.stateful_exec_model.specs.Workings.{Workings}
use Rattle.stateful_exec_laws.specs.Setting.{setting}
use Rattle.stateful_loop_laws.specs.Durability.{LoopBehind}
use Rattle.stateful_loop_laws.specs.Stands.{LoopStands}
use Rattle.stateful_loop_laws.proofs.barriers.AwaitedItems.{AwaitsEach-begun}
use Rattle.stateful_loop_laws.proofs.barriers.Begun.{BarriersStand-begun}
use Rattle.stateful_loop_laws.proofs.loop.CalmItems.{LeavesApplied-begun}
use Rattle.stateful_loop_laws.proofs.loop.CheckpointsKept.{Keeping-left}
use Rattle.stateful_loop_laws.proofs.barriers.LiveItems.{AwaitsLive-begun}
use Rattle.stateful_loop_laws.proofs.loop.Calm.{LoopBehind-is}
use Rattle.stateful_loop_model.specs.Moments.{Moment}
use Rattle.stateful_loop_model.specs.Rules.{BeginsBarrier, Needed}
use Rattle.stateful_loop_model.specs.Sound.{IsUp}
use Rattle.stateful_loop_model.specs.declared.barriers.Active.{Active}

-- what the newest of at most two barriers covers is no lower than the durable height and than what the others cover
covers_all : (durable : ℕ) (barriers : List ℕ) → length barriers ≤ 2 → IsStrictlyIncreasing (durable ∷ barriers)
    → (durable ≤ unwrap_or (last_or None barriers) durable) × All (λ n. n ≤ unwrap_or (last_or None barriers) durable) barriers
covers_all durable [] few up = (omega arith, All-nil (λ n. n ≤ durable))
covers_all durable (a ∷ []) few up =
    let one : durable < a = up 0 (omega arith) in
    (omega arith, All-cons (λ n. n ≤ a) a [] (omega arith) (All-nil (λ n. n ≤ a)))
covers_all durable (a ∷ b ∷ []) few up =
    let one : durable < a = up 0 (omega arith) in
    let two : a < b = up 1 (omega arith) in
    (omega arith, All-cons (λ n. n ≤ b) a (b ∷ []) (omega arith) (All-cons (λ n. n ≤ b) b [] (omega arith) (All-nil (λ n. n ≤ b))))
covers_all durable (a ∷ b ∷ c ∷ more) few up = absurd (omega arith)

abbrev at_height : ℕ → Height
at_height n = record { 0 = n }

module _ {B C I P R D H G U : Type 0} (w : Workings B C I P R D H G U) (laws : Laws w.kind) (stored : ℕ → Option (Named B)) (base : w.States)
    (p : Past B C I) (m now : Moment w) (u : IsUp w m) (order : IsInOrder m.loop.durability) (h : LoopStands w stored base p m)
    (needed : Needed m.loop.durability) where
  covers : (m.loop.durability.durable ≤ covered_by_barriers m.loop.durability) × All
      (λ n. n ≤ covered_by_barriers m.loop.durability) m.loop.durability.barriers
  covers = covers_all m.loop.durability.durable m.loop.durability.barriers order.at_most_two order.barriers_ascend

  -- every live barrier is over a lower height
  live_lower : (k : ℕ) (low : Height) → live_barrier k p ≡ true → begun_over k p ≡ Some low → low.0 < m.loop.durability.applied
  live_lower k low live over =
      let (j, a, l, is, e) = h.barriers.complete k live in
      let stands = h.barriers.each j a l in
      let its : begun_over k p ≡ Some (get_or m.loop.barriers j a).height = ap (λ n. begun_over n p) (sym (ap (λ (x : Active). x.number) is ∙ e))
      ∙ stands.over in
      let same : (get_or m.loop.barriers j a).height ≡ low = cc in
      let at : get_or m.loop.durability.barriers j 0 ≡ (get_or m.loop.barriers j a).height.0 = ap (λ hs. get_or hs j 0) (sym u.heights)
      ∙ get_or-map (λ (x : Active). x.height.0) m.loop.barriers j a 0 l in
      let within : length m.loop.durability.barriers ≡ length m.loop.barriers = ap length (sym u.heights)
      ∙ length-map m.loop.barriers (λ (x : Active). x.height.0) in
      let covered = covers.1 j 0 (omega (arith, within, l)) in
      let uncovered = needed.1 in
      let height : (get_or m.loop.barriers j a).height.0 ≡ low.0 = ap (λ (x : Height). x.0) same in
      omega (arith, at, covered, uncovered, height)

  -- a barrier begins
  pub LoopBehind-begins : anchor_of w.header p ≡ Some m.execution.state.anchor → BeginsBarrier w m now → LoopBehind w stored base p m now
  LoopBehind-begins anchor_is r =
      let height : Height = at_height m.loop.durability.applied in
      let active : Active = record { number = m.loop.next_barrier; height = height; barrier = r.barrier } in
      let over : height ≡ m.execution.state.anchor.height = ap at_height u.applied in
      let above : durable p < m.loop.durability.applied = let low = covers.0 in let high = needed.1 in omega (arith, low, high, h.durable_is) in
      LoopBehind-is w stored base p m now _ r.becomes (record {
        more = BarrierBegun m.loop.next_barrier height ∷ [];
        marks_are = refl;
        loop = record {
          first = h.first;
          origin = h.origin;
          keeping = Keeping-left (setting w stored) w.kind base p m.members m.execution.state.anchor h.first h.origin h.keeping
              (Made (BarrierBegun m.loop.next_barrier height)) (w.kind.finalized m.members)
              (LeavesApplied-begun w.header p m.loop.next_barrier height)
              (λ i states l k. laws.finalize.keeps_finalized m.members i (h.origin i) states k) (λ i l. laws.finalize.place_finalized m.members i)
              h.keeping.above (λ i l. rw (laws.finalize.durable_finalized m.members i) (h.keeping.durable i l));
          durable_is = h.durable_is;
          barriers = BarriersStand-begun w.kind w.header p m.members
              (w.kind.finalized m.members) h.first h.origin m.loop.barriers m.loop.next_barrier active refl h.barriers
              (λ i l. laws.finalize.durable_finalized m.members i)
              (h.keeping.climbs m.loop.durability.applied (omega (arith, h.keeping.above, above)) (omega (arith, u.applied)))
              (λ i l. (record { place = w.kind.place m.members i }, r.handles i l, omega (arith, h.keeping.newest i l, h.keeping.height, u.applied)));
          awaits = AwaitsEach-begun w.kind.count p m.loop.barriers h.awaits active
              (λ i l. (record { place = w.kind.place m.members i }, r.handles i l));
          lives = AwaitsLive-begun w.kind.count p m.loop.barriers h.lives active r.count;
        };
        said = (
          (
            (subst (λ (o : Option Anchor). MatchOption o ⊥ (λ anchor. height ≡ anchor.height)) (sym anchor_is) over, above, live_lower),
            tt,
            tt,
            tt,
            tt,
          ),
          tt,
        );
      })

-- a barrier begins under a number that none had before
pub NumberIsNew-begins : {B C I P R D H G U : Type 0} (w : Workings B C I P R D H G U) (stored : ℕ → Option (Named B)) (base : w.States)
    (p : Past B C I)
    (m : Moment w) (height : Height) → LoopStands w stored base p m → NumberIsNew p (BarrierBegun m.loop.next_barrier height)
NumberIsNew-begins w stored base p m height h = by (begun_over m.loop.next_barrier p) (h.barriers.numbers m.loop.next_barrier)
  where
    by : (o : Option Height) → (o ≢ None → m.loop.next_barrier < m.loop.next_barrier) → o ≡ None
    by None low = refl
    by (Some low) above = absurd (let never = above (λ e. cc) in omega (arith, never))
