-- What the loop keeps stands behind an answer of a database.
use Rattle.std.proofs.Common.{ap, ◌≡◌, ◌<◌, ◌∷◌, ℕ, length, Option, filter, refl, sym, subst, arith}
use Rattle.std.specs.Prelude.{is_some}
use Rattle.std.proofs.lemmas.List.Elements.{All-filter}
use Rattle.stateful_base.specs.Names.{Named}
use Rattle.stateful_db.specs.Laws.{Laws}
use Rattle.stateful_db.specs.declared.barrier.Flushed.{Flushed as Answer}
use Rattle.stateful_db.specs.declared.barrier.Flushed.TheVariants.{Good, Interrupted}
use Rattle.stateful_history.specs.Past.{Past, Came}
use Rattle.stateful_history.specs.declared.event.Event.TheVariants.{Flushed}
use Rattle.stateful_exec_model.specs.Workings.{Workings}
use Rattle.stateful_exec_laws.specs.Setting.{setting}
use Rattle.stateful_loop_laws.specs.Stands.{LoopStands}
use Rattle.stateful_loop_laws.proofs.barriers.AwaitedItems.{AwaitsEach-flushed}
use Rattle.stateful_loop_laws.proofs.barriers.Flushed.{open_there, BarriersStand-flushed}
use Rattle.stateful_loop_laws.proofs.loop.CalmItems.{LeavesLoop-flushed}
use Rattle.stateful_loop_laws.proofs.loop.CheckpointsKept.{Keeping-left}
use Rattle.stateful_loop_laws.proofs.barriers.LiveItems.{AwaitsLive-flushed}
use Rattle.stateful_loop_laws.proofs.loop.Breaks.{first_all}
use Rattle.stateful_loop_model.specs.Barriers.{awaits}
use Rattle.stateful_loop_model.specs.Intake.{Flushes}
use Rattle.stateful_loop_model.specs.Moments.{Moment}
use Rattle.stateful_loop_model.specs.Sound.{IsUp}
use Rattle.stateful_loop_model.specs.declared.barriers.Active.{Active}

module _ {B C I P R D H G U : Type 0} (w : Workings B C I P R D H G U) (laws : Laws w.kind) (stored : ℕ → Option (Named B)) (base : w.States)
    (p : Past B C I) (k i : ℕ) (m now : Moment w) (u : IsUp w m) (h : LoopStands w stored base p m) where
  -- the database of the answer is one of those that there are
  within : (answer : Answer) (f : Flushes w k i answer m now) → i < w.kind.count
  within answer f =
      let (handle, there, is, l) = open_there f.active.barrier i f.token f.unanswered in
      let count : length f.active.barrier ≡ w.kind.count =
      first_all (λ (a : Active). length a.barrier ≡ w.kind.count) (filter (awaits k i) m.loop.barriers) f.active f.awaits
      (All-filter (awaits k i) (λ (a : Active). length a.barrier ≡ w.kind.count) m.loop.barriers u.counts) in
      omega (arith, l, count)

  -- what the loop keeps stands behind the answer
  pub LoopStands-flushes : (answer : Answer) → Flushes w k i answer m now → LoopStands w stored base (Came (Flushed k i answer) ∷ p) now
  LoopStands-flushes Good f =
      let l : i < w.kind.count = within Good f in
      let leaves = LeavesLoop-flushed w.header p k i Good in
      subst (λ n. LoopStands w stored base (Came (Flushed k i Good) ∷ p) n) (sym f.becomes) (record {
        first = h.first;
        origin = h.origin;
        keeping = Keeping-left (setting w stored) w.kind base p m.members m.execution.state.anchor h.first h.origin h.keeping
            (Came (Flushed k i Good)) (w.kind.flushed m.members i f.token.place) leaves.applied
            (λ j states lt kept. laws.flush.keeps_flushed m.members i f.token.place j (h.origin j) states kept)
            (λ j lt. laws.flush.place_flushed m.members i f.token.place j)
            h.keeping.above
            (λ j lt. let far = h.keeping.durable j lt in
            omega (arith, far, (laws.flush.preserves_flushed m.members i f.token.place).durable j lt));
        durable_is = h.durable_is;
        barriers = BarriersStand-flushed w.kind laws.flush w.header p m.members h.first h.origin k i u.point u.here l f.token
            Good m.loop.barriers m.loop.next_barrier f.active f.awaits f.unanswered h.barriers;
        awaits = AwaitsEach-flushed w.kind.count p m.loop.barriers h.awaits k i Good;
        lives = AwaitsLive-flushed w.kind.count p m.loop.barriers h.lives k i Good h.barriers.ascending (ap is_some f.awaits);
      })
  LoopStands-flushes Interrupted f =
      let l : i < w.kind.count = within Interrupted f in
      let leaves = LeavesLoop-flushed w.header p k i Interrupted in
      subst (λ n. LoopStands w stored base (Came (Flushed k i Interrupted) ∷ p) n) (sym f.becomes) (record {
        first = h.first;
        origin = h.origin;
        keeping = Keeping-left (setting w stored) w.kind base p m.members m.execution.state.anchor h.first h.origin h.keeping
            (Came (Flushed k i Interrupted)) m.members leaves.applied (λ j states lt kept. kept) (λ j lt. refl) h.keeping.above h.keeping.durable;
        durable_is = h.durable_is;
        barriers = BarriersStand-flushed w.kind laws.flush w.header p m.members h.first h.origin k i u.point u.here l f.token
            Interrupted m.loop.barriers m.loop.next_barrier f.active f.awaits f.unanswered h.barriers;
        awaits = AwaitsEach-flushed w.kind.count p m.loop.barriers h.awaits k i Interrupted;
        lives = AwaitsLive-flushed w.kind.count p m.loop.barriers h.lives k i Interrupted h.barriers.ascending (ap is_some f.awaits);
      })
