-- Execution stands after the rules of barriers and of messages that it has no part in, and behind what is taken in beside it.
use Rattle.std.proofs.Common.{◌≡◌, ◌≢◌, ◌<◌, ℕ, true, [], ◌∷◌, All, AllPairs, Option, None, refl, sym, ◌∙◌, subst}
use Rattle.std.proofs.lemmas.List.{append-nil}
use Rattle.std.proofs.lemmas.List.Elements.{All-filter}
use Rattle.std.proofs.lemmas.List.Kept.{AllPairs-filter}
use Rattle.stateful_base.specs.Names.{Named}
use Rattle.stateful_db.specs.Laws.{Laws}
use Rattle.stateful_db.specs.declared.barrier.Flushed.{Flushed}
use Rattle.stateful_db.specs.declared.barrier.Flushed.TheVariants.{Good, Interrupted}
use Rattle.stateful_db.specs.declared.database.FlushToken.{FlushToken}
use Rattle.stateful_history.specs.Live.{names_live}
use Rattle.stateful_history.specs.Met.{TrueNames}
use Rattle.stateful_history.specs.Past.{Past, Came}
use Rattle.stateful_history.specs.Requests.{IsLiveReceipt}
use Rattle.stateful_history.specs.declared.event.Event.{Event}
use Rattle.stateful_exec_model.specs.Workings.{Workings}
use Rattle.stateful_exec_laws.specs.Setting.{setting}
use Rattle.stateful_exec_laws.specs.Storing.{IsStoredNow}
use Rattle.stateful_loop_model.specs.Intake.{flushed_by, Counts, TakesIn, enters, cancels, fetched, turns, flushes, stops, progresses, restarts}
use Rattle.stateful_loop_model.specs.Moments.{Moment, with_loop}
use Rattle.stateful_loop_model.specs.Rules.{BeginsBarrier, CompletesBarrier, BeginsFinalization, DoesMessage, schedules, answers, acknowledges, holds, begins}
use Rattle.stateful_loop_model.specs.declared.barriers.Active.{Active}
use Rattle.stateful_loop_model.specs.declared.message.Message.{Message}
use Rattle.stateful_loop_model.specs.declared.tables.Processing.{Processing}
use Rattle.stateful_loop_laws.specs.Execution.{Executes, ExecutesBehind}
use Rattle.stateful_loop_laws.specs.Tickets.{MessageStands}
use Rattle.stateful_loop_laws.proofs.execution.Came.{IsBesides, Executes-came}
use Rattle.stateful_loop_laws.proofs.execution.Schedules.{Executes-schedules}
use Rattle.stateful_loop_laws.proofs.execution.Told.{acknowledged-EachAside, Executes-told_each}

module _ {B C I P R D H G U : Type 0} (w : Workings B C I P R D H G U) (laws : Laws w.kind) (stored : ℕ → Option (Named B)) (base : w.States)
    (p : Past B C I) where
  -- where no mark is made, and the tables, the ids and the place of the databases are as they were
  pub Executes-beside : (m now : Moment w) → now.execution ≡ m.execution → w.kind.point now.members ≡ w.kind.point m.members → now.next ≡ m.next
      → now.marks ≡ m.marks → Executes w stored base p m → ExecutesBehind w stored base p m now
  Executes-beside m now execution place next marks h =
      Executes-told_each w stored base p m now [] (marks ∙ sym (append-nil m.marks)) execution place next tt h

  -- where the loop alone changes
  pub Executes-looped : (m now : Moment w) (loop : Processing B C I G) → now ≡ with_loop w m loop → Executes w stored base p m
      → ExecutesBehind w stored base p m now
  Executes-looped m now loop is h =
      subst (λ (n : Moment w). ExecutesBehind w stored base p m n) (sym is) (Executes-beside m (with_loop w m loop) refl refl refl refl h)

  -- a barrier begins
  pub Executes-begins_barrier : (m now : Moment w) → Executes w stored base p m → BeginsBarrier w m now → ExecutesBehind w stored base p m now
  Executes-begins_barrier m now h rule = subst (λ (n : Moment w). ExecutesBehind w stored base p m n) (sym rule.becomes)
      (Executes-told_each w stored base p m _ _ refl refl (laws.finalize.point_finalized m.members) refl (tt, tt) h)

  -- a barrier is done, and the receipts of durable heights are acknowledged, which are live, each of a ticket of its own
  pub Executes-completes : (active : Active) (m now : Moment w) → All (λ receipt. IsLiveReceipt receipt.1 p) m.loop.durability.held
      → AllPairs (λ r s. r.1 ≢ s.1) m.loop.durability.held → Executes w stored base p m → CompletesBarrier w active m now
      → ExecutesBehind w stored base p m now
  Executes-completes active m now live apart h rule = subst (λ (n : Moment w). ExecutesBehind w stored base p m n) (sym rule.becomes)
      (Executes-told_each w stored base p m _ _ refl refl refl refl (
        tt,
        acknowledged-EachAside w stored m.execution.state m.execution.build _ _
            (All-filter _ (λ (receipt : ℕ × ℕ). IsLiveReceipt receipt.1 p) m.loop.durability.held live)
            (AllPairs-filter (λ (r s : ℕ × ℕ). r.1 ≢ s.1) _ m.loop.durability.held apart),
      ) h)

  -- a message that execution has no part in, or a request, where no finalization goes on and none begins
  pub Executes-message : (stored_now : ℕ → Option (Named B)) → IsStoredNow stored p stored_now → (m now : Moment w) (x : Message B C I)
      → m.execution.front ≡ None → MessageStands w stored p m.execution.state m.execution.build x
      → ((t : ℕ) (b : Named B) → m.execution.state.anchor.height.0 < w.header.height b.block → BeginsFinalization w t b m now
      → ExecutesBehind w stored base p m now) → Executes w stored base p m → DoesMessage w stored_now m now x
      → ExecutesBehind w stored base p m now
  Executes-message stored_now stored_is m now _ front stands by_begin h (schedules {request = request} rule) =
      Executes-schedules w laws stored base p stored_now stored_is request m now front stands h rule
  Executes-message stored_now stored_is m now _ front stands by_begin h (answers is) =
      subst (λ (n : Moment w). ExecutesBehind w stored base p m n) (sym is)
      (Executes-told_each w stored base p m _ _ refl refl refl refl (stands.1, tt) h)
  Executes-message stored_now stored_is m now _ front stands by_begin h (acknowledges redelivered durable is) =
      subst (λ (n : Moment w). ExecutesBehind w stored base p m n) (sym is)
      (Executes-told_each w stored base p m _ _ refl refl refl refl (stands.0, tt) h)
  Executes-message stored_now stored_is m now _ front stands by_begin h (holds redelivered later is) = Executes-looped m now _ is h
  Executes-message stored_now stored_is m now _ front stands by_begin h (begins {t = t} {b = b} above rule) = by_begin t b above rule

module _ {B C I P R D H G U : Type 0} (w : Workings B C I P R D H G U) (laws : Laws w.kind) (stored : ℕ → Option (Named B)) (base : w.States) where
  point_flushed : (answer : Flushed) (m : w.kind.Members) (i : ℕ) (token : FlushToken) → w.kind.point (flushed_by w answer m i token) ≡ w.kind.point m
  point_flushed Good m i token = laws.flush.point_flushed m i token.place
  point_flushed Interrupted m i token = refl

  taken_in : (p : Past B C I) (stored_now : ℕ → Option (Named B)) (counts : Counts R D H) (m now : Moment w) (e : Event B C I) → IsBesides e
      → Executes w stored base (Came e ∷ p) m → TakesIn w stored_now counts m now e → ExecutesBehind w stored base (Came e ∷ p) m now
  taken_in p stored_now counts m now e besides h (enters is becomes) = Executes-looped w laws stored base (Came e ∷ p) m now _ becomes h
  taken_in p stored_now counts m now _ besides h (cancels rule) = absurd besides
  taken_in p stored_now counts m now _ besides h (fetched rule is) = absurd besides
  taken_in p stored_now counts m now _ besides h (turns rule) = absurd besides
  taken_in p stored_now counts m now e besides h (flushes {i = i} {answer = answer} rule) =
      subst (λ (n : Moment w). ExecutesBehind w stored base (Came e ∷ p) m n) (sym rule.becomes)
      (Executes-beside w laws stored base (Came e ∷ p) m _ refl (point_flushed answer m.members i rule.token) refl refl h)
  taken_in p stored_now counts m now e besides h (stops is) = Executes-looped w laws stored base (Came e ∷ p) m now _ is h
  taken_in p stored_now counts m now e besides h (progresses is) =
      subst (λ (n : Moment w). ExecutesBehind w stored base (Came e ∷ p) m n) (sym is)
      (Executes-beside w laws stored base (Came e ∷ p) m m refl refl refl refl h)
  taken_in p stored_now counts m now _ besides h (restarts is) = absurd besides

  -- an event that execution has no part in is taken in
  pub Executes-takes_in : (p : Past B C I) (count : ℕ) (stored_now : ℕ → Option (Named B)) (counts : Counts R D H) (m now : Moment w)
      (e : Event B C I) → IsBesides e → names_live count p e ≡ true → TrueNames (setting w stored) (Came e ∷ p)
      → Executes w stored base p m → TakesIn w stored_now counts m now e → ExecutesBehind w stored base (Came e ∷ p) m now
  Executes-takes_in p count stored_now counts m now e besides live names h takes =
      taken_in p stored_now counts m now e besides (Executes-came w stored base p m e count besides live names h) takes
