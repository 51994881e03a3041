-- The ways of requests are kept after each rule of the loop.
use Rattle.std.proofs.Common.{◌≡◌, ◌==◌, ◌++◌, ℕ, Bool, true, false, if◌then◌else◌, IfSome, Some, List, [], ◌∷◌, All, Option, None, refl, sym, ap, ◌∙◌, subst}
use Rattle.std.proofs.lemmas.List.{append-nil}
use Rattle.std.proofs.lemmas.List.Elements.{All-cons, All-map, All-nil}
use Rattle.stateful_base.specs.Names.{Header, Named}
use Rattle.stateful_db.specs.Laws.{Laws}
use Rattle.stateful_durability.specs.Durability.{receipts_up_to}
use Rattle.stateful_history.specs.Finalizations.{finalized_since}
use Rattle.stateful_history.specs.Past.{Past, Came}
use Rattle.stateful_history.specs.Requests.{IsLiveReceipt}
use Rattle.stateful_history.specs.Honest.{StoresAs, StoresFinalized}
use Rattle.stateful_history.specs.declared.event.Event.TheVariants.{Finalized, Restart}
use Rattle.stateful_history.specs.declared.mark.Mark.{Mark}
use Rattle.stateful_history.specs.declared.mark.Mark.TheVariants.{BarrierBegun, BarrierDone, Databases}
use Rattle.stateful_exec_model.specs.Workings.{Workings}
use Rattle.stateful_exec_laws.proofs.earned.Carried.{IsMild}
use Rattle.stateful_exec_laws.specs.Storing.{IsStoredNow}
use Rattle.stateful_loop_model.specs.Moments.{Moment, Executing, with_loop}
use Rattle.stateful_loop_model.specs.Rules as rules
use Rattle.stateful_loop_model.specs.Rules.{acknowledged, BeginsBarrier, CompletesBarrier, Takes, DoesMessage, Rule}
use Rattle.stateful_loop_model.specs.Sound.{Sound, FrontAgrees}
use Rattle.stateful_loop_model.specs.declared.barriers.Active.{Active}
use Rattle.stateful_loop_model.specs.declared.message.Action.TheVariants as action
use Rattle.stateful_loop_model.specs.declared.message.Message.{Message}
use Rattle.stateful_loop_model.specs.declared.message.Message.TheVariants as message
use Rattle.stateful_loop_model.specs.declared.tables.Finalizing.{Finalizing}
use Rattle.stateful_loop_laws.specs.Execution.{Executes}
use Rattle.stateful_loop_laws.specs.Tickets.{MessageStands, TicketsStand}
use Rattle.stateful_loop_laws.specs.Ways.{WaysKept, WaysBehind}
use Rattle.stateful_loop_laws.proofs.execution.Kept.{Executes-same}
use Rattle.stateful_loop_laws.proofs.tickets.Taken.{IsTaken, message_taken, takes-taken, takes-execution, takes-front}
use Rattle.stateful_loop_laws.proofs.duly.MarksOfRules.{takes-marks}
use Rattle.stateful_loop_laws.proofs.ways.Beside.{WaysBehind-mild}
use Rattle.stateful_loop_laws.proofs.ways.Finalized.{WaysBehind-begins, WaysBehind-applies, WaysBehind-ends}
use Rattle.stateful_loop_laws.proofs.ways.GivenUp.{WaysBehind-collects, WaysBehind-builds, WaysBehind-runs, WaysBehind-observes}
use Rattle.stateful_loop_laws.proofs.ways.Served.{WaysBehind-schedules}

one_mild : {B : Type 0} (mark : Mark B) → IsMild mark → All (λ x. IsMild x) (mark ∷ [])
one_mild mark mild = All-cons (λ x. IsMild x) mark [] mild (All-nil (λ x. IsMild x))

module _ {B C I : Type 0} (header : Header B) (stored : ℕ → Option (Named B)) where
  -- the store has a block that came as finalized, or none, at its height
  pub stores-as : (p : Past B C I) (t : ℕ) (b : Named B) → StoresFinalized header stored p → finalized_since t p ≡ Some b → StoresAs header stored b
  stores-as [] t b stores is = cc
  stores-as (Came (Restart floor keep) ∷ p) t b stores is = cc
  stores-as (Came (Finalized u c) ∷ p) t b stores is = by (t == u) is (λ before. stores-as p t b stores.1 before)
    where
      by : (x : Bool) → (if x then Some c else finalized_since t p) ≡ Some b → (finalized_since t p ≡ Some b → StoresAs header stored b)
          → StoresAs header stored b
      by true same rest = let one : c ≡ b = cc in subst (λ (x : Named B). StoresAs header stored x) one stores.0
      by false before rest = rest before
  stores-as (item ∷ p) t b stores is = stores-as p t b stores is

module _ {B C I P R D H G U : Type 0} (w : Workings B C I P R D H G U) (stored : ℕ → Option (Named B)) (p : Past B C I) where
  -- The ways are kept after marks of the loop, where the tables stay.
  pub WaysBehind-beside : (m now : Moment w) (marks : List (Mark B)) → All (λ x. IsMild x) marks → now.marks ≡ m.marks ++ marks
      → now.execution ≡ m.execution → WaysKept w stored p m.execution.state → WaysBehind w stored p m now
  WaysBehind-beside m now marks mild is same kept = WaysBehind-mild w stored p m now marks mild is (rw same kept)

  begins_barrier : (m now : Moment w) → BeginsBarrier w m now → WaysKept w stored p m.execution.state → WaysBehind w stored p m now
  begins_barrier m now r kept = WaysBehind-beside m now _ (one_mild (BarrierBegun m.loop.next_barrier (record { 0 = m.loop.durability.applied })) tt)
      (ap (λ (n : Moment w). n.marks) r.becomes) (ap (λ (n : Moment w). n.execution) r.becomes) kept

  completes : (active : Active) (m now : Moment w) → CompletesBarrier w active m now → WaysKept w stored p m.execution.state
      → WaysBehind w stored p m now
  completes active m now r kept = WaysBehind-beside m now _
      (All-cons (λ x. IsMild x) (BarrierDone active.number active.height true) _ tt
      (All-map (λ (x : Mark B). IsMild x) acknowledged (receipts_up_to active.height.0 m.loop.durability.held) (λ k d l. tt)))
      (ap (λ (n : Moment w). n.marks) r.becomes) (ap (λ (n : Moment w). n.execution) r.becomes) kept

  -- another moment before, with the same marks
  behind_from : (m mid now : Moment w) → mid.marks ≡ m.marks → WaysBehind w stored p mid now → WaysBehind w stored p m now
  behind_from m mid now same h = record { more = h.more; marks_are = h.marks_are ∙ ap (λ (ms : List (Mark B)). ms ++ h.more) same; kept = h.kept }

module _ {B C I P R D H G U : Type 0} (w : Workings B C I P R D H G U) (laws : Laws w.kind) (stored stored_now : ℕ → Option (Named B))
    (base : w.States)
    (p : Past B C I) where
  -- The ways are kept by what becomes of a message, where no finalization goes on.
  pub WaysBehind-does : (m now : Moment w) (x : Message B C I) → Executes w stored base p m → m.execution.front ≡ None
      → MessageStands w stored p m.execution.state m.execution.build x → WaysKept w stored p m.execution.state
      → DoesMessage w stored_now m now x → WaysBehind w stored p m now
  WaysBehind-does m now x e front stands kept (rules.schedules {request = request} r) =
      WaysBehind-schedules w laws stored base p m now e stored_now request front stands kept r
  WaysBehind-does m now x e front stands kept (rules.answers {t = t} is) =
      WaysBehind-beside w stored p m now _ (one_mild (Databases t) tt) (ap (λ (n : Moment w). n.marks) is)
      (ap (λ (n : Moment w). n.execution) is) kept
  WaysBehind-does m now x e front stands kept (rules.acknowledges {t = t} {b = b} again durable is) =
      WaysBehind-beside w stored p m now _ (one_mild (acknowledged (w.header.height b.block, t)) tt)
      (ap (λ (n : Moment w). n.marks) is) (ap (λ (n : Moment w). n.execution) is) kept
  WaysBehind-does m now x e front stands kept (rules.holds again later is) =
      WaysBehind-beside w stored p m now [] (All-nil (λ x. IsMild x)) (ap (λ (n : Moment w). n.marks) is ∙ sym (append-nil m.marks))
      (ap (λ (n : Moment w). n.execution) is) kept
  WaysBehind-does m now x e front stands kept (rules.begins {t =
      t} {b = b} above r) = WaysBehind-begins w laws stored base p m now e kept t b front above r

  module _ (m now : Moment w) (sound : Sound w m) (e : Executes w stored base p m) (s : TicketsStand w stored p m)
      (kept : WaysKept w stored p m.execution.state) (stored_is : IsStoredNow stored p stored_now) where
    no_front : m.loop.up ≡ true → m.loop.front ≡ None → m.execution.front ≡ None
    no_front up none = subst (λ (o : Option (Finalizing B G)). FrontAgrees w m.loop.durability o m.execution.front) none (sound.up up).front

    -- The ways are kept after a rule of the loop, where the store has the finalized blocks that came, or none, at their heights.
    pub WaysBehind-rule : StoresFinalized w.header stored p → (provider : P) → Rule w stored_now provider m now → WaysBehind w stored p m now
    WaysBehind-rule stores provider (rules.collects {t = t} up c) = WaysBehind-collects w stored p m now t kept c
    WaysBehind-rule stores provider (rules.schedules {request = request} {rest = rest} collected some is verification r) =
        let mid : Moment w = with_loop w m (record m.loop { queue = rest }) in
        let taken : IsTaken w stored p (action.Message (message.Request request)) mid =
        message_taken w stored p (message.Request request) rest m is s in
        behind_from w stored p m mid now refl
        (WaysBehind-schedules w laws stored base p mid now (Executes-same w stored base p m mid refl refl refl e) stored_now request
        (e.alone some) taken.stands kept r)
    WaysBehind-rule stores provider (rules.puts_off collected some is other become) =
        WaysBehind-beside w stored p m now [] (All-nil (λ x. IsMild x)) (ap (λ (n : Moment w). n.marks) become ∙ sym (append-nil m.marks))
        (ap (λ (n : Moment w). n.execution) become) kept
    WaysBehind-rule stores provider (rules.runs {f = f} fronts begun awaits uncached r) = WaysBehind-runs w stored p m now f.block kept r
    WaysBehind-rule stores provider (rules.applies {f = f} fronts captured states r) =
        let front : IsLiveReceipt f.ticket p × (finalized_since f.ticket p ≡ Some f.block) =
        subst (λ (o : Option (Finalizing B G)). IfSome o
        (λ x. IsLiveReceipt x.ticket p × (finalized_since x.ticket p ≡ Some x.block))) fronts.2 s.front in
        WaysBehind-applies w laws stored base p m now e kept f states (stores-as w.header stored p f.ticket f.block stores front.1) r
    WaysBehind-rule stores provider (rules.covers fronts advanced captured needed r) = begins_barrier w stored p m now r kept
    WaysBehind-rule stores provider (rules.observes {f = f} {captured = captured} fronts advanced is covered r) =
        WaysBehind-observes w stored p m now f captured kept r
    WaysBehind-rule stores provider (rules.ends {f = f} fronts advanced captured r) =
        WaysBehind-ends w laws stored base p m now e kept stored_now f fronts advanced stored_is r
    WaysBehind-rule stores provider (rules.breaks {active = active} idle is become) =
        WaysBehind-beside w stored p m now _ (one_mild (BarrierDone active.number active.height false) tt)
        (ap (λ (n : Moment w). n.marks) become) (ap (λ (n : Moment w). n.execution) become) kept
    WaysBehind-rule stores provider (rules.completes {active = active} idle whole is r) = completes w stored p active m now r kept
    WaysBehind-rule stores provider (rules.begins idle whole unflushed needed r) = begins_barrier w stored p m now r kept
    WaysBehind-rule stores provider (rules.builds {t = t} {rest = rest} calm is r) =
        let mid : Moment w = with_loop w m (record m.loop { actions = rest }) in
        behind_from w stored p m mid now refl (WaysBehind-builds w stored p mid now provider t kept r)
    WaysBehind-rule stores provider (rules.takes {x = x} {mid = mid} calm take does) =
        let same : mid.execution ≡ m.execution = takes-execution w stored p x m mid take in
        let loop_front : mid.loop.front ≡ m.loop.front = takes-front w stored p x m mid take in
        let taken : IsTaken w stored p (action.Message x) mid = takes-taken w stored p x m mid take s in
        let there : Executes w stored base p mid = mid_executes x mid take in
        behind_from w stored p m mid now (takes-marks w x m mid take)
        (WaysBehind-does mid now x there (ap (λ (y : Executing B C I R D H U). y.front) same ∙ no_front calm.0.0.0 calm.0.2) taken.stands
        (subst (λ (y : Executing B C I R D H U). WaysKept w stored p y.state) (sym same) kept) does)
      where
        mid_executes : (x : Message B C I) (mid : Moment w) → Takes w x m mid → Executes w stored base p mid
        mid_executes x mid (rules.of_action is become) =
            subst (λ (n : Moment w). Executes w stored base p n) (sym become) (Executes-same w stored base p m _ refl refl refl e)
        mid_executes x mid (rules.of_message none_first is become) =
            subst (λ (n : Moment w). Executes w stored base p n) (sym become) (Executes-same w stored base p m _ refl refl refl e)
