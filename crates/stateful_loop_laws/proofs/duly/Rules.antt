-- Marks of jobs, answers to builds, withdrawn fetches and finalizations keep their rules after each rule of the loop.
use Rattle.std.proofs.Common.{◌≡◌, ◌≢◌, ◌++◌, ◌<◌, inl, inr, ℕ, true, map, List, [], ◌∷◌, All, Any, Option, None, refl, sym, ap, ◌∙◌, subst, arith}
use Rattle.std.specs.List.{Contains, AllByRecursion}
use Rattle.std.specs.List.Sorted.{IsStrictlySortedBy}
use Rattle.std.specs.Ordering.{nat_cmp}
use Rattle.std.specs.declared.cmp.Ordering.TheVariants.{Less}
use Rattle.std.proofs.lemmas.List.Elements.{All-nil, All-cons, All-head, All-tail, All-contains, All-contains_itself, All-weaker}
use Rattle.std.proofs.lemmas.Map.Keys.{sorted_head, sorted_tail}
use Rattle.stateful_base.specs.Names.{Named}
use Rattle.stateful_durability.specs.Durability.{receipts_up_to}
use Rattle.stateful_db.specs.Laws.{Laws}
use Rattle.stateful_db.specs.declared.application.Hooked.{Hooked}
use Rattle.stateful_db.specs.declared.application.Hooked.TheVariants as hooked
use Rattle.stateful_history.specs.Fetches.{IsBegan}
use Rattle.stateful_history.specs.Finalizations.{finalized_since, FinalizesInOrder}
use Rattle.stateful_history.specs.Live.{live_fetch}
use Rattle.stateful_history.specs.Past.{Past, Made, EachMark}
use Rattle.stateful_history.specs.declared.event.Event.{Event}
use Rattle.stateful_history.specs.declared.mark.Mark.{Mark}
use Rattle.stateful_history.specs.declared.mark.Mark.TheVariants as mark
use Rattle.stateful_exec_tables.specs.Fetching.{IsLiveFetch}
use Rattle.stateful_exec_model.specs.Finalizing.{HooksOn}
use Rattle.stateful_exec_tables.specs.Tables.{requested}
use Rattle.stateful_exec_walk.specs.Request.{ticket_by}
use Rattle.stateful_exec_model.specs.Workings.{Workings}
use Rattle.stateful_exec_model.specs.declared.front.Front.{Front}
use Rattle.stateful_exec_tables.specs.declared.state.Tables.{Tables}
use Rattle.stateful_exec_tables.specs.declared.tables.Phase.{Phase}
use Rattle.stateful_exec_tables.specs.declared.tables.Phase.TheVariants.{Fetching}
use Rattle.stateful_exec_tables.specs.declared.tables.Requested.{Requested}
use Rattle.stateful_exec_laws.specs.Requesting.{IsInPhase, IsStanding}
use Rattle.stateful_exec_laws.specs.Setting.{setting}
use Rattle.stateful_exec_laws.proofs.ended.FollowStands.{below_apart}
use Rattle.stateful_exec_laws.proofs.runs.Removing.{differ}
use Rattle.stateful_loop_model.specs.Moments.{Moment, Executing, inner, with_loop}
use Rattle.stateful_loop_model.specs.Rules.{acknowledged, HasStates, BeginsFinalization, Builds, starts, declines, DoesMessage, schedules, answers, acknowledges, holds, begins, Takes, Rule, collects, puts_off, runs, applies, covers, observes, ends, breaks, completes, builds, takes}
use Rattle.stateful_loop_model.specs.declared.message.Message.{Message}
use Rattle.stateful_loop_model.specs.declared.message.Message.TheVariants as message
use Rattle.stateful_loop_laws.specs.Duly.{AreAmong, IsDulySaid, DulyBehind}
use Rattle.stateful_loop_laws.specs.Execution.{Executes}
use Rattle.stateful_loop_laws.specs.Places.{PlacesKept}
use Rattle.stateful_loop_laws.specs.Stands.{IsUpAt}
use Rattle.stateful_loop_laws.specs.Tickets.{MessageStands}
use Rattle.stateful_loop_laws.proofs.execution.AnchorStands.{Executes-takes, idle-front}
use Rattle.stateful_loop_laws.proofs.duly.MarksOfRules.{takes-marks}
use Rattle.stateful_loop_laws.proofs.places.Order.{begins-in_order, applies-in_order}
use Rattle.stateful_loop_laws.proofs.places.Scheduled.{kept-same}
use Rattle.stateful_loop_laws.proofs.tickets.Taken.{takes-taken, takes-execution}
use Rattle.stateful_loop_laws.proofs.duly.Unruled.{IsUnruled, IsUnbuilt, unbuilt-answered, unruled-acquires, unruled-resumes, duly-unruled, duly-none, duly-one, duly-by, duly-before}

receipts_unruled : {B : Type 0} (receipts : List (ℕ × ℕ)) → All (IsUnruled {B = B}) (map acknowledged receipts)
receipts_unruled [] = All-nil IsUnruled
receipts_unruled (r ∷ receipts) = All-cons IsUnruled (acknowledged r) _ tt (receipts_unruled receipts)

withdrawn_unbuilt : {B : Type 0} (fetches : List ℕ) → All (IsUnbuilt {B = B}) (map (λ f. mark.Withdrawn f) fetches)
withdrawn_unbuilt [] = All-nil IsUnbuilt
withdrawn_unbuilt (f ∷ fetches) = All-cons IsUnbuilt (mark.Withdrawn f) _ tt (withdrawn_unbuilt fetches)

module _ {B C I P R D H G U : Type 0} (w : Workings B C I P R D H G U) (stored : ℕ → Option (Named B)) (base : w.States)
    (event : Event B C I) where
  -- fetches that are live are withdrawn duly, where a finalization begins in their entry
  withdrawn_duly : (all : List (Mark B)) → Any IsBegan all → (fs : List ℕ) (q : Past B C I) → IsStrictlySortedBy nat_cmp fs
      → All (λ f. live_fetch f q ≡ true) fs → EachMark (IsDulySaid w stored base event all) q (map (λ f. mark.Withdrawn f) fs)
  withdrawn_duly all began [] q sorted live = tt
  withdrawn_duly all began (f ∷ fs) q sorted live = (
    (tt, tt, tt, tt, λ rule. (All-head (λ x. live_fetch x q ≡ true) f fs live, inr (inr (inl began))), tt),
    withdrawn_duly all began fs (Made (mark.Withdrawn f) ∷ q) (sorted_tail nat_cmp f fs sorted)
        (still fs (sorted_head nat_cmp f fs sorted) (All-tail (λ x. live_fetch x q ≡ true) f fs live)),
  )
    where
      still : (gs : List ℕ) → AllByRecursion (λ g. nat_cmp f g ≡ Less) gs → All (λ g. live_fetch g q ≡ true) gs
          → All (λ g. live_fetch g (Made (mark.Withdrawn f) ∷ q) ≡ true) gs
      still [] below live = All-nil (λ g. live_fetch g (Made (mark.Withdrawn f) ∷ q) ≡ true)
      still (g ∷ gs) below live =
          let own : live_fetch g q ≡ true = All-head (λ x. live_fetch x q ≡ true) g gs live in
          All-cons (λ x. live_fetch x (Made (mark.Withdrawn f) ∷ q) ≡ true) g gs (rw (differ g f (below_apart f g below.0)) own)
          (still gs below.1 (All-tail (λ x. live_fetch x q ≡ true) g gs live))

  module _ (p : Past B C I) where
    abbrev Duly : Moment w → Moment w → Type 0
    Duly = DulyBehind w stored base event p

    live_fetches : (m : Moment w) → Executes w stored base p m → (f : ℕ) → IsLiveFetch m.execution.state f → live_fetch f p ≡ true
    live_fetches m e f any =
        let h : IsStanding w stored p m.execution.state.runs any.1.0 any.1.1 =
        All-contains (λ (x : ℕ × Requested B C I). IsStanding w stored p m.execution.state.runs x.0 x.1) m.execution.state.requests any.1
        e.tables.requests.each (any.0, any.2, any.3) in
        let phase : IsInPhase w stored p m.execution.state.runs any.1.0 any.1.1.request (Fetching f) =
        subst (λ (x : Phase B). IsInPhase w stored p m.execution.state.runs any.1.0 any.1.1.request x) any.4 h.phase in
        phase.0

    -- where a finalization begins
    begun : (m now : Moment w) (t : ℕ) (b : Named B) → Executes w stored base p m → FinalizesInOrder w.header p (mark.Began t b)
        → BeginsFinalization w t b m now → Duly m now
    begun m now t b e in_order r = record {
      more = mark.Began t b ∷ map (λ f. mark.Withdrawn f) r.pauses.fetches;
      marks_are = ap (λ (n : Moment w). n.marks) r.becomes ∙ ap (λ (ms : List (Mark B)). m.marks ++ mark.Began t b ∷ ms) r.pauses.marks_are;
      each = λ all among.
          let first : Contains all (mark.Began t b) = All-head (λ x. Contains all x) (mark.Began t b)
          (map (λ f. mark.Withdrawn f) r.pauses.fetches) among in
          let began : Any IsBegan all = (first.0, mark.Began t b, first.1, first.2, tt) in (
            (in_order, tt, tt, tt, λ rule. tt, tt),
            withdrawn_duly all began r.pauses.fetches (Made (mark.Began t b) ∷ p) r.pauses.are.ascending
                (All-weaker (λ (f : ℕ). Contains r.pauses.fetches f) (λ f. live_fetch f p ≡ true)
                (λ f among. live_fetches m e f ((r.pauses.are.each f).0 among)) r.pauses.fetches (All-contains_itself r.pauses.fetches)),
          );
      answered = unbuilt-answered p (mark.Began t b ∷ map (λ f. mark.Withdrawn f) r.pauses.fetches)
          (All-cons IsUnbuilt (mark.Began t b) _ tt (withdrawn_unbuilt r.pauses.fetches));
    }

    module _ (stored_now : ℕ → Option (Named B)) where
      -- what becomes of a message that is taken
      does : (m now : Moment w) (x : Message B C I) → m.execution.front ≡ None → MessageStands w stored p m.execution.state m.execution.build x
          → Executes w stored base p m → PlacesKept w stored p m → DoesMessage w stored_now m now x → Duly m now
      does m now _ front stands e k (schedules {request = request} r) =
          duly-by w stored base event p m now r.then
          (unruled-acquires w p stored_now (inner w m) r.then (ticket_by request) (requested request) r.acquires)
          (ap (λ (n : Moment w). n.marks) r.becomes)
      does m now _ front stands e k (answers is) = duly-one w stored base event p m now _ (ap (λ (n : Moment w). n.marks) is) tt
      does m now _ front stands e k (acknowledges old durable is) = duly-one w stored base event p m now _ (ap (λ (n : Moment w). n.marks) is) tt
      does m now _ front stands e k (holds old above is) = duly-none w stored base event p m now (ap (λ (n : Moment w). n.marks) is)
      does m now _ front stands e k (begins {t = t} {b = b} above r) =
          begun m now t b e (begins-in_order w stored base p m now e k front t b above stands.1 r) r

      -- what is observed after a finalized block makes no mark, or that of the hook's start
      hooks : (m now : Moment w) (b : Named B) (left : Hooked H) (old new : Tables B C I R U) (marks : List (Mark B))
          (after : Option (Front B R U H)) (live : _) → HooksOn w b left old new m.marks marks after live → now.marks ≡ marks → Duly m now
      hooks m now b hooked.Done old new marks after live h is = duly-none w stored base event p m now (is ∙ h.1)
      hooks m now b (hooked.Pending left) old new marks after live h is = duly-one w stored base event p m now _ (is ∙ h.2) tt

      module _ (m now : Moment w) (h : IsUpAt w stored base p m) (k : PlacesKept w stored p m) where
        -- After a rule all is said duly.
        pub duly-rule : (provider : P) → Rule w stored_now provider m now → Duly m now
        duly-rule provider (collects up r) = duly-none w stored base event p m now (ap (λ (n : Moment w). n.marks) r.becomes)
        duly-rule provider (Rule.schedules {request = request} {rest = rest} collected building is verifies r) =
            duly-by w stored base event p m now r.then
            (unruled-acquires w p stored_now (inner w m) r.then (ticket_by request) (requested request) r.acquires)
            (ap (λ (n : Moment w). n.marks) r.becomes)
        duly-rule provider (puts_off collected building is other becomes) =
            duly-none w stored base event p m now (ap (λ (n : Moment w). n.marks) becomes)
        duly-rule provider (runs fin begun awaits unknown r) = duly-one w stored base event p m now _ (ap (λ (n : Moment w). n.marks) r.becomes) tt
        duly-rule provider (applies {f = f} fin captured states r) = record {
          more = mark.Applied f.block ∷ [];
          marks_are = ap (λ (n : Moment w). n.marks) r.becomes;
          each = λ all among. ((applies-in_order w stored base p m now h.executes f.block states, tt, tt, tt, λ rule. tt, tt), tt);
          answered = tt;
        }
        duly-rule provider (covers fin advanced captured needed r) =
            duly-one w stored base event p m now _ (ap (λ (n : Moment w). n.marks) r.becomes) tt
        duly-rule provider (observes {f = f} fin advanced is covered r) =
            hooks m now f.block r.observes.hook m.execution.state r.state r.marks r.front r.live r.observes.hooks_on
            (ap (λ (n : Moment w). n.marks) r.becomes)
        duly-rule provider (ends fin advanced none_is r) =
            duly-by w stored base event p m now r.then (unruled-resumes w p stored_now (inner w m) r.then r.resumes)
            (ap (λ (n : Moment w). n.marks) r.becomes)
        duly-rule provider (breaks idle is becomes) = duly-one w stored base event p m now _ (ap (λ (n : Moment w). n.marks) becomes) tt
        duly-rule provider (completes {active = active} idle unbroken done r) =
            duly-unruled w stored base event p m now _ (ap (λ (n : Moment w). n.marks) r.becomes)
            (All-cons IsUnruled (mark.BarrierDone active.number active.height true) _ tt
            (receipts_unruled (receipts_up_to active.height.0 m.loop.durability.held)))
        duly-rule provider (Rule.begins idle unbroken undone needed r) =
            duly-one w stored base event p m now _ (ap (λ (n : Moment w). n.marks) r.becomes) tt
        duly-rule provider (builds {t = t} {rest = rest} calm is r) = built r
          where
            built : Builds w provider t (with_loop w m (record m.loop { actions = rest })) now → Duly m now
            built (starts s e) = duly-one w stored base event p m now _ (ap (λ (n : Moment w). n.marks) e) tt
            built (declines none e) = duly-one w stored base event p m now _ (ap (λ (n : Moment w). n.marks) e) tt
        duly-rule provider (takes {x = x} {mid = mid} calm take done) =
            let same = takes-execution w stored p x m mid take in
            duly-before w stored base event p m mid now (takes-marks w x m mid take)
            (does mid now x
            (ap (λ (n : Executing B C I R D H U). n.front) same ∙ idle-front w m (h.sound.up calm.0.0.0) calm.0.2)
            (takes-taken w stored p x m mid take h.tickets).stands (Executes-takes w stored base p x m mid take h.executes)
            (kept-same w stored base p m mid same (taken_front x mid take) k) done)
          where
            taken_front : (x : Message B C I) (mid : Moment w) → Takes w x m mid → mid.loop.front ≡ m.loop.front
            taken_front x mid (Takes.of_action is become) = ap (λ n. n.loop.front) become
            taken_front x mid (Takes.of_message none_first is become) = ap (λ n. n.loop.front) become
