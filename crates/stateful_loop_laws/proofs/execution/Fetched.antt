-- Execution stands behind the answer of a fetch.
use Rattle.std.proofs.Common.{◌≡◌, ◌≢◌, ◌==◌, not, inl, ℕ, [], ◌∷◌, All, Option, None, Some, IfSome, refl, sym, ap, ◌∙◌, subst}
use Rattle.std.proofs.lemmas.List.{append-nil}
use Rattle.std.proofs.lemmas.List.Elements.{All-nil, All-push}
use Rattle.stateful_base.specs.Names.{Named}
use Rattle.stateful_db.specs.Laws.{Laws}
use Rattle.stateful_history.specs.Met.{Met, TrueNames}
use Rattle.stateful_history.specs.Past.{Past, Came}
use Rattle.stateful_history.specs.declared.event.Event.TheVariants.{Fetched}
use Rattle.stateful_table.specs.Table.{at}
use Rattle.stateful_exec_tables.specs.Fetching.{Fetches, with_block}
use Rattle.stateful_exec_model.specs.Fetching.{serving, IsFetched, found, waits, declines, dead}
use Rattle.stateful_exec_model.specs.Moments as exec
use Rattle.stateful_exec_tables.specs.Tables.{taken}
use Rattle.stateful_exec_model.specs.Workings.{Workings}
use Rattle.stateful_exec_model.specs.declared.building.Building.{Building}
use Rattle.stateful_exec_model.specs.declared.front.Front.{Front}
use Rattle.stateful_exec_tables.specs.declared.tables.Requested.{Requested}
use Rattle.stateful_exec_laws.specs.Setting.{setting}
use Rattle.stateful_exec_laws.specs.Building.{IsElsewhere, BuildStands}
use Rattle.stateful_exec_laws.specs.Fronting.{FrontStands}
use Rattle.stateful_exec_laws.specs.Standing.{TablesStand, IsInHand}
use Rattle.stateful_exec_laws.proofs.requests.Asking.{LeavesTicket}
use Rattle.stateful_exec_laws.proofs.builds.Left.{BuildStands-tables}
use Rattle.stateful_exec_laws.proofs.earned.Carried.{IsMild}
use Rattle.stateful_exec_laws.specs.Storing.{IsStoredNow}
use Rattle.stateful_exec_laws.proofs.pauses.EventsPass.{BuildStands-event, FrontStands-event}
use Rattle.stateful_exec_laws.proofs.requests.FetchStands.{fetched-IsCalm, fetched-LeavesJob, TablesStand-fetched, IsInHand-fetched, acquired-fetched, abstains-none, TablesStand-dead}
use Rattle.stateful_exec_laws.proofs.pauses.PassingRules.{none_kept}
use Rattle.stateful_loop_model.specs.Moments.{Moment, inner, with_inner}
use Rattle.stateful_loop_laws.specs.Execution.{IsFree, IsPlaced, Executes, ExecutesBehind}
use Rattle.stateful_loop_laws.proofs.execution.Kept.{Executes-calm}
use Rattle.stateful_loop_laws.proofs.execution.Served.{IsServed, IsServed-acquires, IsServed-concludes, IsServed-waits, Executes-served}
use Rattle.stateful_loop_laws.proofs.places.Places.{IsFree-mild, IsPlaced-calm, fetches-free}

module _ {B C I P R D H G U : Type 0} (w : Workings B C I P R D H G U) (laws : Laws w.kind) (stored : ℕ → Option (Named B)) (base : w.States) where
  module _ (p : Past B C I) (f : ℕ) (answer : Option (Named B)) (names : TrueNames (setting w stored) (Came (Fetched f answer) ∷ p)) (m : Moment w)
      (h : Executes w stored base p m) where
    abbrev given : Past B C I
    given = Came (Fetched f answer) ∷ p

    tickets : (o : Option (Building B C D)) → IfSome o (λ b. LeavesTicket p (Came (Fetched f answer)) b.ticket)
    tickets None = tt
    tickets (Some b) = record { live = refl; verified = refl; proposed = refl }

    builds_given : BuildStands w stored given h.points m.next m.execution.state m.execution.build
    builds_given =
        BuildStands-event w stored p (Came (Fetched f answer)) (fetched-LeavesJob p f answer) h.points m.next m.execution.state m.execution.build
        (fetched-IsCalm (setting w stored) p f answer) (tickets m.execution.build) h.builds

    module _ (t : ℕ) (r : Requested B C I) (fetches : Fetches m.execution.state f t r) where
      front : m.execution.front ≡ None
      front = fetches-free w stored base p h.points h.point m.next m.execution.state m.execution.front h.placed f t r fetches

      fronts : FrontStands w stored given h.point m.next m.execution.state.anchor None
      fronts = subst (λ (x : Option (Front B R U H)). FrontStands w stored given h.point m.next m.execution.state.anchor x) front
          (FrontStands-event w stored p (Came (Fetched f answer))
          (fetched-LeavesJob p f answer) h.point m.next m.execution.state.anchor m.execution.front refl h.fronts)

      -- nothing is built for a request that fetches
      unbuilt : (o : Option (Building B C D)) → BuildStands w stored p h.points m.next m.execution.state o → IfSome o (λ b. b.ticket ≢ t)
      unbuilt None g = tt
      unbuilt (Some b) g =
          λ is. let no : Some r ≡ None = sym fetches.there ∙ ap (λ u. at m.execution.state.requests u) (sym is) ∙ g.elsewhere.absent in cc

      elsewhere_left : (o : Option (Building B C D)) → IfSome o (λ b. IsElsewhere m.execution.state b.ticket)
          → IfSome o (λ b. IsElsewhere (taken m.execution.state t) b.ticket)
      elsewhere_left None e = tt
      elsewhere_left (Some b) e =
          record { absent = none_kept (λ x. not (x.0 == t)) m.execution.state.requests b.ticket e.absent; not_queued = e.not_queued }

      tables : TablesStand w stored given h.points h.point m.next (taken m.execution.state t)
      tables = TablesStand-fetched w stored p h.points h.point m.next m.execution.state h.tables f answer t r fetches

      builds : BuildStands w stored given h.points m.next (taken m.execution.state t) m.execution.build
      builds = BuildStands-tables w stored given h.points m.next m.execution.state m.next (λ c d. d) (taken m.execution.state t) refl
          (λ d at_hand. at_hand) m.execution.build
          (elsewhere_left m.execution.build h.builds.elsewhere) builds_given

      free : IsFree w stored base given h.points h.point m.next (taken m.execution.state t)
      free = IsFree-mild w stored base given h.points h.point m.next m.execution.state [] (All-nil (λ x. IsMild x)) names m.next
          (taken m.execution.state t) (record { anchor = refl; cache = refl; pause = refl }) tables
          (subst (λ (x : Option (Front B R U H)). IsPlaced w stored base given h.points h.point m.next m.execution.state x) front
          (IsPlaced-calm w stored base p (Came (Fetched f answer)) (fetched-IsCalm
          (setting w stored) p f answer) refl refl names h.points h.point m.next m.execution.state m.execution.front h.placed))

      hand : IsInHand w stored given t r.request (taken m.execution.state t)
      hand = IsInHand-fetched w stored p h.points h.point m.next m.execution.state h.tables f answer t r fetches

      acquired : All (Met (setting w stored) given) r.acquired
      acquired = acquired-fetched w stored p h.points h.point m.next m.execution.state h.tables f answer t r fetches

      -- how the request is served, once it was taken out
      of_serving : (then : exec.Moment w) → IsServed w stored base given h.points h.point m.execution.build (serving w (inner w m) t) then
          → ExecutesBehind w stored base given m (with_inner w m then)
      of_serving then v = Executes-served w stored base given h.points h.point m front h.located then (record {
        more = v.more;
        marks_are = v.marks_are;
        members_are = v.members_are;
        drawn = v.drawn;
        tables = v.tables;
        builds = v.builds;
        fronts = v.fronts;
        free = v.free;
        earned = v.earned;
      })

    by : (stored_now : ℕ → Option (Named B)) → IsStoredNow stored p stored_now → (then : exec.Moment w)
        → IsFetched w stored_now (inner w m) f answer then → ExecutesBehind w stored base given m (with_inner w m then)
    by stored_now stored_is then (found t r b fetches is acquires) = of_serving t r fetches then
        (IsServed-acquires w laws stored base given h.points h.point m.execution.build (serving w (inner w m) t) (tables t r fetches)
        (builds t r fetches) (fronts t r fetches) (free t r fetches) h.located h.drawn
        t (unbuilt t r fetches m.execution.build h.builds) (with_block r b) (hand t r fetches)
        (All-push (Met (setting w stored) given) r.acquired b (acquired t r fetches) (inl is)) then stored_now stored_is acquires)
    by stored_now stored_is then (waits t r fetches is verification becomes) = of_serving t r fetches then
        (IsServed-waits w laws stored base given h.points h.point m.execution.build (serving w (inner w m) t) (tables t r fetches)
        (builds t r fetches) (fronts t r fetches) (free t r fetches) h.located h.drawn
        t (unbuilt t r fetches m.execution.build h.builds) r (hand t r fetches) (acquired t r fetches) then verification
        (abstains-none w stored p h.points h.point m.next m.execution.state h.tables f answer t r fetches is) becomes)
    by stored_now stored_is then (declines t r fetches is proposal concludes) = of_serving t r fetches then
        (IsServed-concludes w laws stored base given h.points h.point m.execution.build (serving w (inner w m) t) (tables t r fetches)
        (builds t r fetches) (fronts t r fetches) (free t r fetches) h.located h.drawn
        t (unbuilt t r fetches m.execution.build h.builds) r (hand t r fetches) (acquired t r fetches) then concludes)
    by stored_now stored_is then (dead none is) =
        subst (λ (n : exec.Moment w). ExecutesBehind w stored base given m (with_inner w m n)) (sym is) (record {
          more = [];
          marks_are = sym (append-nil m.marks);
          executes =
              Executes-calm w stored base p (Came (Fetched f answer)) refl refl refl names m h (fetched-IsCalm (setting w stored) p f answer)
              (fetched-LeavesJob p f answer)
              (TablesStand-dead w stored p h.points h.point m.next m.execution.state h.tables f answer none) builds_given;
          earned = tt;
        })

  -- execution stands behind the answer of a fetch, whether its request still fetches or not
  pub Executes-fetched : (p : Past B C I) (f : ℕ) (answer : Option (Named B)) → TrueNames (setting w stored) (Came (Fetched f answer) ∷ p)
      → (stored_now : ℕ → Option (Named B)) → IsStoredNow stored p stored_now → (m now : Moment w) (then : exec.Moment w)
      → Executes w stored base p m → IsFetched w stored_now (inner w m) f answer then → now ≡ with_inner w m then
      → ExecutesBehind w stored base (Came (Fetched f answer) ∷ p) m now
  Executes-fetched p f answer names stored_now stored_is m now then h fetched is =
      subst (λ (n : Moment w). ExecutesBehind w stored base (Came (Fetched f answer) ∷ p) m n) (sym is)
      (by p f answer names m h stored_now stored_is then fetched)
