-- The ways of requests are kept after a cancel, and after the rules on builds, on the run of a finalized block and on its hook.
use Rattle.std.proofs.Common.{◌≡◌, ◌==◌, not, ℕ, List, [], ◌∷◌, All, Bool, Option, refl, sym, ap, ◌∙◌, subst}
use Rattle.std.proofs.lemmas.List.{append-nil}
use Rattle.std.proofs.lemmas.List.Elements.{All-cons, All-filter, All-nil}
use Rattle.stateful_base.specs.Names.{Named}
use Rattle.stateful_db.specs.declared.application.Hooked.{Hooked}
use Rattle.stateful_db.specs.declared.application.Hooked.TheVariants as hooked
use Rattle.stateful_history.specs.Past.{Past, Came}
use Rattle.stateful_history.specs.declared.event.Event.TheVariants.{Cancel}
use Rattle.stateful_history.specs.declared.mark.How.TheVariants.{Cancelled}
use Rattle.stateful_history.specs.declared.mark.Mark.{Mark}
use Rattle.stateful_history.specs.declared.mark.Mark.TheVariants.{Withdrawn, Ended}
use Rattle.stateful_exec_model.specs.Built.{GivesUp, building, asking}
use Rattle.stateful_exec_tables.specs.Cancelling.{Cancels}
use Rattle.stateful_exec_tables.specs.Cancelling.{idle, withdraws, leaves, ends, unqueued}
use Rattle.stateful_exec_model.specs.Finalizing.{HooksOn}
use Rattle.stateful_exec_walk.specs.Path.{Path}
use Rattle.stateful_exec_tables.specs.Tables.{taken}
use Rattle.stateful_exec_model.specs.Workings.{Workings}
use Rattle.stateful_exec_model.specs.declared.building.Building.{Building}
use Rattle.stateful_exec_model.specs.declared.front.Front.{Front}
use Rattle.stateful_exec_tables.specs.declared.state.Tables.{Tables}
use Rattle.stateful_exec_tables.specs.declared.tables.Phase.TheVariants.{Parked}
use Rattle.stateful_exec_tables.specs.declared.tables.Requested.{Requested}
use Rattle.stateful_exec_laws.specs.Ways.{IsOnOpenWay}
use Rattle.stateful_exec_laws.proofs.earned.Carried.{IsMild}
use Rattle.stateful_loop_model.specs.Intake as intake
use Rattle.stateful_loop_model.specs.Moments.{Moment}
use Rattle.stateful_loop_model.specs.Rules.{Builds, starts, declines, Collects, RunsFinalized, ObservesBlock}
use Rattle.stateful_loop_model.specs.declared.tables.Finalizing.{Finalizing}
use Rattle.stateful_loop_laws.specs.Ways.{WaysKept, WaysBehind}
use Rattle.stateful_loop_laws.proofs.ways.Beside.{WaysKept-as, WaysKept-came, WaysBehind-mild}

one_mild : {B : Type 0} (mark : Mark B) → IsMild mark → All (λ x. IsMild x) (mark ∷ [])
one_mild mark mild = All-cons (λ x. IsMild x) mark [] mild (All-nil (λ x. IsMild x))

none_mild : {B : Type 0} → All (λ (x : Mark B). IsMild x) []
none_mild = All-nil (λ x. IsMild x)

module _ {B C I P R D H G U : Type 0} (w : Workings B C I P R D H G U) (stored : ℕ → Option (Named B)) (p : Past B C I) where
  -- the ways are kept of which that of one request is taken out
  pub WaysKept-taken : (v : Tables B C I R U) (t : ℕ) → WaysKept w stored p v → WaysKept w stored p (taken v t)
  WaysKept-taken v t h = record {
    tip = h.tip;
    tip_is = h.tip_is;
    ways = All-filter (λ (x : ℕ × Requested B C I). not (x.0 == t))
        (λ x. IsOnOpenWay w stored p h.tip v.pause v.anchor v.cache x.1.request x.1.phase) v.requests h.ways;
    unparked =
        λ is. All-filter (λ (x : ℕ × Requested B C I). not (x.0 == t)) (λ x. (path : Path B) → x.1.phase ≡ Parked path → ⊥) v.requests
        (h.unparked is);
    stores = h.stores;
  }

  -- what a cancel leaves, and the marks that it makes
  record IsLeftMildly (new : Tables B C I R U) (marks : List (Mark B)) : Type 0 where
    kept : WaysKept w stored p new
    mild : All (λ x. IsMild x) marks

  module _ (old new : Tables B C I R U) (t : ℕ) (h : WaysKept w stored p old) where
    cancelled : (marks : List (Mark B)) → Cancels old new t marks → IsLeftMildly new marks
    cancelled marks (idle r there is_idle new_is marks_is) = rw (new_is, marks_is) (record { kept = WaysKept-taken old t h; mild = none_mild })
    cancelled marks (withdraws r f fetches new_is marks_is) =
        rw (new_is, marks_is) (record { kept = WaysKept-taken old t h; mild = one_mild (Withdrawn f) tt })
    cancelled marks (leaves r j path there executing others new_is marks_is) =
        rw (new_is, marks_is) (record { kept = WaysKept-taken old t h; mild = none_mild })
    cancelled marks (ends r j path there executing last new_is marks_is) =
        rw (new_is, marks_is) (record {
          kept =
              WaysKept-as w stored p (taken old t) _ refl refl refl refl (WaysKept-taken old t h);
          mild = one_mild (Ended j Cancelled) tt;
        })
    cancelled marks (unqueued none new_is marks_is) =
        rw (new_is, marks_is) (record {
          kept =
              WaysKept-as w stored p (taken old t) _ refl refl refl refl (WaysKept-taken old t h);
          mild = none_mild;
        })

    given_up : {D : Type 0} (before last : Option (Building B C D)) (marks : List (Mark B)) → GivesUp old new before last t marks
        → IsLeftMildly new marks
    given_up before last marks (building {b =
        b} for new_is last_is marks_is) = rw (new_is, marks_is) (record { kept = h; mild = one_mild (Ended b.job Cancelled) tt })
    given_up before last marks (asking off cancels same) = cancelled marks cancels

module _ {B C I P R D H G U : Type 0} (w : Workings B C I P R D H G U) (stored : ℕ → Option (Named B)) (p : Past B C I) (m now : Moment w) where
  -- The ways are kept after a cancel.
  pub WaysBehind-cancels : (t : ℕ) → WaysKept w stored p m.execution.state → intake.Cancels w t m now
      → WaysBehind w stored (Came (Cancel t) ∷ p) m now
  WaysBehind-cancels t kept c =
      let g : IsLeftMildly w stored (Came (Cancel t) ∷ p) c.state c.marks = given_up w stored (Came (Cancel t) ∷ p) m.execution.state c.state t
      (WaysKept-came w stored p (Cancel t) (λ is. is) m.execution.state kept) m.execution.build c.build c.marks c.gives_up in
      subst (λ (n : Moment w). WaysBehind w stored (Came (Cancel t) ∷ p) m n) (sym c.becomes)
      (WaysBehind-mild w stored (Came (Cancel t) ∷ p) m _ c.marks g.mild refl g.kept)

  -- behind a recovered proposal that is collected
  pub WaysBehind-collects : (t : ℕ) → WaysKept w stored p m.execution.state → Collects w t m now → WaysBehind w stored p m now
  WaysBehind-collects t kept c =
      subst (λ (n : Moment w). WaysBehind w stored p m n) (sym c.becomes)
      (WaysBehind-mild w stored p m _ [] none_mild (sym (append-nil m.marks)) (WaysKept-as w stored p m.execution.state _ refl refl refl refl kept))

  -- after a build that is started or declined
  pub WaysBehind-builds : (provider : P) (t : ℕ) → WaysKept w stored p m.execution.state → Builds w provider t m now → WaysBehind w stored p m now
  WaysBehind-builds provider t kept (starts s is) =
      subst (λ (n : Moment w). WaysBehind w stored p m n) (sym is)
      (WaysBehind-mild w stored p m _ _ (one_mild _ tt) refl (rw s.state (WaysKept-as w stored p m.execution.state _ refl refl refl refl kept)))
  WaysBehind-builds provider t kept (declines none is) =
      subst (λ (n : Moment w). WaysBehind w stored p m n) (sym is)
      (WaysBehind-mild w stored p m _ _ (one_mild _ tt) refl (WaysKept-as w stored p m.execution.state _ refl refl refl refl kept))

  -- where a run of the finalized block begins
  pub WaysBehind-runs : (b : Named B) → WaysKept w stored p m.execution.state → RunsFinalized w b m now → WaysBehind w stored p m now
  WaysBehind-runs b kept r =
      subst (λ (n : Moment w). WaysBehind w stored p m n) (sym r.becomes)
      (WaysBehind-mild w stored p m _ _ (one_mild _ tt) refl (rw r.runs.state (WaysKept-as w stored p m.execution.state _ refl refl refl refl kept)))

  observed : (b : Named B) (hook : Hooked H) (new : Tables B C I R U) (marks : List (Mark B)) (front : Option (Front B R U H)) (live : Bool)
      → WaysKept w stored p m.execution.state → HooksOn w b hook m.execution.state new m.marks marks front live
      → (n : Moment w) → n.execution.state ≡ new → n.marks ≡ marks → WaysBehind w stored p m n
  observed b hooked.Done new marks front live kept on n state_is marks_is =
      WaysBehind-mild w stored p m n [] none_mild (marks_is ∙ on.1 ∙ sym (append-nil m.marks)) (rw (state_is, on.0) kept)
  observed b (hooked.Pending hook) new marks front live kept on n state_is marks_is =
      WaysBehind-mild w stored p m n _ (one_mild _ tt) (marks_is ∙ on.2)
      (rw (state_is, on.0) (WaysKept-as w stored p m.execution.state _ refl refl refl refl kept))

  -- and where the application has observed it
  pub WaysBehind-observes : (f : Finalizing B G) (captured : G) → WaysKept w stored p m.execution.state → ObservesBlock w f captured m now
      → WaysBehind w stored p m now
  WaysBehind-observes f captured kept o =
      observed f.block o.observes.hook o.state o.marks o.front o.live kept o.observes.hooks_on now
      (ap (λ (n : Moment w). n.execution.state) o.becomes) (ap (λ (n : Moment w). n.marks) o.becomes)
