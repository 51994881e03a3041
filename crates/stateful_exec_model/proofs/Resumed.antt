-- What goes on behind a pause, from the parts of a resume.
use Rattle.std.proofs.Common.{◌≡◌, ℕ, Option, List, ◌∙◌, ap, subst}
use Rattle.stateful_base.specs.Names.{Named}
use Rattle.stateful_history.specs.declared.mark.Mark.{Mark}
use Rattle.stateful_exec_model.specs.Workings.{Workings}
use Rattle.stateful_exec_model.specs.Moments.{Moment, moment}
use Rattle.stateful_exec_tables.specs.Phase.{parked_in, not_parked, unacquired_in, not_unacquired}
use Rattle.stateful_exec_model.specs.Ending.{InTurn, StopsAt}
use Rattle.stateful_exec_model.specs.Pausing.{GoesAlong, AcquiresAnew, Resumes, FaultsAnew, FaultsResume, anew, unparked, unsettled}
use Rattle.stateful_exec_tables.specs.declared.error.ExecError.{ExecError}
use Rattle.stateful_exec_pause.specs.declared.pause.Pause.TheVariants.{Free}
use Rattle.stateful_exec_tables.specs.declared.state.Tables.{Tables}
use Rattle.stateful_exec_tables.specs.declared.tables.Released.{Released}
use Rattle.stateful_exec_tables.specs.declared.tables.Requested.{Requested}
use Rattle.stateful_exec_model.proofs.Following.{FaultsAcquire-later}
use Rattle.stateful_exec_tables.specs.Tables.{requested}
use Rattle.stateful_exec_model.specs.Rules.{Acquires}
use Rattle.stateful_exec_model.specs.Causes.{FaultsAcquire}

module _ {B C I P R D H G U : Type 0} (w : Workings B C I P R D H G U) (stored : ℕ → Option (Named B)) (t : ℕ) (r again : Requested B C I) (same : again ≡ requested r.request) where
  -- what the request acquires where nothing was acquired for it
  pub acquires_anew : (m now : Moment w) → Acquires w stored m t again now → AcquiresAnew w stored (t, r) m now
  acquires_anew m now acquires = subst (λ (q : Requested B C I). Acquires w stored m t q now) same acquires

  pub faults_anew : (rose later : Type 0) → (rose → later) → (m : Moment w) (e : ExecError) → FaultsAcquire w rose stored m again e → FaultsAnew w later stored (t, r) m e
  faults_anew rose later weaker m e faults = FaultsAcquire-later w rose later weaker stored m (requested r.request) e (subst (λ (q : Requested B C I). FaultsAcquire w rose stored m q e) same faults)

-- a weaker fault
stops_weaker : {X M E : Type 0} {R : X → M → M → Type 0} {F G : X → M → E → Type 0} (all : List X) (m : M) (e : E) → ((x : X) (n : M) → F x n e → G x n e) → StopsAt R F all m e → StopsAt R G all m e
stops_weaker all m e weaker s = record { served = s.served; next = s.next; rest = s.rest; mid = s.mid; parts = s.parts; turns = s.turns; fault = weaker s.next s.mid s.fault }

module _ {B C I P R D H G U : Type 0} (w : Workings B C I P R D H G U) (stored : ℕ → Option (Named B)) (members : w.kind.Members) (next : w.Ids) (before : List (Mark B))
    (old taken freed : Tables B C I R U) (parked : List (Released B C I))
    (parked_is : parked ≡ parked_in old.requests) (taken_is : taken ≡ record old { requests = not_parked old.requests }) (freed_is : freed ≡ record taken { pause = Free }) where
  start : moment w freed members next before ≡ unparked w (moment w old members next before)
  start = ap (λ (v : Tables B C I R U). moment w v members next before) (freed_is ∙ ap (λ (v : Tables B C I R U). record v { pause = Free }) taken_is)

  from_start : (T : List (Released B C I) → Moment w → Type 0) → T parked (moment w freed members next before) → T (parked_in old.requests) (unparked w (moment w old members next before))
  from_start T t = subst (λ (l : List (Released B C I)). T l (unparked w (moment w old members next before))) parked_is (subst (λ (m : Moment w). T parked m) start t)

  module _ (mid_members : w.kind.Members) (mid_next : w.Ids) (mid_marks : List (Mark B)) (mid left : Tables B C I R U) (unacquired : List (ℕ × Requested B C I))
      (follow : InTurn (GoesAlong w) parked (moment w freed members next before) (moment w mid mid_members mid_next mid_marks))
      (unacquired_is : unacquired ≡ unacquired_in mid.requests) (left_is : left ≡ record mid { requests = not_unacquired mid.requests }) where
    abbrev middle : Moment w
    middle = moment w mid mid_members mid_next mid_marks

    along_is : InTurn (GoesAlong w) (parked_in old.requests) (unparked w (moment w old members next before)) middle
    along_is = from_start (λ l m. InTurn (GoesAlong w) l m middle) follow

    from_middle : (T : List (ℕ × Requested B C I) → Moment w → Type 0) → T unacquired (moment w left mid_members mid_next mid_marks) → T (unacquired_in mid.requests) (unsettled w middle)
    from_middle T t =
        subst (λ (l : List (ℕ × Requested B C I)). T l (unsettled w middle)) unacquired_is
        (subst (λ (v : Tables B C I R U). T unacquired (moment w v mid_members mid_next mid_marks)) left_is t)

    pub resumed : (now : Moment w) → InTurn (AcquiresAnew w stored) unacquired (moment w left mid_members mid_next mid_marks) now → Resumes w stored (moment w old members next before) now
    resumed now anew_is = record { mid = middle; along = along_is; anew = from_middle (λ l m. InTurn (AcquiresAnew w stored) l m now) anew_is }

    pub unresumed : (rose later : Type 0) → (rose → later) → (e : ExecError) → StopsAt (AcquiresAnew w stored) (FaultsAnew w rose stored) unacquired (moment w left mid_members mid_next mid_marks) e → FaultsResume w later stored (moment w old members next before) e
    unresumed rose later weaker e stops =
        let faults = stops_weaker unacquired (moment w left mid_members mid_next mid_marks) e (λ x n f. FaultsAcquire-later w rose later weaker stored n (requested x.1.request) e f) stops in
        anew middle along_is (from_middle (λ l m. StopsAt (AcquiresAnew w stored) (FaultsAnew w later stored) l m e) faults)
