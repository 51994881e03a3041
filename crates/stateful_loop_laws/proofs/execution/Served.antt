-- Execution stands behind a request that is served while nothing pauses, and its true verdict is earned.
use Rattle.std.proofs.Common.{◌≡◌, ◌≢◌, ◌++◌, ℕ, List, [], ◌∷◌, All, Option, None, Some, IfSome, refl, sym, ◌∙◌, subst}
use Rattle.std.proofs.lemmas.List.{append_cancel_left}
use Rattle.std.proofs.lemmas.List.Elements.{All-nil}
use Rattle.stateful_base.specs.Names.{Named}
use Rattle.stateful_base.specs.declared.digest.Digest.{Digest}
use Rattle.stateful_db.specs.Laws.{Laws}
use Rattle.stateful_history.specs.Joined.{TrueIsEarned}
use Rattle.stateful_history.specs.Fetches.{Abstains}
use Rattle.stateful_history.specs.Met.{Met}
use Rattle.stateful_history.specs.Past.{Past, EachMark, after}
use Rattle.stateful_history.specs.declared.mark.Mark.{Mark}
use Rattle.stateful_exec_tables.specs.Fetching.{IsVerification}
use Rattle.stateful_exec_model.specs.Moments as exec
use Rattle.stateful_exec_model.specs.Moments.{Becomes}
use Rattle.stateful_exec_tables.specs.Tables.{moved}
use Rattle.stateful_exec_model.specs.Rules.{Concludes, Acquires}
use Rattle.stateful_exec_model.specs.Workings.{Workings, Point}
use Rattle.stateful_exec_model.specs.declared.building.Building.{Building}
use Rattle.stateful_exec_model.specs.declared.front.Front.{Front}
use Rattle.stateful_exec_walk.specs.declared.request.Verdict.TheVariants.{Invalid}
use Rattle.stateful_exec_tables.specs.declared.tables.Phase.TheVariants.{Waiting}
use Rattle.stateful_exec_tables.specs.declared.tables.Requested.{Requested}
use Rattle.stateful_exec_laws.specs.Setting.{setting}
use Rattle.stateful_exec_laws.specs.Building.{BuildStands}
use Rattle.stateful_exec_laws.specs.Fronting.{FrontStands}
use Rattle.stateful_exec_laws.specs.Requesting.{first_of}
use Rattle.stateful_exec_laws.specs.Standing.{TablesStand, IsInHand}
use Rattle.stateful_exec_laws.proofs.requests.Acquired.{Serves-acquires}
use Rattle.stateful_exec_laws.proofs.builds.Passes.{IsItsJob, IsItsTicket, BuildStands-passes, build_drawn}
use Rattle.stateful_exec_laws.proofs.earned.Acquired.{acquires-Earned}
use Rattle.stateful_exec_laws.proofs.earned.Carried.{IsMild}
use Rattle.stateful_exec_laws.specs.Storing.{IsStoredNow}
use Rattle.stateful_exec_laws.proofs.earned.Judged.{Known-free}
use Rattle.stateful_exec_laws.proofs.earned.Left.{LeavesBehind, LeavesBehind-concludes, LeavesBehind-acquires}
use Rattle.stateful_exec_laws.proofs.earned.Marks.{EarnsBehind, concludes-invalid}
use Rattle.stateful_exec_laws.proofs.earned.Together.{AreEarned-behind}
use Rattle.stateful_exec_laws.proofs.front.Passes.{IsFrontJob, NoTicket, FrontStands-passes}
use Rattle.stateful_exec_laws.proofs.pauses.Passing.{PassesBy, AreDrawn, PassesBy-concludes, PassesBy-put, PassesBy-acquires}
use Rattle.stateful_exec_laws.proofs.requests.Served.{Serves, Serves-concludes, Serves-put}
use Rattle.stateful_loop_model.specs.Moments.{Moment, inner, with_inner}
use Rattle.stateful_loop_laws.specs.Execution.{IsFree, ExecutesBehind, IsPlaced}
use Rattle.stateful_loop_laws.proofs.places.Places.{IsFree-mild}
use Rattle.stateful_loop_laws.proofs.tickets.WaitsAbstain.{waits-Abstains}

module _ {B C I P R D H G U : Type 0} (w : Workings B C I P R D H G U) (stored : ℕ → Option (Named B)) (base : w.States) (p : Past B C I)
    (points : Digest → Point w) (point : Point w) where
  -- What stands behind a request that is served: some marks are made, and the tables, the live build and the ground stand for the
  -- past with them; no finalization goes on, no database moves, and true verdicts are earned.
  pub record IsServed (build : Option (Building B C D)) (m now : exec.Moment w) : Type 0 where
    pub more : List (Mark B)
    pub marks_are : now.marks ≡ m.marks ++ more
    pub members_are : now.members ≡ m.members
    pub drawn : w.kind.issued now.next (point ∷ [])
    pub tables : TablesStand w stored (after p more) points point now.next now.state
    pub builds : BuildStands w stored (after p more) points now.next now.state build
    pub fronts : FrontStands w stored (after p more) point now.next now.state.anchor None
    pub free : IsFree w stored base (after p more) points point now.next now.state
    pub earned : EachMark (TrueIsEarned (setting w stored) base) p more

  -- execution stands where a request was served so
  pub Executes-served : (m : Moment w) → m.execution.front ≡ None → w.kind.point m.members ≡ Some point → (then : exec.Moment w)
      → IsServed m.execution.build (inner w m) then → ExecutesBehind w stored base p m (with_inner w m then)
  Executes-served m front located then v = record {
    more = v.more;
    marks_are = v.marks_are;
    executes = record {
      points = points;
      point = point;
      located = rw v.members_are located;
      drawn = v.drawn;
      tables = v.tables;
      builds = v.builds;
      fronts = subst (λ (f : Option (Front B R U H)). FrontStands w stored (after p v.more) point then.next then.state.anchor f) (sym front) v.fronts;
      placed = subst (λ (f : Option (Front B R U H)). IsPlaced w stored base (after p v.more) points point then.next then.state f) (sym front) v.free;
      alone = λ some. front;
    };
    earned = v.earned;
  }

module _ {B C I P R D H G U : Type 0} (w : Workings B C I P R D H G U) (laws : Laws w.kind) (stored : ℕ → Option (Named B)) (base : w.States)
    (p : Past B C I) (points : Digest → Point w) (point : Point w) where
  module _ (build : Option (Building B C D)) (m : exec.Moment w) (s : TablesStand w stored p points point m.next m.state)
      (builds : BuildStands w stored p points m.next m.state build)
      (fronts : FrontStands w stored p point m.next m.state.anchor None) (free : IsFree w stored base p points point m.next m.state)
      (located : w.kind.point m.members ≡ Some point) (drawn : w.kind.issued m.next (point ∷ []))
      (t : ℕ) (unbuilt : IfSome build (λ b. b.ticket ≢ t)) (r : Requested B C I) (hand : IsInHand w stored p t r.request m.state)
      (met : All (Met (setting w stored) p) r.acquired) (now : exec.Moment w) where
    abbrev NoFront : ℕ → Type 0
    NoFront = IsFrontJob {B = B} {R = R} {U = U} {H = H} None

    off : (o : Option (Building B C D)) → IfSome o (λ b. b.ticket ≢ t) → IsItsTicket o t → ⊥
    off None other own = own
    off (Some b) other own = other (sym own)

    none_drawn : AreDrawn w NoFront NoTicket m
    none_drawn k own = absurd own

    served_by : Serves w stored p points point m t now → LeavesBehind w m now → PassesBy w (IsItsJob build) (IsItsTicket build) m now
        → PassesBy w NoFront NoTicket m now → EarnsBehind w stored base p m now → IsServed w stored base p points point build m now
    served_by v l f g e = record {
      more = v.behind.more;
      marks_are = v.behind.marks_are;
      members_are = v.behind.members_are;
      drawn = v.drawn drawn;
      tables = v.behind.stands;
      builds = BuildStands-passes w stored points build p m now v.behind.more v.behind.marks_are f builds;
      fronts = FrontStands-passes w stored point None p m now v.behind.more v.behind.marks_are g fronts;
      free = IsFree-mild w stored base p points point m.next m.state v.behind.more
          (subst (λ (more : List (Mark B)). All (λ x. IsMild x) more) (append_cancel_left m.marks l.more v.behind.more
          (sym l.marks_are ∙ v.behind.marks_are)) l.mild)
          (λ x y has_x has_y. free.ground.names x y ((v.met x).0 has_x) ((v.met y).0 has_y)) now.next now.state l.left v.behind.stands free;
      earned = AreEarned-behind w stored base p m now v.behind.more v.behind.marks_are e;
    }

    -- it acquires what it needs
    pub IsServed-acquires : (stored_now : ℕ → Option (Named B)) → IsStoredNow stored p stored_now → Acquires w stored_now m t r now
        → IsServed w stored base p points point build m now
    IsServed-acquires stored_now stored_is acquires =
        served_by
        (Serves-acquires w stored p points point m s t r hand free.ground.names laws.ids.issued_other located drawn met stored_now
        (waits-Abstains w stored p m.state.anchor m.state.cache stored_now free.ground.folded.anchor_is free.ground.folded.tip_is stored_is t
        r.request r.acquired) now acquires)
        (LeavesBehind-acquires w stored_now m now t r acquires)
        (PassesBy-acquires w (IsItsJob build) (IsItsTicket build) stored_now m now t r (build_drawn w stored p points point m build s builds)
        (off build unbuilt) acquires)
        (PassesBy-acquires w NoFront NoTicket stored_now m now t r none_drawn (λ no. no) acquires)
        (acquires-Earned w stored base p points point m s t
        (Known-free w stored base p points point m.next m.state s free.pause_is) free.ground.folded stored_now stored_is r now hand met acquires)

    -- it ends badly
    pub IsServed-concludes : Concludes w m t r Invalid now → IsServed w stored base p points point build m now
    IsServed-concludes concludes =
        served_by
        (Serves-concludes w stored p points point m s t r hand Invalid now concludes)
        (LeavesBehind-concludes w m now t r Invalid concludes)
        (PassesBy-concludes w (IsItsJob build) (IsItsTicket build) m now t r Invalid (off build unbuilt) concludes)
        (PassesBy-concludes w NoFront NoTicket m now t r Invalid (λ no. no) concludes)
        (concludes-invalid w stored base p points point m s t r hand.asked now concludes)

    -- it waits for nothing that was begun
    pub IsServed-waits : IsVerification r.request → Abstains (setting w stored) t p (first_of r.request)
        → Becomes w m (moved m.state t r Waiting) [] now → IsServed w stored base p points point build m now
    IsServed-waits verification abstains becomes =
        served_by
        (Serves-put w stored p points point m s t r hand Waiting now met verification (λ is. abstains) becomes)
        (rw becomes
        (record { more = []; marks_are = refl; mild = All-nil (λ x. IsMild x); left = record { anchor = refl; cache = refl; pause = refl } }))
        (PassesBy-put w (IsItsJob build) (IsItsTicket build) m now t r Waiting (off build unbuilt) becomes)
        (PassesBy-put w NoFront NoTicket m now t r Waiting (λ no. no) becomes)
        (rw becomes (record { more = []; marks_are = refl; each = tt }))
