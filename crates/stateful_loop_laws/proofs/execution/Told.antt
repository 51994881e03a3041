-- Execution stands after the marks that the loop makes beside it.
use Rattle.std.proofs.Common.{◌≡◌, ◌≢◌, ◌++◌, suc, ℕ, List, [], ◌∷◌, map, All, AllPairs, Option, None, Some, IfSome, refl, sym, ◌∙◌, arith, get_or}
use Rattle.std.proofs.lemmas.List.Elements.{All-head, All-tail}
use Rattle.stateful_base.specs.Names.{Named}
use Rattle.stateful_base.specs.declared.digest.Digest.{Digest}
use Rattle.stateful_history.specs.Joined.{TrueIsEarned}
use Rattle.stateful_history.specs.Live.{live_ticket}
use Rattle.stateful_history.specs.Past.{Past, Made, EachMark, after}
use Rattle.stateful_history.specs.Requests.{IsLiveProposal, IsLiveReceipt}
use Rattle.stateful_history.specs.declared.mark.Mark.{Mark}
use Rattle.stateful_history.specs.declared.mark.Mark.TheVariants.{Databases, Acknowledged, BarrierBegun, BarrierDone}
use Rattle.stateful_history.specs.declared.ticket.Ticket.TheVariants as tickets
use Rattle.stateful_table.specs.Table.{at}
use Rattle.stateful_exec_model.specs.Workings.{Workings, Point}
use Rattle.stateful_exec_model.specs.declared.building.Building.{Building}
use Rattle.stateful_exec_walk.specs.declared.request.Proposal.{Proposal}
use Rattle.stateful_exec_walk.specs.declared.request.Request.{Request}
use Rattle.stateful_exec_walk.specs.declared.request.Request.TheVariants.{Verify, Recover}
use Rattle.stateful_exec_tables.specs.declared.state.Tables.{Tables}
use Rattle.stateful_exec_tables.specs.declared.tables.Requested.{Requested}
use Rattle.stateful_exec_laws.specs.Setting.{setting}
use Rattle.stateful_exec_laws.specs.Building.{BuildStands}
use Rattle.stateful_exec_laws.specs.Requesting.{IsRequestOf, IsStanding}
use Rattle.stateful_exec_laws.specs.Standing.{TablesStand}
use Rattle.stateful_exec_laws.proofs.runs.Removing.{All-at, differ}
use Rattle.stateful_exec_laws.proofs.requests.Tells.{acknowledged-TellsOf, databases-TellsOf, begun-IsSilent, done-IsSilent}
use Rattle.stateful_loop_model.specs.Moments.{Moment}
use Rattle.stateful_loop_model.specs.Rules.{acknowledged}
use Rattle.stateful_loop_laws.specs.Execution.{Executes, ExecutesBehind}
use Rattle.stateful_loop_laws.specs.Tickets.{IsOutside}
use Rattle.stateful_loop_laws.proofs.execution.Kept.{names-on, Executes-names, Executes-same, Executes-tells, Executes-silent}

module _ {B C I P R D H G U : Type 0} (w : Workings B C I P R D H G U) (stored : ℕ → Option (Named B)) where
  -- a mark beside execution: of a subscription that it doesn't have, of a live receipt, or of a barrier
  abbrev pub IsBesideExecution : Tables B C I R U → Option (Building B C D) → Past B C I → Mark B → Type 0
  IsBesideExecution v build p (Databases t) = IsOutside w stored p v build t
  IsBesideExecution v build p (Acknowledged t height) = IsLiveReceipt t p
  IsBesideExecution v build p (BarrierBegun k height) = Unit {0}
  IsBesideExecution v build p (BarrierDone k height good) = Unit {0}
  IsBesideExecution v build p mark = ⊥

  module _ (p : Past B C I) (points : Digest → Point w) (point : Point w) (next : w.Ids) (v : Tables B C I R U)
      (s : TablesStand w stored p points point next v) (t : ℕ) (receipt : IsLiveReceipt t p) where
    not_asked : (q : Request B C I) → IsRequestOf w stored p t q → ⊥
    not_asked (Verify u ancestry) asked = let same : Some tickets.Receipt ≡ Some tickets.Request = sym receipt ∙ asked.live in cc
    not_asked (Recover u context ancestry input kind) asked = let same : Some tickets.Receipt ≡ Some tickets.Request = sym receipt ∙ asked.live in cc

    unrequested : (o : Option (Requested B C I)) → at v.requests t ≡ o → o ≡ None
    unrequested None is = refl
    unrequested (Some r) is =
        let standing : IsStanding w stored p v.runs t r =
        All-at (λ (e : ℕ × Requested B C I). IsStanding w stored p v.runs e.0 e.1) v.requests t r is s.requests.each in
        absurd (not_asked r.request standing.asked)

    unqueued : (o : Option (Proposal B C I)) → at v.queued t ≡ o → o ≡ None
    unqueued None is = refl
    unqueued (Some q) is =
        let live =
        All-at (λ (e : ℕ × Proposal B C I). IsLiveProposal e.0 p
        (record { kind = e.1.kind; context = e.1.context; parent = e.1.ancestry.first; input = e.1.input })) v.queued t q is s.queue.each in
        let same : Some tickets.Receipt ≡ Some tickets.Request = sym receipt ∙ live.live in
        let no : ⊥ = cc in absurd no

    receipt_unbuilt : (build : Option (Building B C D)) → BuildStands w stored p points next v build → IfSome build (λ b. b.ticket ≢ t)
    receipt_unbuilt None h = tt
    receipt_unbuilt (Some b) h = λ is.
        let live : live_ticket t p ≡ Some tickets.Request = rw (sym is) h.each.proposal.live in
        let same : Some tickets.Receipt ≡ Some tickets.Request = sym receipt ∙ live in cc

    -- a live receipt is in no table, and nothing is built for it
    pub receipt-IsOutside : (build : Option (Building B C D)) → BuildStands w stored p points next v build → IsOutside w stored p v build t
    receipt-IsOutside build h =
        record {
          elsewhere = record { absent = unrequested (at v.requests t) refl; not_queued = unqueued (at v.queued t) refl };
          unbuilt = receipt_unbuilt build h;
        }

  -- receipts that are live, each of a ticket of its own, are acknowledged one after another
  pub acknowledged-EachAside : (v : Tables B C I R U) (build : Option (Building B C D)) (receipts : List (ℕ × ℕ)) (p : Past B C I)
      → All (λ receipt. IsLiveReceipt receipt.1 p) receipts → AllPairs (λ r s. r.1 ≢ s.1) receipts
      → EachMark (IsBesideExecution v build) p (map acknowledged receipts)
  acknowledged-EachAside v build [] p live apart = tt
  acknowledged-EachAside v build (r ∷ receipts) p live apart = (
    All-head (λ (x : ℕ × ℕ). IsLiveReceipt x.1 p) r receipts live,
    acknowledged-EachAside v build receipts (Made (acknowledged r) ∷ p)
        (λ k d l. let still = All-tail (λ (x : ℕ × ℕ). IsLiveReceipt x.1 p) r receipts live k d l in
        rw (differ (get_or receipts k d).1 r.1 (apart 0 (suc k) d (omega arith) (omega (arith, l)))) still)
        (λ i j d lt l. apart (suc i) (suc j) d (omega (arith, lt)) (omega (arith, l))),
  )

  module _ (base : w.States) where
    -- execution stands behind such a mark
    pub Executes-told : (p : Past B C I) (m : Moment w) (mark : Mark B) → IsBesideExecution m.execution.state m.execution.build p mark
        → Executes w stored base p m → Executes w stored base (Made mark ∷ p) m
    Executes-told p m (Databases t) out h =
        Executes-tells w stored base p (Made (Databases t)) refl refl refl
        (names-on (setting w stored) p (Made (Databases t)) (λ b no. no) (Executes-names w stored base p m h)) m h t
        (databases-TellsOf (setting w stored) p t) out.elsewhere out.unbuilt
    Executes-told p m (Acknowledged t height) live h =
        let out : IsOutside w stored p m.execution.state m.execution.build t =
        receipt-IsOutside p h.points h.point m.next m.execution.state h.tables t live m.execution.build h.builds in
        Executes-tells w stored base p (Made (Acknowledged t height)) refl refl refl
        (names-on (setting w stored) p (Made (Acknowledged t height)) (λ b no. no) (Executes-names w stored base p m h)) m h t
        (acknowledged-TellsOf (setting w stored) p t height) out.elsewhere out.unbuilt
    Executes-told p m (BarrierBegun k height) any h =
        Executes-silent w stored base p (Made (BarrierBegun k height)) refl refl refl
        (names-on (setting w stored) p (Made (BarrierBegun k height)) (λ b no. no) (Executes-names w stored base p m h)) m h
        (begun-IsSilent (setting w stored) p k height)
    Executes-told p m (BarrierDone k height good) any h =
        Executes-silent w stored base p (Made (BarrierDone k height good)) refl refl refl
        (names-on (setting w stored) p (Made (BarrierDone k height good)) (λ b no. no) (Executes-names w stored base p m h)) m h
        (done-IsSilent (setting w stored) p k height good)
    Executes-told p m mark off h = absurd off

    told_each : (m : Moment w) (marks : List (Mark B)) (p : Past B C I) → EachMark (IsBesideExecution m.execution.state m.execution.build) p marks
        → Executes w stored base p m → Executes w stored base (after p marks) m
    told_each m [] p each h = h
    told_each m (mark ∷ marks) p each h = told_each m marks (Made mark ∷ p) each.1 (Executes-told p m mark each.0 h)

    earned_one : (v : Tables B C I R U) (build : Option (Building B C D)) (p : Past B C I) (mark : Mark B) → IsBesideExecution v build p mark
        → TrueIsEarned (setting w stored) base p mark
    earned_one v build p (Databases t) out = tt
    earned_one v build p (Acknowledged t height) live = tt
    earned_one v build p (BarrierBegun k height) h = tt
    earned_one v build p (BarrierDone k height good) h = tt
    earned_one v build p mark off = absurd off

    earned_each : (v : Tables B C I R U) (build : Option (Building B C D)) (marks : List (Mark B)) (p : Past B C I)
        → EachMark (IsBesideExecution v build) p marks → EachMark (TrueIsEarned (setting w stored) base) p marks
    earned_each v build [] p each = tt
    earned_each v build (mark ∷ marks) p each = (earned_one v build p mark each.0, earned_each v build marks (Made mark ∷ p) each.1)

    -- It stands behind such marks, one after another, at each moment of the same tables and ids, where the databases are where
    -- they were.
    pub Executes-told_each : (p : Past B C I) (m now : Moment w) (marks : List (Mark B)) → now.marks ≡ m.marks ++ marks → now.execution ≡ m.execution
        → w.kind.point now.members ≡ w.kind.point m.members → now.next ≡ m.next
        → EachMark (IsBesideExecution m.execution.state m.execution.build) p marks → Executes w stored base p m → ExecutesBehind w stored base p m now
    Executes-told_each p m now marks is execution place next each h = record {
      more = marks;
      marks_are = is;
      executes = Executes-same w stored base (after p marks) m now execution place next (told_each m marks p each h);
      earned = earned_each m.execution.state m.execution.build marks p each;
    }
