-- What the tables of execution hold are live requests, which no receipt is.
use Rattle.std.proofs.Common.{◌≡◌, ◌≢◌, ℕ, All, Option, Some, None, IfSome, IsSome, refl, sym, ◌∙◌, subst}
use Rattle.stateful_base.specs.Names.{Named}
use Rattle.stateful_base.specs.declared.digest.Digest.{Digest}
use Rattle.stateful_history.specs.Past.{Past}
use Rattle.stateful_history.specs.Requests.{IsLiveRequest, IsLiveReceipt, IsLiveProposal}
use Rattle.stateful_history.specs.declared.ticket.Ticket.TheVariants as ticket
use Rattle.stateful_table.specs.Table.{at}
use Rattle.stateful_exec_model.specs.Workings.{Workings, Point}
use Rattle.stateful_exec_model.specs.declared.building.Building.{Building}
use Rattle.stateful_exec_walk.specs.declared.request.Proposal.{Proposal}
use Rattle.stateful_exec_tables.specs.declared.state.Tables.{Tables}
use Rattle.stateful_exec_tables.specs.declared.tables.Requested.{Requested}
use Rattle.stateful_exec_laws.specs.Building.{IsElsewhere, BuildStands}
use Rattle.stateful_exec_laws.specs.Requesting.{IsStanding}
use Rattle.stateful_exec_laws.specs.Standing.{TablesStand}
use Rattle.stateful_exec_laws.proofs.runs.Removing.{All-at}
use Rattle.stateful_loop_model.specs.Moments.{Moment}
use Rattle.stateful_loop_laws.specs.Execution.{Executes}
use Rattle.stateful_exec_laws.proofs.places.Starts.{live-request}
use Rattle.stateful_loop_laws.proofs.tickets.Queueing.{some_none, IsOrderly}

module _ {B C I P R D H G U : Type 0} (w : Workings B C I P R D H G U) (stored : ℕ → Option (Named B)) where
  -- Each queued proposal is a live request, of which nothing is built, and those that are handed out are queued; the build is of
  -- a live request; what is of a receipt is in no table; and requests are in order.
  pub record IsGrounded (p : Past B C I) (v : Tables B C I R U) (build : Option (Building B C D)) : Type 0 where
    pub queued : (t : ℕ) → IsSome (at v.queued t) → IsLiveRequest t p
    pub unbuilt : (t : ℕ) → IsSome (at v.queued t) → IfSome build (λ b. b.ticket ≢ t)
    pub ready : All (λ t. IsSome (at v.queued t)) v.recovered
    pub built : IfSome build (λ b. IsLiveRequest b.ticket p)
    pub receipts : (t : ℕ) → IsLiveReceipt t p → IsElsewhere v t × IfSome build (λ b. b.ticket ≢ t)
    pub orderly : IsOrderly v

  module _ (p : Past B C I) (points : Digest → Point w) (point : Point w) (next : w.Ids) (v : Tables B C I R U) (build : Option (Building B C D))
      (s : TablesStand w stored p points point next v) (h : BuildStands w stored p points next v build) where
    one_kind : (t : ℕ) → IsLiveRequest t p → IsLiveReceipt t p → ⊥
    one_kind t a b = let same : Some ticket.Request ≡ Some ticket.Receipt = sym a ∙ b in cc

    queued_live : (t : ℕ) (q : Proposal B C I) → at v.queued t ≡ Some q → IsLiveRequest t p
    queued_live t q is = (All-at (λ (e : ℕ × Proposal B C I). IsLiveProposal e.0 p
        (record { kind = e.1.kind; context = e.1.context; parent = e.1.ancestry.first; input = e.1.input })) v.queued t q is s.queue.each).live

    queued_so : (t : ℕ) (o : Option (Proposal B C I)) → at v.queued t ≡ o → IsSome o → IsLiveRequest t p
    queued_so t None is some = let never : ⊥ = cc in absurd never
    queued_so t (Some q) is some = queued_live t q is

    not_requested : (t : ℕ) → IsLiveReceipt t p → (o : Option (Requested B C I)) → at v.requests t ≡ o → o ≡ None
    not_requested t live None is = refl
    not_requested t live (Some r) is =
        let st = All-at (λ (e : ℕ × Requested B C I). IsStanding w stored p v.runs e.0 e.1) v.requests t r is s.requests.each in
        absurd (one_kind t (live-request w stored p t r.request st.asked) live)

    not_queued : (t : ℕ) → IsLiveReceipt t p → (o : Option (Proposal B C I)) → at v.queued t ≡ o → o ≡ None
    not_queued t live None is = refl
    not_queued t live (Some q) is = absurd (one_kind t (queued_live t q is) live)

    build_live : (o : Option (Building B C D)) → build ≡ o → IfSome o (λ b. IsLiveRequest b.ticket p)
    build_live None is = tt
    build_live (Some b) is = let each = rw is at h.each in each.proposal.live

    build_other : (t : ℕ) → IsLiveReceipt t p → (o : Option (Building B C D)) → IfSome o (λ b. IsLiveRequest b.ticket p)
        → IfSome o (λ b. b.ticket ≢ t)
    build_other t live None some = tt
    build_other t live (Some b) some = λ same. one_kind t (subst (λ n. IsLiveRequest n p) same some) live

    build_off : (t : ℕ) → IsSome (at v.queued t) → (o : Option (Building B C D)) → IfSome o (λ b. IsElsewhere v b.ticket)
        → IfSome o (λ b. b.ticket ≢ t)
    build_off t some None out = tt
    build_off t some (Some b) out = λ same. some_none (at v.queued t) some (subst (λ n. at v.queued n ≡ None) same out.not_queued)

    -- tables and a build that stand give all this
    pub grounded_by : IsGrounded p v build
    grounded_by = record {
      queued = λ t some. queued_so t (at v.queued t) refl some;
      unbuilt = λ t some. build_off t some build h.elsewhere;
      ready = s.queue.ready;
      built = build_live build refl;
      receipts = λ t live. (
        record { absent = not_requested t live (at v.requests t) refl; not_queued = not_queued t live (at v.queued t) refl },
        build_other t live build (build_live build refl),
      );
      orderly = record { ascending = s.requests.ascending; once = s.once };
    }

  -- execution that stands for a past gives all this
  pub grounded : (base : w.States) (p : Past B C I) (m : Moment w) → Executes w stored base p m → IsGrounded p m.execution.state m.execution.build
  grounded base p m e = grounded_by p e.points e.point m.next m.execution.state m.execution.build e.tables e.builds
