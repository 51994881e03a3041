-- Marks are in their places where a build is started or declined, and where a finalization begins.
use Rattle.std.proofs.Common.{◌≡◌, ◌≢◌, ◌++◌, ◌<◌, ◌==◌, ℕ, Bool, true, false, List, [], ◌∷◌, All, Option, None, Some, IfSome, IsSome, map, option_map, refl, sym, ap, ◌∙◌, subst, arith}
use Rattle.std.proofs.lemmas.Bool.{eqb-false}
use Rattle.std.proofs.lemmas.List.Elements.{All-nil, All-cons}
use Rattle.stateful_base.specs.Names.{Named}
use Rattle.stateful_base.specs.declared.anchor.Anchor.{Anchor}
use Rattle.stateful_history.specs.Met.{Met}
use Rattle.stateful_history.specs.Past.{Past, Made, EachMark, after}
use Rattle.stateful_history.specs.Requests.{IsLiveProposal, IsLiveReceipt, IsLiveRequest}
use Rattle.stateful_history.specs.Requests as asking
use Rattle.stateful_history.specs.declared.mark.JobKind.TheVariants.{Build}
use Rattle.stateful_history.specs.declared.mark.Mark.{Mark}
use Rattle.stateful_history.specs.declared.mark.Mark.TheVariants.{Started, Declined, Began, Withdrawn}
use Rattle.stateful_table.specs.Table.{at, without}
use Rattle.stateful_exec_model.specs.Building.{StartsBuild}
use Rattle.stateful_exec_tables.specs.Queueing.{unqueued}
use Rattle.stateful_exec_model.specs.Finalizing.{front_at}
use Rattle.stateful_exec_tables.specs.Phase.{dropped}
use Rattle.stateful_exec_model.specs.Workings.{Workings}
use Rattle.stateful_exec_model.specs.declared.building.Building.{Building}
use Rattle.stateful_exec_model.specs.declared.front.Front.{Front}
use Rattle.stateful_exec_model.specs.declared.front.Stage.TheVariants.{Begun}
use Rattle.stateful_exec_pause.specs.declared.pause.Pause.{Pause}
use Rattle.stateful_exec_tables.specs.declared.state.Tables.{Tables}
use Rattle.stateful_exec_walk.specs.declared.request.Proposal.{Proposal}
use Rattle.stateful_exec_tables.specs.declared.tables.Requested.{Requested}
use Rattle.stateful_exec_laws.specs.Building.{BuildStands}
use Rattle.stateful_exec_laws.specs.Caching.{CacheStands}
use Rattle.stateful_exec_laws.specs.Due.{IsDue}
use Rattle.stateful_exec_laws.specs.Setting.{setting}
use Rattle.stateful_exec_laws.proofs.builds.Marks.{started-StartsWell}
use Rattle.stateful_exec_laws.proofs.pauses.DueStands.{IsDue-begins, IsDue-quiet}
use Rattle.stateful_exec_laws.proofs.ended.Told.{IsPlain}
use Rattle.stateful_exec_laws.proofs.pauses.Tables.{at_dropped, undone}
use Rattle.stateful_exec_laws.proofs.places.Marks.{started-next}
use Rattle.stateful_exec_laws.proofs.requests.Quiet.{IsQuiet, withdrawals-quiet, quiet_one}
use Rattle.stateful_exec_laws.proofs.runs.Removing.{at_other, All-at}
use Rattle.stateful_loop_model.specs.Moments.{Moment}
use Rattle.stateful_loop_model.specs.Rules.{Builds, starts, declines, BeginsFinalization, finalizing}
use Rattle.stateful_loop_model.specs.declared.tables.Finalizing.{Finalizing}
use Rattle.stateful_loop_laws.specs.Execution.{IsFree, IsPlaced, Executes}
use Rattle.stateful_loop_laws.specs.Places.{EndsNoRun, IsInPlace, HasMovedIn, AsksStand, PlacesKept, PlacesBehind}
use Rattle.stateful_loop_laws.specs.RuleMarks.{IsOfRule}
use Rattle.stateful_loop_laws.specs.Tickets.{IsOutside}
use Rattle.stateful_loop_laws.proofs.execution.FetchesNone.{FetchesNone-pauses}
use Rattle.stateful_loop_laws.proofs.places.Front.{one_rule, one_askless}
use Rattle.stateful_loop_laws.proofs.places.Past.{IsAskless, live-before, bound-after, asked-before}
use Rattle.stateful_loop_laws.proofs.places.Still.{asks-left, places-of}
use Rattle.stateful_loop_laws.proofs.tickets.Uncancelled.{live-uncancelled}

withdrawn_each : {B : Type 0} (Q : Mark B → Type 0) → ((f : ℕ) → Q (Withdrawn f)) → (fs : List ℕ) → All Q (map (λ f. Withdrawn f) fs)
withdrawn_each Q each [] = All-nil Q
withdrawn_each Q each (f ∷ fs) = All-cons Q (Withdrawn f) (map (λ g. Withdrawn g) fs) (each f) (withdrawn_each Q each fs)

module _ {B C I : Type 0} where
  withdrawn_at : (Q : Past B C I → Mark B → Type 0) → ((q : Past B C I) (f : ℕ) → Q q (Withdrawn f)) → (q : Past B C I) (fs : List ℕ) → EachMark Q q
      (map (λ f. Withdrawn f) fs)
  withdrawn_at Q each q [] = tt
  withdrawn_at Q each q (f ∷ fs) = (each q f, withdrawn_at Q each (Made (Withdrawn f) ∷ q) fs)

dropped_absent : {B C I : Type 0} (es : List (ℕ × Requested B C I)) (t : ℕ) → at (map dropped es) t ≡ None → at es t ≡ None
dropped_absent es t none = go (at es t) refl
  where
    go : (o : Option (Requested _ _ _)) → at es t ≡ o → at es t ≡ None
    go None is = is
    go (Some r) is = let no : option_map undone (Some r) ≡ None = rw is at (sym (at_dropped es t) ∙ none) in let never : ⊥ = cc in absurd never

module _ {B C I P R D H G U : Type 0} (w : Workings B C I P R D H G U) (stored : ℕ → Option (Named B)) (base : w.States) (p : Past B C I)
    (m now : Moment w) (front : m.execution.front ≡ None) (unlive : m.execution.build ≡ None) (e : Executes w stored base p m)
    (h : PlacesKept w stored p m) where
  abbrev v : Tables B C I R U
  v = m.execution.state

  free : IsFree w stored base p e.points e.point m.next v
  free = subst (λ (f : Option (Front B R U H)). IsPlaced w stored base p e.points e.point m.next v f) front e.placed

  unmoved : (Q : Type 0) → HasMovedIn m.execution.front → Q
  unmoved Q moved = absurd (subst (λ (f : Option (Front B R U H)). HasMovedIn f) front moved)

  unbuilt : (u : ℕ) → IfSome m.execution.build (λ b. b.ticket ≢ u)
  unbuilt u = subst (λ (o : Option (Building B C D)). IfSome o (λ b. b.ticket ≢ u)) (sym unlive) tt

  module _ (t : ℕ) (provider : P) (queued : IsSome (at v.queued t)) where
    -- a build is started of a queued proposal
    started : (state : Tables B C I R U) (build : Option (Building B C D)) (next : w.Ids)
        (s : StartsBuild w t provider m.members m.next next v state build)
        → PlacesBehind w stored base p m (record m {
          execution = record m.execution { state = state; build = build };
          next = next;
          marks = m.marks ++ Started v.next_job Build s.proposal.ancestry.first.digest ∷ [];
        })
    started state build next s =
        places-of w stored base p m _ (Started v.next_job Build s.proposal.ancestry.first.digest ∷ []) refl (
          (
            tt,
            started-next p v.next_job v.next_fetch e.tables.numbers,
            tt,
            started-StartsWell w stored base p e.points e.point m.next v e.tables t provider m.members next state build s
                (subst (λ (x : Pause). IsPlain x) (sym free.pause_is) tt)
                (subst (λ (o : Option (Building B C D)). BuildStands w stored p e.points m.next v o) unlive e.builds),
            tt,
          ),
          tt,
        )
        (one_rule _ tt) (tt, tt) h.past
        (rw s.state (IsDue-quiet (setting w stored) p v.cache (Started v.next_job Build s.proposal.ancestry.first.digest ∷ []) (quiet_one _ tt) m.execution.front h.due))
        (asks-left w stored p (Started v.next_job Build s.proposal.ancestry.first.digest ∷ []) (one_askless _ tt) v state m.execution.build build
        m.execution.front m.execution.front (λ Q all. rw s.state all)
        (λ u live out. record {
          elsewhere = record { absent = rw s.state at out.elsewhere.absent; not_queued = waits u out };
          unbuilt = unbuilt u;
        })
        (λ moved. unmoved _ moved) h.asks)
        (λ f captured at some. h.hooks f captured at some)
      where
        waits : (u : ℕ) → IsOutside w stored (Made (Started v.next_job Build s.proposal.ancestry.first.digest) ∷ p) state build u
            → at v.queued u ≡ None
        waits u out =
            let other : t ≢ u = subst (λ (o : Option (Building B C D)). IfSome o (λ b. b.ticket ≢ u)) s.build_is out.unbuilt in
            let gone : at (without v.queued t) u ≡ None = rw s.state at out.elsewhere.not_queued in
            sym (at_other v.queued t u (λ same. other (sym same))) ∙ gone

    proposed_live : (o : Option (Proposal B C I)) → at v.queued t ≡ o → (r : asking.Proposal B C I) × IsLiveProposal t p r
    proposed_live None is = absurd (let no = rw is at queued in cc)
    proposed_live (Some x) is = (
      record { kind = x.kind; context = x.context; parent = x.ancestry.first; input = x.input },
      All-at (λ (y : ℕ × Proposal B C I). IsLiveProposal y.0 p
          (record { kind = y.1.kind; context = y.1.context; parent = y.1.ancestry.first; input = y.1.input }))
          v.queued t x is e.tables.queue.each,
    )

    declined : PlacesBehind w stored base p m (record m {
      execution = record m.execution { state = unqueued v t };
      marks = m.marks ++ Declined t ∷ [];
    })
    declined =
        let asked = proposed_live (at v.queued t) refl in
        places-of w stored base p m _ (Declined t ∷ []) refl
        ((asked, tt, tt, tt, live-uncancelled p h.past.gone t _ asked.1.live), tt)
        (one_rule _ tt) (tt, tt) h.past
        (IsDue-quiet (setting w stored) p v.cache (Declined t ∷ []) (quiet_one _ tt) m.execution.front h.due)
        (asks-left w stored p (Declined t ∷ []) (one_askless _ tt) v (unqueued v t) m.execution.build m.execution.build
        m.execution.front m.execution.front (λ Q all. all)
        (λ u live out. record {
          elsewhere = record { absent = out.elsewhere.absent; not_queued = left u (u == t) refl live out.elsewhere.not_queued };
          unbuilt = unbuilt u;
        })
        (λ moved. unmoved _ moved) h.asks)
        (λ f captured at some. h.hooks f captured at some)
      where
        left : (u : ℕ) (b : Bool) → (u == t) ≡ b → IsLiveRequest u (Made (Declined t) ∷ p) → at (without v.queued t) u ≡ None → at v.queued u ≡ None
        left u true same live none = let no = rw same at live in let never : ⊥ = cc in absurd never
        left u false other live none = sym (at_other v.queued t u (eqb-false u t other)) ∙ none

    -- where a build is started or declined
    pub places-builds : Builds w provider t m now → PlacesBehind w stored base p m now
    places-builds (starts {state = state} {build = build} {next = next} s is) = subst (λ (n : Moment w). PlacesBehind w stored base p m n) (sym is)
        (started state build next s)
    places-builds (declines none is) = subst (λ (n : Moment w). PlacesBehind w stored base p m n) (sym is) declined

  module _ (t : ℕ) (b : Named B) (high : v.anchor.height.0 < w.header.height b.block) (met : Met (setting w stored) p b) (live : IsLiveReceipt t p)
      (r : BeginsFinalization w t b m now) where
    other_block : b.digest ≢ v.anchor.digest
    other_block same =
        let top = free.ground.top in
        let one : b ≡ top.block = free.ground.names b top.block met top.met (same ∙ ap (λ (a : Anchor). a.digest) top.is) in
        let heights : w.header.height b.block ≡ v.anchor.height.0 =
        ap (λ (x : Named B). w.header.height x.block) one ∙ sym (ap (λ (a : Anchor). a.height.0) top.is) in
        omega (arith, heights, high)

    abbrev given : Past B C I
    given = Made (Began t b) ∷ p

    abbrev gone : List (Mark B)
    gone = map (λ f. Withdrawn f) r.pauses.fetches

    gone_is : r.withdrawn ≡ gone
    gone_is = r.pauses.marks_are

    all_gone : (Q : Mark B → Type 0) → ((f : ℕ) → Q (Withdrawn f)) → All Q r.withdrawn
    all_gone Q each = subst (λ (l : List (Mark B)). All Q l) (sym gone_is) (withdrawn_each Q each r.pauses.fetches)

    each_gone : (Q : Past B C I → Mark B → Type 0) → ((q : Past B C I) (f : ℕ) → Q q (Withdrawn f)) → EachMark Q given r.withdrawn
    each_gone Q each = subst (λ (l : List (Mark B)). EachMark Q given l) (sym gone_is) (withdrawn_at Q each given r.pauses.fetches)

    askless : All IsAskless (Began t b ∷ r.withdrawn)
    askless = All-cons IsAskless (Began t b) r.withdrawn tt (all_gone IsAskless (λ f. tt))

    due : IsDue (setting w stored) (after given r.withdrawn) {R = R} {H = H} r.state.cache (front_at b Begun)
    due = subst (λ (x : Tables B C I R U). IsDue (setting w stored) (after given r.withdrawn) {R = R} {H = H} x.cache (front_at b Begun))
        (sym r.pauses.state)
        (IsDue-quiet (setting w stored) given {R = R} {H = H} v.cache r.withdrawn
        (subst (λ (l : List (Mark B)). All (λ x. IsQuiet x) l) (sym gone_is) (withdrawals-quiet r.pauses.fetches)) (front_at b Begun)
        (IsDue-begins w stored p e.points m.next v.anchor v.cache
        (subst (λ (x : Pause). CacheStands w stored p e.points m.next v.anchor x v.cache) free.pause_is e.tables.cache) t b other_block))

    asks : AsksStand w stored (after given r.withdrawn) r.state m.execution.build (front_at b Begun)
    asks = record {
      along = λ k d l f fetching. absurd (FetchesNone-pauses (Some r.boundary) v r.state r.withdrawn r.pauses k d l f fetching);
      earlier = λ u d was. subst (λ n. u < n) (sym (bound-after p (Began t b ∷ r.withdrawn)))
          (h.asks.earlier u d (asked-before u d p (Began t b ∷ r.withdrawn) askless was));
      inside = λ u d was alive out. h.asks.inside u d (asked-before u d p (Began t b ∷ r.withdrawn) askless was)
          (live-before u _ p (Began t b ∷ r.withdrawn) alive) (record {
            elsewhere = record {
              absent = dropped_absent v.requests u (sym (ap (λ (x : Tables B C I R U). at x.requests u) r.pauses.state) ∙ out.elsewhere.absent);
              not_queued = sym (ap (λ (x : Tables B C I R U). at x.queued u) r.pauses.state) ∙ out.elsewhere.not_queued;
            };
            unbuilt = out.unbuilt;
          });
      nothing = λ moved. absurd moved;
    }

    -- where a finalization begins
    pub places-begins : PlacesBehind w stored base p m now
    places-begins = subst (λ (n : Moment w). PlacesBehind w stored base p m n) (sym r.becomes)
        (places-of w stored base p m _ (Began t b ∷ r.withdrawn) refl
        ((tt, tt, tt, tt, live-uncancelled p h.past.gone t _ live), each_gone (IsInPlace w stored base) (λ q f. (tt, tt, tt, tt, tt)))
        (All-cons IsOfRule (Began t b) r.withdrawn tt (all_gone IsOfRule (λ f. tt)))
        (tt, each_gone EndsNoRun (λ q f. tt)) h.past due asks
        (λ f captured at some. let same : finalizing t b ≡ f = cc in let no : None ≡ Some captured = ap (λ (x : Finalizing B G). x.captured) same
        ∙ some in
        let never : ⊥ = cc in absurd never))
