-- The tables and the live build stand behind the start of a build, and behind a decline in its place.
use Rattle.std.proofs.Common.{◌≡◌, ◌≢◌, ◌+◌, ◌==◌, inl, inr, ℕ, Bool, true, false, List, [], ◌∷◌, All, Option, Some, None, IfSome, refl, sym, ◌∙◌, arith}
use Rattle.std.proofs.lemmas.Bool.{eqb-true, eq-eqb}
use Rattle.stateful_base.specs.Names.{Named}
use Rattle.stateful_base.specs.declared.digest.Digest.{Digest}
use Rattle.stateful_history.specs.Setting.{Setting}
use Rattle.stateful_history.specs.Past.{Past, Came, Made}
use Rattle.stateful_history.specs.Met.{Met}
use Rattle.stateful_history.specs.Jobs.{IsLiveJob}
use Rattle.stateful_history.specs.Requests.{Proposal as Asked, IsLiveProposal, proposed}
use Rattle.stateful_history.specs.declared.event.Event.TheVariants.{Prepare, Propose}
use Rattle.stateful_history.specs.declared.mark.JobKind.TheVariants.{Build}
use Rattle.stateful_history.specs.declared.mark.Mark.TheVariants.{Started, Declined}
use Rattle.stateful_table.specs.Table.{at, without}
use Rattle.stateful_exec_tables.specs.Queueing.{unqueued}
use Rattle.stateful_exec_model.specs.Building.{IsNewBuild, StartsBuild}
use Rattle.stateful_exec_model.specs.Workings.{Workings, Point}
use Rattle.stateful_exec_model.specs.declared.building.Building.{Building}
use Rattle.stateful_exec_walk.specs.declared.request.Proposal.{Proposal}
use Rattle.stateful_exec_tables.specs.declared.state.Tables.{Tables}
use Rattle.stateful_exec_tables.specs.declared.tables.Requested.{Requested}
use Rattle.stateful_exec_laws.specs.Setting.{setting}
use Rattle.stateful_exec_laws.specs.Building.{BuildsTakeTurns, IsBuilding, IsElsewhere, BuildStands}
use Rattle.stateful_exec_laws.specs.Standing.{TablesStand}
use Rattle.stateful_exec_laws.proofs.requests.Calm.{LeavesJob}
use Rattle.stateful_exec_laws.proofs.requests.Asking.{LeavesTicket}
use Rattle.stateful_exec_laws.proofs.runs.Removing.{at_other, at_gone, All-at}
use Rattle.stateful_exec_laws.proofs.ended.ConcludeStands.{declined-TellsOf, TablesStand-told}
use Rattle.stateful_exec_laws.proofs.linked.OverChain.{IsOnChain, on_chain}
use Rattle.stateful_exec_laws.proofs.runs.Drawn.{TablesStand-next, TablesStand-unqueued}
use Rattle.stateful_exec_laws.proofs.runs.Spared.{Moves-longer, TablesStand-spared}
use Rattle.stateful_exec_laws.proofs.runs.Sparing.{started-Spares, runs_below}
use Rattle.stateful_exec_laws.proofs.builds.Left.{BuildStands-spared, BuildStands-tables}

-- the parent that a request asks to build on came with it
pub proposed-Met : {B C I S T : Type 0} (s : Setting B S T) (t : ℕ) (p : Past B C I) (r : Asked B C I) → proposed t p ≡ Some r → Met s p r.parent
proposed-Met s t [] r is = let no : None ≡ Some r = is in cc
proposed-Met s t (Came (Prepare u context ancestry input) ∷ p) r is = go (t == u) refl (proposed-Met s t p r)
  where
    go : (b : Bool) → (t == u) ≡ b → (proposed t p ≡ Some r → Met s p r.parent) → Met s (Came (Prepare u context ancestry input) ∷ p) r.parent
    go true same rest = let own : Some _ ≡ Some r = rw same at is in let parent : r.parent ≡ ancestry.first = cc in inl (inl parent)
    go false other rest = inr (rest (rw other at is))
proposed-Met s t (Came (Propose u context ancestry input) ∷ p) r is = go (t == u) refl (proposed-Met s t p r)
  where
    go : (b : Bool) → (t == u) ≡ b → (proposed t p ≡ Some r → Met s p r.parent) → Met s (Came (Propose u context ancestry input) ∷ p) r.parent
    go true same rest = let own : Some _ ≡ Some r = rw same at is in let parent : r.parent ≡ ancestry.first = cc in inl (inl parent)
    go false other rest = inr (rest (rw other at is))
proposed-Met s t (item ∷ p) r is = inr (proposed-Met s t p r is)

module _ {B C I P R D H G U : Type 0} (w : Workings B C I P R D H G U) (stored : ℕ → Option (Named B)) (p : Past B C I) (points : Digest → Point w) (point : Point w) (next : w.Ids) (old : Tables B C I R U) (s : TablesStand w stored p points point next old) (t : ℕ)
    (taken : All (λ u. u ≢ t) old.recovered) where
  -- a queued build is in no other table
  queued_absent : (proposal : Proposal B C I) → at old.queued t ≡ Some proposal → at old.requests t ≡ None
  queued_absent proposal there = go (at old.requests t) refl
    where
      go : (o : Option (Requested B C I)) → at old.requests t ≡ o → o ≡ None
      go None is = refl
      go (Some r) is = let none : at old.queued t ≡ None = s.once t (rw is refl) in let no : Some proposal ≡ None = sym there ∙ none in cc

  module _ (absent : at old.requests t ≡ None) where
    -- the tables stand behind the decline of a request to build
    pub TablesStand-declines : TablesStand w stored (Made (Declined t) ∷ p) points point next (unqueued old t)
    TablesStand-declines =
        TablesStand-told w stored p points point next (unqueued old t) t (TablesStand-unqueued w stored p points point next old t old.next_job (omega arith) taken s)
        (Made (Declined t)) (declined-TellsOf (setting w stored) p t) absent (at_gone old.queued t)

    -- and so does the live build of another request
    pub BuildStands-declines : (build : Option (Building B C D)) → IfSome build (λ b. b.ticket ≢ t) → BuildStands w stored p points next old build → BuildStands w stored (Made (Declined t) ∷ p) points next (unqueued old t) build
    BuildStands-declines build other h =
        BuildStands-tables w stored (Made (Declined t) ∷ p) points next old next (λ c d. d) (unqueued old t) refl (λ d at_hand. at_hand) build (elsewhere build other h.elsewhere)
        (BuildStands-spared w stored p points next old (Made (Declined t)) build (record { built = λ d was. was; job = leaves build; ticket = leaves_ticket build other; builds = λ j d live. record { live = live.live; is = live.is } }) h)
      where
        elsewhere : (o : Option (Building B C D)) → IfSome o (λ b. b.ticket ≢ t) → IfSome o (λ b. IsElsewhere old b.ticket) → IfSome o (λ b. IsElsewhere (unqueued old t) b.ticket)
        elsewhere None other e = tt
        elsewhere (Some b) other e = record { absent = e.absent; not_queued = at_other old.queued t b.ticket other ∙ e.not_queued }

        leaves : (o : Option (Building B C D)) → IfSome o (λ b. LeavesJob p (Made (Declined t)) b.job)
        leaves None = tt
        leaves (Some b) = record { live = refl; started = refl; turns = refl }

        leaves_ticket : (o : Option (Building B C D)) → IfSome o (λ b. b.ticket ≢ t) → IfSome o (λ b. LeavesTicket p (Made (Declined t)) b.ticket)
        leaves_ticket None other = tt
        leaves_ticket (Some b) other = (declined-TellsOf (setting w stored) p t).tickets b.ticket other

  module _ (other_states : (n i : w.Ids) (x y : w.States) (c : List (Point w)) → w.kind.issued n ((i, x) ∷ c) → w.kind.issued n ((i, y) ∷ c))
      (members : w.kind.Members) (located : w.kind.point members ≡ Some point) (drawn : w.kind.issued next (point ∷ [])) (provider : P) (now : w.Ids) (new : Tables B C I R U) (build : Option (Building B C D))
      (starts : StartsBuild w t provider members next now old new build) where
    abbrev proposal : Proposal B C I
    proposal = starts.proposal

    abbrev parent : Named B
    parent = proposal.ancestry.first

    abbrev given : Past B C I
    given = Made (Started old.next_job Build parent.digest) ∷ p

    abbrev live : Building B C D
    live = record { job = old.next_job; ticket = t; kind = proposal.kind; context = proposal.context; parent = parent; build = starts.live }

    abbrev started : Tables B C I R U
    started = record old { queued = without old.queued t; next_job = old.next_job + 1 }

    -- the tables stand behind the start of a build
    pub TablesStand-builds : TablesStand w stored (Made (Started old.next_job Build starts.proposal.ancestry.first.digest) ∷ p) points point now new
    TablesStand-builds = rw starts.state
        (TablesStand-spared w stored p (Made (Started old.next_job Build parent.digest)) points point now started
        (started-Spares w stored p old.next_job Build parent.digest (λ is. cc) started (runs_below w stored p points point next old s) (omega arith))
        (TablesStand-next w stored p points point next started now starts.keeps (TablesStand-unqueued w stored p points point next old t (old.next_job + 1) (omega arith) taken s)))

    live_proposal : IsLiveProposal t p (record { kind = proposal.kind; context = proposal.context; parent = parent; input = proposal.input })
    live_proposal = All-at (λ (e : ℕ × Proposal B C I). IsLiveProposal e.0 p (record { kind = e.1.kind; context = e.1.context; parent = e.1.ancestry.first; input = e.1.input })) old.queued t proposal starts.ready.queued s.queue.each

    over : IsOnChain w stored p points point next old s now members located drawn (λ q c. IsNewBuild w starts.live proposal provider next q c) parent.digest
    over = on_chain w stored p points point next old s now members located drawn (λ q c. IsNewBuild w starts.live proposal provider next q c) parent.digest starts.over

    is_building : BuildsTakeTurns w → IsBuilding w stored given points now old.anchor old.cache live
    is_building costs = record {
      input = proposal.input;
      proposal = record { live = live_proposal.live; proposes = live_proposal.proposes };
      job = record { live = rw (eq-eqb old.next_job old.next_job refl) refl; is = rw (eq-eqb old.next_job old.next_job refl) refl };
      met = inr (proposed-Met (setting w stored) t p _ live_proposal.proposes);
      at_hand = starts.ready.known;
      below = over.below;
      chain = (Moves-longer w stored p (Made (Started old.next_job Build parent.digest)) (λ d was. was) points old.anchor old.cache).chain parent.digest _ starts.ready.known over.chain;
      own = next;
      drawn = λ x. other_states now next (w.kind.begun (points parent.digest).1) x _ over.issued;
      provider = provider;
      builds = rw (s.numbers.unturned old.next_job (omega arith)) over.has;
      unfinished = λ n cost. rw (s.numbers.unturned old.next_job (omega arith)) (costs _ (points parent.digest).1 n cost);
    }

    -- the build stands behind its start, where no other one was live
    pub BuildStands-builds : BuildsTakeTurns w → BuildStands w stored p points next old None → BuildStands w stored (Made (Started old.next_job Build starts.proposal.ancestry.first.digest) ∷ p) points now new build
    BuildStands-builds costs none = rw (starts.build_is, starts.state) (record {
      each = is_building costs;
      elsewhere = record { absent = queued_absent proposal starts.ready.queued; not_queued = at_gone old.queued t };
      complete = λ j d job. go j d job (j == old.next_job) refl;
    })
      where
        go : (j : ℕ) (d : Digest) → IsLiveJob j Build d given → (b : Bool) → (j == old.next_job) ≡ b → old.next_job ≡ j
        go j d job true is = sym (eqb-true j old.next_job is)
        go j d job false is = absurd (none.complete j d (record { live = rw is at job.live; is = rw is at job.is }))
