-- The marks of a cancel have their cause, and so does the mark that a run ended.
use Rattle.std.proofs.Common.{◌≡◌, inl, inr, ℕ, List, ◌∷◌, true, Option, None, Some, MatchOption, refl, sym, subst}
use Rattle.stateful_base.specs.Names.{Named}
use Rattle.stateful_base.specs.declared.digest.Digest.{Digest}
use Rattle.stateful_history.specs.Ancestors.{Up, itself, above, IsOnPath}
use Rattle.stateful_history.specs.Fetches.{WithdrawnHasCause}
use Rattle.stateful_history.specs.Jobs.{JobOf, job_of, started_for}
use Rattle.stateful_history.specs.Past.{Past, Item, Came, EachMark}
use Rattle.stateful_history.specs.Prunes.{PruneRule}
use Rattle.stateful_history.specs.Requests.{subject, StandsOn}
use Rattle.stateful_history.specs.Runs.{fits, EndsAsItsKind, CancelledHasCause, IsWorkFor}
use Rattle.stateful_history.specs.Setting.{Setting}
use Rattle.stateful_history.specs.declared.event.Event.TheVariants.{Cancel, Turn}
use Rattle.stateful_history.specs.declared.mark.How.{How}
use Rattle.stateful_history.specs.declared.mark.How.TheVariants.{Cancelled}
use Rattle.stateful_history.specs.declared.mark.JobKind.TheVariants.{Candidate}
use Rattle.stateful_history.specs.declared.mark.Mark.{Mark}
use Rattle.stateful_history.specs.declared.mark.Mark.TheVariants.{Withdrawn, Ended}
use Rattle.stateful_exec_cache.specs.declared.cache.Cached.{Cached}
use Rattle.stateful_table.specs.Table.{at}
use Rattle.stateful_exec_tables.specs.Keeping.{Takes}
use Rattle.stateful_exec_model.specs.Ending.{IsTold, rejected, mismatched, agreed}
use Rattle.stateful_exec_tables.specs.Keeping.{there, added, missed}
use Rattle.stateful_exec_tables.specs.Cancelling.{Cancels}
use Rattle.stateful_exec_tables.specs.Cancelling.{idle, withdraws, leaves, ends, unqueued}
use Rattle.stateful_exec_walk.specs.Path.{Path}
use Rattle.stateful_exec_model.specs.Workings.{Workings, Point}
use Rattle.stateful_exec_tables.specs.declared.state.Tables.{Tables}
use Rattle.stateful_exec_tables.specs.declared.tables.LiveRun.{LiveRun}
use Rattle.stateful_exec_tables.specs.declared.tables.Phase.{Phase}
use Rattle.stateful_exec_tables.specs.declared.tables.Phase.TheVariants.{Fetching, Executing}
use Rattle.stateful_exec_tables.specs.declared.tables.Requested.{Requested}
use Rattle.stateful_exec_laws.specs.Setting.{setting}
use Rattle.stateful_exec_laws.specs.Outstanding.{TicketsApart}
use Rattle.stateful_exec_laws.specs.Requesting.{IsInPhase, IsStanding}
use Rattle.stateful_exec_laws.specs.Running.{IsRunning}
use Rattle.stateful_exec_laws.specs.Standing.{TablesStand}
use Rattle.stateful_exec_laws.proofs.requests.Cancelled.{own}
use Rattle.stateful_exec_laws.proofs.ended.Stands.{running}
use Rattle.stateful_exec_laws.proofs.linked.OnPath.{StandsOn-way}

module _ {B C I S T : Type 0} (s : Setting B S T) (p : Past B C I) (x : Item B C I) where
  -- what stands on a block does so over a longer past
  pub Up-longer : {b c : Named B} → Up s p b c → Up s (x ∷ p) b c
  Up-longer itself = itself
  Up-longer (above u met is) = above (Up-longer u) (inr met) is

  pub StandsOn-longer : (t : ℕ) (d : Digest) → subject t (x ∷ p) ≡ subject t p → StandsOn s p t d → StandsOn s (x ∷ p) t d
  StandsOn-longer t d same h = subst (λ (o : Option (Named B)). MatchOption o ⊥ (λ b. IsOnPath s (x ∷ p) b d)) (sym same) (go (subject t p) h)
    where
      go : (o : Option (Named B)) → MatchOption o ⊥ (λ b. IsOnPath s p b d) → MatchOption o ⊥ (λ b. IsOnPath s (x ∷ p) b d)
      go None h = h
      go (Some b) h = record { ancestor = h.ancestor; up = Up-longer h.up; is = h.is }

module _ {B C I P R D H G U : Type 0} (w : Workings B C I P R D H G U) (stored : ℕ → Option (Named B)) (p : Past B C I) (points : Digest → Point w) (point : Point w) (next : w.Ids) (old : Tables B C I R U) (s : TablesStand w stored p points point next old) where
  -- the live run that a request waits for, on which it stands
  pub record HasRunOf (t j : ℕ) : Type 0 where
    pub run : LiveRun B R
    pub there : at old.runs j ≡ Some run
    pub stands : StandsOn (setting w stored) p t run.block.digest

  pub HasRunOf-executing : TicketsApart p → (t j : ℕ) (path : Path B) (r : Requested B C I) → at old.requests t ≡ Some r → r.phase ≡ Executing j path → HasRunOf t j
  HasRunOf-executing apart t j path r is_there executing = go (at old.runs j) refl phase.0
    where
      standing : IsStanding w stored p old.runs t r
      standing = own w stored p points point next old t s r is_there

      phase : IsInPhase w stored p old.runs t r.request (Executing j path)
      phase = subst (λ (x : Phase B). IsInPhase w stored p old.runs t r.request x) executing standing.phase

      go : (o : Option (LiveRun B R)) → at old.runs j ≡ o → MatchOption o ⊥ (λ run. run.block ≡ path.parent) → HasRunOf t j
      go None is same = absurd same
      go (Some run) is same = record {
        run = run;
        there = is;
        stands = subst (λ (b : Named B). StandsOn (setting w stored) p t b.digest) (sym same) (StandsOn-way w stored p apart t r.request path standing.asked phase.1);
      }

  module _ (t : ℕ) (rule : Option (PruneRule w.Targets)) (all : List (Mark B)) where
    abbrev given : Past B C I
    given = Came (Cancel t) ∷ p

    -- a mark of the cancel's entry has its cause
    abbrev pub HasCause : Past B C I → Mark B → Type 0
    HasCause q mark = WithdrawnHasCause (setting w stored) rule (Cancel t) all q mark × EndsAsItsKind (Cancel t) q mark × CancelledHasCause (setting w stored) (Cancel t) all q mark

    withdrawn-cause : (r : Requested B C I) (f : ℕ) → at old.requests t ≡ Some r → r.phase ≡ Fetching f → HasCause given (Withdrawn f)
    withdrawn-cause r f is_there fetching =
        let standing : IsStanding w stored p old.runs t r = own w stored p points point next old t s r is_there in
        let phase : IsInPhase w stored p old.runs t r.request (Fetching f) = subst (λ (x : Phase B). IsInPhase w stored p old.runs t r.request x) fetching standing.phase in
        ((phase.0, inl (t, refl, phase.1)), tt, tt)

    ended-cause : TicketsApart p → (r : Requested B C I) (j : ℕ) (path : Path B) → at old.requests t ≡ Some r → r.phase ≡ Executing j path → HasCause given (Ended j Cancelled)
    ended-cause apart r j path is_there executing =
        let h : HasRunOf t j = HasRunOf-executing apart t j path r is_there executing in
        let live : IsRunning w stored p points next old.anchor old.cache j h.run = running w stored p points point next old s j h.run h.there in
        let job : started_for j given ≡ Some (job_of Candidate h.run.block.digest) = live.job.is in (
          tt,
          (live.job.live, subst (λ (o : Option JobOf). MatchOption o ⊥ (λ k. fits k.kind Cancelled ≡ true)) (sym job) refl, inl refl),
          inl (t, refl, subst (λ (o : Option JobOf). MatchOption o ⊥ (IsWorkFor (setting w stored) given t)) (sym job) (inl (refl, StandsOn-longer (setting w stored) p (Came (Cancel t)) t h.run.block.digest refl h.stands))),
        )

    -- So do the marks of a cancel.
    pub cancels-cause : TicketsApart p → (new : Tables B C I R U) (marks : List (Mark B)) → Cancels old new t marks → EachMark HasCause given marks
    cancels-cause apart new marks (idle r is_there is_idle new_is marks_is) = rw marks_is tt
    cancels-cause apart new marks (withdraws r f fetches new_is marks_is) = rw marks_is (withdrawn-cause r f fetches.there fetches.fetching, tt)
    cancels-cause apart new marks (leaves r j path is_there executing others new_is marks_is) = rw marks_is tt
    cancels-cause apart new marks (ends r j path is_there executing last new_is marks_is) = rw marks_is (ended-cause apart r j path is_there executing, tt)
    cancels-cause apart new marks (unqueued none new_is marks_is) = rw marks_is tt

  taken-fits : (b : Named B) (anchor : _) (batch : U) (before after : List (Cached U)) (how : How) → Takes w.header anchor b batch before after how → fits Candidate how ≡ true
  taken-fits b anchor batch before after how (there any is) = refl
  taken-fits b anchor batch before after how (added out later here is) = refl
  taken-fits b anchor batch before after how (missed out why is) = refl

  told-fits : (b : Named B) (before after : List (Cached U)) (o : Option U) (how : How) → IsTold w old.anchor b before after o how → fits Candidate how ≡ true
  told-fits b before after o how (rejected is) = refl
  told-fits b before after o how (mismatched differs is) = refl
  told-fits b before after o how (agreed {batch = batch} agrees takes) = taken-fits b old.anchor batch before after how takes

  -- the mark that a live run ended so in its turn names a live candidate job, which may end so
  pub ended-in_turn : (j : ℕ) (live : LiveRun B R) → at old.runs j ≡ Some live → (b : Named B) (before after : List (Cached U)) (o : Option U) (how : How) → IsTold w old.anchor b before after o how → EndsAsItsKind (Turn j) (Came (Turn j) ∷ p) (Ended j how)
  ended-in_turn j live live_is b before after o how told =
      let r : IsRunning w stored p points next old.anchor old.cache j live = running w stored p points point next old s j live live_is in
      (r.job.live, subst (λ (k : Option JobOf). MatchOption k ⊥ (λ x. fits x.kind how ≡ true)) (sym r.job.is) (told-fits b before after o how told), inr refl)
