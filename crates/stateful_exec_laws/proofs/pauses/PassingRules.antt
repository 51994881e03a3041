-- What else happens to requests and candidate runs says nothing of other jobs and other tickets.
use Rattle.std.proofs.Common.{◌≡◌, ◌==◌, ◌++◌, not, ℕ, Bool, true, false, List, [], ◌∷◌, filter, map, is_none, option_map, All, Option, None, Some, Result, Ok, Err, refl, sym, ap, ◌∙◌, arith}
use Rattle.std.proofs.lemmas.List.{append-nil}
use Rattle.std.proofs.lemmas.List.Elements.{All-filter, All-map, All-nil}
use Rattle.stateful_base.specs.Names.{Named}
use Rattle.stateful_base.specs.declared.digest.Digest.{Digest}
use Rattle.stateful_base.specs.declared.outcome.Moved.{Moved}
use Rattle.stateful_base.specs.declared.outcome.Moved.TheVariants.{Pending, Done}
use Rattle.stateful_db.specs.declared.application.AppFault.{AppFault}
use Rattle.stateful_history.specs.declared.mark.How.{How}
use Rattle.stateful_history.specs.declared.mark.How.TheVariants.{Cancelled}
use Rattle.stateful_history.specs.declared.mark.Mark.{Mark}
use Rattle.stateful_history.specs.declared.mark.Mark.TheVariants.{Withdrawn, Ended}
use Rattle.stateful_exec_cache.specs.Cache.{IsIn}
use Rattle.stateful_exec_cache.specs.declared.cache.Cached.{Cached}
use Rattle.stateful_table.specs.Table.{at}
use Rattle.stateful_table.proofs.Tables.{is_at_number}
use Rattle.stateful_exec_pause.specs.Boundary.{Boundary}
use Rattle.stateful_exec_model.specs.Ending.{InTurn, IsTold, rejected, mismatched, agreed, EndsRun, TurnsRun, Follows, Settles, SettlesBy, Steps}
use Rattle.stateful_exec_tables.specs.Keeping.{there, added, missed}
use Rattle.stateful_exec_tables.specs.Tables.{released}
use Rattle.stateful_exec_tables.specs.Fetching.{Fetches, with_block}
use Rattle.stateful_exec_model.specs.Fetching.{serving, IsFetched, found, waits, declines, dead}
use Rattle.stateful_exec_tables.specs.Cancelling.{Cancels}
use Rattle.stateful_exec_tables.specs.Cancelling.{idle, withdraws, leaves, ends, unqueued}
use Rattle.stateful_exec_model.specs.Moments.{Moment}
use Rattle.stateful_exec_walk.specs.Path.{Path}
use Rattle.stateful_exec_tables.specs.Pausing.{Pauses}
use Rattle.stateful_exec_model.specs.Pausing.{GoesAlong, AcquiresAnew, unparked, unsettled, Resumes}
use Rattle.stateful_exec_tables.specs.Phase.{is_on, released_on, parked_path, parked_in, is_unacquired, unacquired_in}
use Rattle.stateful_exec_tables.specs.Tables.{taken, requested}
use Rattle.stateful_exec_model.specs.Workings.{Workings}
use Rattle.stateful_exec_walk.specs.declared.request.Verdict.TheVariants.{Invalid}
use Rattle.stateful_exec_tables.specs.declared.state.Tables.{Tables}
use Rattle.stateful_exec_tables.specs.declared.tables.Phase.TheVariants.{Waiting, Executing}
use Rattle.stateful_exec_tables.specs.declared.tables.Requested.{Requested}
use Rattle.stateful_exec_laws.specs.Building.{IsElsewhere}
use Rattle.stateful_exec_laws.proofs.runs.Removing.{none_at}
use Rattle.stateful_exec_laws.proofs.ended.Kept.{Any-more}
use Rattle.stateful_exec_laws.proofs.ended.Left.{All-released}
use Rattle.stateful_exec_laws.proofs.ended.FollowStands.{ticket_of}
use Rattle.stateful_exec_laws.proofs.requests.Parked.{All-parked}
use Rattle.stateful_exec_laws.proofs.pauses.Passing.{IsBeside, PassesBy, AreDrawn, PassesBy-same, PassesBy-then, still_drawn, one_beside, PassesBy-concludes, PassesBy-put, PassesBy-advances, PassesBy-acquires, PassesBy-follows, PassesBy-in_turn}
use Rattle.stateful_exec_laws.proofs.pauses.Tables.{at_dropped, undone}

module _ {V : Type 0} where
  -- what isn't there isn't among those that are kept
  pub none_kept : (keep : ℕ × V → Bool) (es : List (ℕ × V)) (t : ℕ) → at es t ≡ None → at (filter keep es) t ≡ None
  none_kept keep [] t none = refl
  none_kept keep (e ∷ es) t none = go (e.0 == t) refl (keep e) refl (none_kept keep es t)
    where
      go : (b : Bool) → (e.0 == t) ≡ b → (k : Bool) → keep e ≡ k → (at es t ≡ None → at (filter keep es) t ≡ None) → at (filter keep (e ∷ es)) t ≡ None
      go true is k kept rest = let no : Some e.1 ≡ None = rw (is_at_number t e.0 ∙ is) at none in absurd (cc)
      go false is true kept rest = rw (kept, is_at_number t e.0 ∙ is) (rest (rw (is_at_number t e.0 ∙ is) at none))
      go false is false kept rest = rw kept (rest (rw (is_at_number t e.0 ∙ is) at none))

  -- each entry is of another number than one that isn't there
  pub entries_other : (T : ℕ → Type 0) (es : List (ℕ × V)) → ((t : ℕ) → T t → at es t ≡ None) → All (λ e. T e.0 → ⊥) es
  entries_other T es absent k d l own = none_at es _ (absent _ own) k d l refl

module _ {B C I P R D H G U : Type 0} (w : Workings B C I P R D H G U) (Job Ticket : ℕ → Type 0) where
  -- other requests than these are in the tables
  abbrev pub AreElsewhere : Moment w → Type 0
  AreElsewhere m = (t : ℕ) → Ticket t → IsElsewhere m.state t

  still_elsewhere : (m now : Moment w) → PassesBy w Job Ticket m now → AreElsewhere m → AreElsewhere now
  still_elsewhere m now f out t own = f.elsewhere t own (out t own)

  -- some requests are taken out, and execution is paused so
  PassesBy-kept : (m : Moment w) (keep : ℕ × Requested B C I → Bool) (now : Moment w) → now ≡ record m { state = record m.state { requests = filter keep m.state.requests; pause = now.state.pause } } → PassesBy w Job Ticket m now
  PassesBy-kept m keep now is = rw is (record {
    more = [];
    marks_are = sym (append-nil m.marks);
    beside = All-nil (λ x. IsBeside Job Ticket x);
    anchor = refl;
    grows = λ d h. h;
    elsewhere = λ t own h. record { absent = none_kept keep m.state.requests t h.absent; not_queued = h.not_queued };
    ids = λ c h. h;
    jobs = omega arith;
  })

  told_grows : (m : Moment w) (b : Named B) {o : Option U} {how : How} (new : List (Cached U)) → IsTold w m.state.anchor b m.state.cache new o how → (d : Digest) → IsIn m.state.cache d → IsIn new d
  told_grows m b new (rejected is) d h = rw is h
  told_grows m b new (mismatched differs is) d h = rw is h
  told_grows m b new (agreed agrees (there a is)) d h = rw is h
  told_grows m b new (agreed agrees (missed out why is)) d h = rw is h
  told_grows m b new (agreed agrees (added out later at_hand is)) d h = rw is (Any-more (λ (c : Cached U). c.digest ≡ d) m.state.cache _ h)

  -- the end of the run of another job
  pub PassesBy-ends : (m now : Moment w) (j : ℕ) (b : Named B) (o : Option U) (how : How) → (Job j → ⊥) → EndsRun w m j b o how now → PassesBy w Job Ticket m now
  PassesBy-ends m now j b o how other ends_so =
      let grows = told_grows m b ends_so.cache ends_so.told in
      rw ends_so.becomes (record {
        more = _;
        marks_are = refl;
        beside = one_beside w Job Ticket (Ended j how) other;
        anchor = refl;
        grows = grows;
        elsewhere = λ t own h. record { absent = h.absent; not_queued = h.not_queued };
        ids = λ c h. h;
        jobs = omega arith;
      })

  -- and what follows it
  pub PassesBy-follow : (done last : Moment w) (j : ℕ) (b : Named B) (how : How) → AreDrawn w Job Ticket done → AreElsewhere done → InTurn (Follows w b how) (released_on j done.state.requests) (record done { state = released j done.state }) last → PassesBy w Job Ticket done last
  PassesBy-follow done last j b how drawn out rules =
      let mid : Moment w = record done { state = released j done.state } in
      PassesBy-then w Job Ticket done mid last (PassesBy-kept done (λ e. not (is_on j e.1.phase)) mid refl)
      (PassesBy-in_turn w Job Ticket (Follows w b how) ticket_of (λ r m now. PassesBy-follows w Job Ticket b how r m now) (released_on j done.state.requests) mid last drawn
      (All-released j (λ r. Ticket r.ticket → ⊥) done.state.requests (λ k d l path is. entries_other Ticket done.state.requests (λ t own. (out t own).absent) k d l)) rules)

  pub PassesBy-settles : (m now : Moment w) (j : ℕ) (o : Option U) → (Job j → ⊥) → AreDrawn w Job Ticket m → AreElsewhere m → Settles w m j o now → PassesBy w Job Ticket m now
  PassesBy-settles m now j o other drawn out settles =
      let first : PassesBy w Job Ticket m settles.done = PassesBy-ends m settles.done j settles.block o settles.how other settles.ends in
      PassesBy-then w Job Ticket m settles.done now first (PassesBy-follow settles.done now j settles.block settles.how (still_drawn w Job Ticket m settles.done first drawn) (still_elsewhere m settles.done first out) settles.follow)

  -- a turn of a run of another job, and what its answer leads to
  pub PassesBy-steps : (count : R → ℕ) (m now : Moment w) (j : ℕ) → (Job j → ⊥) → AreDrawn w Job Ticket m → AreElsewhere m → Steps w count m j now → PassesBy w Job Ticket m now
  PassesBy-steps count m now j other drawn out steps = by steps.running steps.answer steps.turns steps.settles
    where
      turned : (running : Tables B C I R U) (answer : Result (Moved (Option U)) AppFault) → TurnsRun w count m.members j m.state running answer → PassesBy w Job Ticket m (record m { state = running })
      turned running answer turns = rw turns.state (record {
        more = [];
        marks_are = sym (append-nil m.marks);
        beside = All-nil (λ x. IsBeside Job Ticket x);
        anchor = refl;
        grows = λ d h. h;
        elsewhere = λ t own h. record { absent = h.absent; not_queued = h.not_queued };
        ids = λ c h. h;
        jobs = omega arith;
      })

      by : (running : Tables B C I R U) (answer : Result (Moved (Option U)) AppFault) → TurnsRun w count m.members j m.state running answer → SettlesBy w (record m { state = running }) j answer now → PassesBy w Job Ticket m now
      by running (Ok Pending) turns settles = rw settles (turned running (Ok Pending) turns)
      by running (Ok (Done o)) turns settles =
          let first : PassesBy w Job Ticket m (record m { state = running }) = turned running (Ok (Done o)) turns in
          PassesBy-then w Job Ticket m (record m { state = running }) now first
          (PassesBy-settles (record m { state = running }) now j o other (still_drawn w Job Ticket m (record m { state = running }) first drawn) (still_elsewhere m (record m { state = running }) first out) settles)
      by running (Err fault) turns settles = absurd settles

  -- a resume
  pub PassesBy-resumes : (stored_now : ℕ → Option (Named B)) (m now : Moment w) → AreDrawn w Job Ticket m → AreElsewhere m → Resumes w stored_now m now → PassesBy w Job Ticket m now
  PassesBy-resumes stored_now m now drawn out r =
      let first : PassesBy w Job Ticket m (unparked w m) = PassesBy-kept m (λ e. is_none (parked_path e.1.phase)) (unparked w m) refl in
      let along : PassesBy w Job Ticket (unparked w m) r.mid =
      PassesBy-in_turn w Job Ticket (GoesAlong w) ticket_of (λ x n l d o. PassesBy-advances w Job Ticket n l x.ticket (requested x.request) x.path d o) (parked_in m.state.requests) (unparked w m) r.mid drawn
      (All-parked (λ x. Ticket x.ticket → ⊥) m.state.requests (λ k d l path is. entries_other Ticket m.state.requests (λ t own. (out t own).absent) k d l)) r.along in
      let middle : PassesBy w Job Ticket m r.mid = PassesBy-then w Job Ticket m (unparked w m) r.mid first along in
      let second : PassesBy w Job Ticket r.mid (unsettled w r.mid) = PassesBy-kept r.mid (λ e. not (is_unacquired e.1.phase)) (unsettled w r.mid) refl in
      let anew : PassesBy w Job Ticket (unsettled w r.mid) now =
      PassesBy-in_turn w Job Ticket (AcquiresAnew w stored_now) (λ e. e.0) (λ e n l d o. PassesBy-acquires w Job Ticket stored_now n l e.0 (requested e.1.request) d o) (unacquired_in r.mid.state.requests) (unsettled w r.mid) now
      (still_drawn w Job Ticket m r.mid middle drawn)
      (All-filter (λ (e : ℕ × Requested B C I). is_unacquired e.1.phase) (λ e. Ticket e.0 → ⊥) r.mid.state.requests (entries_other Ticket r.mid.state.requests (λ t own. (middle.elsewhere t own (out t own)).absent))) r.anew in
      PassesBy-then w Job Ticket m r.mid now middle (PassesBy-then w Job Ticket r.mid (unsettled w r.mid) now second anew)

  -- the answer of a fetch
  pub PassesBy-fetched : (stored_now : ℕ → Option (Named B)) (m now : Moment w) (fetch : ℕ) (answer : Option (Named B)) → AreDrawn w Job Ticket m → AreElsewhere m → IsFetched w stored_now m fetch answer now → PassesBy w Job Ticket m now
  PassesBy-fetched stored_now m now fetch answer drawn out fetched = by fetched
    where
      off : (t : ℕ) (r : Requested B C I) → Fetches m.state fetch t r → Ticket t → ⊥
      off t r f own = let no : Some r ≡ None = sym f.there ∙ (out t own).absent in absurd (cc)

      served : (t : ℕ) → PassesBy w Job Ticket m (serving w m t)
      served t = PassesBy-kept m (λ e. not (e.0 == t)) (serving w m t) refl

      by : IsFetched w stored_now m fetch answer now → PassesBy w Job Ticket m now
      by (found t r b f is acquires) = PassesBy-then w Job Ticket m (serving w m t) now (served t) (PassesBy-acquires w Job Ticket stored_now (serving w m t) now t (with_block r b) drawn (off t r f) acquires)
      by (waits t r f is verification becomes) = PassesBy-then w Job Ticket m (serving w m t) now (served t) (PassesBy-put w Job Ticket (serving w m t) now t r Waiting (off t r f) becomes)
      by (declines t r f is proposal concludes) = PassesBy-then w Job Ticket m (serving w m t) now (served t) (PassesBy-concludes w Job Ticket (serving w m t) now t r Invalid (off t r f) concludes)
      by (dead none is) = rw is (PassesBy-same w Job Ticket m)

  -- the cancel of another request
  module _ (m : Moment w) (t : ℕ) (other : Ticket t → ⊥) where
    taken_so : (marks : List (Mark B)) → All (IsBeside Job Ticket) marks → PassesBy w Job Ticket m (record m { state = taken m.state t; marks = m.marks ++ marks })
    taken_so marks beside = record {
      more = marks;
      marks_are = refl;
      beside = beside;
      anchor = refl;
      grows = λ d h. h;
      elsewhere = λ k own h. record { absent = none_kept (λ e. not (e.0 == t)) m.state.requests k h.absent; not_queued = h.not_queued };
      ids = λ c h. h;
      jobs = omega arith;
    }

    pub PassesBy-cancels : ((r : Requested B C I) (j : ℕ) (path : Path B) → at m.state.requests t ≡ Some r → r.phase ≡ Executing j path → Job j → ⊥) → (new : Tables B C I R U) (marks : List (Mark B)) → Cancels m.state new t marks
        → PassesBy w Job Ticket m (record m { state = new; marks = m.marks ++ marks })
    PassesBy-cancels runs new marks (idle r found_at is_idle new_is marks_is) = rw (new_is, marks_is) (taken_so [] (All-nil (λ x. IsBeside Job Ticket x)))
    PassesBy-cancels runs new marks (withdraws r f fetches new_is marks_is) = rw (new_is, marks_is) (taken_so _ (one_beside w Job Ticket (Withdrawn f) tt))
    PassesBy-cancels runs new marks (leaves r j path found_at executing others new_is marks_is) = rw (new_is, marks_is) (taken_so [] (All-nil (λ x. IsBeside Job Ticket x)))
    PassesBy-cancels runs new marks (ends r j path found_at executing last new_is marks_is) =
        let s : PassesBy w Job Ticket m (record m { state = taken m.state t; marks = m.marks ++ Ended j Cancelled ∷ [] }) = taken_so _ (one_beside w Job Ticket (Ended j Cancelled) (runs r j path found_at executing)) in
        rw (new_is, marks_is) (record { more = s.more; marks_are = s.marks_are; beside = s.beside; anchor = s.anchor; grows = s.grows; elsewhere = λ k own h. let e = s.elsewhere k own h in record { absent = e.absent; not_queued = e.not_queued }; ids = s.ids; jobs = s.jobs })
    PassesBy-cancels runs new marks (unqueued none new_is marks_is) = rw (new_is, marks_is) (record {
      more = [];
      marks_are = refl;
      beside = All-nil (λ x. IsBeside Job Ticket x);
      anchor = refl;
      grows = λ d h. h;
      elsewhere = λ k own h. record { absent = none_kept (λ e. not (e.0 == t)) m.state.requests k h.absent; not_queued = none_kept (λ e. not (e.0 == t)) m.state.queued k h.not_queued };
      ids = λ c h. h;
      jobs = omega arith;
    })

  -- the begin of a pause
  pub PassesBy-pauses : (m : Moment w) (boundary : Option Boundary) (new : Tables B C I R U) (marks : List (Mark B)) → Pauses boundary m.state new marks → PassesBy w Job Ticket m (record m { state = new; marks = m.marks ++ marks })
  PassesBy-pauses m boundary new marks pauses = rw (pauses.state, pauses.marks_are) (record {
    more = map (λ f. Withdrawn f) pauses.fetches;
    marks_are = refl;
    beside = All-map (λ (x : Mark B). IsBeside Job Ticket x) (λ f. Withdrawn f) pauses.fetches (λ k d l. tt);
    anchor = refl;
    grows = λ d h. h;
    elsewhere = λ t own h. record { absent = at_dropped m.state.requests t ∙ ap (λ o. option_map undone o) h.absent; not_queued = h.not_queued };
    ids = λ c h. h;
    jobs = omega arith;
  })
