-- The tables stand behind the requests that acquire anew what they need.
use Rattle.std.proofs.Common.{◌≡◌, ◌≢◌, ◌++◌, ◌∙◌, ap, subst, not, ℕ, arith, get_or, true, false, List, [], ◌∷◌, All, AllPairs, Option, Some, refl, sym}
use Rattle.std.specs.Map.{keys_of}
use Rattle.std.specs.List.Sorted.{IsStrictlySortedBy}
use Rattle.std.specs.Ordering.{nat_cmp}
use Rattle.std.proofs.lemmas.List.{append_assoc}
use Rattle.std.proofs.lemmas.List.Elements.{All-nil, All-filter, filter_passes}
use Rattle.std.proofs.lemmas.List.Kept.{AllPairs-cons, AllPairs-filter}
use Rattle.std.proofs.lemmas.Map.Keys.{sorted_head, sorted_tail}
use Rattle.stateful_base.specs.Names.{Named}
use Rattle.stateful_base.specs.declared.digest.Digest.{Digest}
use Rattle.stateful_history.specs.Past.{Past, after}
use Rattle.stateful_history.specs.Fetches.{Abstains}
use Rattle.stateful_history.specs.Met.{Met, TrueNames}
use Rattle.stateful_history.proofs.Marks.{after-append}
use Rattle.stateful_table.specs.Table.{at}
use Rattle.stateful_exec_model.specs.Ending.{InTurn}
use Rattle.stateful_exec_model.specs.Moments.{Moment}
use Rattle.stateful_exec_model.specs.Pausing.{AcquiresAnew, Resumes, unparked, unsettled}
use Rattle.stateful_exec_tables.specs.Phase.{is_unacquired, unacquired_in, not_unacquired}
use Rattle.stateful_exec_tables.specs.Tables.{requested}
use Rattle.stateful_exec_model.specs.Rules.{Needs}
use Rattle.stateful_exec_model.specs.Workings.{Workings, Point}
use Rattle.stateful_exec_pause.specs.declared.pause.Pause.TheVariants.{Free}
use Rattle.stateful_exec_walk.specs.declared.request.Request.{Request}
use Rattle.stateful_exec_tables.specs.declared.tables.Requested.{Requested}
use Rattle.stateful_exec_walk.specs.declared.walk.Acquired.TheVariants as acquired
use Rattle.stateful_exec_laws.specs.Setting.{setting}
use Rattle.stateful_exec_laws.specs.Requesting.{AllAbstain, first_of, IsStanding}
use Rattle.stateful_exec_laws.specs.Standing.{TablesStand, StandsBehind}
use Rattle.stateful_exec_laws.proofs.requests.Acquired.{Serves-acquires}
use Rattle.stateful_exec_laws.proofs.earned.Left.{LeavesBehind-acquires}
use Rattle.stateful_exec_laws.proofs.ended.Left.{at_below, each_at}
use Rattle.stateful_exec_laws.proofs.ended.FollowStands.{below_apart}
use Rattle.stateful_exec_laws.proofs.pauses.InTurn.{IsReady, AreServed, IsFit, AreServed-each}
use Rattle.stateful_exec_laws.proofs.requests.Parked.{at_kept, TablesStand-kept}
use Rattle.stateful_exec_laws.proofs.pauses.ResumeStands.{AreServed-along}
use Rattle.stateful_exec_laws.proofs.requests.Served.{Serves}

-- entries of a table are of different numbers
pub entries_apart : {V : Type 0} (es : List (ℕ × V)) → IsStrictlySortedBy nat_cmp (keys_of es) → AllPairs (λ e f. e.0 ≢ f.0) es
entries_apart [] sorted = λ i j d lt within. let no : ⊥ = omega (arith, within) in absurd no
entries_apart {V = V} (e ∷ es) sorted = AllPairs-cons (λ (e f : ℕ × V). e.0 ≢ f.0) e es
    (λ k d l. below_apart e.0 (get_or es k d).0 (at_below e.0 es (get_or es k d).0 (get_or es k d).1 (sorted_head nat_cmp e.0 (keys_of es) sorted) (each_at es (sorted_tail nat_cmp e.0 (keys_of es) sorted) k d l)))
    (entries_apart es (sorted_tail nat_cmp e.0 (keys_of es) sorted))

module _ {B C I P R D H G U : Type 0} (w : Workings B C I P R D H G U) (stored held : ℕ → Option (Named B)) (points : Digest → Point w) (point : Point w)
    (other_states : (n i : w.Ids) (x y : w.States) (c : List (Point w)) → w.kind.issued n ((i, x) ∷ c) → w.kind.issued n ((i, y) ∷ c)) where
  abbrev ticket_at : ℕ × Requested B C I → ℕ
  ticket_at e = e.0

  abbrev request_at : ℕ × Requested B C I → Request B C I
  request_at e = e.1.request

  -- a request that would have to wait waits for nothing that was begun
  abbrev pub MayWait : Past B C I → Moment w → ℕ × Requested B C I → Type 0
  MayWait p m e = Needs w held m (requested e.1.request) acquired.Waits → Abstains (setting w stored) e.0 p (first_of e.1.request)

  serves_anew : (p : Past B C I) (m now : Moment w) (e : ℕ × Requested B C I) → IsReady w stored points point p m → IsFit w stored points point ticket_at request_at MayWait p m e → AcquiresAnew w held e m now
      → Serves w stored p points point m e.0 now
  serves_anew p m now e ready fit acquires =
      Serves-acquires w stored p points point m ready.stands e.0 (requested e.1.request) fit.hand ready.names other_states ready.located ready.drawn (All-nil (Met (setting w stored) p)) held fit.fits now acquires

  may_still_wait : (p : Past B C I) (m now : Moment w) (e : ℕ × Requested B C I) → AcquiresAnew w held e m now → (v : Serves w stored p points point m e.0 now) (y : ℕ × Requested B C I) → MayWait p m y → MayWait (after p v.behind.more) now y
  may_still_wait p m now e acquires v y may needs =
      let left = (LeavesBehind-acquires w held m now e.0 (requested e.1.request) acquires).left in
      v.abstains y.0 (first_of y.1.request) (may (rw (sym left.anchor, sym left.cache) needs))

  module _ (p : Past B C I) (m : Moment w) (s : TablesStand w stored p points point m.next m.state) (may : All (MayWait p (unsettled w m)) (unacquired_in m.state.requests)) where
    -- they are taken out, and in hand
    pub out : All (IsFit w stored points point ticket_at request_at MayWait p (unsettled w m)) (unacquired_in m.state.requests)
    out = λ k d l.
        let e = get_or (unacquired_in m.state.requests) k d in
        let unacquired = filter_passes (λ (x : ℕ × Requested B C I). is_unacquired x.1.phase) m.state.requests k d l in
        let standing = All-filter (λ (x : ℕ × Requested B C I). is_unacquired x.1.phase) (λ x. IsStanding w stored p m.state.runs x.0 x.1) m.state.requests s.requests.each k d l in
        let there = All-filter (λ (x : ℕ × Requested B C I). is_unacquired x.1.phase) (λ x. at m.state.requests x.0 ≡ Some x.1) m.state.requests (each_at m.state.requests s.requests.ascending) k d l in
        let leaves : not (is_unacquired e.1.phase) ≡ false = rw unacquired refl in
        record {
          hand = record {
            absent = rw (at_kept (λ phase. not (is_unacquired phase)) (λ j way. refl) (λ f. refl) m.state.requests e.0 s.requests.ascending, there, leaves) refl;
            not_queued = s.once e.0 (rw there refl);
            own = standing.own;
            brought = standing.brought;
            asked = standing.asked;
          };
          fits = may k d l;
        }

    -- all of them are served
    pub AreServed-anew : TrueNames (setting w stored) p → w.kind.point m.members ≡ Some point → w.kind.issued m.next (point ∷ []) → (last : Moment w)
        → InTurn (AcquiresAnew w held) (unacquired_in m.state.requests) (unsettled w m) last → AreServed w stored points point p (unsettled w m) last
    AreServed-anew names located drawn last rules =
        AreServed-each w stored points point ticket_at request_at MayWait (AcquiresAnew w held) serves_anew may_still_wait (unacquired_in m.state.requests) p (unsettled w m) last
        (record {
          stands = TablesStand-kept (λ phase. not (is_unacquired phase)) (λ j way. refl) (λ f. refl) w stored p points point m.next m.state s;
          names = names;
          located = located;
          drawn = drawn;
        })
        out (AllPairs-filter (λ (e f : ℕ × Requested B C I). e.0 ≢ f.0) (λ e. is_unacquired e.1.phase) m.state.requests (entries_apart m.state.requests s.requests.ascending)) rules

  -- The tables stand after a resume, and each request that waits abstains.
  pub record IsResumed (p : Past B C I) (m now : Moment w) : Type 0 where
    pub behind : StandsBehind w stored p points point m now
    pub abstain : AllAbstain w stored (after p behind.more) now.state.requests

  -- no request waits where those are taken out that are to acquire anew what they need
  none_waits : (p : Past B C I) (requests : List (ℕ × Requested B C I)) → AllAbstain w stored p (not_unacquired requests)
  none_waits p requests k d l is =
      let stays : not (is_unacquired (get_or (not_unacquired requests) k d).1.phase) ≡ true = filter_passes (λ (x : ℕ × Requested B C I). not (is_unacquired x.1.phase)) requests k d l in
      let no : not true ≡ true = subst (λ phase. not (is_unacquired phase) ≡ true) is stays in absurd (cc)

  -- The tables stand after a resume: where they stand without a pause, and what would have to wait in the middle of it waits for
  -- nothing that was begun.
  pub IsResumed-by : (p : Past B C I) (m now : Moment w) → TablesStand w stored p points point m.next (record m.state { pause = Free }) → TrueNames (setting w stored) p → w.kind.point m.members ≡ Some point → w.kind.issued m.next (point ∷ [])
      → (r : Resumes w held m now) → ((first : AreServed w stored points point p (unparked w m) r.mid) → All (MayWait (after p first.behind.more) (unsettled w r.mid)) (unacquired_in r.mid.state.requests))
      → IsResumed p m now
  IsResumed-by p m now s names located drawn r may =
      let first = AreServed-along w stored points point other_states p m s names located drawn r.mid r.along in
      let q = after p first.behind.more in
      let ready = first.ready in
      let second = AreServed-anew q r.mid ready.stands (may first) ready.names ready.located ready.drawn now r.anew in
      let abstain : AllAbstain w stored (after p (first.behind.more ++ second.behind.more)) now.state.requests =
      rw (after-append p first.behind.more second.behind.more) (second.behind.waiting (none_waits q r.mid.state.requests)) in
      record {
        behind = record {
          more = first.behind.more ++ second.behind.more;
          marks_are = second.behind.marks_are ∙ ap (λ marks. marks ++ second.behind.more) first.behind.marks_are ∙ append_assoc m.marks first.behind.more second.behind.more;
          members_are = second.behind.members_are ∙ first.behind.members_are;
          stands = rw (after-append p first.behind.more second.behind.more) second.behind.stands;
          waiting = λ any. abstain;
        };
        abstain = abstain;
      }
