-- Marks are in their places: those of a request that follows the end of the run that it waited for, whatever execution is paused for.
use Rattle.std.proofs.Common.{◌≡◌, ◌≢◌, ◌⊎◌, ◌++◌, inl, inr, ℕ, false, List, [], ◌∷◌, All, Option, refl, sym, ap, ◌∙◌, subst}
use Rattle.std.proofs.lemmas.List.{append_assoc, append_cancel_left}
use Rattle.std.proofs.lemmas.List.Elements.{All-head}
use Rattle.stateful_base.specs.Names.{Named}
use Rattle.stateful_base.specs.declared.digest.Digest.{Digest}
use Rattle.stateful_history.specs.Answers.{was_cancelled}
use Rattle.stateful_history.specs.Known.{Known, IsUnknown}
use Rattle.stateful_history.specs.Met.{Met}
use Rattle.stateful_history.specs.Past.{Past, after}
use Rattle.stateful_history.specs.Requests.{StandsOn}
use Rattle.stateful_history.specs.Runs.{MayRun, MayRunAgain}
use Rattle.stateful_history.specs.declared.mark.How.{How}
use Rattle.stateful_history.specs.declared.mark.Mark.{Mark}
use Rattle.stateful_exec_cache.specs.Cache.{IsIn, IsAtHand}
use Rattle.stateful_exec_pause.specs.Fates.{IsGivenUp, AwaitsBoundary}
use Rattle.stateful_exec_model.specs.Ending.{Follows, given_up, at_boundary, failed, parked, goes_on}
use Rattle.stateful_exec_model.specs.Moments.{Moment}
use Rattle.stateful_exec_walk.specs.Path.{Path}
use Rattle.stateful_exec_tables.specs.Meeting.{GoesOn, IsPassed, first_or}
use Rattle.stateful_exec_tables.specs.Meeting.{Reaches}
use Rattle.stateful_exec_model.specs.Rules.{Concludes, Advances, arrives, leaves, joins, starts, misses}
use Rattle.stateful_exec_tables.specs.Tables.{RunsNone, Knows, told, requested}
use Rattle.stateful_exec_model.specs.Workings.{Workings, Point}
use Rattle.stateful_exec_pause.specs.declared.pause.Pause.{Pause}
use Rattle.stateful_exec_pause.specs.declared.pause.Pause.TheVariants.{Free, Finalizing, Pruning}
use Rattle.stateful_exec_walk.specs.declared.request.Request.{Request}
use Rattle.stateful_exec_walk.specs.declared.request.Request.TheVariants.{Verify, Recover}
use Rattle.stateful_exec_walk.specs.declared.request.Verdict.TheVariants as verdict
use Rattle.stateful_exec_tables.specs.declared.tables.Released.{Released}
use Rattle.stateful_exec_tables.specs.declared.tables.Requested.{Requested}
use Rattle.stateful_exec_laws.specs.Caching.{CacheStands}
use Rattle.stateful_exec_laws.specs.Crossing.{HasMovedSo}
use Rattle.stateful_exec_laws.specs.Orderly.{IsOrderly, IsUncancelled}
use Rattle.stateful_exec_laws.specs.Outstanding.{TicketsApart}
use Rattle.stateful_exec_laws.specs.Requesting.{steps, IsRequestOf, IsWayOf}
use Rattle.stateful_exec_laws.specs.Setting.{setting}
use Rattle.stateful_exec_laws.specs.Ways.{KeepOff}
use Rattle.stateful_exec_laws.proofs.requests.AdvanceStands.{All-front, All-back, reached_met, reached_child, reached_way}
use Rattle.stateful_exec_laws.proofs.earned.InTurn.{All-last}
use Rattle.stateful_exec_laws.proofs.ended.Points.{same_or_not}
use Rattle.stateful_exec_laws.proofs.ended.FollowStands.{ticket_of, request_of, path_of}
use Rattle.stateful_exec_laws.proofs.pauses.InTurn.{IsReady, IsOnWay}
use Rattle.stateful_exec_laws.proofs.requests.KeptMarks.{KeepsBehind, EachMark-behind}
use Rattle.stateful_exec_laws.proofs.front.MovedStands.{known_moved}
use Rattle.stateful_exec_laws.proofs.linked.OnPath.{StandsOn-way}
use Rattle.stateful_exec_laws.proofs.places.Marks.{started-next, concludes-in_place}
use Rattle.stateful_exec_laws.proofs.places.Starts.{live-request, alone-run}
use Rattle.stateful_exec_laws.proofs.requests.ServedMarks.{IsServedBy, AreServedBy, follows-marks, TicketsApart-after, IsUncancelled-served, Known-before_served}
use Rattle.stateful_exec_laws.proofs.runs.SpentRuns.{MayRunAgain-served, MayRunAgain-ended}
use Rattle.stateful_loop_laws.specs.Places.{IsInPlace}
use Rattle.stateful_loop_laws.proofs.earned.Off.{passed-off, kept-known}
use Rattle.stateful_loop_laws.proofs.earned.Turned.{IsOpen}

module _ {B C I P R D H G U : Type 0} (w : Workings B C I P R D H G U) (stored : ℕ → Option (Named B)) where
  -- A past is in order but for a block, as long as that isn't known: a ticket is that of one event, no live request was cancelled,
  -- and a run of another block that ended in vain is started again only for another request.
  pub record IsOrderlyBut (b : Named B) (p : Past B C I) : Type 0 where
    pub apart : TicketsApart p
    pub live : IsUncancelled p
    pub again : (d : Digest) → (d ≢ b.digest) ⊎ Known (setting w stored) p b.digest → MayRunAgain (setting w stored) p d

  pub IsOrderly-weaker : (b : Named B) (p : Past B C I) → IsOrderly w stored p → IsOrderlyBut b p
  IsOrderly-weaker b p o = record { apart = o.apart; live = o.live; again = λ d may. o.again d }

module _ {B C I P R D H G U : Type 0} (w : Workings B C I P R D H G U) (stored : ℕ → Option (Named B)) (base : w.States)
    (points : Digest → Point w) (point : Point w) (p : Past B C I) (m : Moment w) (ready : IsReady w stored points point p m)
    (free_way : IsOpen m.state) where
  known_at : HasMovedSo m.state → (d : Digest) → IsAtHand m.state.anchor m.state.cache d → Known (setting w stored) p d
  known_at h d here =
      ((subst (λ (x : Pause). CacheStands w stored p points m.next m.state.anchor x m.state.cache) h.pause_is ready.stands.cache).knows d).1
      ((known_moved m.state.anchor m.state.cache h.boundary h.moved d).1 here)

  -- what is passed is known, where it isn't the anchor
  passed_known : (c : Named B) → Met (setting w stored) p c → c.digest ≢ m.state.anchor.digest → IsPassed w.header m.state c
      → Known (setting w stored) p c.digest
  passed_known c met other passed = go free_way
    where
      go : IsOpen m.state → Known (setting w stored) p c.digest
      go (inl closed) = passed-off w stored p ready.names points m.next m.state.anchor m.state.cache c met m.state.pause ready.stands.cache closed
          other passed.0 passed.1
      go (inr moved) = known_at moved c.digest passed.1

  -- what goes on and isn't at hand isn't known
  unknown_by : (pause : Pause) → CacheStands w stored p points m.next m.state.anchor pause m.state.cache → (c : Named B) → GoesOn w.header pause c
      → (IsAtHand m.state.anchor m.state.cache c.digest → ⊥) → IsUnknown (setting w stored) p c.digest
  unknown_by Free s c on out known = out ((s.knows c.digest).0 known)
  unknown_by Pruning s c on out known = out ((s.knows c.digest).0 known)
  unknown_by (Finalizing boundary) s c on out known =
      elim ((s.knows c.digest).0 known) [ inl own ↦ on.other own | inr both ↦ out (inr both.0) ]

  -- a block is known and at hand
  abbrev IsHere : Named B → Type 0
  IsHere c = Known (setting w stored) p c.digest × IsAtHand m.state.anchor m.state.cache c.digest

  module _ (t : ℕ) (r : Requested B C I) (asked : IsRequestOf w stored p t r.request) (path : Path B) (way : IsWayOf w stored p r.request path)
      (off : KeepOff m.state.anchor (steps path)) (parent : IsHere path.parent) (apart : TicketsApart p)
      (again : (d : Digest) → MayRunAgain (setting w stored) p d) (uncancelled : was_cancelled t p ≡ false) where
    passed_here : (passed : List (Named B)) → All (IsPassed w.header m.state) passed → All (Met (setting w stored) p) passed
        → KeepOff m.state.anchor passed → IsHere (first_or path.parent passed)
    passed_here [] each met out = parent
    passed_here (z ∷ passed) each met out =
        let on : IsPassed w.header m.state z = All-head (IsPassed w.header m.state) z passed each in (
          passed_known z (All-head (Met (setting w stored) p) z passed met) (All-head (λ x. x.digest ≢ m.state.anchor.digest) z passed out) on,
          on.1,
        )

    -- what holds of each block of the path does so of those that are passed
    of_passed : (Q : Named B → Type 0) (left : List (Named B)) (b c : Named B) (reaches : Reaches w.header m.state path left b c)
        → All Q (steps path) → All Q reaches.passed
    of_passed Q left b c reaches all =
        All-back Q (left ++ b ∷ []) reaches.passed
        (subst (λ (l : List (Named B)). All Q l) (reaches.parts ∙ sym (append_assoc left (b ∷ []) reaches.passed))
        (All-front Q path.blocks (path.parent ∷ []) all))

    -- the parent of the block that is met is known
    reached : (left : List (Named B)) (b c : Named B) → Reaches w.header m.state path left b c → IsHere c
    reached left b c reaches = subst (λ (x : Named B). IsHere x) (sym reaches.parent_is)
        (passed_here reaches.passed reaches.each (of_passed (Met (setting w stored) p) left b c reaches way.met)
        (of_passed (λ x. x.digest ≢ m.state.anchor.digest) left b c reaches off))

    -- and the block may run
    may_run : (left : List (Named B)) (b c : Named B) → Reaches w.header m.state path left b c → GoesOn w.header m.state.pause b
        → (Knows m.state b.digest → ⊥) → RunsNone m.state b.digest → MayRun (setting w stored) p b.digest
    may_run left b c reaches on unknown unrun = record {
      block = b;
      met = reached_met w stored p m.state r.request path way left b c reaches;
      is = refl;
      unknown = unknown_by m.state.pause ready.stands.cache b on unknown;
      parent = subst (λ (d : Digest). Known (setting w stored) p d)
          (reached_child w stored p m.state r.request path way left b c reaches) (reached left b c reaches).0;
      alone = alone-run w stored p points m.next m.state.anchor m.state.cache m.state.runs ready.stands.runs b.digest unrun;
      ticket = t;
      wanted = live-request w stored p t r.request asked;
      stands = StandsOn-way w stored p apart t r.request (record { blocks = left; parent = b }) asked
          (reached_way w stored p m.state r.request path way left b c reaches);
      again = again b.digest;
    }

    -- a request goes along its path on a known parent
    along : (now : Moment w) → Advances w m t r path now → KeepsBehind w (IsInPlace w stored base) p m now
    along now (arrives all concludes) = concludes-in_place w stored base p m t r verdict.Valid now asked uncancelled concludes
    along now (leaves reaches out concludes) = concludes-in_place w stored base p m t r verdict.Invalid now asked uncancelled concludes
    along now (joins j reaches on unknown has becomes) = rw becomes (record { more = []; marks_are = refl; each = tt })
    along now (starts {left = left} {b = b} {parent = c} reaches on unknown unrun known launches) = record {
      more = _;
      marks_are = launches.marks;
      each = (
        (tt, started-next p m.state.next_job m.state.next_fetch ready.stands.numbers, tt, may_run left b c reaches on unknown unrun, tt),
        tt,
      );
    }
    along now (misses reaches on unknown unrun unknown_parent concludes) =
        concludes-in_place w stored base p m t r verdict.Invalid now asked uncancelled concludes

  module _ (b : Named B) (how : How) (r : Released B C I) (on : IsOnWay w stored points point ticket_of request_of path_of p m r)
      (leads : r.path.parent ≡ b) (off : KeepOff m.state.anchor (steps r.path)) (o : IsOrderlyBut w stored b p) (now : Moment w) where
    met : Met (setting w stored) p b
    met = subst (λ (x : Named B). Met (setting w stored) p x) leads (All-last (Met (setting w stored) p) r.path.blocks r.path.parent on.way.met)

    uncancelled : was_cancelled r.ticket p ≡ false
    uncancelled = o.live r.ticket (live-request w stored p r.ticket r.request on.hand.asked)

    -- the block is known, where a request goes on, is parked or awaits the boundary
    goes_known : (IsGivenUp w.header m.state.pause b → ⊥) → IsIn m.state.cache b.digest → Known (setting w stored) p b.digest
    goes_known kept any = go free_way
      where
        go : IsOpen m.state → Known (setting w stored) p b.digest
        go (inl closed) = kept-known w stored p ready.names points m.next m.state.anchor m.state.cache b met any m.state.pause ready.stands.cache
            closed kept
        go (inr moved) = known_at moved b.digest (inr any)

    boundary_known : (pause : Pause) → CacheStands w stored p points m.next m.state.anchor pause m.state.cache → AwaitsBoundary pause b how
        → Known (setting w stored) p b.digest
    boundary_known Free s is = absurd is
    boundary_known Pruning s is = absurd is
    boundary_known (Finalizing boundary) s is = (s.knows b.digest).1 (inl is.0)

    parked_known : (pause : Pause) → CacheStands w stored p points m.next m.state.anchor pause m.state.cache → pause ≡ Pruning
        → IsIn m.state.cache b.digest → Known (setting w stored) p b.digest
    parked_known Free s is any = (s.knows b.digest).1 (inr any)
    parked_known Pruning s is any = (s.knows b.digest).1 (inr any)
    parked_known (Finalizing boundary) s is any = cc

    -- its marks are in their places
    pub follows-in_place : Follows w b how r m now → KeepsBehind w (IsInPlace w stored base) p m now
    follows-in_place (given_up out concludes) =
        concludes-in_place w stored base p m r.ticket (requested r.request) verdict.Invalid now on.hand.asked uncancelled concludes
    follows-in_place (at_boundary is becomes) = rw becomes (record { more = []; marks_are = refl; each = tt })
    follows-in_place (failed not_held out concludes) =
        concludes-in_place w stored base p m r.ticket (requested r.request) verdict.Invalid now on.hand.asked uncancelled concludes
    follows-in_place (parked pruning any becomes) = rw becomes (record { more = []; marks_are = refl; each = tt })
    follows-in_place (goes_on kept not_held other any advances) =
        let known : Known (setting w stored) p b.digest = goes_known kept any in
        along r.ticket (requested r.request) on.hand.asked r.path on.way off
        (subst (λ (x : Named B). IsHere x) (sym leads) (known, inr any)) o.apart (λ d. o.again d (inr known)) uncancelled now advances

    module _ (more : List (Mark B)) (marks_are : now.marks ≡ m.marks ++ more) (rule : Follows w b how r m now) where
      abbrev q : Past B C I
      q = after p more

      -- they are those of a request that is served
      pub follows-served : AreServedBy r.ticket p more
      follows-served = EachMark-behind w (λ (x : Past B C I) (mark : Mark B). IsServedBy r.ticket mark) p m now more marks_are
          (follows-marks w p m now b how r rule)

      orderly_where : ((d : Digest) → MayRunAgain (setting w stored) q d) → IsOrderly w stored q
      orderly_where again = record {
        apart = TicketsApart-after p more o.apart;
        live = IsUncancelled-served p r.ticket more follows-served o.live;
        again = again;
      }

      from_known : Known (setting w stored) p b.digest → IsOrderly w stored q
      from_known known = orderly_where (λ d. MayRunAgain-served (setting w stored) p r.ticket more follows-served d (o.again d (inr known)))

      -- a request that ended stands on the block
      stands_on : StandsOn (setting w stored) p r.ticket b.digest
      stands_on = subst (λ (x : Named B). StandsOn (setting w stored) p r.ticket x.digest) leads
          (StandsOn-way w stored p o.apart r.ticket r.request r.path on.hand.asked on.way)

      told_again : (request : Request B C I) → MayRunAgain (setting w stored) (after p (told r.ticket request verdict.Invalid)) b.digest
      told_again (Verify u ancestry) = MayRunAgain-ended (setting w stored) p _ b.digest r.ticket refl stands_on (λ j how e. cc)
      told_again (Recover u context ancestry input kind) =
          MayRunAgain-ended (setting w stored) p _ b.digest r.ticket refl stands_on (λ j how e. cc)

      from_ended : Concludes w m r.ticket (requested r.request) verdict.Invalid now → IsOrderly w stored q
      from_ended concludes = orderly_where again
        where
          more_is : told r.ticket r.request verdict.Invalid ≡ more
          more_is = append_cancel_left m.marks (told r.ticket r.request verdict.Invalid) more
              (sym (ap (λ (n : Moment w). n.marks) concludes) ∙ marks_are)

          again : (d : Digest) → MayRunAgain (setting w stored) q d
          again d = elim (same_or_not d b.digest) [
            | inl same ↦ subst (λ (x : Digest). MayRunAgain (setting w stored) q x) (sym same)
                (subst (λ (ms : List (Mark B)). MayRunAgain (setting w stored) (after p ms) b.digest) more_is (told_again r.request))
            | inr other ↦ MayRunAgain-served (setting w stored) p r.ticket more follows-served d (o.again d (inl other))
          ]

      -- behind them the block may be run again, too
      pub follows-orderly : IsOrderly w stored q
      follows-orderly = go rule
        where
          go : Follows w b how r m now → IsOrderly w stored q
          go (given_up out concludes) = from_ended concludes
          go (at_boundary is becomes) = from_known (boundary_known m.state.pause ready.stands.cache is)
          go (failed not_held out concludes) = from_ended concludes
          go (parked pruning any becomes) = from_known (parked_known m.state.pause ready.stands.cache pruning any)
          go (goes_on kept not_held other any advances) = from_known (goes_known kept any)
