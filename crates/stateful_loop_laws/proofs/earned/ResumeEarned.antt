-- After a resume true verdicts are earned, the ground is there, the ways stay open, no request is parked, and
-- each that waits abstains.
use Rattle.std.proofs.Common.{◌≡◌, ◌≢◌, ◌++◌, ℕ, not, get_or, List, [], ◌∷◌, All, Option, Some, refl, sym, ap, ◌∙◌, subst}
use Rattle.std.proofs.lemmas.List.{append_assoc, append_cancel_left}
use Rattle.std.proofs.lemmas.List.Elements.{All-filter, All-nil}
use Rattle.std.proofs.lemmas.List.Kept.{AllPairs-filter}
use Rattle.stateful_base.specs.Names.{Named}
use Rattle.stateful_base.specs.declared.anchor.Anchor.{Anchor}
use Rattle.stateful_base.specs.declared.digest.Digest.{Digest}
use Rattle.stateful_history.specs.Fetches.{Abstains}
use Rattle.stateful_history.specs.Joined.{TrueIsEarned}
use Rattle.stateful_history.specs.Met.{Met}
use Rattle.stateful_history.specs.Past.{Past, EachMark, after}
use Rattle.stateful_history.specs.declared.event.Event.TheVariants.{Stop}
use Rattle.stateful_history.specs.declared.mark.Mark.{Mark}
use Rattle.stateful_history.proofs.Marks.{after-append, EachMark-append}
use Rattle.stateful_exec_cache.specs.declared.cache.Cached.{Cached}
use Rattle.stateful_exec_model.specs.Ending.{InTurn}
use Rattle.stateful_exec_model.specs.Moments.{Moment}
use Rattle.stateful_exec_model.specs.Pausing.{GoesAlong, AcquiresAnew, unparked, unsettled, Resumes}
use Rattle.stateful_exec_tables.specs.Phase.{parked_in, is_unacquired, unacquired_in}
use Rattle.stateful_exec_walk.specs.Path.{Path}
use Rattle.stateful_exec_tables.specs.Tables.{requested}
use Rattle.stateful_exec_walk.specs.Walk.{IsPrepared}
use Rattle.stateful_exec_model.specs.Workings.{Workings, Point}
use Rattle.stateful_exec_pause.specs.declared.pause.Pause.{Pause}
use Rattle.stateful_exec_pause.specs.declared.pause.Pause.TheVariants.{Free}
use Rattle.stateful_exec_tables.specs.declared.tables.Phase.TheVariants.{Parked}
use Rattle.stateful_exec_tables.specs.declared.tables.Released.{Released}
use Rattle.stateful_exec_tables.specs.declared.tables.Requested.{Requested}
use Rattle.stateful_exec_walk.specs.declared.walk.Acquired.TheVariants as acquired
use Rattle.stateful_exec_laws.specs.Setting.{setting}
use Rattle.stateful_exec_laws.specs.Requesting.{first_of, AllAbstain}
use Rattle.stateful_exec_laws.specs.Standing.{TablesStand}
use Rattle.stateful_exec_laws.specs.Ways.{IsOnOpenWay, WaysStand}
use Rattle.stateful_exec_laws.proofs.requests.Acquired.{Serves-acquires}
use Rattle.stateful_exec_laws.proofs.pauses.AnewStands as anew
use Rattle.stateful_exec_laws.proofs.pauses.AnewStands.{MayWait, entries_apart, IsResumed, IsResumed-by}
use Rattle.stateful_exec_laws.proofs.earned.Acquired.{acquires-Earned}
use Rattle.stateful_exec_laws.specs.Storing.{IsStoredNow}
use Rattle.stateful_exec_laws.proofs.earned.Left.{LeavesBehind-advances, LeavesBehind-acquires}
use Rattle.stateful_exec_laws.proofs.earned.Marks.{EarnsBehind, advances-Earned}
use Rattle.stateful_exec_laws.proofs.ended.FollowStands.{ticket_of, request_of}
use Rattle.stateful_exec_laws.proofs.pauses.InTurn.{IsReady}
use Rattle.stateful_exec_laws.proofs.pauses.KeptInTurn.{IsCarried, AreGrounded, AreGrounded-in_turn}
use Rattle.stateful_exec_laws.proofs.requests.KeptMarks.{KeepsBehind, KeepsReady}
use Rattle.stateful_exec_laws.proofs.requests.Parked.{TablesStand-kept}
use Rattle.stateful_exec_laws.proofs.reasons.Ground.{IsGround}
use Rattle.stateful_exec_laws.proofs.reasons.Known.{folded_free, knows_free}
use Rattle.stateful_exec_laws.proofs.reasons.Resumed.{HasParked, HasParked-same, AreParked}
use Rattle.stateful_exec_laws.proofs.reasons.Resumes.{parked}
use Rattle.stateful_exec_laws.proofs.pauses.ResumeStands.{Serves-along}
use Rattle.stateful_exec_laws.proofs.ways.Acquired.{WaysStand-acquires}
use Rattle.stateful_exec_laws.proofs.ways.Kept.{WaysStand-advances}
use Rattle.stateful_loop_laws.specs.Ways.{ParksNone}
use Rattle.stateful_loop_laws.proofs.tickets.WaitsAbstain.{waits-Abstains}
use Rattle.stateful_loop_laws.proofs.execution.ParksNone.{ParksNone-not_parked, ParksNone-advances, ParksNone-acquires}

module _ {B C I P R D H G U : Type 0} (w : Workings B C I P R D H G U) (stored held : ℕ → Option (Named B)) (base : w.States) (tip : Anchor)
    (points : Digest → Point w) (point : Point w) where
  -- What stands after a resume.
  pub record IsEnded (p : Past B C I) (m now : Moment w) : Type 0 where
    pub more : List (Mark B)
    pub marks_are : now.marks ≡ m.marks ++ more
    pub earned : EachMark (TrueIsEarned (setting w stored) base) p more
    pub ready : IsReady w stored points point (after p more) now
    pub ground : IsGround w stored base (after p more) points point now.next tip now.state.pause now.state.anchor now.state.cache
    pub free : now.state.pause ≡ Free
    pub ways : WaysStand w stored (after p more) tip now.state
    pub unparked : ParksNone now.state.requests
    pub abstain : AllAbstain w stored (after p more) now.state.requests

  -- what stays from one request that is served to the next
  record Open (p : Past B C I) (m : Moment w) : Type 0 where
    free : m.state.pause ≡ Free
    ways : WaysStand w stored p tip m.state
    unparked : ParksNone m.state.requests
    stored_is : IsStoredNow stored p held

  -- nothing pauses, the store has what it was handed but for what was pruned, and a request that has to wait abstains
  record MayGo (p : Past B C I) (pause : Pause) (anchor : Anchor) (cache : List (Cached U)) (e : ℕ × Requested B C I) : Type 0 where
    free : pause ≡ Free
    stored_is : IsStoredNow stored p held
    may_wait : IsPrepared w.header anchor cache held e.1.request [] acquired.Waits → Abstains (setting w stored) e.0 p (first_of e.1.request)

  MayGo-same : (p q : Past B C I) (pause : Pause) (anchor : Anchor) (cache : List (Cached U)) (e : ℕ × Requested B C I) → IsCarried w stored p q
      → MayGo p pause anchor cache e → MayGo q pause anchor cache e
  MayGo-same p q pause anchor cache e c h = record {
    free = h.free;
    stored_is = λ n. rw c.same.pruned (h.stored_is n);
    may_wait = λ needs. c.abstains e.0 (first_of e.1.request) (h.may_wait needs);
  }

  abbrev Rule : Past B C I → Mark B → Type 0
  Rule = TrueIsEarned (setting w stored) base

  -- the rule on true verdicts, as one on marks
  as_kept : (p : Past B C I) (m now : Moment w) → EarnsBehind w stored base p m now → KeepsBehind w Rule p m now
  as_kept p m now e = record { more = e.more; marks_are = e.marks_are; each = e.each }

  module _ (other_states : (n i : w.Ids) (x y : w.States) (c : List (Point w)) → w.kind.issued n ((i, x) ∷ c) → w.kind.issued n ((i, y) ∷ c)) where
    abbrev AreGoing : List (Released B C I) → Past B C I → Moment w → Type 0
    AreGoing = AreGrounded w stored base points point tip Rule ticket_of request_of (HasParked w stored held base tip) Open

    abbrev AreAnew : List (ℕ × Requested B C I) → Past B C I → Moment w → Type 0
    AreAnew = AreGrounded w stored base points point tip Rule (λ e. e.0) (λ e. e.1.request) MayGo Open

    earned-along : (rs : List (Released B C I)) (p : Past B C I) (m last : Moment w) → AreGoing rs p m → InTurn (GoesAlong w) rs m last
        → KeepsReady w Rule (GoesAlong w) AreGoing [] p m last
    earned-along rs p m last ready turns =
        AreGrounded-in_turn w stored base points point tip Rule ticket_of request_of (HasParked w stored held base tip) (GoesAlong w)
        (λ p m now r ready hand h rule. Serves-along w stored points point other_states p m now r ready (record { hand = hand; way = h.way }) rule)
        (λ m now r rule. LeavesBehind-advances w m now r.ticket (requested r.request) r.path rule)
        (HasParked-same w stored held base tip) Open
        (λ p m now r more is g hand h rule c stays. record {
          free = (LeavesBehind-advances w m now r.ticket (requested r.request) r.path rule).left.pause ∙ stays.free;
          ways = WaysStand-advances w stored tip p (after p more) c.same m now stays.ways r.ticket (requested r.request) r.path h.off
              (λ some. h.unsettled) rule;
          unparked = ParksNone-advances w m now stays.unparked r.ticket (requested r.request) r.path rule;
          stored_is = λ n. rw c.same.pruned (stays.stored_is n);
        })
        (λ p m now r g hand h stays rule.
        let knows = knows_free w stored base p points point m.next tip m.state.pause m.state.anchor m.state.cache stays.free g.ground in
        as_kept p m now (advances-Earned w stored base p points point m g.ready.stands r.ticket
        (requested r.request) hand.asked tip g.ground.folded r.path now (λ b met passed. (knows b.digest).1 passed.1)
        (λ none. ((knows r.path.parent.digest).1 h.at_hand, h.at_hand)) h.way rule))
        rs p m last ready turns

    earned-anew : (es : List (ℕ × Requested B C I)) (p : Past B C I) (m last : Moment w) → AreAnew es p m → InTurn (AcquiresAnew w held) es m last
        → KeepsReady w Rule (AcquiresAnew w held) AreAnew [] p m last
    earned-anew es p m last ready turns =
        AreGrounded-in_turn w stored base points point tip Rule (λ e. e.0) (λ e. e.1.request) MayGo (AcquiresAnew w held)
        (λ p m now e ready hand h rule. Serves-acquires w stored p points point m ready.stands e.0
        (requested e.1.request) hand ready.names other_states ready.located ready.drawn (All-nil (Met (setting w stored) p)) held h.may_wait now rule)
        (λ m now e rule. LeavesBehind-acquires w held m now e.0 (requested e.1.request) rule)
        MayGo-same Open
        (λ p m now e more is g hand h rule c stays. record {
          free = (LeavesBehind-acquires w held m now e.0 (requested e.1.request) rule).left.pause ∙ stays.free;
          ways = WaysStand-acquires w stored base held tip p (after p more) c.same points point m now g.ground h.free stays.ways e.0
              (requested e.1.request) hand (All-nil (Met (setting w stored) p)) rule;
          unparked = ParksNone-acquires w m now stays.unparked held e.0 (requested e.1.request) rule;
          stored_is = λ n. rw c.same.pruned (stays.stored_is n);
        })
        (λ p m now e g hand h stays rule.
        as_kept p m now (acquires-Earned w stored base p points point m g.ready.stands e.0
        (λ d at_hand. (knows_free w stored base p points point m.next tip m.state.pause m.state.anchor m.state.cache stays.free g.ground d).1 at_hand)
        (folded_free w stored base p points point m.next tip m.state.pause m.state.anchor m.state.cache stays.free g.ground) held h.stored_is
        (requested e.1.request) now hand (All-nil (Met (setting w stored) p)) rule))
        es p m last ready turns

    module _ (p : Past B C I) (m : Moment w) (s : TablesStand w stored p points point m.next (record m.state { pause = Free }))
        (g : IsGround w stored base p points point m.next tip Free m.state.anchor m.state.cache)
        (ways : WaysStand w stored p tip (record m.state { pause = Free })) (located : w.kind.point m.members ≡ Some point)
        (drawn : w.kind.issued m.next (point ∷ [])) (stored_is : IsStoredNow stored p held) where
      start : AreGoing (parked_in m.state.requests) p (unparked w m)
      start =
          let on : AreParked w stored held base tip points point Stop [] other_states (parked_in m.state.requests) p
          (unparked w m) = parked w stored held base tip points point Stop [] other_states p m s g ways located drawn in
          record {
            grounded = on.grounded;
            stays = record
                { free = refl; ways = on.stays; unparked = ParksNone-not_parked m.state.requests; stored_is = stored_is };
            hands =
                on.hands;
            apart = on.apart;
            also = on.also;
          }

      module _ (now : Moment w) (r : Resumes w held m now) where
        first : KeepsReady w Rule (GoesAlong w) AreGoing [] p (unparked w m) r.mid
        first = earned-along (parked_in m.state.requests) p (unparked w m) r.mid start r.along

        abbrev q : Past B C I
        q = after p first.more

        stands : TablesStand w stored q points point r.mid.next r.mid.state
        stands = first.ready.grounded.ready.stands

        may_go : All (MayGo q r.mid.state.pause r.mid.state.anchor r.mid.state.cache) (unacquired_in r.mid.state.requests)
        may_go = λ k d l.
            let e = get_or (unacquired_in r.mid.state.requests) k d in
            let folded = folded_free w stored base q points point r.mid.next tip r.mid.state.pause r.mid.state.anchor r.mid.state.cache
            first.ready.stays.free first.ready.grounded.ground in
            record {
              free = first.ready.stays.free;
              stored_is = first.ready.stays.stored_is;
              may_wait = λ needs. waits-Abstains w stored q r.mid.state.anchor r.mid.state.cache held folded.anchor_is folded.tip_is
                  first.ready.stays.stored_is e.0 e.1.request [] needs;
            }

        may_wait : All (MayWait w stored held points point other_states q (unsettled w r.mid)) (unacquired_in r.mid.state.requests)
        may_wait = λ k d l. (may_go k d l).may_wait

        unacquired : AreAnew (unacquired_in r.mid.state.requests) q (unsettled w r.mid)
        unacquired = record {
          grounded = record {
            ready = record {
              stands = TablesStand-kept (λ phase. not (is_unacquired phase)) (λ j way. refl)
                  (λ f. refl) w stored q points point r.mid.next r.mid.state stands;
              names = first.ready.grounded.ready.names;
              located = first.ready.grounded.ready.located;
              drawn = first.ready.grounded.ready.drawn;
            };
            ground = first.ready.grounded.ground;
          };
          stays = record {
            free = first.ready.stays.free;
            ways = All-filter (λ (e : ℕ × Requested B C I). not (is_unacquired e.1.phase))
                (λ e. IsOnOpenWay w stored q tip r.mid.state.pause r.mid.state.anchor r.mid.state.cache e.1.request e.1.phase) r.mid.state.requests
                first.ready.stays.ways;
            unparked = All-filter (λ (e : ℕ × Requested B C I). not (is_unacquired e.1.phase))
                (λ e. (path : Path B) → e.1.phase ≡ Parked path → ⊥) r.mid.state.requests first.ready.stays.unparked;
            stored_is = first.ready.stays.stored_is;
          };
          hands = λ k d l. (anew.out w stored held points point other_states q r.mid stands may_wait k d l).hand;
          apart = AllPairs-filter (λ (e f : ℕ × Requested B C I). e.0 ≢ f.0) (λ e. is_unacquired e.1.phase) r.mid.state.requests
              (entries_apart r.mid.state.requests stands.requests.ascending);
          also = may_go;
        }

        second : KeepsReady w Rule (AcquiresAnew w held) AreAnew [] q (unsettled w r.mid) now
        second = earned-anew (unacquired_in r.mid.state.requests) q (unsettled w r.mid) now unacquired r.anew

        abbrev last : Past B C I
        last = after q second.more

        last_is : last ≡ after p (first.more ++ second.more)
        last_is = sym (after-append p first.more second.more)

        marks_are : now.marks ≡ m.marks ++ (first.more ++ second.more)
        marks_are = second.marks_are ∙ ap (λ (ms : List (Mark B)). ms ++ second.more) first.marks_are ∙ append_assoc m.marks first.more second.more

        -- what waits after a resume was found to wait in it
        abstain : AllAbstain w stored (after p (first.more ++ second.more)) now.state.requests
        abstain =
            let done : IsResumed w stored held points point other_states p m now = IsResumed-by w stored held points point other_states p m now s
            g.names located drawn r (λ f.
            subst (λ (ms : List (Mark B)). All (MayWait w stored held points point other_states (after p ms) (unsettled w r.mid))
            (unacquired_in r.mid.state.requests))
            (append_cancel_left m.marks first.more f.behind.more (sym first.marks_are ∙ f.behind.marks_are)) may_wait) in
            subst (λ (ms : List (Mark B)). AllAbstain w stored (after p ms) now.state.requests)
            (append_cancel_left m.marks done.behind.more (first.more ++ second.more) (sym done.behind.marks_are ∙ marks_are)) done.abstain

        -- Where the tables stand without the pause and the ways are open, true verdicts are earned after a resume.
        pub IsEnded-resumes : IsEnded p m now
        IsEnded-resumes = record {
          more = first.more ++ second.more;
          marks_are = marks_are;
          earned = EachMark-append Rule p first.more second.more first.each second.each;
          ready = subst (λ (x : Past B C I). IsReady w stored points point x now) last_is second.ready.grounded.ready;
          ground = subst (λ (x : Past B C I). IsGround w stored base x points point now.next tip now.state.pause now.state.anchor now.state.cache)
              last_is second.ready.grounded.ground;
          free = second.ready.stays.free;
          ways = subst (λ (x : Past B C I). WaysStand w stored x tip now.state) last_is second.ready.stays.ways;
          unparked = second.ready.stays.unparked;
          abstain = abstain;
        }
