-- False verdicts and declines have their reasons: those of the requests that are served once a finalization has ended.
use Rattle.std.proofs.Common.{◌≡◌, ◌++◌, ℕ, get_or, List, [], ◌∷◌, All, Option, Some, refl, sym, ◌∙◌, subst}
use Rattle.std.proofs.lemmas.List.{append_cancel_left}
use Rattle.stateful_base.specs.Names.{Named}
use Rattle.stateful_base.specs.declared.anchor.Anchor.{Anchor}
use Rattle.stateful_base.specs.declared.digest.Digest.{Digest}
use Rattle.stateful_history.specs.Honest.{IsHonest, IsAnswered}
use Rattle.stateful_history.specs.Past.{Past, after}
use Rattle.stateful_history.specs.declared.event.Event.{Event}
use Rattle.stateful_history.specs.declared.mark.Mark.{Mark}
use Rattle.stateful_exec_model.specs.Ending.{InTurn}
use Rattle.stateful_exec_model.specs.Moments.{Moment}
use Rattle.stateful_exec_model.specs.Pausing.{GoesAlong, unparked, Resumes}
use Rattle.stateful_exec_tables.specs.Phase.{parked_in, unacquired_in}
use Rattle.stateful_exec_tables.specs.Tables.{requested}
use Rattle.stateful_exec_model.specs.Workings.{Workings, Point}
use Rattle.stateful_exec_pause.specs.declared.pause.Pause.TheVariants.{Free}
use Rattle.stateful_exec_tables.specs.declared.tables.Released.{Released}
use Rattle.stateful_exec_laws.specs.Setting.{setting}
use Rattle.stateful_exec_laws.specs.Gathering.{GatheringsStand}
use Rattle.stateful_exec_laws.specs.Standing.{TablesStand}
use Rattle.stateful_exec_laws.specs.Ways.{WaysStand}
use Rattle.stateful_exec_laws.specs.Storing.{IsStoredNow}
use Rattle.stateful_exec_laws.proofs.earned.Left.{LeavesBehind-advances}
use Rattle.stateful_exec_laws.proofs.ended.FollowStands.{ticket_of, request_of}
use Rattle.stateful_exec_laws.proofs.linked.GatheredResumed.{linked-resumed}
use Rattle.stateful_exec_laws.proofs.pauses.KeptInTurn.{AreGrounded, AreGrounded-in_turn}
use Rattle.stateful_exec_laws.proofs.requests.KeptMarks.{KeepsBehind, KeepsReady}
use Rattle.stateful_exec_laws.proofs.reasons.Acquired.{advances-free}
use Rattle.stateful_exec_laws.proofs.reasons.Ground.{IsGround}
use Rattle.stateful_exec_laws.proofs.reasons.Known.{folded_free}
use Rattle.stateful_exec_laws.proofs.reasons.Marks.{HasItsReason}
use Rattle.stateful_exec_laws.proofs.reasons.Resumed.{HasParked, HasParked-same, MayAcquire, AreParked}
use Rattle.stateful_exec_laws.proofs.reasons.Resumes.{parked, resumes-reason}
use Rattle.stateful_exec_laws.proofs.pauses.ResumeStands.{Serves-along}
use Rattle.stateful_loop_laws.proofs.tickets.WaitsAbstain.{waits-Abstains}

module _ {B C I P R D H G U : Type 0} (w : Workings B C I P R D H G U) (stored held : ℕ → Option (Named B)) (base : w.States) (tip : Anchor)
    (points : Digest → Point w) (point : Point w) (event : Event B C I) (marks : List (Mark B))
    (other_states : (n i : w.Ids) (x y : w.States) (c : List (Point w)) → w.kind.issued n ((i, x) ∷ c) → w.kind.issued n ((i, y) ∷ c)) where
  abbrev Rule : Past B C I → Mark B → Type 0
  Rule = HasItsReason w stored base event marks

  -- what stays from one parked request to the next
  record Stays (p : Past B C I) (m : Moment w) : Type 0 where
    free : m.state.pause ≡ Free
    stored_is : IsStoredNow stored p held

  abbrev AreGoing : List (Released B C I) → Past B C I → Moment w → Type 0
  AreGoing = AreGrounded w stored base points point tip Rule ticket_of request_of (HasParked w stored held base tip) Stays

  going : (rs : List (Released B C I)) (p : Past B C I) (m last : Moment w) → AreGoing rs p m → InTurn (GoesAlong w) rs m last
      → KeepsReady w Rule (GoesAlong w) AreGoing [] p m last
  going rs p m last ready turns =
      AreGrounded-in_turn w stored base points point tip Rule ticket_of request_of (HasParked w stored held base tip) (GoesAlong w)
      (λ p m now r ready hand h rule. Serves-along w stored points point other_states p m now r ready (record { hand = hand; way = h.way }) rule)
      (λ m now r rule. LeavesBehind-advances w m now r.ticket (requested r.request) r.path rule)
      (HasParked-same w stored held base tip) Stays
      (λ p m now r more is g hand h rule c stays. record {
        free = (LeavesBehind-advances w m now r.ticket (requested r.request) r.path rule).left.pause ∙ stays.free;
        stored_is = λ n. rw c.same.pruned (stays.stored_is n);
      })
      (λ p m now r g hand h stays rule.
      advances-free w stored base event marks p m h.free r.ticket (requested r.request) r.path now h.at_hand rule)
      rs p m last ready turns

  module _ (p : Past B C I) (m : Moment w) (s : TablesStand w stored p points point m.next (record m.state { pause = Free }))
      (g : IsGround w stored base p points point m.next tip Free m.state.anchor m.state.cache)
      (ways : WaysStand w stored p tip (record m.state { pause = Free })) (located : w.kind.point m.members ≡ Some point)
      (drawn : w.kind.issued m.next (point ∷ [])) (stored_is : IsStoredNow stored p held)
      (stand : GatheringsStand (setting w stored) p m.state.requests) (honest : IsHonest (setting w stored) p) (answered : IsAnswered p)
      (now : Moment w) (r : Resumes w held m now) where
    start : AreGoing (parked_in m.state.requests) p (unparked w m)
    start =
        let on : AreParked w stored held base tip points point event marks other_states (parked_in m.state.requests) p
        (unparked w m) = parked w stored held base tip points point event marks other_states p m s g ways located drawn in
        record {
          grounded = on.grounded;
          stays = record { free = refl; stored_is = stored_is };
          hands = on.hands;
          apart = on.apart;
          also = on.also;
        }

    gone : KeepsReady w Rule (GoesAlong w) AreGoing [] p (unparked w m) r.mid
    gone = going (parked_in m.state.requests) p (unparked w m) r.mid start r.along

    abbrev q : Past B C I
    q = after p gone.more

    may : All (λ e. MayAcquire w stored held base tip q r.mid.state.pause r.mid.state.anchor r.mid.state.cache e) (unacquired_in r.mid.state.requests)
    may = λ k d l.
        let e = get_or (unacquired_in r.mid.state.requests) k d in
        let folded = folded_free w stored base q points point r.mid.next tip r.mid.state.pause r.mid.state.anchor r.mid.state.cache
        gone.ready.stays.free gone.ready.grounded.ground in
        record {
          free = gone.ready.stays.free;
          linked = linked-resumed w stored held base tip points point other_states p m s g ways located drawn stand honest answered now r k d l;
          stored_is = gone.ready.stays.stored_is;
          may_wait = λ needs. waits-Abstains w stored q r.mid.state.anchor r.mid.state.cache held folded.anchor_is folded.tip_is
              gone.ready.stays.stored_is e.0 e.1.request [] needs;
        }

    -- behind the parked requests those that acquire anew what they need may do so
    pub resumed-may : (more : List (Mark B)) → r.mid.marks ≡ m.marks ++ more
        → All (λ e. MayAcquire w stored held base tip (after p more) r.mid.state.pause r.mid.state.anchor r.mid.state.cache e)
        (unacquired_in r.mid.state.requests)
    resumed-may more is = subst (λ (ms : List (Mark B)). All (λ e. MayAcquire w stored held base tip
        (after p ms) r.mid.state.pause r.mid.state.anchor r.mid.state.cache e) (unacquired_in r.mid.state.requests))
        (append_cancel_left m.marks gone.more more (sym gone.marks_are ∙ is)) may

    -- each mark after the end of a pause keeps the rule
    pub resumed-reasons : KeepsBehind w Rule p m now
    resumed-reasons = resumes-reason w stored held base tip points point event marks other_states p m s g ways located drawn now r
        (λ first. resumed-may first.more first.marks_are)
