-- What stays beside the tables behind the requests that go on after a pause: live runs go on turning, and the parents of queued
-- proposals are known or lost.
use Rattle.std.proofs.Common.{◌≡◌, ◌≢◌, ◌++◌, ℕ, not, List, [], ◌∷◌, All, Option, Some, refl, sym, ap, ◌∙◌, subst}
use Rattle.std.proofs.lemmas.List.{append_assoc}
use Rattle.std.proofs.lemmas.List.Elements.{All-nil}
use Rattle.std.proofs.lemmas.List.Kept.{AllPairs-filter}
use Rattle.stateful_base.specs.Names.{Named}
use Rattle.stateful_base.specs.declared.anchor.Anchor.{Anchor}
use Rattle.stateful_base.specs.declared.digest.Digest.{Digest}
use Rattle.stateful_history.specs.Met.{Met, TrueNames}
use Rattle.stateful_history.specs.Past.{Past, Made, EachMark, after}
use Rattle.stateful_history.specs.declared.event.Event.TheVariants.{Stop}
use Rattle.stateful_history.specs.declared.mark.Mark.{Mark}
use Rattle.stateful_history.proofs.Marks.{after-append}
use Rattle.stateful_exec_model.specs.Ending.{InTurn}
use Rattle.stateful_exec_model.specs.Moments.{Moment}
use Rattle.stateful_exec_model.specs.Pausing.{GoesAlong, AcquiresAnew, unparked, unsettled, Resumes}
use Rattle.stateful_exec_tables.specs.Phase.{parked_in, is_unacquired, unacquired_in}
use Rattle.stateful_exec_tables.specs.Tables.{requested}
use Rattle.stateful_exec_model.specs.Workings.{Workings, Point}
use Rattle.stateful_exec_pause.specs.declared.pause.Pause.TheVariants.{Free}
use Rattle.stateful_exec_tables.specs.declared.tables.Released.{Released}
use Rattle.stateful_exec_tables.specs.declared.tables.Requested.{Requested}
use Rattle.stateful_exec_laws.specs.Setting.{setting}
use Rattle.stateful_exec_laws.specs.Beside.{StaysBeside, BesideBehind}
use Rattle.stateful_exec_laws.specs.Standing.{TablesStand}
use Rattle.stateful_exec_laws.specs.Ways.{WaysStand}
use Rattle.stateful_exec_laws.proofs.requests.Acquired.{Serves-acquires}
use Rattle.stateful_exec_laws.proofs.pauses.AnewStands as anew
use Rattle.stateful_exec_laws.proofs.pauses.AnewStands.{MayWait, entries_apart}
use Rattle.stateful_exec_laws.proofs.earned.Left.{LeavesBehind-advances, LeavesBehind-acquires}
use Rattle.stateful_exec_laws.proofs.ended.FollowStands.{ticket_of, request_of}
use Rattle.stateful_exec_laws.proofs.pauses.KeptInTurn.{AreGrounded, AreGrounded-in_turn}
use Rattle.stateful_exec_laws.proofs.requests.KeptMarks.{EachMark-behind, KeepsReady}
use Rattle.stateful_exec_laws.proofs.requests.Parked.{TablesStand-kept}
use Rattle.stateful_exec_laws.proofs.linked.QueueAdvances.{QueueReaches-advances, QueueReaches-acquires}
use Rattle.stateful_exec_laws.proofs.reasons.Ground.{IsGround}
use Rattle.stateful_exec_laws.proofs.reasons.Known.{knows_free}
use Rattle.stateful_exec_laws.proofs.reasons.Resumed.{HasParked, HasParked-same, MayAcquire, MayAcquire-same, AreParked}
use Rattle.stateful_exec_laws.proofs.reasons.Resumes.{parked}
use Rattle.stateful_exec_laws.proofs.pauses.ResumeStands.{Serves-along}
use Rattle.stateful_exec_laws.proofs.runs.Kept.{RunsTakeTurns, RunsGoOn-advances, RunsGoOn-acquires}
use Rattle.stateful_exec_laws.proofs.requests.SamePast.{IsSamePast}
use Rattle.stateful_exec_laws.proofs.requests.ServedMarks.{IsServedBy, advances-marks, acquires-marks}

module _ {B C I P R D H G U : Type 0} (w : Workings B C I P R D H G U) (stored held : ℕ → Option (Named B)) (base : w.States) (tip : Anchor) (costs : RunsTakeTurns w) (points : Digest → Point w) (point : Point w)
    (other_states : (n i : w.Ids) (x y : w.States) (c : List (Point w)) → w.kind.issued n ((i, x) ∷ c) → w.kind.issued n ((i, y) ∷ c)) where
  abbrev Any_mark : Past B C I → Mark B → Type 0
  Any_mark p mark = Unit {0}

  abbrev Stays : Past B C I → Moment w → Type 0
  Stays p m = StaysBeside w stored base p m.state

  abbrev AreGoing : List (Released B C I) → Past B C I → Moment w → Type 0
  AreGoing = AreGrounded w stored base points point tip Any_mark ticket_of request_of (HasParked w stored held base tip) Stays

  abbrev AreAnew : List (ℕ × Requested B C I) → Past B C I → Moment w → Type 0
  AreAnew = AreGrounded w stored base points point tip Any_mark (λ e. e.0) (λ e. e.1.request) (MayAcquire w stored held base tip) Stays

  any_marks : (x : Past B C I) (ms : List (Mark B)) → EachMark Any_mark x ms
  any_marks x [] = tt
  any_marks x (mark ∷ ms) = (tt, any_marks (Made mark ∷ x) ms)

  names_same : (p q : Past B C I) → TrueNames (setting w stored) p → IsSamePast (setting w stored) p q → TrueNames (setting w stored) q
  names_same p q names same = λ x y has_x has_y. names x y ((same.met x).0 has_x) ((same.met y).0 has_y)

  beside-along : (rs : List (Released B C I)) (p : Past B C I) (m last : Moment w) → AreGoing rs p m → InTurn (GoesAlong w) rs m last → KeepsReady w Any_mark (GoesAlong w) AreGoing [] p m last
  beside-along rs p m last ready turns =
      AreGrounded-in_turn w stored base points point tip Any_mark ticket_of request_of (HasParked w stored held base tip) (GoesAlong w)
      (λ p m now r ready hand h rule. Serves-along w stored points point other_states p m now r ready (record { hand = hand; way = h.way }) rule)
      (λ m now r rule. LeavesBehind-advances w m now r.ticket (requested r.request) r.path rule)
      (HasParked-same w stored held base tip) Stays
      (λ p m now r more is g hand h rule c st. record {
        runs = RunsGoOn-advances w stored base p m now r.ticket more c.same g.ready.stands.numbers costs st.runs (requested r.request) r.path rule;
        queue = QueueReaches-advances w stored base p points point tip m now g.ready.stands g.ground r.ticket more is
            (EachMark-behind w (λ (x : Past B C I) (mark : Mark B). IsServedBy r.ticket mark) p m now more is (advances-marks w p m now r.ticket (requested r.request) r.path rule))
            (names_same p (after p more) g.ready.names c.same) st.queue (requested r.request) r.path h.way
            ((knows_free w stored base p points point m.next tip m.state.pause m.state.anchor m.state.cache h.free g.ground r.path.parent.digest).1 h.at_hand, h.at_hand) rule;
      })
      (λ p m now r g hand h st rule. let k = advances-marks w p m now r.ticket (requested r.request) r.path rule in record { more = k.more; marks_are = k.marks_are; each = any_marks p k.more })
      rs p m last ready turns

  beside-anew : (es : List (ℕ × Requested B C I)) (p : Past B C I) (m last : Moment w) → AreAnew es p m → InTurn (AcquiresAnew w held) es m last → KeepsReady w Any_mark (AcquiresAnew w held) AreAnew [] p m last
  beside-anew es p m last ready turns =
      AreGrounded-in_turn w stored base points point tip Any_mark (λ e. e.0) (λ e. e.1.request) (MayAcquire w stored held base tip) (AcquiresAnew w held)
      (λ p m now e ready hand h rule. Serves-acquires w stored p points point m ready.stands e.0 (requested e.1.request) hand ready.names other_states ready.located ready.drawn (All-nil (Met (setting w stored) p)) held h.may_wait now rule)
      (λ m now e rule. LeavesBehind-acquires w held m now e.0 (requested e.1.request) rule)
      (MayAcquire-same w stored held base tip) Stays
      (λ p m now e more is g hand h rule c st. record {
        runs = RunsGoOn-acquires w stored base p m now e.0 more c.same g.ready.stands.numbers costs st.runs held (requested e.1.request) rule;
        queue = QueueReaches-acquires w stored base p points point tip m now g.ready.stands g.ground e.0 more is
            (EachMark-behind w (λ (x : Past B C I) (mark : Mark B). IsServedBy e.0 mark) p m now more is (acquires-marks w p m now e.0 held (requested e.1.request) rule))
            (names_same p (after p more) g.ready.names c.same) st.queue h.free held (requested e.1.request) hand (All-nil (Met (setting w stored) p)) rule;
      })
      (λ p m now e g hand h st rule. let k = acquires-marks w p m now e.0 held (requested e.1.request) rule in record { more = k.more; marks_are = k.marks_are; each = any_marks p k.more })
      es p m last ready turns

  module _ (p : Past B C I) (m : Moment w) (s : TablesStand w stored p points point m.next (record m.state { pause = Free })) (g : IsGround w stored base p points point m.next tip Free m.state.anchor m.state.cache) (ways : WaysStand w stored p tip (record m.state { pause = Free }))
      (located : w.kind.point m.members ≡ Some point) (drawn : w.kind.issued m.next (point ∷ [])) (beside : StaysBeside w stored base p m.state) where
    start : AreGoing (parked_in m.state.requests) p (unparked w m)
    start =
        let on : AreParked w stored held base tip points point Stop [] other_states (parked_in m.state.requests) p (unparked w m) = parked w stored held base tip points point Stop [] other_states p m s g ways located drawn in
        record { grounded = on.grounded; stays = record { runs = beside.runs; queue = beside.queue }; hands = on.hands; apart = on.apart; also = on.also }

    -- It stays so after a pause, where those that acquire anew what they need may do so.
    pub StaysBeside-resumed : (now : Moment w) (r : Resumes w held m now)
        → ((more : List (Mark B)) → r.mid.marks ≡ m.marks ++ more → All (λ e. MayAcquire w stored held base tip (after p more) r.mid.state.pause r.mid.state.anchor r.mid.state.cache e) (unacquired_in r.mid.state.requests))
        → BesideBehind w stored base p m now
    StaysBeside-resumed now r may = record {
      more = first.more ++ second.more;
      marks_are = second.marks_are ∙ ap (λ (ms : List (Mark B)). ms ++ second.more) first.marks_are ∙ append_assoc m.marks first.more second.more;
      stays = subst (λ (x : Past B C I). StaysBeside w stored base x now.state) (sym (after-append p first.more second.more)) second.ready.stays;
    }
      where
        first : KeepsReady w Any_mark (GoesAlong w) AreGoing [] p (unparked w m) r.mid
        first = beside-along (parked_in m.state.requests) p (unparked w m) r.mid start r.along

        stands : TablesStand w stored (after p first.more) points point r.mid.next r.mid.state
        stands = first.ready.grounded.ready.stands

        may_acquire : All (λ e. MayAcquire w stored held base tip (after p first.more) r.mid.state.pause r.mid.state.anchor r.mid.state.cache e) (unacquired_in r.mid.state.requests)
        may_acquire = may first.more first.marks_are

        may_wait : All (MayWait w stored held points point other_states (after p first.more) (unsettled w r.mid)) (unacquired_in r.mid.state.requests)
        may_wait = λ k d l. (may_acquire k d l).may_wait

        unacquired : AreAnew (unacquired_in r.mid.state.requests) (after p first.more) (unsettled w r.mid)
        unacquired = record {
          grounded = record {
            ready = record {
              stands = TablesStand-kept (λ phase. not (is_unacquired phase)) (λ j way. refl) (λ f. refl) w stored (after p first.more) points point r.mid.next r.mid.state stands;
              names = first.ready.grounded.ready.names;
              located = first.ready.grounded.ready.located;
              drawn = first.ready.grounded.ready.drawn;
            };
            ground = first.ready.grounded.ground;
          };
          stays = record { runs = first.ready.stays.runs; queue = first.ready.stays.queue };
          hands = λ k d l. (anew.out w stored held points point other_states (after p first.more) r.mid stands may_wait k d l).hand;
          apart = AllPairs-filter (λ (e f : ℕ × Requested B C I). e.0 ≢ f.0) (λ e. is_unacquired e.1.phase) r.mid.state.requests (entries_apart r.mid.state.requests stands.requests.ascending);
          also = may_acquire;
        }

        second : KeepsReady w Any_mark (AcquiresAnew w held) AreAnew [] (after p first.more) (unsettled w r.mid) now
        second = beside-anew (unacquired_in r.mid.state.requests) (after p first.more) (unsettled w r.mid) now unacquired r.anew
