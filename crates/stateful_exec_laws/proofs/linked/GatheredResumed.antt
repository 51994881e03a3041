-- What came with the requests that acquire anew what they need, after a pause, is linked.
use Rattle.std.proofs.Common.{◌≡◌, ◌++◌, ℕ, List, [], ◌∷◌, All, Option, Some, get_or, is_none}
use Rattle.std.proofs.lemmas.List.Elements.{All-filter, All-weaker}
use Rattle.stateful_base.specs.Names.{Named}
use Rattle.stateful_base.specs.declared.anchor.Anchor.{Anchor}
use Rattle.stateful_base.specs.declared.digest.Digest.{Digest}
use Rattle.stateful_history.specs.Honest.{IsHonest, IsAnswered}
use Rattle.stateful_history.specs.Numbers.{NumberIsNew}
use Rattle.stateful_history.specs.Past.{Past, Made, EachMark, after}
use Rattle.stateful_history.specs.declared.event.Event.TheVariants.{Stop}
use Rattle.stateful_history.specs.declared.mark.Mark.{Mark}
use Rattle.stateful_exec_cache.specs.declared.cache.Cached.{Cached}
use Rattle.stateful_exec_model.specs.Ending.{InTurn}
use Rattle.stateful_exec_model.specs.Moments.{Moment}
use Rattle.stateful_exec_model.specs.Pausing.{GoesAlong, unparked, Resumes}
use Rattle.stateful_exec_tables.specs.Phase.{parked_path, parked_in, is_unacquired, unacquired_in}
use Rattle.stateful_exec_tables.specs.Tables.{requested}
use Rattle.stateful_exec_model.specs.Workings.{Workings, Point}
use Rattle.stateful_exec_pause.specs.declared.pause.Pause.{Pause}
use Rattle.stateful_exec_pause.specs.declared.pause.Pause.TheVariants.{Free}
use Rattle.stateful_exec_tables.specs.declared.tables.Released.{Released}
use Rattle.stateful_exec_tables.specs.declared.tables.Requested.{Requested}
use Rattle.stateful_exec_laws.specs.Setting.{setting}
use Rattle.stateful_exec_laws.specs.Gathering.{gathered, AreLinked, IsGathered, GatheringsStand}
use Rattle.stateful_exec_laws.specs.Standing.{TablesStand}
use Rattle.stateful_exec_laws.specs.Ways.{WaysStand}
use Rattle.stateful_exec_laws.proofs.earned.Left.{LeavesBehind-advances}
use Rattle.stateful_exec_laws.proofs.ended.FollowStands.{ticket_of, request_of}
use Rattle.stateful_exec_laws.proofs.linked.Gathered.{AreLinked-brought, honest-after, answered-after, advances-new, GatheringsStand-advances}
use Rattle.stateful_exec_laws.proofs.pauses.KeptInTurn.{AreGrounded, AreGrounded-in_turn}
use Rattle.stateful_exec_laws.proofs.requests.KeptMarks.{KeepsBehind, EachMark-behind, KeepsReady}
use Rattle.stateful_exec_laws.proofs.requests.Parked.{All-parked}
use Rattle.stateful_exec_laws.proofs.reasons.Ground.{IsGround}
use Rattle.stateful_exec_laws.proofs.reasons.Resumed.{HasParked, HasParked-same, AreParked}
use Rattle.stateful_exec_laws.proofs.reasons.Resumes.{parked}
use Rattle.stateful_exec_laws.proofs.pauses.ResumeStands.{Serves-along}
use Rattle.stateful_exec_laws.proofs.requests.ServedMarks.{IsServedBy, advances-marks}

module _ {B C I P R D H G U : Type 0} (w : Workings B C I P R D H G U) (stored held : ℕ → Option (Named B)) (base : w.States) (tip : Anchor) (points : Digest → Point w) (point : Point w)
    (other_states : (n i : w.Ids) (x y : w.States) (c : List (Point w)) → w.kind.issued n ((i, x) ∷ c) → w.kind.issued n ((i, y) ∷ c)) where
  -- a parked request, with which linked blocks came
  record HasLinked (p : Past B C I) (pause : Pause) (anchor : Anchor) (cache : List (Cached U)) (r : Released B C I) : Type 0 where
    parked : HasParked w stored held base tip p pause anchor cache r
    linked : AreLinked (setting w stored) (gathered r.request [])

  abbrev Any_mark : Past B C I → Mark B → Type 0
  Any_mark p mark = Unit {0}

  abbrev Stays : Past B C I → Moment w → Type 0
  Stays p m = GatheringsStand (setting w stored) p m.state.requests

  abbrev AreLinkedParked : List (Released B C I) → Past B C I → Moment w → Type 0
  AreLinkedParked = AreGrounded w stored base points point tip Any_mark ticket_of request_of HasLinked Stays

  any_marks : (p : Past B C I) (m now : Moment w) (more : List (Mark B)) → now.marks ≡ m.marks ++ more → KeepsBehind w Any_mark p m now
  any_marks p m now more is = record { more = more; marks_are = is; each = each p more }
    where
      each : (x : Past B C I) (ms : List (Mark B)) → EachMark Any_mark x ms
      each x [] = tt
      each x (mark ∷ ms) = (tt, each (Made mark ∷ x) ms)

  gathered-along : (rs : List (Released B C I)) (p : Past B C I) (m last : Moment w) → AreLinkedParked rs p m → InTurn (GoesAlong w) rs m last → KeepsReady w Any_mark (GoesAlong w) AreLinkedParked [] p m last
  gathered-along rs p m last ready turns =
      AreGrounded-in_turn w stored base points point tip Any_mark ticket_of request_of HasLinked (GoesAlong w)
      (λ p m now r ready hand h rule. Serves-along w stored points point other_states p m now r ready (record { hand = hand; way = h.parked.way }) rule)
      (λ m now r rule. LeavesBehind-advances w m now r.ticket (requested r.request) r.path rule)
      (λ p q pause anchor cache r c h. record { parked = HasParked-same w stored held base tip p q pause anchor cache r c h.parked; linked = h.linked }) Stays
      (λ p m now r more is g hand h rule c st.
      GatheringsStand-advances w stored p points point m now g.ready.stands r.ticket more is
      (EachMark-behind w (λ (x : Past B C I) (mark : Mark B). IsServedBy r.ticket mark) p m now more is (advances-marks w p m now r.ticket (requested r.request) r.path rule))
      (EachMark-behind w (λ (x : Past B C I) (mark : Mark B). NumberIsNew x mark) p m now more is (advances-new w stored p points point m now g.ready.stands r.ticket (requested r.request) r.path rule))
      st (requested r.request) (λ honest answered. h.linked) r.path rule)
      (λ p m now r g hand h st rule. let k = advances-marks w p m now r.ticket (requested r.request) r.path rule in any_marks p m now k.more k.marks_are)
      rs p m last ready turns

  module _ (p : Past B C I) (m : Moment w) (s : TablesStand w stored p points point m.next (record m.state { pause = Free })) (g : IsGround w stored base p points point m.next tip Free m.state.anchor m.state.cache) (ways : WaysStand w stored p tip (record m.state { pause = Free }))
      (located : w.kind.point m.members ≡ Some point) (drawn : w.kind.issued m.next (point ∷ []))
      (stand : GatheringsStand (setting w stored) p m.state.requests) (honest : IsHonest (setting w stored) p) (answered : IsAnswered p) where
    start : AreLinkedParked (parked_in m.state.requests) p (unparked w m)
    start = record {
      grounded = on.grounded;
      stays = All-filter (λ (e : ℕ × Requested B C I). is_none (parked_path e.1.phase)) (λ e. IsGathered (setting w stored) p e.1) m.state.requests stand;
      hands = on.hands;
      apart = on.apart;
      also = λ k d l. record { parked = on.also k d l; linked = linked k d l };
    }
      where
        on : AreParked w stored held base tip points point Stop [] other_states (parked_in m.state.requests) p (unparked w m)
        on = parked w stored held base tip points point Stop [] other_states p m s g ways located drawn

        linked : All (λ (x : Released B C I). AreLinked (setting w stored) (gathered x.request [])) (parked_in m.state.requests)
        linked = All-parked (λ (x : Released B C I). AreLinked (setting w stored) (gathered x.request [])) m.state.requests (λ k d l path is.
            let e = get_or m.state.requests k d in AreLinked-brought (setting w stored) e.1.request e.1.acquired ((stand k d l).linked honest answered))

    -- What came with them is linked, where what was gathered for each request before the resume is, ancestries are linked and
    -- fetches were answered with the asked blocks.
    pub linked-resumed : (now : Moment w) (r : Resumes w held m now) → All (λ e. AreLinked (setting w stored) (gathered e.1.request [])) (unacquired_in r.mid.state.requests)
    linked-resumed now r =
        All-filter (λ (e : ℕ × Requested B C I). is_unacquired e.1.phase) (λ e. AreLinked (setting w stored) (gathered e.1.request [])) r.mid.state.requests
        (All-weaker (λ (e : ℕ × Requested B C I). IsGathered (setting w stored) (after p k.more) e.1) (λ e. AreLinked (setting w stored) (gathered e.1.request []))
        (λ e h. AreLinked-brought (setting w stored) e.1.request e.1.acquired (h.linked (honest-after (setting w stored) p k.more honest) (answered-after (setting w stored) p k.more answered))) r.mid.state.requests k.ready.stays)
      where
        k : KeepsReady w Any_mark (GoesAlong w) AreLinkedParked [] p (unparked w m) r.mid
        k = gathered-along (parked_in m.state.requests) p (unparked w m) r.mid start r.along
