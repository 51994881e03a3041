-- Marks stand in their places: those of all requests that go on after a pause.
use Rattle.std.proofs.Common.{◌≡◌, ◌++◌, ℕ, List, [], ◌∷◌, Option, IsSome}
use Rattle.std.proofs.lemmas.List.Elements.{All-nil}
use Rattle.stateful_base.specs.Names.{Named}
use Rattle.stateful_base.specs.declared.anchor.Anchor.{Anchor}
use Rattle.stateful_base.specs.declared.digest.Digest.{Digest}
use Rattle.stateful_history.specs.Met.{Met}
use Rattle.stateful_history.specs.Past.{Past, after}
use Rattle.stateful_history.specs.declared.mark.Mark.{Mark}
use Rattle.stateful_table.specs.Table.{at}
use Rattle.stateful_exec_model.specs.Ending.{InTurn}
use Rattle.stateful_exec_model.specs.Moments.{Moment}
use Rattle.stateful_exec_model.specs.Pausing.{GoesAlong, AcquiresAnew}
use Rattle.stateful_exec_tables.specs.Tables.{requested}
use Rattle.stateful_exec_model.specs.Workings.{Workings, Point}
use Rattle.stateful_exec_tables.specs.declared.tables.Released.{Released}
use Rattle.stateful_exec_tables.specs.declared.tables.Requested.{Requested}
use Rattle.stateful_exec_laws.specs.Setting.{setting}
use Rattle.stateful_exec_laws.specs.Gathering.{gathered, but_last, AsksParents, AsksAlong, AsksNothing, AsksForThese}
use Rattle.stateful_exec_laws.specs.Standing.{IsInHand}
use Rattle.stateful_exec_laws.proofs.requests.Acquired.{Serves-acquires}
use Rattle.stateful_exec_laws.proofs.requests.AsksKept.{AsksAlong-advances, AsksAlong-acquires, advances-none, AsksForThese-acquires}
use Rattle.stateful_exec_laws.proofs.earned.Left.{LeavesBehind-advances, LeavesBehind-acquires}
use Rattle.stateful_exec_laws.proofs.ended.FollowStands.{ticket_of, request_of}
use Rattle.stateful_exec_laws.proofs.pauses.KeptInTurn.{IsGrounded, AreGrounded, AreGrounded-in_turn}
use Rattle.stateful_exec_laws.proofs.requests.KeptMarks.{EachMark-behind, KeepsReady}
use Rattle.stateful_exec_laws.proofs.places.Asks.{acquires-in_place, asked_along}
use Rattle.stateful_exec_laws.proofs.places.Followed.{IsOrderly, IsOrderly-served}
use Rattle.stateful_exec_laws.proofs.places.Marks.{IsInPlace}
use Rattle.stateful_exec_laws.proofs.places.Starts.{live-request, advances-in_place}
use Rattle.stateful_exec_laws.proofs.reasons.Known.{knows_free}
use Rattle.stateful_exec_laws.proofs.reasons.Resumed.{HasParked, MayAcquire, HasParked-same, MayAcquire-same}
use Rattle.stateful_exec_laws.proofs.pauses.ResumeStands.{Serves-along}
use Rattle.stateful_exec_laws.proofs.requests.ServedMarks.{IsServedBy, AreServedBy, advances-marks, acquires-marks}

module _ {B C I P R D H G U : Type 0} (w : Workings B C I P R D H G U) (stored stored_now : ℕ → Option (Named B)) (base : w.States) (tip : Anchor) where
  -- A ticket is that of one event, and no run is started again in vain; and nothing was asked for, since something was applied or
  -- pruned.
  pub record IsOrderlyNew (p : Past B C I) (m : Moment w) : Type 0 where
    pub orderly : IsOrderly w stored p
    pub along : AsksAlong (setting w stored) p m.state.requests
    pub nothing : AsksNothing (setting w stored) p

  -- or what was asked for was so for requests of the table, and is the parent of what was gathered for them
  pub record IsOrderlyWith (p : Past B C I) (m : Moment w) : Type 0 where
    pub orderly : IsOrderly w stored p
    pub along : AsksAlong (setting w stored) p m.state.requests
    pub these : AsksForThese (setting w stored) p m.state.requests

  module _ (points : Digest → Point w) (point : Point w)
      (other_states : (n i : w.Ids) (x y : w.States) (c : List (Point w)) → w.kind.issued n ((i, x) ∷ c) → w.kind.issued n ((i, y) ∷ c)) where
    abbrev Rule : Past B C I → Mark B → Type 0
    Rule = IsInPlace w stored base

    abbrev pub AreParkedOn : List (Released B C I) → Past B C I → Moment w → Type 0
    AreParkedOn = AreGrounded w stored base points point tip Rule ticket_of request_of (HasParked w stored stored_now base tip) IsOrderlyNew

    abbrev pub AreToAcquire : List (ℕ × Requested B C I) → Past B C I → Moment w → Type 0
    AreToAcquire = AreGrounded w stored base points point tip Rule (λ e. e.0) (λ e. e.1.request) (MayAcquire w stored stored_now base tip) IsOrderlyWith

    stay_along : (p : Past B C I) (m now : Moment w) (r : Released B C I) (more : List (Mark B)) → now.marks ≡ m.marks ++ more → IsInHand w stored p r.ticket r.request m.state → GoesAlong w r m now → IsOrderlyNew p m → IsOrderlyNew (after p more) now
    stay_along p m now r more is hand rule o = record {
      orderly = IsOrderly-served w stored p r.ticket more are o.orderly;
      along = AsksAlong-advances w stored p m now r.ticket hand.absent more are is o.along (requested r.request) r.path rule;
      nothing = λ u d was. o.nothing u d (advances-none w stored p m now r.ticket more is (requested r.request) r.path rule u d was);
    }
      where
        are : AreServedBy r.ticket p more
        are = EachMark-behind w (λ (x : Past B C I) (mark : Mark B). IsServedBy r.ticket mark) p m now more is (advances-marks w p m now r.ticket (requested r.request) r.path rule)

    -- each mark of the parked requests that go along their paths stands in its place
    pub AreParkedOn-along : (rs : List (Released B C I)) (p : Past B C I) (m last : Moment w) → AreParkedOn rs p m → InTurn (GoesAlong w) rs m last → KeepsReady w Rule (GoesAlong w) AreParkedOn [] p m last
    AreParkedOn-along rs p m last ready turns =
        AreGrounded-in_turn w stored base points point tip Rule ticket_of request_of (HasParked w stored stored_now base tip) (GoesAlong w)
        (λ p m now r ready hand h rule. Serves-along w stored points point other_states p m now r ready (record { hand = hand; way = h.way }) rule)
        (λ m now r rule. LeavesBehind-advances w m now r.ticket (requested r.request) r.path rule)
        (HasParked-same w stored stored_now base tip) IsOrderlyNew
        (λ p m now r more is g hand h rule c o. stay_along p m now r more is hand rule o)
        (λ p m now r g hand h o rule.
        advances-in_place w stored base p points point tip m g.ready.stands g.ground o.orderly.apart r.ticket (requested r.request) hand.asked r.path h.way
        ((knows_free w stored base p points point m.next tip m.state.pause m.state.anchor m.state.cache h.free g.ground r.path.parent.digest).1 h.at_hand, h.at_hand) o.orderly.again (o.orderly.live r.ticket (live-request w stored p r.ticket r.request hand.asked)) now rule)
        rs p m last ready turns

    -- nothing was asked for a request in hand
    unasked : (p : Past B C I) (m : Moment w) (e : ℕ × Requested B C I) → IsInHand w stored p e.0 e.1.request m.state → IsOrderlyWith p m → (blocks : List (Named B)) → AsksParents (setting w stored) p e.0 blocks
    unasked p m e hand o blocks d was = let some : IsSome (at m.state.requests e.0) = o.these e.0 d was in let no = rw hand.absent at some in cc

    stay_anew : (p : Past B C I) (m now : Moment w) (e : ℕ × Requested B C I) (more : List (Mark B)) → now.marks ≡ m.marks ++ more → IsGrounded w stored base points point tip p m → IsInHand w stored p e.0 e.1.request m.state
        → MayAcquire w stored stored_now base tip p m.state.pause m.state.anchor m.state.cache e → AcquiresAnew w stored_now e m now → IsOrderlyWith p m → IsOrderlyWith (after p more) now
    stay_anew p m now e more is g hand h rule o = record {
      orderly = IsOrderly-served w stored p e.0 more are o.orderly;
      along = AsksAlong-acquires w stored p m now e.0 hand.absent more are is o.along stored_now (requested e.1.request)
          (λ f d needs. asked_along w stored base p points point tip m g.ground h.free stored_now g.ready.stands o.orderly.apart o.orderly.again e.0 (requested e.1.request) hand (All-nil (Met (setting w stored) p)) (unasked p m e hand o (but_last (gathered e.1.request []))) f d needs) rule;
      these = AsksForThese-acquires w stored p m now e.0 more is o.these stored_now (requested e.1.request) rule;
    }
      where
        are : AreServedBy e.0 p more
        are = EachMark-behind w (λ (x : Past B C I) (mark : Mark B). IsServedBy e.0 mark) p m now more is (acquires-marks w p m now e.0 stored_now (requested e.1.request) rule)

    -- and each mark of those that acquire anew what they need
    pub AreToAcquire-anew : (es : List (ℕ × Requested B C I)) (p : Past B C I) (m last : Moment w) → AreToAcquire es p m → InTurn (AcquiresAnew w stored_now) es m last → KeepsReady w Rule (AcquiresAnew w stored_now) AreToAcquire [] p m last
    AreToAcquire-anew es p m last ready turns =
        AreGrounded-in_turn w stored base points point tip Rule (λ e. e.0) (λ e. e.1.request) (MayAcquire w stored stored_now base tip) (AcquiresAnew w stored_now)
        (λ p m now e ready hand h rule. Serves-acquires w stored p points point m ready.stands e.0 (requested e.1.request) hand ready.names other_states ready.located ready.drawn (All-nil (Met (setting w stored) p)) stored_now h.may_wait now rule)
        (λ m now e rule. LeavesBehind-acquires w stored_now m now e.0 (requested e.1.request) rule)
        (MayAcquire-same w stored stored_now base tip) IsOrderlyWith
        (λ p m now e more is g hand h rule c o. stay_anew p m now e more is g hand h rule o)
        (λ p m now e g hand h o rule.
        acquires-in_place w stored base p points point tip m g.ground h.free stored_now g.ready.stands o.orderly.apart o.orderly.again e.0 (requested e.1.request) hand (All-nil (Met (setting w stored) p)) (unasked p m e hand o (but_last (gathered e.1.request []))) (o.orderly.live e.0 (live-request w stored p e.0 e.1.request hand.asked)) now rule)
        es p m last ready turns
