-- Marks are in their places where a finalization ends and execution goes on.
use Rattle.std.proofs.Common.{◌≡◌, ◌≢◌, ◌++◌, ℕ, not, List, [], ◌∷◌, All, Option, Some, IsSome, is_none, get_or, refl}
use Rattle.std.proofs.lemmas.List.Elements.{All-nil, All-filter}
use Rattle.std.proofs.lemmas.List.Kept.{AllPairs-filter}
use Rattle.stateful_base.specs.Names.{Named}
use Rattle.stateful_base.specs.declared.anchor.Anchor.{Anchor}
use Rattle.stateful_base.specs.declared.digest.Digest.{Digest}
use Rattle.stateful_history.specs.Fetches.{Abstains}
use Rattle.stateful_history.specs.Met.{Met}
use Rattle.stateful_history.specs.Past.{Past, EachMark, after}
use Rattle.stateful_history.specs.declared.event.Event.TheVariants.{Stop}
use Rattle.stateful_history.specs.declared.mark.Mark.{Mark}
use Rattle.stateful_exec_cache.specs.declared.cache.Cached.{Cached}
use Rattle.stateful_table.specs.Table.{at}
use Rattle.stateful_exec_model.specs.Ending.{InTurn}
use Rattle.stateful_exec_model.specs.Moments.{Moment}
use Rattle.stateful_exec_model.specs.Pausing.{GoesAlong, AcquiresAnew, unparked, unsettled, Resumes}
use Rattle.stateful_exec_tables.specs.Phase.{parked_path, parked_in, is_unacquired, unacquired_in}
use Rattle.stateful_exec_tables.specs.Tables.{requested}
use Rattle.stateful_exec_walk.specs.Walk.{IsPrepared}
use Rattle.stateful_exec_model.specs.Workings.{Workings, Point}
use Rattle.stateful_exec_pause.specs.declared.pause.Pause.{Pause}
use Rattle.stateful_exec_pause.specs.declared.pause.Pause.TheVariants.{Free}
use Rattle.stateful_exec_tables.specs.declared.tables.Phase.TheVariants.{Fetching}
use Rattle.stateful_exec_tables.specs.declared.tables.Requested.{Requested}
use Rattle.stateful_exec_walk.specs.declared.walk.Acquired.TheVariants as acquired
use Rattle.stateful_exec_laws.specs.Gathering.{gathered, but_last, AsksParents, AsksAlong, AsksNothing}
use Rattle.stateful_exec_laws.specs.Orderly.{IsOrderly}
use Rattle.stateful_exec_laws.specs.Requesting.{first_of}
use Rattle.stateful_exec_laws.specs.Setting.{setting}
use Rattle.stateful_exec_laws.specs.Standing.{TablesStand, IsInHand}
use Rattle.stateful_exec_laws.specs.Ways.{WaysStand}
use Rattle.stateful_exec_laws.proofs.requests.Acquired.{Serves-acquires}
use Rattle.stateful_exec_laws.proofs.pauses.AnewStands as anew
use Rattle.stateful_exec_laws.proofs.pauses.AnewStands.{MayWait, entries_apart}
use Rattle.stateful_exec_laws.proofs.requests.AsksKept.{AsksAlong-acquires, AsksForThese-acquires}
use Rattle.stateful_exec_laws.specs.Storing.{IsStoredNow}
use Rattle.stateful_exec_laws.proofs.earned.Left.{LeavesBehind-acquires}
use Rattle.stateful_exec_laws.proofs.pauses.KeptInTurn.{IsCarried, IsGrounded, AreGrounded, AreGrounded-in_turn}
use Rattle.stateful_exec_laws.proofs.requests.KeptMarks.{EachMark-behind, KeepsReady, KeepsReady-then}
use Rattle.stateful_exec_laws.proofs.requests.Parked.{TablesStand-kept}
use Rattle.stateful_exec_laws.proofs.places.Asks.{acquires-in_place, asked_along}
use Rattle.stateful_exec_laws.proofs.places.Followed.{IsOrderly-served}
use Rattle.stateful_exec_laws.proofs.places.Marks.{IsInPlace}
use Rattle.stateful_exec_laws.proofs.places.Resumed.{IsOrderlyWith, AreParkedOn, AreParkedOn-along}
use Rattle.stateful_exec_laws.proofs.places.Starts.{live-request}
use Rattle.stateful_exec_laws.proofs.reasons.Ground.{IsGround}
use Rattle.stateful_exec_laws.proofs.reasons.Known.{folded_free}
use Rattle.stateful_exec_laws.proofs.reasons.Resumed.{AreParked}
use Rattle.stateful_exec_laws.proofs.reasons.Resumes.{parked}
use Rattle.stateful_exec_laws.proofs.requests.ServedMarks.{IsServedBy, AreServedBy, acquires-marks}
use Rattle.stateful_loop_laws.proofs.tickets.WaitsAbstain.{waits-Abstains}

module _ {B C I P R D H G U : Type 0} (w : Workings B C I P R D H G U) (stored held : ℕ → Option (Named B)) (base : w.States) (tip : Anchor)
    (points : Digest → Point w) (point : Point w)
    (other_states : (n i : w.Ids) (x y : w.States) (c : List (Point w)) → w.kind.issued n ((i, x) ∷ c) → w.kind.issued n ((i, y) ∷ c)) where
  -- nothing pauses, the store has what it was handed but for what was pruned, and a request that has to wait abstains
  record MayGo (p : Past B C I) (pause : Pause) (anchor : Anchor) (cache : List (Cached U)) (e : ℕ × Requested B C I) : Type 0 where
    free : pause ≡ Free
    stored_is : IsStoredNow stored p held
    may_wait : IsPrepared w.header anchor cache held e.1.request [] acquired.Waits → Abstains (setting w stored) e.0 p (first_of e.1.request)

  MayGo-same : (p q : Past B C I) (pause : Pause) (anchor : Anchor) (cache : List (Cached U)) (e : ℕ × Requested B C I) → IsCarried w stored p q
      → MayGo p pause anchor cache e → MayGo q pause anchor cache e
  MayGo-same p q pause anchor cache e c h = record {
    free = h.free;
    stored_is = λ n. rw c.same.pruned (h.stored_is n);
    may_wait = λ needs. c.abstains e.0 (first_of e.1.request) (h.may_wait needs);
  }

  abbrev Rule : Past B C I → Mark B → Type 0
  Rule = IsInPlace w stored base

  abbrev Stays : Past B C I → Moment w → Type 0
  Stays = IsOrderlyWith w stored held base tip

  abbrev AreAnew : List (ℕ × Requested B C I) → Past B C I → Moment w → Type 0
  AreAnew = AreGrounded w stored base points point tip Rule (λ e. e.0) (λ e. e.1.request) MayGo Stays

  -- nothing was asked for a request in hand
  unasked : (p : Past B C I) (m : Moment w) (e : ℕ × Requested B C I) → IsInHand w stored p e.0 e.1.request m.state → Stays p m
      → (blocks : List (Named B)) → AsksParents (setting w stored) p e.0 blocks
  unasked p m e hand o blocks d was = let some : IsSome (at m.state.requests e.0) = o.these e.0 d was in let no = rw hand.absent at some in cc

  stay_anew : (p : Past B C I) (m now : Moment w) (e : ℕ × Requested B C I) (more : List (Mark B)) → now.marks ≡ m.marks ++ more
      → IsGrounded w stored base points point tip p m → IsInHand w stored p e.0 e.1.request m.state
      → MayGo p m.state.pause m.state.anchor m.state.cache e → AcquiresAnew w held e m now → Stays p m → Stays (after p more) now
  stay_anew p m now e more is g hand h rule o = record {
    orderly = IsOrderly-served w stored p e.0 more are o.orderly;
    along = AsksAlong-acquires w stored p m now e.0 hand.absent more are is o.along held (requested e.1.request)
        (λ f d needs. asked_along w stored base p points point tip m g.ground h.free held g.ready.stands o.orderly.apart o.orderly.again e.0
        (requested e.1.request) hand (All-nil (Met (setting w stored) p)) (unasked p m e hand o (but_last (gathered e.1.request []))) f d needs) rule;
    these = AsksForThese-acquires w stored p m now e.0 more is o.these held (requested e.1.request) rule;
  }
    where
      are : AreServedBy e.0 p more
      are = EachMark-behind w (λ (x : Past B C I) (mark : Mark B). IsServedBy e.0 mark) p m now more is
          (acquires-marks w p m now e.0 held (requested e.1.request) rule)

  in_place-anew : (es : List (ℕ × Requested B C I)) (p : Past B C I) (m last : Moment w) → AreAnew es p m → InTurn (AcquiresAnew w held) es m last
      → KeepsReady w Rule (AcquiresAnew w held) AreAnew [] p m last
  in_place-anew es p m last ready turns =
      AreGrounded-in_turn w stored base points point tip Rule (λ e. e.0) (λ e. e.1.request) MayGo (AcquiresAnew w held)
      (λ p m now e ready hand h rule. Serves-acquires w stored p points point m ready.stands e.0
      (requested e.1.request) hand ready.names other_states ready.located ready.drawn (All-nil (Met (setting w stored) p)) held h.may_wait now rule)
      (λ m now e rule. LeavesBehind-acquires w held m now e.0 (requested e.1.request) rule)
      MayGo-same Stays
      (λ p m now e more is g hand h rule c o. stay_anew p m now e more is g hand h rule o)
      (λ p m now e g hand h o rule.
      acquires-in_place w stored base p points point tip m g.ground h.free held g.ready.stands o.orderly.apart o.orderly.again e.0
      (requested e.1.request) hand (All-nil (Met (setting w stored) p)) (unasked p m e hand o (but_last (gathered e.1.request [])))
      (o.orderly.live e.0 (live-request w stored p e.0 e.1.request hand.asked)) now rule)
      es p m last ready turns

  -- What stands after a resume: marks in their places, and what was asked was so for requests of the table.
  pub record IsResumedInPlace (p : Past B C I) (m now : Moment w) : Type 0 where
    pub more : List (Mark B)
    pub marks_are : now.marks ≡ m.marks ++ more
    pub each : EachMark Rule p more
    pub stays : IsOrderlyWith w stored held base tip (after p more) now
    pub stands : TablesStand w stored (after p more) points point now.next now.state

  module _ (p : Past B C I) (m : Moment w) (s : TablesStand w stored p points point m.next (record m.state { pause = Free }))
      (g : IsGround w stored base p points point m.next tip Free m.state.anchor m.state.cache)
      (ways : WaysStand w stored p tip (record m.state { pause = Free })) (located : w.kind.point m.members ≡ Some point)
      (drawn : w.kind.issued m.next (point ∷ [])) (stored_is : IsStoredNow stored p held) (orderly : IsOrderly w stored p)
      (asks : AsksAlong (setting w stored) p m.state.requests) (nothing : AsksNothing (setting w stored) p) (now : Moment w)
      (r : Resumes w held m now)
      (stored_mid : (more : List (Mark B)) → r.mid.marks ≡ m.marks ++ more → IsStoredNow stored (after p more) held)
      (free_mid : r.mid.state.pause ≡ Free) where
    on_parked : AreParkedOn w stored held base tip points point other_states (parked_in m.state.requests) p (unparked w m)
    on_parked =
        let on : AreParked w stored held base tip points point Stop [] other_states (parked_in m.state.requests) p (unparked w m) =
        parked w stored held base tip points point Stop [] other_states p m s g ways located drawn in
        record {
          grounded = on.grounded;
          stays = record {
            orderly = orderly;
            along = All-filter (λ (e : ℕ × Requested B C I). is_none (parked_path e.1.phase))
                (λ e. (f : ℕ) → e.1.phase ≡ Fetching f → AsksParents (setting w stored) p e.0
                (gathered e.1.request e.1.acquired)) m.state.requests asks;
            nothing = nothing;
          };
          hands = on.hands;
          apart = on.apart;
          also = on.also;
        }

    first : KeepsReady w Rule (GoesAlong w) (AreParkedOn w stored held base tip points point other_states) [] p (unparked w m) r.mid
    first = AreParkedOn-along w stored held base tip points point other_states (parked_in m.state.requests) p (unparked w m) r.mid on_parked r.along

    abbrev q : Past B C I
    q = after p first.more

    stands : TablesStand w stored q points point r.mid.next r.mid.state
    stands = first.ready.grounded.ready.stands

    may_go : All (MayGo q r.mid.state.pause r.mid.state.anchor r.mid.state.cache) (unacquired_in r.mid.state.requests)
    may_go = λ k d l.
        let e = get_or (unacquired_in r.mid.state.requests) k d in
        let folded = folded_free w stored base q points point r.mid.next tip r.mid.state.pause r.mid.state.anchor r.mid.state.cache
        free_mid first.ready.grounded.ground in
        record {
          free = free_mid;
          stored_is = stored_mid first.more first.marks_are;
          may_wait = λ needs. waits-Abstains w stored q r.mid.state.anchor r.mid.state.cache held folded.anchor_is folded.tip_is
              (stored_mid first.more first.marks_are) e.0 e.1.request [] needs;
        }

    may_wait : All (MayWait w stored held points point other_states q (unsettled w r.mid)) (unacquired_in r.mid.state.requests)
    may_wait = λ k d l. (may_go k d l).may_wait

    unacquired : AreAnew (unacquired_in r.mid.state.requests) q (unsettled w r.mid)
    unacquired = record {
      grounded = record {
        ready = record {
          stands = TablesStand-kept (λ phase. not (is_unacquired phase)) (λ j way. refl)
              (λ f. refl) w stored q points point r.mid.next r.mid.state stands;
          names = first.ready.grounded.ready.names;
          located = first.ready.grounded.ready.located;
          drawn = first.ready.grounded.ready.drawn;
        };
        ground = first.ready.grounded.ground;
      };
      stays = record {
        orderly = first.ready.stays.orderly;
        along = All-filter (λ (e : ℕ × Requested B C I). not (is_unacquired e.1.phase))
            (λ e. (f : ℕ) → e.1.phase ≡ Fetching f → AsksParents (setting w stored) q e.0 (gathered e.1.request e.1.acquired)) r.mid.state.requests
            first.ready.stays.along;
        these = λ u d was. absurd (first.ready.stays.nothing u d was);
      };
      hands = λ k d l. (anew.out w stored held points point other_states q r.mid stands may_wait k d l).hand;
      apart = AllPairs-filter (λ (e f : ℕ × Requested B C I). e.0 ≢ f.0) (λ e. is_unacquired e.1.phase) r.mid.state.requests
          (entries_apart r.mid.state.requests stands.requests.ascending);
      also = may_go;
    }

    second : KeepsReady w Rule (AcquiresAnew w held) AreAnew [] q (unsettled w r.mid) now
    second = in_place-anew (unacquired_in r.mid.state.requests) q (unsettled w r.mid) now unacquired r.anew

    both : KeepsReady w Rule (AcquiresAnew w held) AreAnew [] p m now
    both = KeepsReady-then w Rule (AcquiresAnew w held) AreAnew [] p m (unsettled w r.mid) now first.more first.marks_are first.each second

    -- so they are
    pub resumed-in_place : IsResumedInPlace p m now
    resumed-in_place = record {
      more = both.more;
      marks_are = both.marks_are;
      each = both.each;
      stays = both.ready.stays;
      stands = both.ready.grounded.ready.stands;
    }
