-- False verdicts and declines have their reasons: those of all requests that go on after a pause.
use Rattle.std.proofs.Common.{◌≡◌, ℕ, List, [], ◌∷◌, Option}
use Rattle.std.proofs.lemmas.List.Elements.{All-weaker, All-nil}
use Rattle.stateful_base.specs.Names.{Named}
use Rattle.stateful_base.specs.declared.anchor.Anchor.{Anchor}
use Rattle.stateful_base.specs.declared.digest.Digest.{Digest}
use Rattle.stateful_history.specs.Fetches.{Abstains}
use Rattle.stateful_history.specs.Met.{Met}
use Rattle.stateful_history.specs.Past.{Past, after}
use Rattle.stateful_history.specs.declared.event.Event.{Event}
use Rattle.stateful_history.specs.declared.mark.Mark.{Mark}
use Rattle.stateful_exec_cache.specs.Cache.{IsAtHand}
use Rattle.stateful_exec_cache.specs.declared.cache.Cached.{Cached}
use Rattle.stateful_exec_model.specs.Ending.{InTurn}
use Rattle.stateful_exec_model.specs.Moments.{Moment}
use Rattle.stateful_exec_model.specs.Pausing.{GoesAlong, AcquiresAnew}
use Rattle.stateful_exec_tables.specs.Tables.{requested}
use Rattle.stateful_exec_walk.specs.Walk.{IsPrepared}
use Rattle.stateful_exec_model.specs.Workings.{Workings, Point}
use Rattle.stateful_exec_pause.specs.declared.pause.Pause.{Pause}
use Rattle.stateful_exec_pause.specs.declared.pause.Pause.TheVariants.{Free}
use Rattle.stateful_exec_tables.specs.declared.tables.Released.{Released}
use Rattle.stateful_exec_tables.specs.declared.tables.Requested.{Requested}
use Rattle.stateful_exec_walk.specs.declared.walk.Acquired.TheVariants as acquired
use Rattle.stateful_exec_laws.specs.Setting.{setting}
use Rattle.stateful_exec_laws.specs.Gathering.{gathered, AreLinked}
use Rattle.stateful_exec_laws.specs.Requesting.{first_of, steps, IsWayOf}
use Rattle.stateful_exec_laws.specs.Ways.{KeepOff, IsUnsettled, WaysStand}
use Rattle.stateful_exec_laws.proofs.requests.Acquired.{Serves-acquires}
use Rattle.stateful_exec_laws.specs.Storing.{IsStoredNow}
use Rattle.stateful_exec_laws.proofs.earned.Left.{LeavesBehind-advances, LeavesBehind-acquires}
use Rattle.stateful_exec_laws.proofs.ended.FollowStands.{ticket_of, request_of}
use Rattle.stateful_exec_laws.proofs.pauses.KeptInTurn.{IsCarried, AreGrounded, AreGrounded-in_turn}
use Rattle.stateful_exec_laws.proofs.requests.KeptMarks.{KeepsReady}
use Rattle.stateful_exec_laws.proofs.reasons.Acquired.{advances-free, acquires-reason}
use Rattle.stateful_exec_laws.proofs.reasons.Marks.{HasItsReason}
use Rattle.stateful_exec_laws.proofs.pauses.ResumeStands.{Serves-along}
use Rattle.stateful_exec_laws.proofs.ways.Acquired.{WaysStand-acquires}
use Rattle.stateful_exec_laws.proofs.ways.Kept.{IsUnsettled-same, WaysStand-advances}

module _ {B C I P R D H G U : Type 0} (w : Workings B C I P R D H G U) (stored held : ℕ → Option (Named B)) (base : w.States) (tip : Anchor) where
  -- Nothing pauses, the parked request goes on from a block at hand, none of its blocks is the anchor, and its block isn't final,
  -- unless it is the tip.
  pub record HasParked (p : Past B C I) (pause : Pause) (anchor : Anchor) (cache : List (Cached U)) (r : Released B C I) : Type 0 where
    pub way : IsWayOf w stored p r.request r.path
    pub free : pause ≡ Free
    pub at_hand : IsAtHand anchor cache r.path.parent.digest
    pub off : KeepOff anchor r.path.blocks
    pub unsettled : IsUnsettled w stored p tip r.request

  -- Nothing pauses, what came with the request is linked, the store has what it was handed but for what was pruned, and where
  -- the request has to wait it waits for nothing that was begun.
  pub record MayAcquire (p : Past B C I) (pause : Pause) (anchor : Anchor) (cache : List (Cached U)) (e : ℕ × Requested B C I) : Type 0 where
    pub free : pause ≡ Free
    pub linked : AreLinked (setting w stored) (gathered e.1.request [])
    pub stored_is : IsStoredNow stored p held
    pub may_wait : IsPrepared w.header anchor cache held e.1.request [] acquired.Waits → Abstains (setting w stored) e.0 p (first_of e.1.request)

  pub HasParked-same : (p q : Past B C I) (pause : Pause) (anchor : Anchor) (cache : List (Cached U)) (r : Released B C I) → IsCarried w stored p q → HasParked p pause anchor cache r → HasParked q pause anchor cache r
  HasParked-same p q pause anchor cache r c h = record {
    way = record {
      met = All-weaker (Met (setting w stored) p) (Met (setting w stored) q) (λ x met. (c.same.met x).1 met) (steps r.path) h.way.met;
      leads = h.way.leads;
      begins = h.way.begins;
    };
    free = h.free;
    at_hand = h.at_hand;
    off = h.off;
    unsettled = IsUnsettled-same w stored tip p q c.same r.request h.unsettled;
  }

  pub MayAcquire-same : (p q : Past B C I) (pause : Pause) (anchor : Anchor) (cache : List (Cached U)) (e : ℕ × Requested B C I) → IsCarried w stored p q → MayAcquire p pause anchor cache e → MayAcquire q pause anchor cache e
  MayAcquire-same p q pause anchor cache e c h = record {
    free = h.free;
    linked = h.linked;
    stored_is = λ n. rw c.same.pruned (h.stored_is n);
    may_wait = λ needs. c.abstains e.0 (first_of e.1.request) (h.may_wait needs);
  }

  module _ (points : Digest → Point w) (point : Point w) (event : Event B C I) (marks : List (Mark B))
      (other_states : (n i : w.Ids) (x y : w.States) (c : List (Point w)) → w.kind.issued n ((i, x) ∷ c) → w.kind.issued n ((i, y) ∷ c)) where
    abbrev Rule : Past B C I → Mark B → Type 0
    Rule = HasItsReason w stored base event marks

    abbrev Waits : Past B C I → Moment w → Type 0
    Waits p m = WaysStand w stored p tip m.state

    -- the parked requests in hand, and those that are to acquire anew what they need
    abbrev pub AreParked : List (Released B C I) → Past B C I → Moment w → Type 0
    AreParked = AreGrounded w stored base points point tip Rule ticket_of request_of HasParked Waits

    abbrev pub AreUnacquired : List (ℕ × Requested B C I) → Past B C I → Moment w → Type 0
    AreUnacquired = AreGrounded w stored base points point tip Rule (λ e. e.0) (λ e. e.1.request) MayAcquire Waits

    -- each mark of the parked requests that go along their paths keeps the rule, and the ways stay open
    pub AreParked-along : (rs : List (Released B C I)) (p : Past B C I) (m last : Moment w) → AreParked rs p m → InTurn (GoesAlong w) rs m last → KeepsReady w Rule (GoesAlong w) AreParked [] p m last
    AreParked-along rs p m last ready turns =
        AreGrounded-in_turn w stored base points point tip Rule ticket_of request_of HasParked (GoesAlong w)
        (λ p m now r ready hand h rule. Serves-along w stored points point other_states p m now r ready (record { hand = hand; way = h.way }) rule)
        (λ m now r rule. LeavesBehind-advances w m now r.ticket (requested r.request) r.path rule)
        HasParked-same Waits
        (λ p m now r more is g hand h rule c stays. WaysStand-advances w stored tip p (after p more) c.same m now stays r.ticket (requested r.request) r.path h.off (λ some. h.unsettled) rule)
        (λ p m now r g hand h stays rule. advances-free w stored base event marks p m h.free r.ticket (requested r.request) r.path now h.at_hand rule)
        rs p m last ready turns

    -- and each mark of those that acquire anew what they need
    pub AreUnacquired-anew : (es : List (ℕ × Requested B C I)) (p : Past B C I) (m last : Moment w) → AreUnacquired es p m → InTurn (AcquiresAnew w held) es m last → KeepsReady w Rule (AcquiresAnew w held) AreUnacquired [] p m last
    AreUnacquired-anew es p m last ready turns =
        AreGrounded-in_turn w stored base points point tip Rule (λ e. e.0) (λ e. e.1.request) MayAcquire (AcquiresAnew w held)
        (λ p m now e ready hand h rule. Serves-acquires w stored p points point m ready.stands e.0 (requested e.1.request) hand ready.names other_states ready.located ready.drawn (All-nil (Met (setting w stored) p)) held h.may_wait now rule)
        (λ m now e rule. LeavesBehind-acquires w held m now e.0 (requested e.1.request) rule)
        MayAcquire-same Waits
        (λ p m now e more is g hand h rule c stays. WaysStand-acquires w stored base held tip p (after p more) c.same points point m now g.ground h.free stays e.0 (requested e.1.request) hand (All-nil (Met (setting w stored) p)) rule)
        (λ p m now e g hand h stays rule. acquires-reason w stored base event marks p points point m.next tip m g.ground h.free held h.stored_is e.0 (requested e.1.request) now hand (All-nil (Met (setting w stored) p)) h.linked rule)
        es p m last ready turns
