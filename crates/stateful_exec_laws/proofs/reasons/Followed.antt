-- False verdicts and declines have their reasons: those of all requests that waited for a run that has ended.
use Rattle.std.proofs.Common.{◌≡◌, inl, inr, ℕ, List, [], ◌∷◌, Option, subst}
use Rattle.std.proofs.lemmas.List.Elements.{All-weaker}
use Rattle.stateful_base.specs.Names.{Named}
use Rattle.stateful_base.specs.declared.anchor.Anchor.{Anchor}
use Rattle.stateful_base.specs.declared.digest.Digest.{Digest}
use Rattle.stateful_history.specs.Met.{Met}
use Rattle.stateful_history.specs.Past.{Past, after}
use Rattle.stateful_history.specs.Setting.{parent_of}
use Rattle.stateful_history.specs.declared.event.Event.{Event}
use Rattle.stateful_history.specs.declared.mark.How.{How}
use Rattle.stateful_history.specs.declared.mark.Mark.{Mark}
use Rattle.stateful_exec_cache.specs.declared.cache.Cached.{Cached}
use Rattle.stateful_exec_model.specs.Ending.{InTurn, Follows}
use Rattle.stateful_exec_model.specs.Moments.{Moment}
use Rattle.stateful_exec_model.specs.Workings.{Workings, Point}
use Rattle.stateful_exec_pause.specs.declared.pause.Pause.{Pause}
use Rattle.stateful_exec_tables.specs.declared.tables.Released.{Released}
use Rattle.stateful_exec_laws.specs.Setting.{setting}
use Rattle.stateful_exec_laws.specs.Requesting.{steps, IsWayOf}
use Rattle.stateful_exec_laws.specs.Standing.{IsInHand}
use Rattle.stateful_exec_laws.specs.Ways.{KeepOff, IsUnsettled, WaysStand}
use Rattle.stateful_exec_laws.proofs.earned.InTurn.{All-last}
use Rattle.stateful_exec_laws.proofs.earned.Left.{LeavesBehind-follows}
use Rattle.stateful_exec_laws.proofs.ended.FollowStands.{ticket_of, request_of, Serves-follows}
use Rattle.stateful_exec_laws.proofs.pauses.KeptInTurn.{IsCarried, IsGrounded, AreGrounded, AreGrounded-in_turn}
use Rattle.stateful_exec_laws.proofs.requests.KeptMarks.{KeepsBehind, KeepsReady}
use Rattle.stateful_exec_laws.proofs.reasons.Ended.{HasEnded}
use Rattle.stateful_exec_laws.proofs.reasons.Follows.{follows-reason}
use Rattle.stateful_exec_laws.proofs.reasons.Marks.{HasItsReason}
use Rattle.stateful_exec_laws.proofs.requests.SamePast.{IsSamePast, HasState-same}
use Rattle.stateful_exec_laws.proofs.ways.Kept.{IsUnsettled-same, WaysStand-follows}

module _ {B C I P R D H G U : Type 0} (w : Workings B C I P R D H G U) (stored : ℕ → Option (Named B)) (base : w.States) (tip : Anchor) where
  pub HasEnded-same : (p q : Past B C I) → IsSamePast (setting w stored) p q → (anchor : Anchor) (cache : List (Cached U)) (b : Named B) (how : How) → HasEnded w stored base p anchor cache b how → HasEnded w stored base q anchor cache b how
  HasEnded-same p q same anchor cache b how h = record {
    parent = h.parent;
    why = elim h.why [ inl any ↦ inl any | inr bad ↦ inr (bad.0, HasState-same (setting w stored) p q same base (parent_of (setting w stored) b) bad.0 bad.1, bad.2) ];
    kept = h.kept;
  }

  -- The request waited for a run of the block, which has ended so. Nothing on its way is the anchor, and its block isn't final,
  -- unless it is the tip.
  pub record HasWaited (b : Named B) (how : How) (p : Past B C I) (pause : Pause) (anchor : Anchor) (cache : List (Cached U)) (r : Released B C I) : Type 0 where
    pub way : IsWayOf w stored p r.request r.path
    pub leads : r.path.parent ≡ b
    pub off : KeepOff anchor (steps r.path)
    pub unsettled : IsUnsettled w stored p tip r.request
    pub ended : HasEnded w stored base p anchor cache b how

  pub HasWaited-same : (b : Named B) (how : How) (p q : Past B C I) (pause : Pause) (anchor : Anchor) (cache : List (Cached U)) (r : Released B C I) → IsCarried w stored p q → HasWaited b how p pause anchor cache r → HasWaited b how q pause anchor cache r
  HasWaited-same b how p q pause anchor cache r c h = record {
    way = record {
      met = All-weaker (Met (setting w stored) p) (Met (setting w stored) q) (λ x met. (c.same.met x).1 met) (steps r.path) h.way.met;
      leads = h.way.leads;
      begins = h.way.begins;
    };
    leads = h.leads;
    off = h.off;
    unsettled = IsUnsettled-same w stored tip p q c.same r.request h.unsettled;
    ended = HasEnded-same p q c.same anchor cache b how h.ended;
  }

  module _ (points : Digest → Point w) (point : Point w) (event : Event B C I) (marks : List (Mark B))
      (other_states : (n i : w.Ids) (x y : w.States) (c : List (Point w)) → w.kind.issued n ((i, x) ∷ c) → w.kind.issued n ((i, y) ∷ c)) where
    abbrev Waits : Past B C I → Moment w → Type 0
    Waits p m = WaysStand w stored p tip m.state

    -- the requests in hand that waited for a run that has ended
    abbrev pub AreWaiting : Named B → How → List (Released B C I) → Past B C I → Moment w → Type 0
    AreWaiting b how = AreGrounded w stored base points point tip (HasItsReason w stored base event marks) ticket_of request_of (HasWaited b how) Waits

    keeps : (b : Named B) (how : How) (p : Past B C I) (m now : Moment w) (r : Released B C I) → IsGrounded w stored base points point tip p m → IsInHand w stored p r.ticket r.request m.state
        → HasWaited b how p m.state.pause m.state.anchor m.state.cache r → Follows w b how r m now → KeepsBehind w (HasItsReason w stored base event marks) p m now
    keeps b how p m now r g hand h rule =
        follows-reason w stored base event marks p points point m.next tip m g.ground b how h.ended (subst (λ (x : Named B). Met (setting w stored) p x) h.leads (All-last (Met (setting w stored) p) r.path.blocks r.path.parent h.way.met)) r h.leads hand.asked h.way h.off h.unsettled now rule

    -- Each mark of the requests that follow the end of a run in turn keeps the rule, and the ways stay open behind them.
    pub AreWaiting-follow : (b : Named B) (how : How) (rs : List (Released B C I)) (p : Past B C I) (m last : Moment w) → AreWaiting b how rs p m → InTurn (Follows w b how) rs m last
        → KeepsReady w (HasItsReason w stored base event marks) (Follows w b how) (AreWaiting b how) [] p m last
    AreWaiting-follow b how rs p m last ready turns =
        AreGrounded-in_turn w stored base points point tip (HasItsReason w stored base event marks) ticket_of request_of (HasWaited b how) (Follows w b how)
        (λ p m now r ready hand h rule. Serves-follows w stored points point other_states b how p m now r ready (record { hand = hand; way = h.way }) rule)
        (λ m now r rule. LeavesBehind-follows w b how r m now rule)
        (λ p q pause anchor cache r c h. HasWaited-same b how p q pause anchor cache r c h) Waits
        (λ p m now r more is g hand h rule c stays. WaysStand-follows w stored tip p (after p more) c.same m now stays b how r h.leads h.off h.unsettled rule)
        (λ p m now r g hand h stays rule. keeps b how p m now r g hand h rule) rs p m last ready turns
