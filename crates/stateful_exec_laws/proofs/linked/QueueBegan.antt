-- Where a finalization begins, what was known or lost is so still.
use Rattle.std.proofs.Common.{◌≡◌, ◌≢◌, ◌≤◌, ◌⊎◌, inl, inr, ℕ, List, ◌∷◌, All, Option, MatchOption, get_or, refl, sym, ap, ◌∙◌, subst, arith}
use Rattle.stateful_base.specs.Names.{Named}
use Rattle.stateful_base.specs.Anchor.{anchor_by}
use Rattle.stateful_base.specs.Round.{IsLater}
use Rattle.stateful_base.specs.declared.anchor.Anchor.{Anchor}
use Rattle.stateful_base.specs.declared.digest.Digest.{Digest}
use Rattle.stateful_history.specs.Known.{Known, IsUnknown, IsPastTip}
use Rattle.stateful_history.specs.Met.{Met}
use Rattle.stateful_history.specs.Past.{Past, Made}
use Rattle.stateful_history.specs.Reasons.{Missing, itself, above}
use Rattle.stateful_history.specs.Setting.{parent_of}
use Rattle.stateful_history.specs.declared.mark.Mark.TheVariants.{Began}
use Rattle.stateful_exec_cache.specs.Cache.{IsAtHand}
use Rattle.stateful_exec_cache.specs.declared.cache.Cached.{Cached}
use Rattle.stateful_exec_pause.specs.Boundary.{Boundary}
use Rattle.stateful_exec_model.specs.Workings.{Workings, Point}
use Rattle.stateful_exec_pause.specs.declared.pause.Pause.TheVariants.{Free, Finalizing}
use Rattle.stateful_exec_walk.specs.declared.request.Proposal.{Proposal}
use Rattle.stateful_exec_laws.specs.Setting.{setting}
use Rattle.stateful_exec_laws.specs.Reaching.{IsLost, QueueReaches}
use Rattle.stateful_exec_laws.proofs.linked.QueueLost.{Missing-met}
use Rattle.stateful_exec_laws.proofs.reasons.Ground.{IsGround, block_of, chain_of}
use Rattle.stateful_exec_laws.proofs.reasons.Known.{later_on, known_or_not, later_than_tip, tip_known}
use Rattle.stateful_exec_laws.proofs.reasons.Stuck.{below_at_hand, IsLost-below}

module _ {B C I P R D H G U : Type 0} (w : Workings B C I P R D H G U) (stored : ℕ → Option (Named B)) (base : w.States) (p : Past B C I) (points : Digest → Point w) (point : Point w) (next : w.Ids) (anchor : Anchor) (cache : List (Cached U)) (g : IsGround w stored base p points point next anchor Free anchor cache)
    (t : ℕ) (b : Named B) (boundary : Boundary) (own : boundary.digest ≡ b.digest) (h : IsGround w stored base (Made (Began t b) ∷ p) points point next (anchor_by w.header b) (Finalizing boundary) anchor cache)
    (met : Met (setting w stored) p b) (on_anchor : parent_of (setting w stored) b ≡ anchor.digest) (later : IsLater anchor.round (w.header.round b.block)) (higher : anchor.height.0 ≤ w.header.height b.block) where
  abbrev q : Past B C I
  q = Made (Began t b) ∷ p

  -- the anchor was known
  anchor_was : Known (setting w stored) p anchor.digest
  anchor_was = tip_known w stored base p points point next anchor Free anchor cache g

  -- another block than the finalized one that wasn't known isn't
  unknown-began : (d : Digest) → d ≢ b.digest → IsUnknown (setting w stored) p d → IsUnknown (setting w stored) q d
  unknown-began d other unknown known = elim ((h.stands.knows d).0 known) [ inl is ↦ other (is ∙ own) | inr both ↦ unknown ((g.stands.knows d).1 (inr both.0)) ]

  missing-began : {x y : Named B} → Met (setting w stored) p x → Missing (setting w stored) base p x y → y.digest ≢ b.digest → Missing (setting w stored) base q x y
  missing-began {x = x} there (itself u) other = itself (unknown-began x.digest other u)
  missing-began {y = y} there (above {x = z} m met_y is u) other =
      let not_final : z.digest ≢ b.digest = λ same.
      let one : z ≡ b = g.names z b (Missing-met (setting w stored) base p there m) met same in
      u (subst (λ (d : Digest). Known (setting w stored) p d) (sym (is ∙ ap (λ (c : Named B). parent_of (setting w stored) c) one ∙ on_anchor)) anchor_was) in
      above (missing-began there m not_final) (inr met_y) is (unknown-began y.digest other u)

  -- a block at hand is known, or lost
  pub at_hand-began : (x y : Named B) → Missing (setting w stored) base q x y → Met (setting w stored) q y → IsAtHand anchor cache (parent_of (setting w stored) y) → Known (setting w stored) q (parent_of (setting w stored) y) ⊎ IsLost w stored base q x
  at_hand-began x y missing met_y at_hand = elim (known_or_not w stored base q points point next (anchor_by w.header b) (Finalizing boundary) anchor cache h (parent_of (setting w stored) y) at_hand) [
    | inl known ↦ inl known
    | inr unknown ↦
        let c = block_of w stored base q points point next (anchor_by w.header b) (Finalizing boundary) anchor cache h (parent_of (setting w stored) y) at_hand in
        let on = chain_of w stored base q points point next (anchor_by w.header b) (Finalizing boundary) anchor cache h (parent_of (setting w stored) y) at_hand in
        inr (IsLost-below w stored base q points point next (anchor_by w.header b) (Finalizing boundary) anchor cache h x
        (below_at_hand w stored base q points point next (anchor_by w.header b) (Finalizing boundary) anchor cache h on.1 at_hand x c.0 (above missing c.1 c.2 (subst (λ (d : Digest). Known (setting w stored) q d → ⊥) (sym c.2) unknown)) c.1 c.2))
  ]

  known-began : (x : Named B) → Met (setting w stored) p x → Known (setting w stored) p x.digest → Known (setting w stored) q x.digest ⊎ IsLost w stored base q x
  known-began x there known =
      let at_hand : IsAtHand anchor cache x.digest = (g.stands.knows x.digest).0 known in
      elim (known_or_not w stored base q points point next (anchor_by w.header b) (Finalizing boundary) anchor cache h x.digest at_hand) [
        | inl still ↦ inl still
        | inr unknown ↦
            let on = chain_of w stored base q points point next (anchor_by w.header b) (Finalizing boundary) anchor cache h x.digest at_hand in
            inr (IsLost-below w stored base q points point next (anchor_by w.header b) (Finalizing boundary) anchor cache h x
            (below_at_hand w stored base q points point next (anchor_by w.header b) (Finalizing boundary) anchor cache h on.1 at_hand x x (itself unknown) (inr there) refl))
      ]

  past_began : (x : Named B) → IsPastTip (setting w stored) p x → IsLater anchor.round (w.header.round x.block)
  past_began x past = later_than_tip w stored base p points point next anchor Free anchor cache g x past

  past_from : (x : Named B) → IsLater anchor.round (w.header.round x.block) → IsPastTip (setting w stored) p x
  past_from x late = subst (λ (o : Option Anchor). MatchOption o ⊥ (λ a. IsLater a.round (w.header.round x.block))) (sym g.folded.tip_is) late

  -- a lost block stays lost
  lost-began : (x : Named B) → Met (setting w stored) p x → IsLost w stored base p x → IsLost w stored base q x
  lost-began x there l =
      let other : l.first.digest ≢ b.digest = λ same. let one : l.first ≡ b = g.names l.first b l.met met same in l.late (past_from l.first (subst (λ (c : Named B). IsLater anchor.round (w.header.round c.block)) (sym one) later)) in
      let missing : Missing (setting w stored) base q x l.first = missing-began there l.missing other in
      let late : IsPastTip (setting w stored) q l.first → ⊥ = λ past. l.late (past_from l.first (later_on anchor.round (w.header.round b.block) (w.header.round l.first.block) later past)) in
      elim l.because [
        | inl known ↦ elim (at_hand-began x l.first missing (inr l.met) ((g.stands.knows (parent_of (setting w stored) l.first)).0 known)) [
          | inl still ↦ record { first = l.first; missing = missing; met = inr l.met; late = late; because = inl still }
          | inr lost ↦ lost
        ]
        | inr covered ↦
            let low : w.header.height l.first.block ≤ anchor.height.0 = subst (λ (o : Option Anchor). MatchOption o ⊥ (λ a. w.header.height l.first.block ≤ a.height.0)) g.folded.tip_is covered in
            let lower : w.header.height l.first.block ≤ w.header.height b.block = omega arith in
            record { first = l.first; missing = missing; met = inr l.met; late = late; because = inr lower }
      ]

  -- The parents of queued proposals are known or lost where a finalization begins, as they were before.
  pub QueueReaches-began : (queued : List (ℕ × Proposal B C I)) → All (λ e. Met (setting w stored) p e.1.ancestry.first) queued → QueueReaches w stored base p queued → QueueReaches w stored base q queued
  QueueReaches-began queued mets all = λ k d l. elim (all k d l) [ inl known ↦ known-began (get_or queued k d).1.ancestry.first (mets k d l) known | inr lost ↦ inr (lost-began (get_or queued k d).1.ancestry.first (mets k d l) lost) ]
