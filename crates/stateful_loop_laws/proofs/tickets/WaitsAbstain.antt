-- A request that has to wait abstains: its block is below the anchor, and the store has no block of its height.
use Rattle.std.proofs.Common.{◌≡◌, ◌≢◌, ◌<◌, ◌==◌, inr, ℕ, Bool, true, false, nat_lt, if◌then◌else◌, List, Option, Some, None, option_map, MatchOption, refl, sym, ◌∙◌, subst, arith}
use Rattle.std.proofs.lemmas.Grind.{common_steps}
use Rattle.stateful_base.specs.Names.{Named}
use Rattle.stateful_base.specs.declared.anchor.Anchor.{Anchor}
use Rattle.stateful_base.specs.declared.digest.Digest.{Digest}
use Rattle.stateful_history.specs.Anchors.{anchor_of, tip_of}
use Rattle.stateful_history.specs.Canonical.{canonical, pruned_below}
use Rattle.stateful_history.specs.Fetches.{IsUndecided, Abstains}
use Rattle.stateful_history.specs.Past.{Past}
use Rattle.stateful_history.specs.Setting.{Setting}
use Rattle.stateful_exec_cache.specs.Judgement.{IsJudged}
use Rattle.stateful_exec_cache.specs.declared.cache.Cached.{Cached}
use Rattle.stateful_exec_cache.specs.declared.judgement.Judgement.TheVariants as judged
use Rattle.stateful_exec_walk.specs.Walk as walk
use Rattle.stateful_exec_walk.specs.Walk.{IsNeeded, IsVerified, IsPrepared}
use Rattle.stateful_exec_model.specs.Workings.{Workings, Point}
use Rattle.stateful_exec_pause.specs.declared.pause.Pause.TheVariants.{Free}
use Rattle.stateful_exec_walk.specs.declared.request.Request.{Request}
use Rattle.stateful_exec_walk.specs.declared.request.Request.TheVariants.{Verify, Recover}
use Rattle.stateful_exec_walk.specs.declared.walk.Acquired.TheVariants as acquired
use Rattle.stateful_exec_laws.specs.Ground.{IsGround}
use Rattle.stateful_exec_laws.specs.Requesting.{first_of}
use Rattle.stateful_exec_laws.specs.Setting.{setting}
use Rattle.stateful_exec_laws.specs.Storing.{IsStoredNow}

eq-other : (a b : ℕ) → a ≢ b → (a == b) ≡ false
eq-other a b ne = grind (arith, common_steps)

lt-below : (a b : ℕ) → a < b → nat_lt a b ≡ true
lt-below a b l = grind (arith, common_steps)

named_none : {X Y : Type 0} (f : X → Y) (c : Bool) (o : Option X) → (if c then None else o) ≡ None → (if c then None else option_map f o) ≡ None
named_none f true o is = refl
named_none f false o is = rw is refl

module _ {B C I S T : Type 0} (s : Setting B S T) (p : Past B C I) (anchor : Anchor) (anchor_is : anchor_of s.header p ≡ Some anchor)
    (tip_is : tip_of s.header p ≡ Some anchor) (stored_now : ℕ → Option (Named B)) (stored_is : IsStoredNow s.stored p stored_now) where
  -- below the anchor no block of a height is final of which the store has none
  pub canonical-none : (n : ℕ) → n < anchor.height.0 → stored_now n ≡ None → canonical s p n ≡ None
  canonical-none n low none =
      let other : anchor.height.0 ≢ n = omega arith in
      rw (tip_is, anchor_is, eq-other anchor.height.0 n other, lt-below n anchor.height.0 low)
      (named_none (λ (b : Named B). b.digest) (nat_lt n (pruned_below p)) (s.stored n) (sym (stored_is n) ∙ none))

  -- such a block is undecided
  pub undecided-below : (b : Named B) → s.header.height b.block < anchor.height.0 → stored_now (s.header.height b.block) ≡ None → IsUndecided s p b
  undecided-below b low none = subst
      (λ (o : Option Anchor). MatchOption o ⊥ (λ tip. (s.header.height b.block < tip.height.0) × (canonical s p (s.header.height b.block) ≡ None)))
      (sym tip_is)
      (low, canonical-none (s.header.height b.block) low none)

module _ {B C I P R D H G U : Type 0} (w : Workings B C I P R D H G U) (stored : ℕ → Option (Named B)) (p : Past B C I) (anchor : Anchor)
    (cache : List (Cached U)) (stored_now : ℕ → Option (Named B)) where
  -- what is walked from doesn't wait
  not_needed : {b : Named B} {chain : List (Named B)} → IsNeeded w.header anchor cache b chain acquired.Waits → ⊥
  not_needed (walk.child e is walks) = walks

  -- a block to judge that has to wait is below the anchor, and the store has none of its height
  verified-waits : {b : Named B} {chain : List (Named B)} → IsVerified w.header anchor cache stored_now b chain acquired.Waits
      → IsJudged w.header anchor cache stored_now b judged.Waits
  verified-waits (walk.waits judged) = judged
  verified-waits (walk.runs judged needed) = absurd (not_needed needed)

  -- A request that has to wait waits for nothing that was begun, where the anchor is the tip.
  pub waits-Abstains : anchor_of w.header p ≡ Some anchor → tip_of w.header p ≡ Some anchor → IsStoredNow stored p stored_now
      → (t : ℕ) (request : Request B C I) (more : List (Named B))
      → IsPrepared w.header anchor cache stored_now request more acquired.Waits → Abstains (setting w stored) t p (first_of request)
  waits-Abstains anchor_is tip_is stored_is t (Verify u ancestry) more needs =
      let h : IsJudged w.header anchor cache stored_now ancestry.first judged.Waits = verified-waits needs in
      inr (undecided-below (setting w stored) p anchor anchor_is tip_is stored_now stored_is ancestry.first h.1 h.2)
  waits-Abstains anchor_is tip_is stored_is t (Recover u context ancestry input kind) more needs = absurd needs

  -- and so on the ground, where nothing pauses
  pub waits-Abstains-ground : (base : w.States) (points : Digest → Point w) (point : Point w) (next : w.Ids)
      → IsGround w stored base p points point next anchor Free anchor cache → IsStoredNow stored p stored_now
      → (t : ℕ) (request : Request B C I) (more : List (Named B))
      → IsPrepared w.header anchor cache stored_now request more acquired.Waits → Abstains (setting w stored) t p (first_of request)
  waits-Abstains-ground base points point next g stored_is t request more needs =
      waits-Abstains g.folded.anchor_is g.folded.tip_is stored_is t request more needs
