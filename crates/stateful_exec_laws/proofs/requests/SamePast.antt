-- A longer past with the same anchor, tip and blocks: what is told of states and of final blocks stays.
use Rattle.std.proofs.Common.{◌≡◌, ◌↔◌, ℕ, List, [], ◌∷◌, All, Option, None, Some, refl, ap, ◌∙◌}
use Rattle.std.proofs.lemmas.List.Elements.{All-head, All-tail}
use Rattle.stateful_base.specs.Names.{Named}
use Rattle.stateful_base.specs.declared.anchor.Anchor.{Anchor}
use Rattle.stateful_base.specs.declared.digest.Digest.{Digest}
use Rattle.stateful_history.specs.Anchors.{applied, anchor_of, tip_of}
use Rattle.stateful_history.specs.Canonical.{canonical, canonical_by, pruned_below}
use Rattle.stateful_history.specs.Met.{Met}
use Rattle.stateful_history.specs.Past.{Past, Made, after}
use Rattle.stateful_history.specs.Setting.{Setting}
use Rattle.stateful_history.specs.States.{HasState}
use Rattle.stateful_history.specs.States as states
use Rattle.stateful_history.specs.declared.mark.Mark.{Mark}
use Rattle.stateful_exec_laws.proofs.earned.Carried.{IsMild, as_before}

module _ {B C I S T : Type 0} (s : Setting B S T) where
  -- the same blocks were met and applied, the anchor and the tip are the same, and nothing more was pruned
  pub record IsSamePast (p q : Past B C I) : Type 0 where
    pub met : (b : Named B) → Met s q b ↔ Met s p b
    pub anchor : anchor_of s.header q ≡ anchor_of s.header p
    pub tip : tip_of s.header q ≡ tip_of s.header p
    pub blocks : applied q ≡ applied p
    pub pruned : pruned_below q ≡ pruned_below p

  record SaysSame (p q : Past B C I) : Type 0 where
    anchor : anchor_of s.header q ≡ anchor_of s.header p
    tip : tip_of s.header q ≡ tip_of s.header p
    blocks : applied q ≡ applied p
    pruned : pruned_below q ≡ pruned_below p

  says_same : (p : Past B C I) (marks : List (Mark B)) → All (λ m. IsMild m) marks → SaysSame p (after p marks)
  says_same p [] mild = record { anchor = refl; tip = refl; blocks = refl; pruned = refl }
  says_same p (mark ∷ marks) mild =
      let one = as_before s.header p mark (All-head (λ m. IsMild m) mark marks mild) in
      let rest = says_same (Made mark ∷ p) marks (All-tail (λ m. IsMild m) mark marks mild) in
      record { anchor = rest.anchor ∙ one.anchor; tip = rest.tip ∙ one.tip; blocks = rest.blocks ∙ one.blocks; pruned = rest.pruned ∙ one.pruned }

  -- behind mild marks that bring no block the past is the same
  pub IsSamePast-mild : (p : Past B C I) (marks : List (Mark B)) → All (λ m. IsMild m) marks → ((b : Named B) → Met s (after p marks) b ↔ Met s p b) → IsSamePast p (after p marks)
  IsSamePast-mild p marks mild met =
      let h = says_same p marks mild in
      record { met = met; anchor = h.anchor; tip = h.tip; blocks = h.blocks; pruned = h.pruned }

  module _ (p q : Past B C I) (same : IsSamePast p q) where
    reaches_same : {from : Digest} {at : S} {d : Digest} {t : S} → states.Reaches s (Met s p) from at d t → states.Reaches s (Met s q) from at d t
    reaches_same states.here = states.here
    reaches_same (states.further {b = b} r met ne step) = states.further (reaches_same r) ((same.met b).1 met) ne step

    -- a block has the same states
    pub HasState-same : (base : S) (d : Digest) (t : S) → HasState s base p d t → HasState s base q d t
    HasState-same base d t h = record {
      anchor = h.anchor;
      now = h.now;
      anchored = same.anchor ∙ h.anchored;
      folded = rw same.blocks h.folded;
      reached = reaches_same h.reached;
    }

    canonical_by-same : (n : ℕ) (tip anchor : Option Anchor) → canonical_by s q n tip anchor ≡ canonical_by s p n tip anchor
    canonical_by-same n None anchor = refl
    canonical_by-same n (Some tip) None = refl
    canonical_by-same n (Some tip) (Some anchor) = rw same.pruned refl

    -- and the same block is the final one of a height
    pub canonical-same : (n : ℕ) → canonical s q n ≡ canonical s p n
    canonical-same n =
        canonical_by-same n (tip_of s.header q) (anchor_of s.header q)
        ∙ ap (λ (o : Option Anchor). canonical_by s p n o (anchor_of s.header q)) same.tip
        ∙ ap (λ (o : Option Anchor). canonical_by s p n (tip_of s.header p) o) same.anchor
