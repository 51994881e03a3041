-- What true verdicts are earned by is carried from a request that is served to the next one.
use Rattle.std.proofs.Common.{◌≡◌, ◌++◌, ℕ, List, [], ◌∷◌, All, Option, ◌∙◌, refl}
use Rattle.std.proofs.lemmas.List.Elements.{All-head, All-tail}
use Rattle.stateful_base.specs.Names.{Header, Named}
use Rattle.stateful_base.specs.declared.anchor.Anchor.{Anchor}
use Rattle.stateful_history.specs.Anchors.{applied, anchor_of, tip_of}
use Rattle.stateful_history.specs.Canonical.{pruned_below}
use Rattle.stateful_history.specs.Past.{Past, Made, after}
use Rattle.stateful_history.specs.declared.mark.Mark.{Mark}
use Rattle.stateful_history.specs.declared.mark.Mark.TheVariants.{Opened, Converged, Began, Applied, Pruned}
use Rattle.stateful_exec_model.specs.Ending.{InTurn, none, next}
use Rattle.stateful_exec_model.specs.Moments.{Moment}
use Rattle.stateful_exec_model.specs.Workings.{Workings, Point}
use Rattle.stateful_exec_laws.specs.Storing.{IsStoredNow}
use Rattle.stateful_exec_laws.proofs.earned.Marks.{AreEarned, EarnsBehind}
use Rattle.stateful_exec_laws.proofs.earned.Path.{IsFolded}
use Rattle.stateful_exec_laws.proofs.earned.Together.{EarnsBehind-same, EarnsBehind-then}

-- the mark neither opens, finalizes nor prunes
abbrev pub IsMild : {B : Type 0} → Mark B → Type 0
IsMild (Opened anchor) = ⊥
IsMild (Converged anchor) = ⊥
IsMild (Began t b) = ⊥
IsMild (Applied b) = ⊥
IsMild (Pruned marshal target) = ⊥
IsMild mark = Unit {0}

-- behind such a mark all is as before it
pub record IsAsBefore {B C I : Type 0} (header : Header B) (p : Past B C I) (mark : Mark B) : Type 0 where
  pub anchor : anchor_of header (Made mark ∷ p) ≡ anchor_of header p
  pub tip : tip_of header (Made mark ∷ p) ≡ tip_of header p
  pub blocks : applied (Made mark ∷ p) ≡ applied p
  pub pruned : pruned_below (Made mark ∷ p) ≡ pruned_below p

pub as_before : {B C I : Type 0} (header : Header B) (p : Past B C I) (mark : Mark B) → IsMild mark → IsAsBefore header p mark
as_before header p (Opened anchor) mild = absurd mild
as_before header p (Converged anchor) mild = absurd mild
as_before header p (Began t b) mild = absurd mild
as_before header p (Applied b) mild = absurd mild
as_before header p (Pruned marshal target) mild = absurd mild
as_before header p mark mild = record { anchor = refl; tip = refl; blocks = refl; pruned = refl }

module _ {B C I P R D H G U : Type 0} (w : Workings B C I P R D H G U) (stored : ℕ → Option (Named B)) where
  -- the databases are where the applied blocks lead to behind such marks too
  pub IsFolded-mild : (base : w.States) (anchor tip : Anchor) (point : Point w) (p : Past B C I) (marks : List (Mark B)) → All (λ m. IsMild m) marks → IsFolded w stored base p anchor tip point → IsFolded w stored base (after p marks) anchor tip point
  IsFolded-mild base anchor tip point p [] mild f = f
  IsFolded-mild base anchor tip point p (mark ∷ marks) mild f =
      let same = as_before w.header p mark (All-head (λ m. IsMild m) mark marks mild) in
      IsFolded-mild base anchor tip point (Made mark ∷ p) marks (All-tail (λ m. IsMild m) mark marks mild) (record {
        anchor_is = same.anchor ∙ f.anchor_is;
        tip_is = same.tip ∙ f.tip_is;
        folded = rw same.blocks f.folded;
      })

  -- and the store has what it had
  pub IsStoredNow-mild : (stored_now : ℕ → Option (Named B)) (p : Past B C I) (marks : List (Mark B)) → All (λ m. IsMild m) marks → IsStoredNow stored p stored_now → IsStoredNow stored (after p marks) stored_now
  IsStoredNow-mild stored_now p [] mild is = is
  IsStoredNow-mild stored_now p (mark ∷ marks) mild is =
      let same = as_before w.header p mark (All-head (λ m. IsMild m) mark marks mild) in
      IsStoredNow-mild stored_now (Made mark ∷ p) marks (All-tail (λ m. IsMild m) mark marks mild) (λ h. rw same.pruned (is h))

  module _ (base : w.States) {X : Type 0} (Rule : X → Moment w → Moment w → Type 0) (Ready : List X → Past B C I → Moment w → Type 0) where
    -- one of these was served, its marks keep the rule, and the others are ready behind it
    pub record ServesByRight (xs : List X) (p : Past B C I) (m now : Moment w) : Type 0 where
      pub more : List (Mark B)
      pub marks_are : now.marks ≡ m.marks ++ more
      pub each : AreEarned w stored base p more
      pub ready : Ready xs (after p more) now

    module _ (serves : (x : X) (xs : List X) (p : Past B C I) (m now : Moment w) → Ready (x ∷ xs) p m → Rule x m now → ServesByRight xs p m now) where
      -- the marks of all of them keep the rule
      pub EarnsBehind-in_turn : (xs : List X) (p : Past B C I) (m last : Moment w) → Ready xs p m → InTurn Rule xs m last → EarnsBehind w stored base p m last
      EarnsBehind-in_turn [] p m _ ready none = EarnsBehind-same w stored base p m m refl
      EarnsBehind-in_turn (x ∷ xs) p m last ready (next {n = n} rule rules) =
          let served : ServesByRight xs p m n = serves x xs p m n ready rule in
          EarnsBehind-then w stored base p m n last served.more served.marks_are (record { more = served.more; marks_are = served.marks_are; each = served.each })
          (EarnsBehind-in_turn xs (after p served.more) n last served.ready rules)
