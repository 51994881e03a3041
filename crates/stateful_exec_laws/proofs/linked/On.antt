-- What is kept for reasons beside the tables: what was gathered for requests is linked, and the parents of queued proposals are
-- known or lost. It stays so behind items that leave the tip and ask for nothing.
use Rattle.std.proofs.Common.{◌≡◌, inr, ℕ, List, [], ◌∷◌, All, Option, Some, MatchOption, refl, sym, subst}
use Rattle.std.proofs.lemmas.List.Elements.{All-head, All-tail, All-weaker}
use Rattle.stateful_base.specs.Names.{Header, Named}
use Rattle.stateful_base.specs.declared.digest.Digest.{Digest}
use Rattle.stateful_history.specs.Anchors.{tip_of}
use Rattle.stateful_history.specs.Asked.{asked_digest}
use Rattle.stateful_history.specs.Honest.{IsHonest, IsAnswered}
use Rattle.stateful_history.specs.Met.{Met, TrueNames}
use Rattle.stateful_history.specs.Opening.{StartsNone}
use Rattle.stateful_history.specs.Past.{Past, Item, Came, Made, after}
use Rattle.stateful_history.specs.Setting.{Setting, parent_of}
use Rattle.stateful_history.specs.declared.event.Event.TheVariants.{Verify, Prepare, Propose, Fetched, Restart}
use Rattle.stateful_history.specs.declared.mark.Mark.{Mark}
use Rattle.stateful_history.specs.declared.mark.Mark.TheVariants.{Opened, Converged, Began, Asked}
use Rattle.stateful_history.proofs.Marks.{TrueNames-before_marks}
use Rattle.stateful_exec_model.specs.Workings.{Workings}
use Rattle.stateful_exec_walk.specs.declared.request.Proposal.{Proposal}
use Rattle.stateful_exec_tables.specs.declared.state.Tables.{Tables}
use Rattle.stateful_exec_tables.specs.declared.tables.Requested.{Requested}
use Rattle.stateful_exec_laws.specs.Setting.{setting}
use Rattle.stateful_exec_laws.specs.Gathering.{gathered, last_of, IsGathered, GatheringsStand}
use Rattle.stateful_exec_laws.specs.Reaching.{QueueReaches}
use Rattle.stateful_exec_laws.proofs.linked.QueueLost.{QueueReaches-on}

-- the item opens nothing, begins no finalization and asks for nothing
abbrev pub IsStill : {B C I : Type 0} → Item B C I → Type 0
IsStill (Came (Restart floor keep)) = ⊥
IsStill (Made (Opened anchor)) = ⊥
IsStill (Made (Converged anchor)) = ⊥
IsStill (Made (Began t b)) = ⊥
IsStill (Made (Asked f t d)) = ⊥
IsStill item = Unit {0}

module _ {B C I : Type 0} (p : Past B C I) where
  tip_one : (header : Header B) (x : Item B C I) → IsStill x → tip_of header (x ∷ p) ≡ tip_of header p
  tip_one header (Came (Restart floor keep)) still = absurd still
  tip_one header (Made (Opened anchor)) still = absurd still
  tip_one header (Made (Converged anchor)) still = absurd still
  tip_one header (Made (Began t b)) still = absurd still
  tip_one header x still = refl

  starts_one : (x : Item B C I) → IsStill x → StartsNone x
  starts_one (Came (Restart floor keep)) still = still
  starts_one (Made (Opened anchor)) still = still
  starts_one (Made (Converged anchor)) still = still
  starts_one x still = tt

  asked_one : (f : ℕ) (x : Item B C I) → IsStill x → asked_digest f (x ∷ p) ≡ asked_digest f p
  asked_one f (Made (Asked g t d)) still = absurd still
  asked_one f x still = refl

  -- what is trusted of a longer past is trusted of a shorter one
  pub honest_one : {S T : Type 0} (s : Setting B S T) (x : Item B C I) → IsHonest s (x ∷ p) → IsHonest s p
  honest_one s (Came (Verify t ancestry)) h = h.1
  honest_one s (Came (Prepare t context ancestry input)) h = h.1
  honest_one s (Came (Propose t context ancestry input)) h = h.1
  honest_one s x h = h

  pub answered_one : (x : Item B C I) → IsAnswered (x ∷ p) → IsAnswered p
  answered_one (Came (Fetched f (Some b))) h = h.1
  answered_one x h = h

module _ {B C I S T : Type 0} (s : Setting B S T) (p : Past B C I) (x : Item B C I) (still : IsStill x) where
  one_gathered : (r : Requested B C I) → IsGathered s p r → IsGathered s (x ∷ p) r
  one_gathered r h = record {
    linked = λ honest answered. h.linked (honest_one p s x honest) (answered_one p x answered);
    fetched = λ f fetching. subst (λ (o : Option Digest). MatchOption (last_of (gathered r.request r.acquired)) ⊥ (λ b. o ≡ Some (parent_of s b)))
        (sym (asked_one p f x still)) (h.fetched f fetching);
  }

  -- what was gathered stands behind such an item
  pub GatheringsStand-on : (rs : List (ℕ × Requested B C I)) → GatheringsStand s p rs → GatheringsStand s (x ∷ p) rs
  GatheringsStand-on rs all = All-weaker (λ (e : ℕ × Requested B C I). IsGathered s p e.1) (λ e. IsGathered s (x ∷ p) e.1)
      (λ e h. one_gathered e.1 h) rs all

module _ {B C I P R D H G U : Type 0} (w : Workings B C I P R D H G U) (stored : ℕ → Option (Named B)) (base : w.States) where
  -- what was gathered for each request is linked, and the parent of each queued proposal is known or lost
  pub record StaysLinked (p : Past B C I) (v : Tables B C I R U) : Type 0 where
    pub gatherings : GatheringsStand (setting w stored) p v.requests
    pub reaches : QueueReaches w stored base p v.queued

  -- the parents of queued proposals are blocks of the history
  abbrev pub QueueIsMet : Past B C I → List (ℕ × Proposal B C I) → Type 0
  QueueIsMet p queued = All (λ e. Met (setting w stored) p e.1.ancestry.first) queued

  pub met_on : (p : Past B C I) (x : Item B C I) (queued : List (ℕ × Proposal B C I)) → QueueIsMet p queued → QueueIsMet (x ∷ p) queued
  met_on p x queued met = All-weaker (λ (e : ℕ × Proposal B C I). Met (setting w stored) p e.1.ancestry.first)
      (λ e. Met (setting w stored) (x ∷ p) e.1.ancestry.first) (λ e m. inr m) queued met

  -- it stays so behind such an item
  pub StaysLinked-on : (p : Past B C I) (x : Item B C I) → IsStill x → TrueNames (setting w stored) (x ∷ p) → (v : Tables B C I R U)
      → QueueIsMet p v.queued → StaysLinked p v → StaysLinked (x ∷ p) v
  StaysLinked-on p x still names v met h = record {
    gatherings = GatheringsStand-on (setting w stored) p x still v.requests h.gatherings;
    reaches = QueueReaches-on w stored base p x (starts_one p x still) (tip_one p w.header x still) names v.queued met h.reaches;
  }

  -- and after marks of which each is such a one
  pub StaysLinked-marks : (marks : List (Mark B)) (p : Past B C I) → All (λ m. IsStill {C = C} {I = I} (Made m)) marks
      → TrueNames (setting w stored) (after p marks) → (v : Tables B C I R U) → QueueIsMet p v.queued → StaysLinked p v
      → StaysLinked (after p marks) v
  StaysLinked-marks [] p still names v met h = h
  StaysLinked-marks (mark ∷ marks) p still names v met h =
      StaysLinked-marks marks (Made mark ∷ p) (All-tail (λ m. IsStill {C = C} {I = I} (Made m)) mark marks still) names v (met_on p (Made mark) v.queued met)
      (StaysLinked-on p (Made mark) (All-head (λ m. IsStill {C = C} {I = I} (Made m)) mark marks still)
      (TrueNames-before_marks (setting w stored) (Made mark ∷ p) marks names) v met h)
