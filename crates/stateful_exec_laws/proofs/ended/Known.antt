-- What is known after the end of a run, and what its last turn says.
use Rattle.std.proofs.Common.{◌≡◌, ◌⊎◌, ◌==◌, if◌then◌else◌, inl, inr, ℕ, [], ◌∷◌, Option, None, Some, Bool, true, false, refl, ap, option_map, arith}
use Rattle.stateful_base.specs.Round.{IsLater}
use Rattle.stateful_base.specs.declared.digest.Digest.{Digest}
use Rattle.stateful_base.specs.declared.round.Round.{Round}
use Rattle.stateful_base.specs.declared.outcome.Finality.TheVariants.{Candidate}
use Rattle.stateful_base.specs.declared.outcome.Moved.TheVariants.{Done}
use Rattle.stateful_db.specs.Meaning.{Meaning, outcome, Ends}
use Rattle.stateful_history.specs.Setting.{Setting}
use Rattle.stateful_history.specs.Past.{Past, Came, Made}
use Rattle.stateful_history.specs.Asked.{started}
use Rattle.stateful_history.specs.Jobs.{JobOf, job_of, started_for}
use Rattle.stateful_history.specs.Known.{Known, is_tip, kept, stays}
use Rattle.stateful_history.specs.declared.event.Event.TheVariants.{Turn}
use Rattle.stateful_history.specs.declared.mark.How.{How}
use Rattle.stateful_history.specs.declared.mark.How.TheVariants.{Kept}
use Rattle.stateful_history.specs.declared.mark.JobKind.{JobKind}
use Rattle.stateful_history.specs.declared.mark.Mark.TheVariants.{Started, Ended}
use Rattle.stateful_exec_laws.proofs.requests.Calm.{IsCalm, Known-calm, Known-before}

pub IsLater-self : (r : Round) → IsLater r r → ⊥
IsLater-self r (inl l) = omega arith
IsLater-self r (inr l) = omega (arith, l.1)

-- nor is a round that is later than a later one the same
pub IsLater-after : (a b c : Round) → IsLater a b → IsLater b c → a ≡ c → ⊥
IsLater-after a b c l m same = let same_epoch : a.epoch.0 ≡ c.epoch.0 = ap (λ (r : Round). r.epoch.0) same in let same_view : a.view.0 ≡ c.view.0 = ap (λ (r : Round). r.view.0) same in go l m same_epoch same_view
  where
    go : IsLater a b → IsLater b c → a.epoch.0 ≡ c.epoch.0 → a.view.0 ≡ c.view.0 → ⊥
    go (inl l) (inl m) e v = omega arith
    go (inl l) (inr m) e v = omega (arith, m.0)
    go (inr l) (inl m) e v = omega (arith, l.0)
    go (inr l) (inr m) e v = omega (arith, l.0, l.1, m.0, m.1)

module _ {B S T : Type 0} (m : Meaning B S T) (t : S) (b : B) where
  -- a candidate that ends with states is acceptable, and leads to them
  pub outcome-some : (u : S) → outcome m Candidate t b ≡ Some u → (m.accept t b ≡ true) × (m.step t b ≡ Some u)
  outcome-some u e = go (m.accept t b) refl
    where
      go : (a : Bool) → m.accept t b ≡ a → (m.accept t b ≡ true) × (m.step t b ≡ Some u)
      go true is = (is, rw is at e)
      go false is = let none = rw is at e in cc

-- a turn that ended with a batch, where there are states
pub ends-some : {M S : Type 0} (batch : M) (o : Option S) (Shows : M → S → Type 0) (GoesOn : Type 0) → Ends (Done (Some batch)) o Shows GoesOn → (s : S) × (o ≡ Some s) × Shows batch s
ends-some batch None Shows GoesOn h = absurd h
ends-some batch (Some s) Shows GoesOn h = (s, refl, h)

either : (b : Bool) (kind : JobKind) (d : Digest) (o : Option Digest) (f : Option JobOf) → o ≡ option_map (λ x. x.digest) f → (if b then Some d else o) ≡ option_map (λ x. x.digest) (if b then Some (job_of kind d) else f)
either true kind d o f e = refl
either false kind d o f e = e

-- the digest of what a job was started for
pub started-by : {B C I : Type 0} (j : ℕ) (p : Past B C I) → started j p ≡ option_map (λ o. o.digest) (started_for j p)
started-by j [] = refl
started-by j (Made (Started k kind d) ∷ p) = either (j == k) kind d (started j p) (started_for j p) (started-by j p)
started-by j (item ∷ p) = started-by j p

module _ {B C I S T : Type 0} (s : Setting B S T) where
  pub turn-IsCalm : (p : Past B C I) (j : ℕ) → IsCalm s p (Came (Turn j))
  turn-IsCalm p j = record { tip = refl; starts_none = tt; built = λ d h. h; kept = refl }

  Known-ended : {p : Past B C I} {d : Digest} → Known s p d → (j : ℕ) (how : How) → Known s (Made (Ended j how) ∷ p) d
  Known-ended (is_tip e) j how = is_tip e
  Known-ended (kept m k l parent) j how = stays tt m (kept m k l parent) l l (Known-ended parent j how)
  Known-ended (stays o m k old l parent) j how = stays tt (inr m) (stays o m k old l parent) l l (Known-ended parent j how)

  -- a known block stays known after the end of a run
  pub Known-turned : (p : Past B C I) (d : Digest) (j : ℕ) (how : How) → Known s p d → Known s (Made (Ended j how) ∷ Came (Turn j) ∷ p) d
  Known-turned p d j how k = Known-ended (Known-calm s k (Came (Turn j)) (turn-IsCalm p j)) j how

  Known-kept : {p : Past B C I} {d own : Digest} {j : ℕ} → Known s (Made (Ended j Kept) ∷ p) d → started j p ≡ Some own → (d ≡ own) ⊎ Known s p d
  Known-kept (is_tip e) some = inr (is_tip e)
  Known-kept (kept m k l parent) some = inl cc
  Known-kept (stays o m k old l parent) some = inr k

  -- the end of a run that is kept makes no other block known
  pub Known-turned_before : (p : Past B C I) (d own : Digest) (j : ℕ) → started j p ≡ Some own → Known s (Made (Ended j Kept) ∷ Came (Turn j) ∷ p) d → (d ≡ own) ⊎ Known s p d
  Known-turned_before p d own j is k = elim (Known-kept k is) [ inl e ↦ inl e | inr before ↦ inr (Known-before s before (turn-IsCalm p j)) ]
