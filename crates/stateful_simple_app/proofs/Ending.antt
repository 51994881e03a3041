-- What runs and builds end with.
use Rattle.std.proofs.Common.{◌≡◌, ℕ, List, subst, ◌⊎◌, inl, inr, Bool, true, false, Option, None, Some, IsSomeAnd, refl}
use Rattle.stateful_base.specs.declared.outcome.Finality.{Finality}
use Rattle.stateful_base.specs.declared.outcome.Finality.TheVariants.{Candidate, Finalized}
use Rattle.stateful_base.specs.declared.outcome.Moved.TheVariants.{Done}
use Rattle.stateful_db.specs.Chain.{IsPoint}
use Rattle.stateful_db.specs.Meaning.{outcome, Ends}
use Rattle.stateful_db_plain.specs.Whole.{Whole}
use Rattle.stateful_simple_app.specs.Rules.{Entries, Rules, after, stepped, run_outcome, one_turn_meaning}
use Rattle.stateful_simple_app.specs.Drafts.{Becomes}
use Rattle.stateful_simple_app.specs.declared.block.PayloadBlock.{PayloadBlock}

-- the database that is here is at the point
pub here_at : {place : Option (ℕ × Whole)} {at : ℕ × Whole} (here : ℕ × Whole) (c : List (ℕ × Whole)) → place ≡ Some at → IsPoint at c → place ≡ Some here → IsPoint here c
here_at {at = at} here c is_at among is_here = let same : at ≡ here = cc in subst (λ p. IsPoint p c) same among

-- what a value shows, and that this is there
pub shown_by : {A S : Type 0} (Shows : A → S → Type 0) (value : A) (there : Option S) → Becomes Shows (Some value) there → (s : S) × (there ≡ Some s) × Shows value s
shown_by Shows value None none = absurd none
shown_by Shows value (Some s) shown = (s, refl, shown)

becomes_some : {A S : Type 0} (Shows : A → S → Type 0) (value : Option A) (s : S) → IsSomeAnd value (λ a. Shows a s) → Becomes Shows value (Some s)
becomes_some Shows None s none = absurd none
becomes_some Shows (Some a) s shown = shown

-- a value is there that shows what there is
pub becomes_at : {A S : Type 0} (Shows : A → S → Type 0) (value : Option A) (there : Option S) (s : S) → there ≡ Some s → IsSomeAnd value (λ a. Shows a s) → Becomes Shows value there
becomes_at Shows value there s is shown = rw is (becomes_some Shows value s shown)

-- a run that ends with a batch for the states that there are
pub ends_with : {M S : Type 0} (sealed : Option M) (there : Option S) (Shows : M → S → Type 0) (GoesOn : Type 0) → Becomes Shows sealed there → Ends (Done sealed) there Shows GoesOn
ends_with None there Shows GoesOn none = none
ends_with (Some m) None Shows GoesOn none = absurd none
ends_with (Some m) (Some s) Shows GoesOn shown = shown

true_or_false : (b : Bool) → (b ≡ true) ⊎ (b ≡ false)
true_or_false true = inl refl
true_or_false false = inr refl

module _ {P I : Type 0} (rules : Rules P I) where
  -- what isn't rejected leads to the state of these entries
  pub leads_to : (f : Finality) (whole : Whole) (payload : P) (entries : Entries) → (f ≡ Candidate → rules.accept whole.entries payload ≡ true) → rules.step whole.entries payload ≡ Some entries → run_outcome rules f whole payload ≡ Some (after whole entries)
  leads_to Candidate whole payload entries good leads = rw (good refl, leads) refl
  leads_to Finalized whole payload entries good leads = rw leads refl

  -- a run of a block ends as what it carries does
  pub outcome_of : (f : Finality) (whole : Whole) (b : PayloadBlock P) → run_outcome rules f whole b.payload ≡ outcome (one_turn_meaning rules) f whole b
  outcome_of Candidate whole b =
      elim (true_or_false (rules.accept whole.entries b.payload)) [ inl good ↦ rw good refl | inr bad ↦ rw bad refl ]
  outcome_of Finalized whole b = refl

  -- an acceptable block leads to the same state once it is final
  pub steps_to : (whole : Whole) (payload : P) (states : Whole) → run_outcome rules Candidate whole payload ≡ Some states → stepped rules whole payload ≡ Some states
  steps_to whole payload states leads =
      elim (true_or_false (rules.accept whole.entries payload)) [ inl good ↦ rw good at leads | inr bad ↦ absurd (let none : None ≡ Some states = rw bad at leads in cc) ]
