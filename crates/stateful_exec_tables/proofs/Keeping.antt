-- What the cache takes of a block.
use Rattle.std.proofs.Common.{◌≡◌, ◌≢◌, ◌++◌, ◌∷◌, [], List, All, refl, sym, ◌∙◌, ap, subst, inl, inr}
use Rattle.std.specs.List.{Contains}
use Rattle.std.proofs.lemmas.List.Elements.{All-contains}
use Rattle.stateful_base.specs.Names.{Header, Named}
use Rattle.stateful_base.specs.Round.{IsLater}
use Rattle.stateful_base.specs.declared.anchor.Anchor.{Anchor}
use Rattle.stateful_exec_cache.specs.Cache.{IsIn, IsAtHand}
use Rattle.stateful_exec_cache.specs.declared.cache.Cached.{Cached}
use Rattle.stateful_history.specs.declared.mark.How.TheVariants.{Kept, Missed}
use Rattle.stateful_exec_pause.specs.Boundary.{step_by}
use Rattle.stateful_exec_tables.specs.Keeping.{step_in, ChangesPending}
use Rattle.stateful_exec_tables.specs.Keeping.{Takes}
use Rattle.stateful_exec_tables.specs.Keeping.Takes.{there, added, missed}
use Rattle.stateful_exec_pause.specs.declared.boundary.ExecutionStep.{ExecutionStep}

module _ {B U : Type 0} (header : Header B) (anchor : Anchor) (b : Named B) (batch : U) (cache : List (Cached U)) (step : ExecutionStep) (of : step ≡ step_by header b) where
  not_in : All (λ e. e.digest ≢ step.digest) cache → IsIn cache b.digest → ⊥
  not_in none any = All-contains (λ (e : Cached U). e.digest ≢ step.digest) cache any.1 none (any.0, any.2, any.3) (any.4 ∙ sym (ap (λ (s : ExecutionStep). s.digest) of))

  -- an entry of the block is there
  pub stays : (e : Cached U) (before : ExecutionStep) → Contains cache e → before ≡ step_in e → before ≡ step → Takes header anchor b batch cache cache Kept
  stays e before among is same = there (among.0, e, among.1, among.2, sym is ∙ same ∙ of) refl

  -- an entry of the block's digest is of another parent or round
  pub changed : (e : Cached U) (before : ExecutionStep) → Contains cache e → e.digest ≡ step.digest → before ≡ step_in e → (before ≡ step → ⊥) → ChangesPending header b cache before step
  changed e before among named is other = ((among.0, e, among.1, among.2, (named ∙ ap (λ (s : ExecutionStep). s.digest) of, sym is)), of, other)

  pub not_later : All (λ e. e.digest ≢ step.digest) cache → (IsLater anchor.round step.round → ⊥) → Takes header anchor b batch cache cache Missed
  not_later none early = missed (not_in none) (inl (λ later. early (rw of later))) refl

  pub orphaned : All (λ e. e.digest ≢ step.digest) cache → (IsAtHand anchor cache step.parent → ⊥) → Takes header anchor b batch cache cache Missed
  orphaned none unknown = missed (not_in none) (inr (λ known. unknown (rw of known))) refl

  pub more : (new : List (Cached U)) → All (λ e. e.digest ≢ step.digest) cache → IsLater anchor.round step.round → IsAtHand anchor cache step.parent
      → new ≡ cache ++ record { digest = step.digest; parent = step.parent; round = step.round; batch = batch } ∷ []
      → Takes header anchor b batch cache new Kept
  more new none later known is = added (not_in none)
      (subst (λ (s : ExecutionStep). IsLater anchor.round s.round) of later)
      (subst (λ (s : ExecutionStep). IsAtHand anchor cache s.parent) of known)
      (subst (λ (s : ExecutionStep). new ≡ cache ++ record { digest = s.digest; parent = s.parent; round = s.round; batch = batch } ∷ []) of is)
