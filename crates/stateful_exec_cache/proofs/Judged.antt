-- How a block is judged.
use Rattle.std.proofs.Common.{◌≡◌, ◌≢◌, ◌↔◌, ◌<◌, inl, inr, ℕ, List, Option, Some, Bool, false, refl, sym, subst, IsTrue}
use Rattle.stateful_base.specs.Names.{Header, Named}
use Rattle.stateful_base.specs.declared.digest.Digest.{Digest}
use Rattle.stateful_base.specs.declared.anchor.Anchor.{Anchor}
use Rattle.stateful_exec_cache.specs.Cache.{IsIn}
use Rattle.stateful_exec_cache.specs.Judgement.{IsJudged}
use Rattle.stateful_exec_cache.specs.declared.cache.Cached.{Cached}
use Rattle.stateful_exec_cache.specs.declared.judgement.Judgement.{Judgement}
use Rattle.stateful_exec_cache.specs.declared.judgement.Judgement.TheVariants.{Valid, Invalid, Waits, Open}

module _ {B U : Type 0} (header : Header B) (anchor : Anchor) (cache : List (Cached U)) (stored : ℕ → Option (Named B)) (b : Named B) where
  -- whether a block is cached, by its digest
  pub IsIn-same : (d : Digest) → d ≡ b.digest → IsIn cache d → IsIn cache b.digest
  IsIn-same d e i = subst (λ (x : Digest). IsIn cache x) e i

  pub not_in : (r : Bool) (d : Digest) → d ≡ b.digest → (IsTrue r ↔ IsIn cache d) → r ≡ false → IsIn cache b.digest → ⊥
  not_in r d e is f i = let t : IsTrue r = is.1 (subst (λ (x : Digest). IsIn cache x) (sym e) i) in cc

  -- a block of the anchor's height is decided by the anchor
  pub IsJudged-at : (IsIn cache b.digest → ⊥) → header.height b.block ≡ anchor.height.0 → (j : Judgement) → ((j ≡ Valid) ↔ (anchor.digest ≡ b.digest)) → ((j ≡ Invalid) ↔ (anchor.digest ≢ b.digest)) → IsJudged header anchor cache stored b j
  IsJudged-at out e Valid v i = inr (inl (e, v.0 refl))
  IsJudged-at out e Invalid v i = (out, inl (e, i.0 refl))
  IsJudged-at out e Waits v i = let f : anchor.digest ≢ b.digest = (λ q. let x : Waits ≡ Valid = v.1 q in cc) in let y : Waits ≡ Invalid = i.1 f in cc
  IsJudged-at out e Open v i = let f : anchor.digest ≢ b.digest = (λ q. let x : Open ≡ Valid = v.1 q in cc) in let y : Open ≡ Invalid = i.1 f in cc

  -- a block of a lower height is decided by the store
  pub IsJudged-below : (IsIn cache b.digest → ⊥) → header.height b.block < anchor.height.0 → (c : Named B) → stored (header.height b.block) ≡ Some c → (j : Judgement) → ((j ≡ Valid) ↔ (c.digest ≡ b.digest)) → ((j ≡ Invalid) ↔ (c.digest ≢ b.digest)) → IsJudged header anchor cache stored b j
  IsJudged-below out l c is Valid v i = inr (inr (l, (c, is, v.0 refl)))
  IsJudged-below out l c is Invalid v i = (out, inr (l, (c, is, i.0 refl)))
  IsJudged-below out l c is Waits v i = let f : c.digest ≢ b.digest = (λ q. let x : Waits ≡ Valid = v.1 q in cc) in let y : Waits ≡ Invalid = i.1 f in cc
  IsJudged-below out l c is Open v i = let f : c.digest ≢ b.digest = (λ q. let x : Open ≡ Valid = v.1 q in cc) in let y : Open ≡ Invalid = i.1 f in cc
