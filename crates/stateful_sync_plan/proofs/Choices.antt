-- That each floor, and each fetch, resolves to one start.
use Rattle.std.proofs.Common.{◌≡◌, ℕ, ◌+◌, Option, Some, None, Result, Ok, Err, refl, sym, ap, subst, ◌∙◌}
use Rattle.std.specs.Prelude.{IsErrAnd, MatchOption}
use Rattle.std.proofs.lemmas.Option.{same_Some}
use Rattle.stateful_base.specs.Names.{Named}
use Rattle.stateful_base.specs.declared.digest.Digest.{Digest}
use Rattle.stateful_base.specs.declared.floor.Floor.{Floor}
use Rattle.stateful_base.specs.declared.number.Height.{Height}
use Rattle.stateful_base.specs.declared.round.Round.{Round}
use Rattle.stateful_sync_plan.specs.Choice.{IsCovered, IsBehind, IsNext, HasNext, IsStored, there, Resolves, next, fetch, ResolvesFetched, unanswered, itself, overtaken, overtaken_missing}
use Rattle.stateful_sync_plan.specs.Choice as choice
use Rattle.stateful_sync_plan.specs.Refusals.{UnlessMemory}
use Rattle.stateful_sync_plan.specs.declared.choice.Resolved.{Resolved}
use Rattle.stateful_sync_plan.specs.declared.choice.Resolved.TheVariants.{Block}
use Rattle.stateful_sync_plan.specs.declared.error.Missing.TheVariants.{AtHeight}
use Rattle.stateful_sync_plan.specs.declared.error.SyncError.{SyncError}
use Rattle.stateful_sync_plan.specs.declared.error.SyncError.TheVariants.{Database, TargetMismatch, MissingBlock, CompletedConflict, SkippedHeight, ConflictAtAnchor, OutOfMemory}

-- ---- answers that want of memory may take the place of

-- what is answered is the one right thing
pub only_right : {A : Type 0} (R : Result A SyncError → Type 0) → ((a b : Result A SyncError) → R a → R b → a ≡ b) → (result : Result A SyncError) → UnlessMemory result (R result)
    → (other : Result A SyncError) → R other → UnlessMemory result (result ≡ other)
only_right R one (Ok x) right other is = one (Ok x) other right is
only_right R one (Err (Database index)) right other is = one (Err (Database index)) other right is
only_right R one (Err (TargetMismatch index expected recovered)) right other is = one (Err (TargetMismatch index expected recovered)) other right is
only_right R one (Err (MissingBlock missing)) right other is = one (Err (MissingBlock missing)) other right is
only_right R one (Err (CompletedConflict height recorded given)) right other is = one (Err (CompletedConflict height recorded given)) other right is
only_right R one (Err (SkippedHeight expected given)) right other is = one (Err (SkippedHeight expected given)) other right is
only_right R one (Err (ConflictAtAnchor expected given)) right other is = one (Err (ConflictAtAnchor expected given)) other right is
only_right R one (Err OutOfMemory) right other is = tt

-- what is right is right of the whole, unless memory ran out
pub right_too : {A : Type 0} (P R : Result A SyncError → Type 0) → ((a : Result A SyncError) → P a → R a) → (result : Result A SyncError) → UnlessMemory result (P result) → UnlessMemory result (R result)
right_too P R over (Ok x) right = over (Ok x) right
right_too P R over (Err (Database index)) right = over (Err (Database index)) right
right_too P R over (Err (TargetMismatch index expected recovered)) right = over (Err (TargetMismatch index expected recovered)) right
right_too P R over (Err (MissingBlock missing)) right = over (Err (MissingBlock missing)) right
right_too P R over (Err (CompletedConflict height recorded given)) right = over (Err (CompletedConflict height recorded given)) right
right_too P R over (Err (SkippedHeight expected given)) right = over (Err (SkippedHeight expected given)) right
right_too P R over (Err (ConflictAtAnchor expected given)) right = over (Err (ConflictAtAnchor expected given)) right
right_too P R over (Err OutOfMemory) right = tt

-- what is right of an error is right of it where it is passed on
pub passed_right : {A B : Type 0} (P : Result A SyncError → Type 0) (R : Result B SyncError → Type 0) → ((e : SyncError) → P (Err e) → R (Err e)) → (error : SyncError) → UnlessMemory {A = A} (Err error) (P (Err error))
    → (result : Result B SyncError) → IsErrAnd result (λ e. e ≡ error) → UnlessMemory result (R result)
passed_right P R over error right (Ok x) is = absurd is
passed_right {A} {B} P R over error right (Err e) is = subst (λ (d : SyncError). UnlessMemory {A = B} (Err d) (R (Err d))) (sym is) (weaker error right)
  where
    weaker : (d : SyncError) → UnlessMemory {A = A} (Err d) (P (Err d)) → UnlessMemory {A = B} (Err d) (R (Err d))
    weaker (Database index) p = over (Database index) p
    weaker (TargetMismatch index expected recovered) p = over (TargetMismatch index expected recovered) p
    weaker (MissingBlock missing) p = over (MissingBlock missing) p
    weaker (CompletedConflict height recorded given) p = over (CompletedConflict height recorded given) p
    weaker (SkippedHeight expected given) p = over (SkippedHeight expected given) p
    weaker (ConflictAtAnchor expected given) p = over (ConflictAtAnchor expected given) p
    weaker OutOfMemory p = tt

-- ---- what was looked up

pub found : {A : Type 0} (P : Type 0) (Q : A → Type 0) (o : Option A) (x : A) → MatchOption o P Q → o ≡ Some x → Q x
found P Q None x m e = absurd cc
found P Q (Some y) x m e = subst Q (same_Some y x e) m

pub not_found : {A : Type 0} (P : Type 0) (Q : A → Type 0) (o : Option A) → MatchOption o P Q → o ≡ None → P
not_found P Q None m e = m
not_found P Q (Some y) m e = absurd cc

-- ---- the start by a floor

one_height : (floor : Floor) (p q : Height) → floor.processed ≡ Some p → floor.processed ≡ Some q → p ≡ q
one_height floor p q e e' = same_Some p q (sym e ∙ e')

module _ {B : Type 0} (stored : ℕ → Option (Named B)) where
  one_block : (p q : Height) (x y : Named B) → p ≡ q → stored p.0 ≡ Some x → stored q.0 ≡ Some y → x ≡ y
  one_block p q x y same e e' = same_Some x y (sym e ∙ ap (λ (h : Height). stored h.0) same ∙ e')

  not_there : (p q : Height) (x : Named B) → p ≡ q → stored p.0 ≡ Some x → stored q.0 ≡ None → ⊥
  not_there p q x same e e' = let never = sym e ∙ ap (λ (h : Height). stored h.0) same ∙ e' in absurd cc

  module _ (floor : Floor) where
    module _ (round : Round) (payload : Digest) where
      covered_alike : (p q : Height) → IsCovered floor round p → IsCovered floor round q → p ≡ q
      covered_alike p q c d = one_height floor p q c.processed_is d.processed_is

      not_next : (p q : Height) (x : Named B) → IsCovered floor round p → IsCovered floor round q → IsNext stored p x → x.digest ≡ payload → (HasNext stored q payload → ⊥) → ⊥
      not_next p q x c d n e never = never (subst (λ (h : Height). HasNext stored h payload) (covered_alike p q c d) (x, n, e))

      pub one_start : (a b : Result (Resolved B) SyncError) → Resolves stored floor round payload a → Resolves stored floor round payload b → a ≡ b
      one_start a b (next p x c n e is) (next q y d m f is') =
          let same : x ≡ y = same_Some x y (sym n.is ∙ ap (λ (h : Height). stored (h.0 + 1)) (covered_alike p q c d) ∙ m.is) in
          is ∙ ap (λ (z : Named B). Ok (Block z)) same ∙ sym is'
      one_start a b (next p x c n e is) (choice.processed q y d never s is') = absurd (not_next p q x c d n e never)
      one_start a b (next p x c n e is) (choice.missing q d never s is') = absurd (not_next p q x c d n e never)
      one_start a b (next p x c n e is) (fetch never is') = absurd (never p c)
      one_start a b (choice.processed p x c never s is) (next q y d m f is') = absurd (not_next q p y d c m f never)
      one_start a b (choice.processed p x c never s is) (choice.processed q y d never' s' is') = is ∙ ap (λ (z : Named B). Ok (Block z)) (one_block p q x y (covered_alike p q c d) s s') ∙ sym is'
      one_start a b (choice.processed p x c never s is) (choice.missing q d never' s' is') = absurd (not_there p q x (covered_alike p q c d) s s')
      one_start a b (choice.processed p x c never s is) (fetch absent is') = absurd (absent p c)
      one_start a b (choice.missing p c never s is) (next q y d m f is') = absurd (not_next q p y d c m f never)
      one_start a b (choice.missing p c never s is) (choice.processed q y d never' s' is') = absurd (not_there q p y (covered_alike q p d c) s' s)
      one_start a b (choice.missing p c never s is) (choice.missing q d never' s' is') = is ∙ ap (λ (h : Height). Err (MissingBlock (AtHeight h))) (covered_alike p q c d) ∙ sym is'
      one_start a b (choice.missing p c never s is) (fetch absent is') = absurd (absent p c)
      one_start a b (fetch never is) (next q y d m f is') = absurd (never q d)
      one_start a b (fetch never is) (choice.processed q y d never' s' is') = absurd (never q d)
      one_start a b (fetch never is) (choice.missing q d never' s' is') = absurd (never q d)
      one_start a b (fetch never is) (fetch never' is') = is ∙ sym is'

      -- the processed block, where the next one isn't the floor's own
      pub processed_start : (p : Height) → IsCovered floor round p → (HasNext stored p payload → ⊥) → (b : Named B) → IsStored stored p (Ok b) → Resolves stored floor round payload (Ok (Block b))
      processed_start p c never b (there x s e) = choice.processed p b c never (s ∙ ap (λ (z : Named B). Some z) (sym same)) refl
        where
          same : b ≡ x
          same = cc
      processed_start p c never b (choice.missing s e) = absurd cc

      pub missing_start : (p : Height) → IsCovered floor round p → (HasNext stored p payload → ⊥) → (e : SyncError) → IsStored stored p (Err e) → Resolves stored floor round payload (Err e)
      missing_start p c never e (there x s is) = absurd cc
      missing_start p c never e (choice.missing s is) = choice.missing p c never s (ap (λ (d : SyncError). Err d) same)
        where
          same : e ≡ MissingBlock (AtHeight p)
          same = cc

    module _ (height_of : B → ℕ) where
      behind_alike : (n : ℕ) (p q : Height) → IsBehind floor n p → IsBehind floor n q → p ≡ q
      behind_alike n p q c d = one_height floor p q c.processed_is d.processed_is

      one_fetched : (fetched : Option (Named B)) (x y : Named B) → fetched ≡ Some x → fetched ≡ Some y → x ≡ y
      one_fetched fetched x y e e' = same_Some x y (sym e ∙ e')

      nothing_fetched : {P : Type 0} (fetched : Option (Named B)) (x : Named B) → fetched ≡ None → fetched ≡ Some x → P
      nothing_fetched fetched x e e' = let never = sym e ∙ e' in absurd cc

      behind_other : (x y : Named B) (p : Height) → x ≡ y → IsBehind floor (height_of y.block) p → IsBehind floor (height_of x.block) p
      behind_other x y p same c = subst (λ (z : Named B). IsBehind floor (height_of z.block) p) (sym same) c

      pub one_fetched_start : (fetched : Option (Named B)) (a b : Result (Named B) SyncError) → ResolvesFetched stored floor height_of fetched a → ResolvesFetched stored floor height_of fetched b → a ≡ b
      one_fetched_start fetched a b (unanswered n is) (unanswered n' is') = is ∙ sym is'
      one_fetched_start fetched a b (unanswered n is) (itself y e never is') = nothing_fetched fetched y n e
      one_fetched_start fetched a b (unanswered n is) (overtaken y q z e d s is') = nothing_fetched fetched y n e
      one_fetched_start fetched a b (unanswered n is) (overtaken_missing y q e d s is') = nothing_fetched fetched y n e
      one_fetched_start fetched a b (itself x e never is) (unanswered n is') = nothing_fetched fetched x n e
      one_fetched_start fetched a b (itself x e never is) (itself y e' never' is') = is ∙ ap (λ (z : Named B). Ok z) (one_fetched fetched x y e e') ∙ sym is'
      one_fetched_start fetched a b (itself x e never is) (overtaken y q z e' d s is') = absurd (never q (behind_other x y q (one_fetched fetched x y e e') d))
      one_fetched_start fetched a b (itself x e never is) (overtaken_missing y q e' d s is') = absurd (never q (behind_other x y q (one_fetched fetched x y e e') d))
      one_fetched_start fetched a b (overtaken x p w e c s is) (unanswered n is') = nothing_fetched fetched x n e
      one_fetched_start fetched a b (overtaken x p w e c s is) (itself y e' never is') = absurd (never p (behind_other y x p (one_fetched fetched y x e' e) c))
      one_fetched_start fetched a b (overtaken x p w e c s is) (overtaken y q z e' d s' is') = is ∙ ap (λ (o : Named B). Ok o) (one_block p q w z (one_height floor p q c.processed_is d.processed_is) s s') ∙ sym is'
      one_fetched_start fetched a b (overtaken x p w e c s is) (overtaken_missing y q e' d s' is') = absurd (not_there p q w (one_height floor p q c.processed_is d.processed_is) s s')
      one_fetched_start fetched a b (overtaken_missing x p e c s is) (unanswered n is') = nothing_fetched fetched x n e
      one_fetched_start fetched a b (overtaken_missing x p e c s is) (itself y e' never is') = absurd (never p (behind_other y x p (one_fetched fetched y x e' e) c))
      one_fetched_start fetched a b (overtaken_missing x p e c s is) (overtaken y q z e' d s' is') = absurd (not_there q p z (one_height floor q p d.processed_is c.processed_is) s' s)
      one_fetched_start fetched a b (overtaken_missing x p e c s is) (overtaken_missing y q e' d s' is') = is ∙ ap (λ (h : Height). Err (MissingBlock (AtHeight h))) (one_height floor p q c.processed_is d.processed_is) ∙ sym is'

      -- the processed block, which is higher than the fetched one
      pub overtaken_start : (fetched : Option (Named B)) (x : Named B) (p : Height) → fetched ≡ Some x → IsBehind floor (height_of x.block) p → (a : Result (Named B) SyncError) → IsStored stored p a → ResolvesFetched stored floor height_of fetched a
      overtaken_start fetched x p e c a (there y s is) = overtaken x p y e c s is
      overtaken_start fetched x p e c a (choice.missing s is) = overtaken_missing x p e c s is
