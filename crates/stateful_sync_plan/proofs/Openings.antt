-- What an opening comes to, by its steps.
use Rattle.std.proofs.Common.{◌≡◌, ℕ, ◌<◌, ◌^◌, Bool, not, Option, Some, Result, Ok, Err, refl, sym, ap, subst, ◌∙◌}
use Rattle.std.specs.Prelude.{IsErrAnd, IsTrue}
use Rattle.stateful_base.specs.Names.{Header, Named}
use Rattle.stateful_base.specs.declared.anchor.Anchor.{Anchor}
use Rattle.stateful_base.specs.declared.digest.Digest.{Digest}
use Rattle.stateful_base.specs.declared.number.Height.{Height}
use Rattle.stateful_db.specs.Databases.{Databases}
use Rattle.stateful_db.specs.declared.database.InitError.{InitError}
use Rattle.stateful_sync_plan.specs.Choice.{IsStored, there}
use Rattle.stateful_sync_plan.specs.Choice as choice
use Rattle.stateful_sync_plan.specs.Errors.{of_opening}
use Rattle.stateful_sync_plan.specs.Opening.{IsContradicted, IsChecked, agrees, differs, IsToOpen, Opens, contradicted, not_opened}
use Rattle.stateful_sync_plan.specs.declared.error.SyncError.{SyncError}
use Rattle.stateful_sync_plan.specs.declared.error.SyncError.TheVariants.{CompletedConflict}

-- what was told of one is so of the other, which is the same
pub told_of : {A T : Type 0} (f : A → T) (told : T) (a b : A) → told ≡ f a → a ≡ b → told ≡ f b
told_of f told a b is same = is ∙ ap f same

-- at the completion's height another digest is recorded than this one
pub contradicted_by : (completed : Option (Height × Option Digest)) (at height : Height) (recorded : Option Digest) (known given : Digest) (same : Bool) → completed ≡ Some (at, recorded) → recorded ≡ Some known → at.0 ≡ height.0
    → (IsTrue same → known ≡ given) × (known ≡ given → IsTrue same) → IsTrue (not same) → IsContradicted completed height.0 known given
contradicted_by completed at height recorded known given same is is' e iff other = record {
  completion_is = is ∙ rw (is', same_at) refl;
  differs = λ d. let yes = iff.1 d in absurd cc;
} where
  same_at : at ≡ height
  same_at = ap (λ (n : ℕ). let h : Height = record { 0 = n } in h) e

module _ {B : Type 0} (stored : ℕ → Option (Named B)) where
  -- the block that was read is the store's
  pub stored_at : (height : Height) (n : ℕ) (block : Named B) → height.0 ≡ n → IsStored stored height (Ok block) → stored n ≡ Some block
  stored_at height n block e (there x s is) = ap stored (sym e) ∙ s ∙ ap (λ (z : Named B). Some z) same
    where
      same : x ≡ block
      same = cc
  stored_at height n block e (choice.missing s is) = absurd cc

module _ {Ids States Targets B : Type 0} (kind : Databases Ids States Targets) (header : Header B) (targets_of : B → Targets) (stored : ℕ → Option (Named B)) (n : ℕ) (completed : Option (Height × Option Digest)) where
  -- no digest spoke against it
  pub IsToOpen-checked : (height : Height) (block : Named B) (digest : Digest) → height.0 ≡ n → stored n ≡ Some block → digest ≡ block.digest → IsChecked completed height.0 digest (Ok tt) → IsToOpen kind header targets_of stored n completed block
  IsToOpen-checked height block digest e s d (agrees none is) = record {
    stored_is = s;
    agrees = λ recorded c. none recorded (subst (λ (k : ℕ). IsContradicted completed k recorded digest) (sym e) (subst (λ (x : Digest). IsContradicted completed n recorded x) (sym d) c));
  }
  IsToOpen-checked height block digest e s d (differs recorded c is) = absurd cc

  module _ (counted now_counted : ℕ → ℕ) (old : kind.Members) where
    -- a digest spoke against the block
    pub Opens-contradicted : (height : Height) (block : Named B) (digest : Digest) (error : SyncError) (answer : Result Anchor SyncError) → height.0 ≡ n → stored n ≡ Some block → digest ≡ block.digest
        → IsChecked completed height.0 digest (Err error) → IsErrAnd answer (λ e. e ≡ error) → Opens kind header targets_of stored n completed counted now_counted old old answer
    Opens-contradicted height block digest error answer e s d (agrees none is) passed = absurd cc
    Opens-contradicted height block digest error (Ok x) e s d (differs recorded c is) passed = absurd passed
    Opens-contradicted height block digest error (Err given) e s d (differs recorded c is) passed =
        contradicted block recorded s (subst (λ (x : Digest). IsContradicted completed n recorded x) d (subst (λ (k : ℕ). IsContradicted completed k recorded digest) e c)) refl
        (ap (λ (x : SyncError). Err x) (passed ∙ was ∙ ap (λ (k : ℕ). CompletedConflict (record { 0 = k }) recorded digest) e ∙ ap (λ (x : Digest). CompletedConflict (record { 0 = n }) recorded x) d))
      where
        was : error ≡ CompletedConflict height recorded digest
        was = cc

    -- a database didn't open
    pub Opens-refused : (block : Named B) (index : ℕ) (why : InitError) (new : kind.Members) (error : SyncError) (answer : Result Anchor SyncError) → IsToOpen kind header targets_of stored n completed block → index < kind.count
        → (kind.count < 2 ^ 64 → kind.NotOpened old (Some (targets_of block.block)) index (counted index) (now_counted index) why new)
        → error ≡ of_opening index why → IsErrAnd answer (λ e. e ≡ error) → Opens kind header targets_of stored n completed counted now_counted old new answer
    Opens-refused block index why new error (Ok x) to within not_open is passed = absurd passed
    Opens-refused block index why new error (Err given) to within not_open is passed = not_opened block index why to within not_open (ap (λ (d : SyncError). Err d) (passed ∙ is))
