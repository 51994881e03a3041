use Rattle.std.proofs.Common.{◌≡◌, ℕ, Bool, false, ap, Option, Some, None, slice_index_or}
use Rattle.std.specs.Global.{Vec}
use Rattle.std.specs.Ordering.{nat_cmp}
use Rattle.std.specs.Option.{MatchOption, IsSomeAnd}
use Rattle.std.specs.BTreeMap.{is_at}
use Rattle.std.specs.List.{each_same}
use Rattle.std.proofs.lemmas.Map.Entries.{lookup_clone}
use Rattle.stateful_actor_register.specs.Flushes.{waits_for}
use Rattle.stateful_actor_register.proofs.flushes.Flushes.share.Goals as goal

-- of two barriers that wait for the same databases the answers are the same
same : (D : Vec Bool → Vec Bool → Type 0) → ((v w : Vec Bool) → D v w → w.items ≡ v.items) → (a b : Option (Vec Bool)) (i : ℕ) → MatchOption a (b ≡ None) (λ v. IsSomeAnd b (D v)) → waits_for b i ≡ waits_for a i
same D is None b i h = ap (λ (x : Option (Vec Bool)). waits_for x i) h
same D is (Some v) None i h = absurd h
same D is (Some v) (Some w) i h = ap (λ xs. slice_index_or xs i false) (is v w h)

pub returns : goal.returns
returns c = let h = c.in_ok-clone.ensures.cases in
    λ k i. same _ (λ v w d. each_same v.items w.items d.0) _ _ i (lookup_clone _ _ (is_at (nat_cmp k)) (λ x y e. ap (is_at (nat_cmp k)) e) c.args.self.now.barriers.entries c.in_ok-clone.field-0.entries h)
