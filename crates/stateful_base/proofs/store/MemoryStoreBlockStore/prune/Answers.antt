use Rattle.std.proofs.Common.{rules, arith, ◌≡◌, ℕ, Option, None, if◌then◌else◌, nat_lt, nat_le, true, ◌∙◌, ap, cond}
use Rattle.std.proofs.lemmas.Grind.{common_steps}
use Rattle.std.specs.Ordering.{nat_cmp}
use Rattle.std.specs.BTreeMap.{is_at}
use Rattle.std.proofs.lemmas.Map.Entries.{lookup-filter-keys}
use Rattle.std.proofs.lemmas.Map.Made.{filter_same_pairs}
use Rattle.stateful_base.proofs.store.MemoryStoreBlockStore.prune.Goals as goal

same_key : (h k : ℕ) → is_at (nat_cmp h) k ≡ true → k ≡ h
same_key h k e = grind (arith, common_steps)

at_least : {X : Type 0} (h n : ℕ) (o : Option X) → cond (nat_le n h) o None ≡ (if nat_lt h n then None else o)
at_least h n o = grind (arith, common_steps)

pub returns : goal.returns
returns g c = λ h.
    let kept = filter_same_pairs _ (λ e. nat_le c.args.height.0 e.0) _ (λ k v b w f' t. search rules) _ _ c.retain.ensures.filtered in
    rw kept (lookup-filter-keys (is_at (nat_cmp h)) (nat_le c.args.height.0) (nat_le c.args.height.0 h) (λ k e. ap (nat_le c.args.height.0) (same_key h k e)) c.args.self.now.blocks.entries ∙ at_least h c.args.height.0 _)
