-- What a search in the cache finds.
use Rattle.std.proofs.Common.{◌≡◌, ◌≢◌, ◌↔◌, List, All, Any, Option, None, Some, Bool, true, false, refl, sym, subst, is_some, IsTrue, IfSome, IfNone, Bor, option_copied}
use Rattle.std.specs.List.{Contains}
use Rattle.stateful_base.specs.declared.digest.Digest.{Digest}
use Rattle.stateful_exec_cache.specs.declared.cache.Cached.{Cached}

module _ {U : Type 0} (cache : List (Cached U)) (d : Digest) where
  pub found_any : (e : Cached U) → Contains cache e × (e.digest ≡ d) → Any (λ e. e.digest ≡ d) cache
  found_any e h = (h.0.0, e, h.0.1, h.0.2, h.1)

  pub none_any : All (λ e. e.digest ≢ d) cache → Any (λ e. e.digest ≡ d) cache → ⊥
  none_any all any = all any.0 any.1 any.2 (subst (λ (x : Cached U). x.digest ≡ d) (sym any.3) any.4)

  pub has_iff : (r : Option (Bor (Cached U))) (b : Bool) → b ≡ is_some r → IfSome (option_copied r) (λ e. Contains cache e × (e.digest ≡ d)) → IfNone r (All (λ e. e.digest ≢ d) cache) → IsTrue b ↔ Any (λ e. e.digest ≡ d) cache
  has_iff None true e found absent = cc
  has_iff None false e found absent = (λ t. cc, λ any. absurd (none_any absent any))
  has_iff (Some r) true e found absent = (λ t. found_any r.now found, λ any. refl)
  has_iff (Some r) false e found absent = cc
