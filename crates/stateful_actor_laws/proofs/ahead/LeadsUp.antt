-- Finalized blocks that lead up to the highest one, as one more comes, or the first is taken.
use Rattle.std.proofs.Common.{◌≡◌, ◌≤◌, ◌<◌, ◌+◌, ◌⊎◌, inl, inr, ◌++◌, ◌∷◌, [], ℕ, List, refl, sym, ap, ◌∙◌, arith}
use Rattle.stateful_base.specs.Names.{Header, Named}
use Rattle.stateful_base.specs.Anchor.{anchor_by}
use Rattle.stateful_base.specs.declared.anchor.Anchor.{Anchor}
use Rattle.stateful_history.specs.Finalizations.{IsChildOf}
use Rattle.stateful_history.specs.Joined.{Matches}
use Rattle.stateful_history.specs.Setting.{Setting}
use Rattle.stateful_exec_model.specs.Finalizing.{IsRedelivered}
use Rattle.stateful_actor_laws.specs.Ahead.{LeadsUp, there, next, again}

module _ {B S T : Type 0} (s : Setting B S T) where
  -- one more child of the top
  pub LeadsUp-next : (top : Anchor) (last after : S) (b : Named B) → IsChildOf s.header top b → Matches s last b after
      → (head : Anchor) (before : S) (bs : List (Named B)) → LeadsUp s top last head before bs
      → LeadsUp s (anchor_by s.header b) after head before (bs ++ b ∷ [])
  LeadsUp-next top last after b child matches _ _ [] there = next child matches there
  LeadsUp-next top last after b child matches head before (c ∷ cs) (next {after = mid} one is rest) =
      next one is (LeadsUp-next top last after b child matches (anchor_by s.header c) mid cs rest)
  LeadsUp-next top last after b child matches head before (c ∷ cs) (again same rest) =
      again same (LeadsUp-next top last after b child matches head before cs rest)

  -- one more that isn't higher than the top
  pub LeadsUp-again : (top : Anchor) (last : S) (b : Named B) → IsRedelivered s.header top b
      → (head : Anchor) (before : S) (bs : List (Named B)) → LeadsUp s top last head before bs → LeadsUp s top last head before (bs ++ b ∷ [])
  LeadsUp-again top last b same _ _ [] there = again same there
  LeadsUp-again top last b same head before (c ∷ cs) (next {after = mid} one is rest) =
      next one is (LeadsUp-again top last b same (anchor_by s.header c) mid cs rest)
  LeadsUp-again top last b same head before (c ∷ cs) (again low rest) = again low (LeadsUp-again top last b same head before cs rest)

  -- where the first isn't higher than the head, those behind it lead up
  pub LeadsUp-taken : (top : Anchor) (last : S) (head : Anchor) (before : S) (b : Named B) (bs : List (Named B))
      → s.header.height b.block ≤ head.height.0 → LeadsUp s top last head before (b ∷ bs) → LeadsUp s top last head before bs
  LeadsUp-taken top last head before b bs low (next child matches rest) = absurd (omega (arith, child.0))
  LeadsUp-taken top last head before b bs low (again same rest) = rest

  -- the first is higher than the head
  pub record IsNextUp (top : Anchor) (last : S) (head : Anchor) (before : S) (b : Named B) (bs : List (Named B)) : Type 0 where
    pub child : IsChildOf s.header head b
    pub after : S
    pub matches : Matches s before b after
    pub rest : LeadsUp s top last (anchor_by s.header b) after bs

  pub LeadsUp-begun : (top : Anchor) (last : S) (head : Anchor) (before : S) (b : Named B) (bs : List (Named B))
      → head.height.0 < s.header.height b.block → LeadsUp s top last head before (b ∷ bs) → IsNextUp top last head before b bs
  LeadsUp-begun top last head before b bs high (next {after = mid} child matches rest) =
      record { child = child; after = mid; matches = matches; rest = rest }
  LeadsUp-begun top last head before b bs high (again same rest) = absurd (omega (arith, same.low))

  -- the first is a child of the head, or isn't higher
  pub LeadsUp-first : (top : Anchor) (last : S) (head : Anchor) (before : S) (b : Named B) (bs : List (Named B))
      → LeadsUp s top last head before (b ∷ bs) → IsChildOf s.header head b ⊎ IsRedelivered s.header head b
  LeadsUp-first top last head before b bs (next child matches rest) = inl child
  LeadsUp-first top last head before b bs (again same rest) = inr same
