-- Media that have one checkpoint alone, and are opened at it.
use Rattle.std.proofs.Common.{◌≡◌, ◌+◌, List, [], ◌∷◌, ◌++◌, length, refl, ap, ◌∙◌}
use Rattle.std.specs.Prelude.{take}
use Rattle.stateful_base.specs.declared.target.Target.{Target}
use Rattle.stateful_db.specs.Disk.{Disk, Standing, all}
use Rattle.stateful_db.specs.Reopening.{OpensAt}
use Rattle.stateful_passes.specs.Synced.{only, synced}

module _ {S : Type 0} where
  -- a list of one
  parts : (older : List S) (newest s : S)
      → older ++ newest ∷ [] ≡ s ∷ []
      → (older ≡ []) × (newest ≡ s)
  parts [] newest s e = (refl, cc)
  parts (x ∷ []) newest s e = absurd cc
  parts (x ∷ y ∷ xs) newest s e = absurd cc

  -- opened at the first of one
  pub opened_alone : (range_of : S → Target) (d : Disk S) (s : S) (st : Standing S)
      → d ≡ only s
      → OpensAt range_of (λ t. t) 0 d st
      → st ≡ synced s
  opened_alone range_of d s st alone opens =
      let e = st.disk in
      let kept : all e ≡ s ∷ [] =
      opens.disk.kept ∙ ap (λ (x : Disk S). take (0 + 1) (all x)) alone in
      let both = parts e.older e.newest s kept in
      let pruned : e.pruned ≡ 0 = opens.disk.pruned ∙ ap (λ (x : Disk S). x.pruned) alone in
      let durable : e.durable ≡ 0 = opens.disk.durable ∙ (λ i. pruned i + length (both.0 i)) in
      λ i. record {
        id = opens.id i;
        disk = record {
          older = both.0 i;
          newest = both.1 i;
          pruned = pruned i;
          durable = durable i;
        };
        out = opens.out i;
      }
