-- The blocks of an outline, by their places.
use Rattle.std.proofs.Common.{◌≡◌, ℕ, zero, suc, ◌+◌, ◌<◌, ◌≤◌, ◌⊎◌, inl, inr, List, [], ◌∷◌, ◌++◌, Some, length, slice_get, take, get_or, refl, sym, ap, ◌∙◌, subst, arith, length-append}
use Rattle.std.specs.Option.{option_map_or}
use Rattle.std.proofs.lemmas.Bool.{cases_lt}
use Rattle.std.proofs.lemmas.List.{take_more}
use Rattle.std.proofs.lemmas.Option.{same_Some, slice_get_within, slice_get_read}
use Rattle.sha2.specs.Sha256.{sha256}
use Rattle.stateful_bank.specs.BankBlock.{block_bytes}
use Rattle.stateful_bank_app.specs.Rules.{Rules}
use Rattle.stateful_base.specs.declared.target.Target.{Target}
use Rattle.stateful_script.specs.Named.{height_in}
use Rattle.stateful_script.proofs.Got.{got_before, got_behind, height_stays}
use Rattle.stateful_script.specs.declared.script.PlannedBlock.{PlannedBlock}
use Rattle.stateful_script_plan.specs.declared.plan.Planned.{Planned}
use Rattle.stateful_script_plan.specs.Plan.{Outlined, ArePlanned, first, next, genesis, child, block_on, first_outlined, next_outlined, targets_after}

stays : {X : Type 0} (xs : List X) (y : X) (i : ℕ) (x : X) → slice_get xs i ≡ Some x → slice_get (xs ++ y ∷ []) i ≡ Some x
stays xs y i x h = got_before xs (y ∷ []) i (slice_get_within xs i x h) ∙ h

-- what stands in a list that has grown by one stood there before, or is new
old_or_new : {X : Type 0} (xs : List X) (y : X) (i : ℕ) (x : X) → slice_get (xs ++ y ∷ []) i ≡ Some x → ((i < length xs) × (slice_get xs i ≡ Some x)) ⊎ ((i ≡ length xs) × (y ≡ x))
old_or_new xs y i x h =
    elim (cases_lt i (length xs)) [
      | inl early ↦ inl (early, sym (got_before xs (y ∷ []) i early) ∙ h)
      | inr late ↦
          let within : i < length (xs ++ y ∷ []) = slice_get_within (xs ++ y ∷ []) i x h in
          let last : i ≡ length xs = omega (arith, late, simp length-append at within) in
          inr (last, same_Some y x (sym (got_behind xs y) ∙ (ap (slice_get (xs ++ y ∷ [])) (sym last) ∙ h)))
    ]

-- the height of a block is the planned one, and its digest is that of its bytes
pub record IsNamed (lines : List PlannedBlock) (i : ℕ) (p : Planned) : Type 0 where
  pub height : p.block.block.height.0 ≡ height_in lines i
  pub digest : p.block.digest ≡ record { 0 = sha256 (block_bytes p.block.block) }

genesis_named : (targets : List Target) → IsNamed [] 0 (genesis targets)
unfolding genesis
genesis_named targets = record { height = refl; digest = refl }

child_height : (parent : Planned) (b : PlannedBlock) (targets : List Target) → (child parent b targets).block.block.height.0 ≡ b.height.0
unfolding child block_on
child_height parent b targets = refl

child_digest : (parent : Planned) (b : PlannedBlock) (targets : List Target) → (child parent b targets).block.digest ≡ record { 0 = sha256 (block_bytes (child parent b targets).block.block) }
unfolding child
child_digest parent b targets = refl

module _ {States Targets : Type 0} (rules : Rules States Targets) (target_of : States → Targets) (initial : States) where
  pub one_each : (lines : List PlannedBlock) (outline : List (Outlined States)) → ArePlanned rules target_of initial lines outline → length outline ≡ length lines + 1
  one_each lines outline first = refl
  one_each lines outline (next before above b parent h there) =
      let e = one_each before above h in
      rw (length-append above (next_outlined rules target_of initial parent b ∷ []), length-append before (b ∷ [])) (omega (arith, e))

  -- the block of a line, beside its parent
  pub record Stands (outline : List (Outlined States)) (i : ℕ) (b : PlannedBlock) : Type 0 where
    pub parent : Outlined States
    pub there : slice_get outline b.parent ≡ Some parent
    pub is : slice_get outline (suc i) ≡ Some (next_outlined rules target_of initial parent b)

  pub stands : (lines : List PlannedBlock) (outline : List (Outlined States)) → ArePlanned rules target_of initial lines outline → (i : ℕ) (b : PlannedBlock) → slice_get lines i ≡ Some b → Stands outline i b
  stands lines outline first i b h = absurd (cc)
  stands lines outline (next before above c parent h there) i b at =
      elim (old_or_new before c i b at) [
        | inl old ↦
            let s = stands before above h i b old.1 in
            record {
              parent = s.parent;
              there = stays above (next_outlined rules target_of initial parent c) b.parent s.parent s.there;
              is = stays above (next_outlined rules target_of initial parent c) (suc i) (next_outlined rules target_of initial s.parent b) s.is;
            }
        | inr new ↦
            let long : suc i ≡ length above = omega (arith, new.0, one_each before above h) in
            rw (← new.1) (record {
              parent = parent;
              there = stays above (next_outlined rules target_of initial parent c) c.parent parent there;
              is = rw long (got_behind above (next_outlined rules target_of initial parent c));
            })
      ]

  pub outlined_named : (lines : List PlannedBlock) (outline : List (Outlined States)) → ArePlanned rules target_of initial lines outline → (i : ℕ) (o : Outlined States) → slice_get outline i ≡ Some o → IsNamed lines i o.planned
  outlined_named lines outline first zero o h = subst (λ (x : Outlined States). IsNamed [] 0 x.planned) (same_Some (first_outlined rules target_of initial) o h) (genesis_named (targets_after rules target_of initial (Some initial)))
  outlined_named lines outline first (suc i) o h = absurd (cc)
  outlined_named lines outline (next before above c parent h there) i o at =
      elim (old_or_new above (next_outlined rules target_of initial parent c) i o at) [
        | inl old ↦
            let n = outlined_named before above h i o old.1 in
            let early : i ≤ length before = omega (arith, old.0, one_each before above h) in
            record { height = n.height ∙ sym (height_stays before c i early); digest = n.digest }
        | inr new ↦
            let last : i ≡ suc (length before) = omega (arith, new.0, one_each before above h) in
            let here : height_in (before ++ c ∷ []) (suc (length before)) ≡ c.height.0 = ap (λ o. option_map_or (λ b. b.height.0) o 0) (got_behind before c) in
            rw (← new.1, last) (record { height = child_height parent.planned c (targets_after rules target_of initial (next_outlined rules target_of initial parent c).after) ∙ sym here; digest = child_digest parent.planned c (targets_after rules target_of initial (next_outlined rules target_of initial parent c).after) })
      ]

  -- the block of one line more
  pub outlined_more : (lines : List PlannedBlock) (i : ℕ) (outline new : List (Outlined States)) (b : PlannedBlock) (parent : Outlined States)
      → i < length lines → b ≡ get_or lines i b → b.parent < length outline → parent ≡ get_or outline b.parent parent
      → new ≡ outline ++ next_outlined rules target_of initial parent b ∷ []
      → ArePlanned rules target_of initial (take i lines) outline → ArePlanned rules target_of initial (take (i + 1) lines) new
  outlined_more lines i outline new b parent lt is within there e h =
      let more = take_more lines i b lt in
      rw (more, ← is, e) (next (take i lines) outline b parent h (slice_get_read outline (length outline) b.parent parent refl within there))

  -- genesis stands first
  pub genesis_first : (lines : List PlannedBlock) (outline : List (Outlined States)) → ArePlanned rules target_of initial lines outline → slice_get outline 0 ≡ Some (first_outlined rules target_of initial)
  genesis_first lines outline first = refl
  genesis_first lines outline (next before above b parent h there) = stays above (next_outlined rules target_of initial parent b) 0 (first_outlined rules target_of initial) (genesis_first before above h)
