-- The plan of a script, a line at a time.
use Rattle.std.proofs.Common.{◌≡◌, ℕ, zero, suc, ◌+◌, ◌<◌, ◌≤◌, List, [], ◌∷◌, ◌++◌, length, take, get_or, slice_get, Option, Some, None, option_map, option_and_then, refl, sym, ap, ◌∙◌, subst, arith, length-take}
use Rattle.std.proofs.lemmas.List.{take_more, map-append, length-map}
use Rattle.std.proofs.lemmas.Option.{same_Some, slice_get-map, slice_get-get_or, slice_get_read}
use Rattle.stateful_base.specs.declared.target.Target.{Target}
use Rattle.stateful_db.specs.Databases.{Databases}
use Rattle.stateful_script.specs.declared.script.PlannedBlock.{PlannedBlock}
use Rattle.stateful_bank_app.specs.Rules.{Rules, stepped}
use Rattle.stateful_script_plan.specs.declared.plan.Planned.{Planned}
use Rattle.stateful_script_plan.specs.declared.scratch.After.{After}
use Rattle.stateful_script_plan.specs.declared.scratch.After.TheVariants.{Initial, Sealed, Nothing}
use Rattle.stateful_script_plan.specs.Plan.{Outlined, ArePlanned, first, next, genesis, child, blocks_of, first_outlined, next_outlined, states_after, targets_after}
use Rattle.stateful_script_plan.specs.Scratch.{IsScratch, Keeps}
use Rattle.stateful_script_plan.proofs.Outlines.{one_each}

module _ {M Ids States Targets : Type 0} (d : Databases Ids States Targets) (Shows : M → List (Ids × States) → Type 0) (at : Ids × States) where
  -- what is kept of each block of an outline
  abbrev pub KeepsEach : Ids → List (After M) → List (Outlined States) → Type 0
  KeepsEach n [] [] = Unit {0}
  KeepsEach n [] (o ∷ outline) = ⊥
  KeepsEach n (a ∷ kept) [] = ⊥
  KeepsEach n (a ∷ kept) (o ∷ outline) = Keeps d Shows n at a o.after × KeepsEach n kept outline

  -- it is kept when more ids are drawn
  keeps_later : (n k : Ids) → ((c : List (Ids × States)) → d.issued n c → d.issued k c) → (a : After M) (states : Option States) → Keeps d Shows n at a states → Keeps d Shows k at a states
  keeps_later n k later Initial states h = h
  keeps_later n k later (Sealed m) None h = h
  keeps_later n k later (Sealed m) (Some s) h = record { own = h.own; above = h.above; shown = h.shown; drawn = later _ h.drawn }
  keeps_later n k later Nothing states h = h

  keeps_each_later : (n k : Ids) → ((c : List (Ids × States)) → d.issued n c → d.issued k c) → (kept : List (After M)) (outline : List (Outlined States)) → KeepsEach n kept outline → KeepsEach k kept outline
  keeps_each_later n k later [] [] h = tt
  keeps_each_later n k later [] (o ∷ outline) h = absurd h
  keeps_each_later n k later (a ∷ kept) [] h = absurd h
  keeps_each_later n k later (a ∷ kept) (o ∷ outline) h = (keeps_later n k later a o.after h.0, keeps_each_later n k later kept outline h.1)

  keeps_each_more : (n : Ids) (kept : List (After M)) (outline : List (Outlined States)) (a : After M) (o : Outlined States) → KeepsEach n kept outline → Keeps d Shows n at a o.after → KeepsEach n (kept ++ a ∷ []) (outline ++ o ∷ [])
  keeps_each_more n [] [] a o h new = (new, tt)
  keeps_each_more n [] (p ∷ outline) a o h new = absurd h
  keeps_each_more n (b ∷ kept) [] a o h new = absurd h
  keeps_each_more n (b ∷ kept) (p ∷ outline) a o h new = (h.0, keeps_each_more n kept outline a o h.1 new)

  keeps_each_at : (n : Ids) (kept : List (After M)) (outline : List (Outlined States)) (i : ℕ) (a : After M) (o : Outlined States) → KeepsEach n kept outline → slice_get kept i ≡ Some a → slice_get outline i ≡ Some o → Keeps d Shows n at a o.after
  keeps_each_at n [] [] i a o h is_a is_o = absurd (cc)
  keeps_each_at n [] (p ∷ outline) i a o h is_a is_o = absurd h
  keeps_each_at n (b ∷ kept) [] i a o h is_a is_o = absurd h
  keeps_each_at n (b ∷ kept) (p ∷ outline) zero a o h is_a is_o =
      subst (λ (x : After M). Keeps d Shows n at x o.after) (same_Some b a is_a) (subst (λ (x : Outlined States). Keeps d Shows n at b x.after) (same_Some p o is_o) h.0)
  keeps_each_at n (b ∷ kept) (p ∷ outline) (suc i) a o h is_a is_o = keeps_each_at n kept outline i a o h.1 is_a is_o

  keeps_each_length : (n : Ids) (kept : List (After M)) (outline : List (Outlined States)) → KeepsEach n kept outline → length kept ≡ length outline
  keeps_each_length n [] [] h = refl
  keeps_each_length n [] (o ∷ outline) h = absurd h
  keeps_each_length n (a ∷ kept) [] h = absurd h
  keeps_each_length n (a ∷ kept) (o ∷ outline) h = ap suc (keeps_each_length n kept outline h.1)

module _ {M Ids States Targets : Type 0} (w : Rules States Targets) (d : Databases Ids States Targets) (Shows : M → List (Ids × States) → Type 0) where
  -- lines are planned, and the states after each block are kept
  pub record Goes (n : Ids) (m : d.Members) (lines : List PlannedBlock) (made : List Planned) (kept : List (After M)) : Type 0 where
    pub at : Ids × States
    pub scratch : IsScratch d n m at
    pub outline : List (Outlined States)
    pub planned : ArePlanned w d.target_of d.initial lines outline
    pub made_are : made ≡ blocks_of outline
    pub keeps : KeepsEach d Shows at n kept outline

  -- genesis alone
  pub Goes-first : (n : Ids) (m : d.Members) (at : Ids × States) (targets : List Target) (made : List Planned) (kept : List (After M)) → IsScratch d n m at → targets ≡ targets_after w d.target_of d.initial (Some at.1)
      → made ≡ genesis targets ∷ [] → kept ≡ Initial ∷ [] → Goes n m [] made kept
  Goes-first n m at targets made kept scratch targets_are made_are kept_are = record {
    at = at;
    scratch = scratch;
    outline = first_outlined w d.target_of d.initial ∷ [];
    planned = first;
    made_are = made_are ∙ ap (λ list. genesis list ∷ []) (targets_are ∙ ap (λ s. w.listed (d.target_of s)) scratch.initial);
    keeps = subst (λ (k : List (After M)). KeepsEach d Shows at n k (first_outlined w d.target_of d.initial ∷ [])) (sym kept_are) (ap Some (sym scratch.initial), tt);
  }

  module _ (lines : List PlannedBlock) (i : ℕ) (far : i ≤ length lines) (n : Ids) (m : d.Members) (made : List Planned) (kept : List (After M)) (goes : Goes n m (take i lines) made kept) where
    pub made_length : length made ≡ i + 1
    made_length = ap length goes.made_are ∙ length-map goes.outline (λ o. o.planned) ∙ one_each w d.target_of d.initial (take i lines) goes.outline goes.planned ∙ omega (arith, length-take i lines)

    pub kept_length : length kept ≡ i + 1
    kept_length = keeps_each_length d Shows goes.at n kept goes.outline goes.keeps ∙ one_each w d.target_of d.initial (take i lines) goes.outline goes.planned ∙ omega (arith, length-take i lines)

  module _ (lines : List PlannedBlock) (i : ℕ) (lt : i < length lines) (n : Ids) (m : d.Members) (made : List Planned) (kept : List (After M)) (goes : Goes n m (take i lines) made kept) (b : PlannedBlock) (is : b ≡ get_or lines i b) (low : b.parent ≤ i) where
    -- the parent in the outline
    parent : Outlined States
    parent = get_or goes.outline b.parent (first_outlined w d.target_of d.initial)

    parent_there : slice_get goes.outline b.parent ≡ Some parent
    unfolding parent
    parent_there = slice_get-get_or goes.outline b.parent (first_outlined w d.target_of d.initial) (omega (arith, one_each w d.target_of d.initial (take i lines) goes.outline goes.planned, length-take i lines))

    parent_is : (p : Planned) → p ≡ get_or made b.parent p → p ≡ parent.planned
    parent_is p at_p =
        let there : slice_get made b.parent ≡ Some p = slice_get_read made (length made) b.parent p refl (omega (arith, made_length lines i (omega arith) n m made kept goes)) at_p in
        let planned : slice_get made b.parent ≡ Some parent.planned = ap (λ xs. slice_get xs b.parent) goes.made_are ∙ slice_get-map (λ o. o.planned) goes.outline b.parent ∙ ap (λ o. option_map (λ (x : Outlined States). x.planned) o) parent_there in
        same_Some p parent.planned (sym there ∙ planned)

    -- one line more
    pub Goes-more : (p : Planned) (a : After M) → p ≡ get_or made b.parent p → a ≡ get_or kept b.parent a
        → (k : Ids) (l : d.Members) (after : After M) (targets : List Target) (new : List Planned) (now : List (After M))
        → l ≡ m → ((c : List (Ids × States)) → d.issued n c → d.issued k c)
        → ((at : Ids × States) (states : Option States) → d.point m ≡ Some at → d.issued n (at ∷ []) → Keeps d Shows n at a states → Keeps d Shows k at after (option_and_then (λ s. stepped w s b.ops b.height.0) states))
        → ((at : Ids × States) (states : Option States) → at.1 ≡ d.initial → Keeps d Shows k at after states → targets ≡ targets_after w d.target_of d.initial states)
        → new ≡ made ++ child p b targets ∷ [] → now ≡ kept ++ after ∷ []
        → Goes k l (take (i + 1) lines) new now
    Goes-more p a at_p at_a k l after targets new now same later steps targeted new_is now_is =
        let kept_a : Keeps d Shows n goes.at a parent.after = keeps_each_at d Shows goes.at n kept goes.outline b.parent a parent goes.keeps (slice_get_read kept (length kept) b.parent a refl (omega (arith, kept_length lines i (omega arith) n m made kept goes)) at_a) parent_there in
        let behind : Keeps d Shows k goes.at after (states_after w d.target_of d.initial parent b) = steps goes.at parent.after goes.scratch.here goes.scratch.drawn kept_a in
        let targets_are = targeted goes.at (states_after w d.target_of d.initial parent b) goes.scratch.initial behind in
        let more = take_more lines i b lt in
        record {
          at = goes.at;
          scratch = record { here = ap d.point same ∙ goes.scratch.here; initial = goes.scratch.initial; drawn = later _ goes.scratch.drawn };
          outline = goes.outline ++ next_outlined w d.target_of d.initial parent b ∷ [];
          planned = rw (more, ← is) (next (take i lines) goes.outline b parent goes.planned parent_there);
          made_are = new_is ∙ ap (λ xs. xs ++ child p b targets ∷ []) goes.made_are ∙ ap (λ x. blocks_of goes.outline ++ x ∷ []) (ap (λ q. child q b targets) (parent_is p at_p) ∙ ap (child parent.planned b) targets_are) ∙ sym (map-append (λ o. o.planned) goes.outline (next_outlined w d.target_of d.initial parent b ∷ []));
          keeps = subst (λ (x : List (After M)). KeepsEach d Shows goes.at k x (goes.outline ++ next_outlined w d.target_of d.initial parent b ∷ [])) (sym now_is) (keeps_each_more d Shows goes.at k kept goes.outline after (next_outlined w d.target_of d.initial parent b) (keeps_each_later d Shows goes.at n k later kept goes.outline goes.keeps) behind);
        }
