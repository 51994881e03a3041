-- Blocks that a store keeps one after another.
use Rattle.std.proofs.Common.{◌≡◌, ℕ, ◌<◌, ◌+◌, ◌==◌, Bool, true, false, if◌then◌else◌, List, [], ◌∷◌, ◌++◌, Option, Some, None, length, take, get_or, refl, sym, ◌∙◌, arith}
use Rattle.std.proofs.lemmas.Grind.{common_steps}
use Rattle.std.proofs.lemmas.List.{take_more}
use Rattle.std.proofs.lemmas.List.Elements.{filter_map-append}
use Rattle.std.proofs.lemmas.List.Folds.{find-append}
use Rattle.std.proofs.lemmas.Bool.{false≢true}
use Rattle.std.specs.Option.{option_or, is_some}
use Rattle.stateful_base.specs.Names.{Named}
use Rattle.stateful_base.specs.declared.number.Height.{Height}
use Rattle.stateful_bank.specs.declared.block.BankBlock.{BankBlock}
use Rattle.stateful_script.specs.declared.script.PlannedEvent.{PlannedEvent}
use Rattle.stateful_script_plan.specs.declared.plan.Planned.{Planned}
use Rattle.stateful_script_plan.specs.Store.{at_height, Keeps, finalized, finalized_by}

or_none : {X : Type 0} (o : Option X) → option_or o None ≡ o
or_none None = refl
or_none (Some x) = refl

at_more : (blocks : List (Named BankBlock)) (b : Named BankBlock) (h : ℕ) → at_height (blocks ++ b ∷ []) h ≡ option_or (at_height blocks h) (if b.block.height.0 == h then Some b else None)
at_more blocks b h = find-append (λ c. c.block.height.0 == h) blocks (b ∷ [])

there_first : {X : Type 0} (at : ℕ → Option X) (b x : X) (g h : ℕ) → at g ≡ Some x → option_or (at h) (if g == h then Some b else None) ≡ at h
there_first at b x g h there = grind (arith, common_steps, or_none (at h))

some_from : {X : Type 0} (o : Option X) → is_some o ≡ true → (x : X) × (o ≡ Some x)
some_from None e = absurd (false≢true e)
some_from (Some x) e = (x, refl)

none_from : {X : Type 0} (o : Option X) → is_some o ≡ false → o ≡ None
none_from None e = refl
none_from (Some x) e = absurd (false≢true (sym e))

-- what was found at a block's height
pub found_at : (stored : ℕ → Option (Named BankBlock)) (b : Named BankBlock) (at : Height) (found : Option (Named BankBlock)) (some value : Bool) → at ≡ record { 0 = b.block.height.0 } → found ≡ stored at.0 → some ≡ is_some found → some ≡ value → is_some (stored b.block.height.0) ≡ value
found_at stored b at found some value e f s v = cc

-- a block behind another one of its height isn't kept
pub kept_already : (stored : ℕ → Option (Named BankBlock)) (blocks : List (Named BankBlock)) (b : Named BankBlock) → is_some (stored b.block.height.0) ≡ true → Keeps stored blocks → Keeps stored (blocks ++ b ∷ [])
kept_already stored blocks b there keeps h =
    let some = some_from _ there in
    keeps h ∙ sym (at_more blocks b h ∙ there_first (at_height blocks) b some.0 b.block.height.0 h (sym (keeps b.block.height.0) ∙ some.1))

none_first : {X : Type 0} (at : ℕ → Option X) (b : X) (g h : ℕ) → at g ≡ None → (if h == g then Some b else at h) ≡ option_or (at h) (if g == h then Some b else None)
none_first at b g h none = grind (arith, common_steps, or_none (at h))

-- the first block of its height is kept
pub kept_first : (old new : ℕ → Option (Named BankBlock)) (blocks : List (Named BankBlock)) (b : Named BankBlock) → is_some (old b.block.height.0) ≡ false → ((h : ℕ) → new h ≡ (if h == b.block.height.0 then Some b else old h)) → Keeps old blocks → Keeps new (blocks ++ b ∷ [])
kept_first old new blocks b none inserted keeps h =
    let e = none_first (at_height blocks) b b.block.height.0 h (sym (keeps b.block.height.0) ∙ none_from _ none) in
    inserted h ∙ rw (keeps h) (e ∙ sym (at_more blocks b h))

-- the block of one line more is kept, if it finalizes one
pub kept_more : (stored : ℕ → Option (Named BankBlock)) (b : Named BankBlock) (made : List Planned) (lines : List PlannedEvent) (i : ℕ) (l : PlannedEvent) → i < length lines → l ≡ get_or lines i l → Keeps stored ((b ∷ finalized made (take i lines)) ++ finalized made (l ∷ [])) → Keeps stored (b ∷ finalized made (take (i + 1) lines))
kept_more stored b made lines i l lt is keeps =
    let more = take_more lines i l lt in
    rw (more, ← is, filter_map-append (finalized_by made) (take i lines) (l ∷ [])) keeps
