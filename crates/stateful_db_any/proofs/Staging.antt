-- writes of staged keys
use Rattle.std.proofs.Common.{◌≡◌, ℕ, ◌+◌, suc, List, [], ◌∷◌, ◌++◌, drop, Option, Some, Bool, refl, sym, ap, ◌∙◌, subst, arith, slice_get}
use Rattle.std.specs.declared.cmp.Ordering.{Ordering}
use Rattle.stateful_db_any.specs.declared.slot.Slot.{Slot}
use Rattle.stateful_db_any.specs.declared.slot.Slot.TheVariants.{Put, Delete, Keep}
use Rattle.stateful_db.specs.Chain.{has_id}
use Rattle.stateful_db_overlay.specs.Stack.{Stack}
use Rattle.stateful_db_overlay.specs.Chains.{Stands}
use Rattle.stateful_db_any.specs.Any.{State, sealed}
use Rattle.stateful_db_any.specs.Through.{Change}
use Rattle.stateful_db_any.specs.Shown.{Draft, After, DraftShows}
use Rattle.stateful_db_any.specs.Staged.{Staging, slot_writes, with_write, with_writes, filled}
use Rattle.stateful_db_any.proofs.Indexing.{drop-some}

module _ {K V : Type 0} (cmp : K → K → Ordering) where
  pub with_writes-append : (u : Draft K V) (xs ys : List (K × Option V)) → with_writes cmp u (xs ++ ys) ≡ with_writes cmp (with_writes cmp u xs) ys
  with_writes-append u [] ys = refl
  with_writes-append u (x ∷ xs) ys = with_writes-append (with_write cmp u x) xs ys

  -- writes leave the rest of a batch
  pub record Keeps (u v : Draft K V) : Type 0 where
    pub id : v.id ≡ u.id
    pub below : v.below ≡ u.below
    pub parent : v.parent ≡ u.parent

  pub with_writes-keeps : (u : Draft K V) (ws : List (K × Option V)) → Keeps u (with_writes cmp u ws)
  with_writes-keeps u [] = record { id = refl; below = refl; parent = refl }
  with_writes-keeps u (w ∷ ws) = let rest = with_writes-keeps (with_write cmp u w) ws in record { id = rest.id; below = rest.below; parent = rest.parent }

  -- the ids of a batch's chain don't depend on what it writes
  pub stands_before : (spell_key : K → List ℕ) (spell_value : V → List ℕ) (u v : Draft K V) (c : List (ℕ × State K V)) (n : ℕ) (inside : Bool) → Keeps u v
      → ((d : List (ℕ × State K V)) → DraftShows cmp spell_key spell_value u d → has_id d n ≡ inside) → DraftShows cmp spell_key spell_value v c → has_id c n ≡ inside
  stands_before spell_key spell_value u v [] n inside keeps all h = absurd h
  stands_before spell_key spell_value u v (p ∷ []) n inside keeps all h = absurd h
  stands_before spell_key spell_value u v (p ∷ q ∷ c) n inside keeps all h =
      let Over : Stack (Change K V) → Type 0 = λ b. Stands (After cmp spell_key spell_value) b.base b.layers (q ∷ c) in
      all ((p.0, sealed cmp spell_key spell_value u.changes q.1) ∷ q ∷ c)
      (h.0 ∙ keeps.id, (h.1.0, (subst Over keeps.below h.1.1.0, (sym keeps.parent ∙ h.1.1.1.0, refl))))

  pub filled_stands : (spell_key : K → List ℕ) (spell_value : V → List ℕ) (s : Staging K V) (u : Draft K V) (slots : List (Slot V)) (unstaged : List (K × Option V)) (c : List (ℕ × State K V)) (n at : ℕ) (inside : Bool) → u ≡ s.batch → at ≡ n
      → ((d : List (ℕ × State K V)) → DraftShows cmp spell_key spell_value u d → has_id d at ≡ inside) → DraftShows cmp spell_key spell_value (filled cmp s slots unstaged) c → has_id c n ≡ inside
  filled_stands spell_key spell_value s u slots unstaged c n at inside same is all h =
      let Kept : Draft K V → Type 0 = λ x. Keeps x (filled cmp s slots unstaged) in
      ap (λ m. has_id c m) (sym is)
      ∙ stands_before spell_key spell_value u (filled cmp s slots unstaged) c at inside (subst Kept (sym same) (with_writes-keeps s.batch (slot_writes s.keys slots ++ unstaged))) all h

  first_slot : (key : K) (keys : List K) (slot : Slot V) (slots : List (Slot V)) → slot_writes (key ∷ keys) (slot ∷ slots) ≡ slot_writes (key ∷ []) (slot ∷ []) ++ slot_writes keys slots
  first_slot key keys (Put value) slots = refl
  first_slot key keys Delete slots = refl
  first_slot key keys Keep slots = refl

  -- a step along staged keys
  pub slots_step : (u v : Draft K V) (keys : List K) (slots : List (Slot V)) (i : ℕ) (key : K) (slot : Slot V) → slice_get keys i ≡ Some key → slice_get slots i ≡ Some slot → v ≡ with_writes cmp u (slot_writes (key ∷ []) (slot ∷ []))
      → with_writes cmp v (slot_writes (drop (i + 1) keys) (drop (i + 1) slots)) ≡ with_writes cmp u (slot_writes (drop i keys) (drop i slots))
  slots_step u v keys slots i key slot at_key at_slot is =
      let next : i + 1 ≡ suc i = omega arith in
      let ks = drop (suc i) keys in
      let ss = drop (suc i) slots in
      ap (λ n. with_writes cmp v (slot_writes (drop n keys) (drop n slots))) next
      ∙ ap (λ (w : Draft K V). with_writes cmp w (slot_writes ks ss)) is
      ∙ sym (with_writes-append u (slot_writes (key ∷ []) (slot ∷ [])) (slot_writes ks ss))
      ∙ sym (ap (λ xs. with_writes cmp u (slot_writes xs (drop i slots))) (drop-some keys i key at_key)
      ∙ ap (λ xs. with_writes cmp u (slot_writes (key ∷ ks) xs)) (drop-some slots i slot at_slot)
      ∙ ap (λ xs. with_writes cmp u xs) (first_slot key ks slot ss))
