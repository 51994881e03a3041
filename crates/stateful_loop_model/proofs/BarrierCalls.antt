-- Which error a failed call of the databases is answered as, where a barrier begins or a flush is answered; and which
-- receipts are acknowledged.
use Rattle.std.proofs.Common.{◌≡◌, ◌∷◌, ◌++◌, [], ◌<◌, ◌≤◌, ⊎_elim, ℕ, true, List, Some, None, map, ap, ◌∙◌, refl, sym, subst, append_assoc, append-nil, arith}
use Rattle.std.proofs.lemmas.Bool.{cases_Bool}
use Rattle.std.proofs.lemmas.Bool.Decides.{nat_tests}
use Rattle.std.proofs.lemmas.List.Elements.{All-head, All-tail}
use Rattle.std.specs.Prelude.{option_and_then, All}
use Rattle.stateful_db.specs.Barrier.{open_at}
use Rattle.stateful_db.specs.Databases.{Databases}
use Rattle.stateful_db.specs.declared.database.DbCall.{DbCall}
use Rattle.stateful_db.specs.declared.database.DbCall.TheVariants as call
use Rattle.stateful_db.specs.declared.database.FlushToken.{FlushToken}
use Rattle.stateful_db.specs.declared.set.SetError.{SetError}
use Rattle.stateful_db.specs.declared.set.SetError.TheVariants as set
use Rattle.stateful_durability.specs.Durability.{Coverage, Releases, covered_receipts, receipts_above}
use Rattle.stateful_exec_tables.specs.Tables.{IsLeft}
use Rattle.stateful_history.specs.declared.mark.Mark.{Mark}
use Rattle.stateful_loop_model.proofs.OutTokens.{opened_by, awaiting_first, awaiting_behind}
use Rattle.stateful_loop_model.specs.Barriers.{awaits, awaiting}
use Rattle.stateful_loop_model.specs.Causes.{HasCounted, FaultsBarrier, FaultsFlush}
use Rattle.stateful_loop_model.specs.Errors.{error_of_set}
use Rattle.stateful_loop_model.specs.Rules.{acknowledged}
use Rattle.stateful_loop_model.specs.declared.barriers.Active.{Active}
use Rattle.stateful_loop_model.specs.declared.tables.Processing.{Processing}

module _ {Ids S T : Type 0} (d : Databases Ids S T) (before now : ℕ → ℕ) (new : d.Members) (e : SetError) where
  -- a set failed at its finalize
  pub fault_finalizing : (number : ℕ) → IsLeft number → (e ≡ set.Lost → ⊥) → (e ≡ set.Exhausted → ⊥)
      → ((n : ℕ) (k : DbCall) → e ≡ set.DatabaseFault n k → HasCounted d before now new n k call.Finalize)
      → FaultsBarrier d before now new number (error_of_set e)
  fault_finalizing number left lost exhausted fault = barrier e refl
    where
      barrier : (f : SetError) → e ≡ f → FaultsBarrier d before now new number (error_of_set f)
      barrier set.Lost is = absurd (lost is)
      barrier set.Exhausted is = absurd (exhausted is)
      barrier (set.DatabaseFault n k) is = (fault n k is, left)
      barrier set.OutOfMemory is = tt

  -- a set failed at a flush of the database of this number
  pub fault_flushing : (barriers : List Active) (number i : ℕ) → (e ≡ set.Lost → ⊥) → (e ≡ set.Exhausted → ⊥)
      → ((n : ℕ) (k : DbCall) → e ≡ set.DatabaseFault n k → (n ≡ i) × HasCounted d before now new n k call.Flush)
      → FaultsFlush d before now new barriers number i (error_of_set e)
  fault_flushing barriers number i lost exhausted fault = flush e refl
    where
      flush : (f : SetError) → e ≡ f → FaultsFlush d before now new barriers number i (error_of_set f)
      flush set.Lost is = absurd (lost is)
      flush set.Exhausted is = absurd (exhausted is)
      flush (set.DatabaseFault n k) is = fault n k is
      flush set.OutOfMemory is = tt

-- an open barrier that awaits an answer has a token for it
none_awaits : (k i : ℕ) (b : Active) → awaits k i b ≡ true → open_at b.barrier i ≡ None → ⊥
none_awaits k i b w h = let (t, is) = opened_by k i b w in none_is_some t (sym h ∙ is)
  where
    none_is_some : (t : FlushToken) → None ≡ Some t → ⊥
    none_is_some t e = cc

pub none_awaiting : (k i : ℕ) (barriers : List Active) → option_and_then (λ active. open_at active.barrier i) (awaiting k i barriers) ≡ None → awaiting k i barriers ≡ None
none_awaiting k i [] h = refl
none_awaiting k i (b ∷ bs) h = ⊎_elim
    (λ w. absurd (none_awaits k i b w (sym (ap (option_and_then (λ active. open_at active.barrier i)) (awaiting_first k i b bs w)) ∙ h)))
    (λ w. awaiting_behind k i b bs w ∙ none_awaiting k i bs (sym (ap (option_and_then (λ active. open_at active.barrier i)) (awaiting_behind k i b bs w)) ∙ h))
    (cases_Bool (awaits k i b))

-- a receipt of a durable height isn't among those above
above_first : (d : ℕ) (receipt : ℕ × ℕ) (held : List (ℕ × ℕ)) → receipt.0 ≤ d → receipts_above d (receipt ∷ held) ≡ receipts_above d held
above_first d receipt held le = grind (arith, nat_tests)

above_kept : (d : ℕ) (receipt : ℕ × ℕ) (held : List (ℕ × ℕ)) → d < receipt.0 → receipts_above d (receipt ∷ held) ≡ receipt ∷ receipts_above d held
above_kept d receipt held lt = grind (arith, nat_tests)

above_all : (d : ℕ) (held : List (ℕ × ℕ)) → All (λ receipt. d < receipt.0) held → held ≡ receipts_above d held
above_all d [] h = refl
above_all d (receipt ∷ held) h = ap (λ rs. receipt ∷ rs) (above_all d held (All-tail (λ receipt. d < receipt.0) receipt held h))
    ∙ sym (above_kept d receipt held (All-head (λ receipt. d < receipt.0) receipt held h))

module _ {B C I G : Type 0} where
  -- Some receipts were acknowledged: but for what is held, all is as it was, and those that are to be acknowledged still
  -- go on where the marks end.
  pub record Acknowledges (old new : Processing B C I G) (before now : List (Mark B)) : Type 0 where
    pub becomes : new ≡ record old { durability = record old.durability { held = new.durability.held } }
    pub above : receipts_above old.durability.durable new.durability.held ≡ receipts_above old.durability.durable old.durability.held
    pub marks : now ++ map acknowledged (covered_receipts new.durability) ≡ before ++ map acknowledged (covered_receipts old.durability)

  pub Acknowledges-none : (p : Processing B C I G) (marks : List (Mark B)) → Acknowledges p p marks marks
  Acknowledges-none p marks = record { becomes = refl; above = refl; marks = refl }

  -- one receipt more
  pub Acknowledges-more : (old mid last : Processing B C I G) (d : Coverage) (before between now : List (Mark B)) (receipt : ℕ × ℕ) → Releases mid.durability d receipt
      → covered_receipts mid.durability ≡ receipt ∷ covered_receipts d → last ≡ record mid { durability = d } → now ≡ between ++ acknowledged receipt ∷ []
      → Acknowledges old mid before between → Acknowledges old last before now
  Acknowledges-more old mid last d before between now receipt releases covered core marks a =
      let mid_is : mid.durability ≡ record old.durability { held = mid.durability.held } = ap (λ (c : Processing B C I G). c.durability) a.becomes in
      let held_is : mid.durability.held ≡ receipt ∷ d.held = ap (λ (c : Coverage). c.held) releases.front in
      let d_is : d ≡ record old.durability { held = d.held } = ap (λ (c : Coverage). record c { held = d.held }) (sym releases.front ∙ mid_is) in
      let last_is : last.durability ≡ d = ap (λ (c : Processing B C I G). c.durability) core in
      let low : receipt.0 ≤ old.durability.durable = subst (λ (c : Coverage). receipt.0 ≤ c.durable) mid_is releases.durable in
      record {
        becomes = core ∙ ap (λ (c : Processing B C I G). record c { durability = d }) a.becomes ∙ ap (λ (c : Coverage). record old { durability = c }) (d_is ∙ ap (λ (c : Coverage). record old.durability { held = c.held }) (sym last_is));
        above = ap (λ (c : Coverage). receipts_above old.durability.durable c.held) last_is ∙ sym (above_first old.durability.durable receipt d.held low)
            ∙ ap (receipts_above old.durability.durable) (sym held_is) ∙ a.above;
        marks = ap (λ (c : Coverage). now ++ map acknowledged (covered_receipts c)) last_is ∙ ap (λ (ms : List (Mark B)). ms ++ map acknowledged (covered_receipts d)) marks
            ∙ append_assoc between (acknowledged receipt ∷ []) (map acknowledged (covered_receipts d))
            ∙ ap (λ (rs : List (ℕ × ℕ)). between ++ map acknowledged rs) (sym covered) ∙ a.marks;
      }

  -- none is left
  pub Acknowledges-all : (old new : Processing B C I G) (before now : List (Mark B)) → covered_receipts new.durability ≡ [] → All (λ receipt. new.durability.durable < receipt.0) new.durability.held
      → Acknowledges old new before now
      → (new ≡ record old { durability = record old.durability { held = receipts_above old.durability.durable old.durability.held } })
      × (now ≡ before ++ map acknowledged (covered_receipts old.durability))
  Acknowledges-all old new before now covered above a =
      let new_is : new.durability ≡ record old.durability { held = new.durability.held } = ap (λ (c : Processing B C I G). c.durability) a.becomes in
      let same : new.durability.durable ≡ old.durability.durable = ap (λ (c : Coverage). c.durable) new_is in
      let held_is : new.durability.held ≡ receipts_above old.durability.durable old.durability.held =
      above_all old.durability.durable new.durability.held (subst (λ (n : ℕ). All (λ receipt. n < receipt.0) new.durability.held) same above) ∙ a.above in (
        a.becomes ∙ ap (λ (held : List (ℕ × ℕ)). record old { durability = record old.durability { held = held } }) held_is,
        sym (append-nil now) ∙ ap (λ (rs : List (ℕ × ℕ)). now ++ map acknowledged rs) (sym covered) ∙ a.marks,
      )
