-- Each rule of the loop leaves the durable height, the heights of barriers and the receipts in order.
use Rattle.std.proofs.Common.{◌≡◌, ◌≤◌, ◌<◌, ◌+◌, ◌∷◌, ◌++◌, inl, inr, ℕ, zero, suc, true, List, [], length, map, drop, Option, Some, None, sym, ap, ◌∙◌, subst, arith, length-append, unwrap_or, slice_get}
use Rattle.std.specs.List.{last_or}
use Rattle.std.specs.List.Sorted.{IsNonDecreasingBy, IsStrictlyIncreasing}
use Rattle.std.proofs.Math.Seq.{drop-append_seam}
use Rattle.std.proofs.lemmas.List.Elements.{All-push, All-weaker, All-filter}
use Rattle.std.proofs.lemmas.List.Sorted.{IsNonDecreasingBy-drop}
use Rattle.stateful_base.specs.Names.{Named}
use Rattle.stateful_durability.specs.Durability.{Coverage, IsInOrder, receipts_up_to, receipts_above, after_completion}
use Rattle.stateful_durability.proofs.Barriers.{completion_keeps_order}
use Rattle.stateful_durability.proofs.Order.{with_duplicate_keeps_order, push_keeps_order}
use Rattle.stateful_durability.proofs.Receipts.{in_front}
use Rattle.stateful_exec_model.specs.Finalizing.{front_at}
use Rattle.stateful_exec_model.specs.Workings.{Workings}
use Rattle.stateful_exec_model.specs.declared.front.Stage.TheVariants.{Begun, Ran, Advanced}
use Rattle.stateful_loop_laws.proofs.tickets.Taken.{takes-front}
use Rattle.stateful_loop_model.proofs.SoundingBarriers.{flushed_first}
use Rattle.stateful_loop_model.proofs.SoundingRules.{takes_sound}
use Rattle.stateful_loop_model.proofs.SoundingSteps as steps
use Rattle.stateful_loop_model.specs.Barriers.{flushed}
use Rattle.stateful_loop_model.specs.Moments.{Moment}
use Rattle.stateful_loop_model.specs.Rules.{Needed, starts, declines, BeginsBarrier, CompletesBarrier, DoesMessage, schedules, answers, acknowledges, holds, begins, IsFinalizing, HasStates, AppliesBlock, EndsFinalization, Takes, of_action, of_message, Rule, collects, puts_off, runs, applies, covers, observes, ends, breaks, completes, builds, takes}
use Rattle.stateful_loop_model.specs.Sound.{IsUp, Sound, AreHeld}
use Rattle.stateful_loop_model.specs.declared.barriers.Active.{Active}
use Rattle.stateful_loop_model.specs.declared.message.Message.{Message}
use Rattle.stateful_loop_model.specs.declared.tables.Finalizing.{Finalizing}

-- one barrier more, above what is covered
covers_ascend : (durable applied : ℕ) (barriers : List ℕ) → length barriers < 2 → IsStrictlyIncreasing (durable ∷ barriers)
    → unwrap_or (last_or None barriers) durable < applied → IsStrictlyIncreasing (durable ∷ (barriers ++ applied ∷ []))
covers_ascend durable applied [] few up above zero within = above
covers_ascend durable applied [] few up above (suc k) within = absurd (omega arith)
covers_ascend durable applied (a ∷ []) few up above zero within = up 0 (omega arith)
covers_ascend durable applied (a ∷ []) few up above (suc zero) within = above
covers_ascend durable applied (a ∷ []) few up above (suc (suc k)) within = absurd (omega arith)
covers_ascend durable applied (a ∷ b ∷ more) few up above k within = absurd (omega arith)

-- a barrier begins over all that is applied
pub begins_order : (c : Coverage) → Needed c → IsInOrder c → IsInOrder (record c { barriers = c.barriers ++ c.applied ∷ [] })
begins_order c needed o = record {
  durable = o.durable;
  at_most_two = let few : length c.barriers < 2 = needed.0 in let e = length-append c.barriers (c.applied ∷ []) in omega (arith, e, few);
  barriers_ascend = covers_ascend c.durable c.applied c.barriers needed.0 o.barriers_ascend needed.1;
  barriers_applied = All-push (λ n. n ≤ c.applied) c.barriers c.applied o.barriers_applied (omega arith);
  ascending = o.ascending;
  applied = o.applied;
}

-- a block of a greater height is applied
pub applies_order : (c : Coverage) (height : ℕ) → c.applied ≤ height → IsInOrder c → IsInOrder (record c { applied = height })
applies_order c height le o = record {
  durable = omega (arith, o.durable, le);
  at_most_two = o.at_most_two;
  barriers_ascend = o.barriers_ascend;
  barriers_applied = All-weaker (λ n. n ≤ c.applied) (λ n. n ≤ height) (λ n low. omega (arith, low, le)) c.barriers o.barriers_applied;
  ascending = o.ascending;
  applied = All-weaker (λ (r : ℕ × ℕ). r.0 ≤ c.applied) (λ r. r.0 ≤ height) (λ r low. omega (arith, low, le)) c.held o.applied;
}

-- those of later heights alone
above_order : (c : Coverage) (height : ℕ) → IsInOrder c → IsInOrder (record c { held = receipts_above height c.held })
above_order c height o = record {
  durable = o.durable;
  at_most_two = o.at_most_two;
  barriers_ascend = o.barriers_ascend;
  barriers_applied = o.barriers_applied;
  ascending = subst (λ (xs : List (ℕ × ℕ)). IsNonDecreasingBy (λ (r : ℕ × ℕ). r.0) xs) behind
      (IsNonDecreasingBy-drop (λ (r : ℕ × ℕ). r.0) (length (receipts_up_to height c.held)) c.held o.ascending);
  applied = All-filter _ (λ (r : ℕ × ℕ). r.0 ≤ c.applied) c.held o.applied;
}
  where
    behind : drop (length (receipts_up_to height c.held)) c.held ≡ receipts_above height c.held
    behind = ap (drop (length (receipts_up_to height c.held))) (sym (in_front height c.held o.ascending))
        ∙ drop-append_seam (receipts_up_to height c.held) (receipts_above height c.held)

module _ {B C I P R D H G U : Type 0} (w : Workings B C I P R D H G U) where
  abbrev IsOrderly : Moment w → Type 0
  IsOrderly m = IsInOrder m.loop.durability

  same : (m now : Moment w) → now.loop.durability ≡ m.loop.durability → IsOrderly m → IsOrderly now
  same m now is o = subst IsInOrder (sym is) o

  begins_barrier : (m now : Moment w) → Needed m.loop.durability → BeginsBarrier w m now → IsOrderly m → IsOrderly now
  begins_barrier m now needed r o = subst IsInOrder (sym (ap (λ n. n.loop.durability) r.becomes)) (begins_order m.loop.durability needed o)

  completes_barrier : (active : Active) (m now : Moment w) → IsUp w m → flushed m.loop.barriers ≡ Some active → CompletesBarrier w active m now
      → IsOrderly m → IsOrderly now
  completes_barrier active m now u done r o =
      let (more, is, good) = flushed_first m.loop.barriers active done in
      let heights : active.height.0 ∷ map (λ (a : Active). a.height.0) more ≡ m.loop.durability.barriers =
      sym (ap (map (λ (a : Active). a.height.0)) is) ∙ u.heights in
      subst IsInOrder (sym (ap (λ n. n.loop.durability) r.becomes))
      (above_order (after_completion m.loop.durability (Some active.height)) active.height.0
      (completion_keeps_order m.loop.durability (Some active.height) o
      (λ height some. subst (λ (xs : List ℕ). slice_get xs 0 ≡ Some height.0) heights (cc))))

  next_height : (f : Finalizing B G) (m : Moment w) → IsFinalizing w m f → HasStates w m f.block → IsUp w m
      → w.header.height f.block.block ≡ m.loop.durability.applied + 1
  next_height f m fin (inl begun) u = (steps.in_front w m f Begun fin.2 begun.0 u).1
  next_height f m fin (inr ran) u = (steps.in_front w m f (Ran ran.0) fin.2 ran.1 u).1

  applies_block : (f : Finalizing B G) (m now : Moment w) → IsFinalizing w m f → HasStates w m f.block → IsUp w m → AppliesBlock w f m now
      → IsOrderly m → IsOrderly now
  applies_block f m now fin states u r o =
      let next = next_height f m fin states u in
      subst IsInOrder (sym (ap (λ n. n.loop.durability) r.becomes))
      (applies_order m.loop.durability (w.header.height f.block.block) (omega (arith, next)) o)

  ends_finalization : (stored : ℕ → Option (Named B)) (f : Finalizing B G) (m now : Moment w) → IsFinalizing w m f
      → m.execution.front ≡ front_at f.block Advanced → IsUp w m → EndsFinalization w stored f m now → IsOrderly m → IsOrderly now
  ends_finalization stored f m now fin advanced u r o =
      subst IsInOrder (sym (ap (λ n. n.loop.durability) r.becomes))
      (push_keeps_order m.loop.durability (w.header.height f.block.block) f.ticket o (steps.in_front w m f Advanced fin.2 advanced u).0)

  does : (stored : ℕ → Option (Named B)) (x : Message B C I) (m now : Moment w) → m.loop.front ≡ None → IsUp w m → DoesMessage w stored m now x
      → IsOrderly m → IsOrderly now
  does stored x m now none u (schedules r) o = same m now (ap (λ n. n.loop.durability) r.becomes) o
  does stored x m now none u (answers e) o = same m now (ap (λ n. n.loop.durability) e) o
  does stored x m now none u (acknowledges old durable e) o = same m now (ap (λ n. n.loop.durability) e) o
  does stored x m now none u (holds {t = t} {b = b} old above e) o =
      let held : AreHeld w m.loop.durability None = subst (λ (y : Option (Finalizing B G)). AreHeld w m.loop.durability y) none u.held in
      let low : w.header.height b.block ≤ m.execution.state.anchor.height.0 = old.low in
      subst IsInOrder (sym (ap (λ n. n.loop.durability) e))
      (with_duplicate_keeps_order m.loop.durability (w.header.height b.block) t o
      (held (w.header.height b.block) (let at = u.applied in omega (arith, low, at))))
  does stored x m now none u (begins above r) o = same m now (ap (λ n. n.loop.durability) r.becomes) o

  taken : (x : Message B C I) (m mid : Moment w) → Takes w x m mid → mid.loop.durability ≡ m.loop.durability
  taken x m mid (of_action is e) = ap (λ n. n.loop.durability) e
  taken x m mid (of_message none is e) = ap (λ n. n.loop.durability) e

  -- a rule goes
  pub rule_order : (stored : ℕ → Option (Named B)) (provider : P) (m now : Moment w) → Sound w m
      → Rule w stored provider m now
      → IsInOrder m.loop.durability → IsInOrder now.loop.durability
  rule_order stored provider m now s (collects up r) o = same m now (ap (λ n. n.loop.durability) r.becomes) o
  rule_order stored provider m now s (Rule.schedules calm building is verifies r) o = same m now (ap (λ n. n.loop.durability) r.becomes) o
  rule_order stored provider m now s (puts_off calm building is other e) o = same m now (ap (λ n. n.loop.durability) e) o
  rule_order stored provider m now s (runs fin begun awaits unknown r) o = same m now (ap (λ n. n.loop.durability) r.becomes) o
  rule_order stored provider m now s (applies {f = f} fin captured states r) o = applies_block f m now fin states (s.up fin.0.0) r o
  rule_order stored provider m now s (covers fin advanced captured needed r) o = begins_barrier m now needed r o
  rule_order stored provider m now s (observes fin advanced is covered r) o = same m now (ap (λ n. n.loop.durability) r.becomes) o
  rule_order stored provider m now s (ends {f = f} fin advanced captured r) o =
      ends_finalization stored f m now fin advanced (s.up fin.0.0) r o
  rule_order stored provider m now s (breaks idle is e) o = same m now (ap (λ n. n.loop.durability) e) o
  rule_order stored provider m now s (completes {active = active} idle unbroken done r) o =
      completes_barrier active m now (s.up idle.0.0) done r o
  rule_order stored provider m now s (Rule.begins idle unbroken undone needed r) o = begins_barrier m now needed r o
  rule_order stored provider m now s (builds calm is (starts b e)) o = same m now (ap (λ n. n.loop.durability) e) o
  rule_order stored provider m now s (builds calm is (declines none e)) o = same m now (ap (λ n. n.loop.durability) e) o
  rule_order stored provider m now s (takes {x = x} {mid = mid} calm take done) o =
      does stored x mid now (takes-front w stored [] x m mid take ∙ calm.0.2) ((takes_sound w x m mid take s).up (taken_up take)) done
      (same m mid (taken x m mid take) o)
    where
      taken_up : Takes w x m mid → mid.loop.up ≡ true
      taken_up (of_action is e) = ap (λ n. n.loop.up) e ∙ calm.0.0.0
      taken_up (of_message none is e) = ap (λ n. n.loop.up) e ∙ calm.0.0.0
