-- Every rule from a sound moment leaves less to do.
use Rattle.std.proofs.Common.{◌≡◌, ◌≤◌, ◌<◌, ◌+◌, inl, inr, ℕ, Bool, true, false, Option, Some, None, List, [], ◌∷◌, ◌++◌, length, drop, map, sum_by, sym, ap, ◌∙◌, subst, arith, length-append, unwrap_or}
use Rattle.std.specs.List.{last_or}
use Rattle.std.proofs.lemmas.List.{length-map}
use Rattle.std.proofs.lemmas.List.Sums.{sum_by-cons, sum_by_push}
use Rattle.stateful_base.specs.Names.{Named}
use Rattle.stateful_db.specs.declared.application.Hooked.{Hooked}
use Rattle.stateful_db.specs.declared.application.Hooked.TheVariants as hooked
use Rattle.stateful_durability.specs.Durability.{Coverage, covered_by_barriers, receipts_above}
use Rattle.stateful_history.specs.declared.mark.Mark.{Mark}
use Rattle.stateful_exec_model.specs.Finalizing.{front_at, HooksOn}
use Rattle.stateful_exec_tables.specs.Phase.{dropped}
use Rattle.stateful_exec_walk.specs.Request.{ticket_by}
use Rattle.stateful_exec_tables.specs.Tables.{requested}
use Rattle.stateful_exec_model.specs.Workings.{Workings}
use Rattle.stateful_exec_model.specs.declared.front.Front.{Front}
use Rattle.stateful_exec_model.specs.declared.front.Stage.TheVariants.{Begun, Running, Ran, Advanced}
use Rattle.stateful_exec_walk.specs.declared.request.Request.{Request}
use Rattle.stateful_exec_tables.specs.declared.state.Tables.{Tables}
use Rattle.stateful_loop_model.proofs.FallingParts.{action_weight, reached_weight, front_weight, uncovered, uncovered_by, up_weight, uncovered_few, uncovered_two, covered_now, covered_still, weighs, weighs_captured}
pub use Rattle.stateful_loop_model.proofs.FallingParts.{weight}
use Rattle.stateful_loop_model.proofs.FallingTables.{tables_weight, acquires_adds, resumes_adds}
use Rattle.stateful_loop_model.proofs.SoundingBarriers.{flushed_first}
use Rattle.stateful_loop_model.proofs.SoundingSteps.{in_front}
use Rattle.stateful_loop_model.specs.Barriers.{flushed}
use Rattle.stateful_loop_model.specs.Moments.{Moment, inner, with_loop}
use Rattle.stateful_loop_model.specs.Rules.{IsFinalizing, HasStates, Needed, finalizing, Collects, Schedules, BeginsBarrier, CompletesBarrier, Takes, of_action, of_message, Builds, BeginsFinalization, DoesMessage, answers, acknowledges, holds, RunsFinalized, AppliesBlock, ObservesBlock, EndsFinalization, Rule, collects, puts_off, runs, applies, covers, observes, ends, breaks, completes, begins, builds, takes}
use Rattle.stateful_loop_model.specs.Rules as rule
use Rattle.stateful_loop_model.specs.Sound.{IsUp, Sound}
use Rattle.stateful_loop_model.specs.declared.barriers.Active.{Active}
use Rattle.stateful_loop_model.specs.declared.message.Action.TheVariants as action
use Rattle.stateful_loop_model.specs.declared.message.Message.{Message}
use Rattle.stateful_loop_model.specs.declared.tables.Finalizing.{Finalizing}

module _ {B C I P R D H G U : Type 0} (w : Workings B C I P R D H G U) where
  -- an equation of moments, read
  lighter : (now mid : Moment w) (n : ℕ) → now ≡ mid → weight w mid < n → weight w now < n
  lighter now mid n e h = subst (λ x. weight w x < n) (sym e) h

  collects_falls : (t : ℕ) (m now : Moment w) → Collects w t m now → weight w now < weight w m
  collects_falls t m now r =
      let first : length m.execution.state.recovered ≡ length r.more + 1 = ap length r.first ∙ (omega arith) in
      let push : sum_by action_weight (m.loop.actions ++ action.Build t ∷ []) ≡ sum_by action_weight m.loop.actions + 1 =
      sum_by_push action_weight m.loop.actions (action.Build t) in
      lighter now _ (weight w m) r.becomes (omega (arith, first, push))

  -- a request adds no more than 3
  schedules_adds : (stored : ℕ → Option (Named B)) (request : Request B C I) (m now : Moment w) → Schedules w stored request m now → weight w now < weight w m + 4
  schedules_adds stored request m now r =
      let adds : tables_weight r.then.state ≤ tables_weight m.execution.state + 3 =
      acquires_adds w stored (inner w m) (ticket_by request) (requested request) r.then r.acquires in
      lighter now _ (weight w m + 4) r.becomes (omega (arith, adds))

  puts_off_falls : (x : Message B C I) (rest : List (Message B C I)) (m now : Moment w) → m.loop.queue ≡ x ∷ rest
      → now ≡ with_loop w m (record m.loop { queue = rest; actions = m.loop.actions ++ action.Message x ∷ [] }) → weight w now < weight w m
  puts_off_falls x rest m now is e =
      let first : length m.loop.queue ≡ length rest + 1 = ap length is ∙ (omega arith) in
      let push : sum_by action_weight (m.loop.actions ++ action.Message x ∷ []) ≡ sum_by action_weight m.loop.actions + 9 =
      sum_by_push action_weight m.loop.actions (action.Message x) in
      lighter now _ (weight w m) e (omega (arith, first, push))

  runs_falls : (f : Finalizing B G) (m now : Moment w) → IsFinalizing w m f → m.execution.front ≡ front_at f.block Begun → RunsFinalized w f.block m now → IsUp w m
      → weight w now < weight w m
  runs_falls f m now fin begun r u =
      let none : f.captured ≡ None = (in_front w m f Begun fin.2 begun u).0 in
      let old : front_weight m.loop.front m.execution.front ≡ 8 = weighs m.loop.front m.execution.front f f.block Begun fin.2 none begun in
      let new : front_weight m.loop.front r.front ≡ 7 =
      weighs m.loop.front r.front f f.block (Running m.execution.state.next_job r.runs.run) fin.2 none r.runs.front_is in
      let same : tables_weight r.state ≡ tables_weight m.execution.state = ap tables_weight r.runs.state in
      lighter now _ (weight w m) r.becomes (omega (arith, old, new, same))

  states_weigh : (f : Finalizing B G) (m : Moment w) → IsFinalizing w m f → f.captured ≡ None → HasStates w m f.block → 7 ≤ front_weight m.loop.front m.execution.front
  states_weigh f m fin none (inl begun) =
      let old : front_weight m.loop.front m.execution.front ≡ 8 = weighs m.loop.front m.execution.front f f.block Begun fin.2 none begun.0 in omega (arith, old)
  states_weigh f m fin none (inr ran) =
      let old : front_weight m.loop.front m.execution.front ≡ 7 = weighs m.loop.front m.execution.front f f.block (Ran ran.0) fin.2 none ran.1 in omega (arith, old)

  applies_falls : (f : Finalizing B G) (m now : Moment w) → IsFinalizing w m f → f.captured ≡ None → HasStates w m f.block → AppliesBlock w f m now
      → weight w now < weight w m
  applies_falls f m now fin none states r =
      let old : 7 ≤ front_weight m.loop.front m.execution.front = states_weigh f m fin none states in
      let same : tables_weight r.state ≡ tables_weight m.execution.state = ap tables_weight r.moves.state in
      let few : uncovered (record m.loop.durability { applied = w.header.height f.block.block }) ≤ 2 =
      uncovered_few (record m.loop.durability { applied = w.header.height f.block.block }) in
      lighter now _ (weight w m) r.becomes (omega (arith, old, same, few))

  begins_falls : (m now : Moment w) → Needed m.loop.durability → BeginsBarrier w m now → weight w now < weight w m
  begins_falls m now needed r =
      let two : uncovered m.loop.durability ≡ 2 = uncovered_two m.loop.durability needed.1 in
      let none : uncovered (record m.loop.durability { barriers = m.loop.durability.barriers ++ m.loop.durability.applied ∷ [] }) ≡ 0 = covered_now m.loop.durability in
      let active : Active = record { number = m.loop.next_barrier; height = record { 0 = m.loop.durability.applied }; barrier = r.barrier } in
      let more : length (m.loop.barriers ++ active ∷ []) ≡ length m.loop.barriers + 1 = length-append m.loop.barriers (active ∷ []) in
      lighter now _ (weight w m) r.becomes (omega (arith, two, none, more))

  -- a hook weighs as much as what has advanced
  observed_weighs : (f : Finalizing B G) (hook : Hooked H) (old new : Tables B C I R U) (before now : List (Mark B)) (after : Option (Front B R U H)) (live : Bool)
      → HooksOn w f.block hook old new before now after live → (reached_weight after ≡ 1) × (tables_weight new ≡ tables_weight old)
  observed_weighs f hooked.Done old new before now after live h = (ap reached_weight h.2, ap tables_weight h.0)
  observed_weighs f (hooked.Pending hook) old new before now after live h = (ap reached_weight h.3, ap tables_weight h.0)

  observes_falls : (f : Finalizing B G) (captured : G) (m now : Moment w) → IsFinalizing w m f → f.captured ≡ Some captured → ObservesBlock w f captured m now
      → weight w now < weight w m
  observes_falls f captured m now fin some r =
      let old : front_weight m.loop.front m.execution.front ≡ 3 = weighs_captured m.loop.front m.execution.front f captured fin.2 some in
      let o = observed_weighs f r.observes.hook m.execution.state r.state m.marks r.marks r.front r.live r.observes.hooks_on in
      lighter now _ (weight w m) r.becomes (omega (arith, old, o.0, o.1))

  ends_falls : (stored : ℕ → Option (Named B)) (f : Finalizing B G) (m now : Moment w) → IsFinalizing w m f → m.execution.front ≡ front_at f.block Advanced
      → f.captured ≡ None
      → EndsFinalization w stored f m now → weight w now < weight w m
  ends_falls stored f m now fin advanced none r =
      let old : front_weight m.loop.front m.execution.front ≡ 1 = weighs m.loop.front m.execution.front f f.block Advanced fin.2 none advanced in
      let less : tables_weight r.then.state ≤ tables_weight m.execution.state = resumes_adds w stored (inner w m) r.then r.resumes in
      lighter now _ (weight w m) r.becomes (omega (arith, old, less))

  breaks_falls : (m now : Moment w) (marks : List (Mark B)) → m.loop.up ≡ true → now ≡ record m { loop = record m.loop { up = false }; marks = marks }
      → weight w now < weight w m
  breaks_falls m now marks up e =
      let one : up_weight m.loop.up ≡ 1 = ap up_weight up in
      lighter now _ (weight w m) e (omega (arith, one))

  completes_falls : (active : Active) (m now : Moment w) → flushed m.loop.barriers ≡ Some active → CompletesBarrier w active m now → IsUp w m → weight w now < weight w m
  completes_falls active m now done r u =
      let (more, is, good) = flushed_first m.loop.barriers active done in
      let old : length m.loop.barriers ≡ length more + 1 = ap length is ∙ (omega arith) in
      let new : length (drop 1 m.loop.barriers) ≡ length more = ap (λ (xs : List Active). length (drop 1 xs)) is in
      let hs : List ℕ = map (λ (a : Active). a.height.0) more in
      let heights : m.loop.durability.barriers ≡ active.height.0 ∷ hs = sym u.heights ∙ ap (map (λ (a : Active). a.height.0)) is in
      let before : covered_by_barriers m.loop.durability ≡ unwrap_or (last_or None hs) active.height.0 =
      ap (λ xs. unwrap_or (last_or None xs) m.loop.durability.durable) heights ∙ covered_still active.height.0 hs m.loop.durability.durable in
      let after : unwrap_or (last_or None (drop 1 m.loop.durability.barriers)) active.height.0 ≡ unwrap_or (last_or None hs) active.height.0 =
      ap (λ xs. unwrap_or (last_or None (drop 1 xs)) active.height.0) heights in
      let c : Coverage = record {
        durable = active.height.0;
        applied = m.loop.durability.applied;
        barriers = drop 1 m.loop.durability.barriers;
        held = receipts_above active.height.0 m.loop.durability.held;
      } in
      let same : uncovered c ≡ uncovered m.loop.durability = ap (λ n. uncovered_by n m.loop.durability.applied) (after ∙ sym before) in
      lighter now _ (weight w m) r.becomes (omega (arith, old, new, same))

  -- a build is no heavier than its proposal was
  builds_no_heavier : (provider : P) (t : ℕ) (m now : Moment w) → Builds w provider t m now → weight w now ≤ weight w m
  builds_no_heavier provider t m now (rule.starts b e) =
      let same = ap tables_weight b.state in subst (λ x. weight w x ≤ weight w m) (sym e) (omega (arith, same))
  builds_no_heavier provider t m now (rule.declines none e) = subst (λ x. weight w x ≤ weight w m) (sym e) (omega arith)

  -- what is taken weighed 9 at least
  takes_falls : (x : Message B C I) (m mid : Moment w) → Takes w x m mid → weight w mid + 9 ≤ weight w m
  takes_falls x m mid (of_action {rest = rest} is e) =
      let first : sum_by action_weight m.loop.actions ≡ 9 + sum_by action_weight rest =
      ap (sum_by action_weight) is ∙ sum_by-cons action_weight (action.Message x) rest in
      subst (λ n. weight w n + 9 ≤ weight w m) (sym e) (omega (arith, first))
  takes_falls x m mid (of_message {rest = rest} none is e) =
      let first : length m.loop.queue ≡ length rest + 1 = ap length is ∙ (omega arith) in
      subst (λ n. weight w n + 9 ≤ weight w m) (sym e) (omega (arith, first))

  -- and what becomes of it weighs 8 at most
  begins_adds : (t : ℕ) (b : Named B) (m now : Moment w) → BeginsFinalization w t b m now → weight w now < weight w m + 9
  begins_adds t b m now r =
      let recovered : length r.state.recovered ≡ length m.execution.state.recovered = ap (λ v. length v.recovered) r.pauses.state in
      let requests : length r.state.requests ≡ length m.execution.state.requests =
      ap (λ v. length v.requests) r.pauses.state ∙ length-map m.execution.state.requests dropped in
      lighter now _ (weight w m + 9) r.becomes (omega (arith, recovered, requests))

  does_adds : (stored : ℕ → Option (Named B)) (x : Message B C I) (m now : Moment w) → DoesMessage w stored m now x → weight w now < weight w m + 9
  does_adds stored x m now (rule.schedules {request = request} r) = let h = schedules_adds stored request m now r in omega (arith, h)
  does_adds stored x m now (answers e) = lighter now _ (weight w m + 9) e (omega arith)
  does_adds stored x m now (acknowledges old durable e) = lighter now _ (weight w m + 9) e (omega arith)
  does_adds stored x m now (holds old above e) = lighter now _ (weight w m + 9) e (omega arith)
  does_adds stored x m now (begins {t = t} {b = b} above r) = begins_adds t b m now r

  pub falls : (stored : ℕ → Option (Named B)) (provider : P) (m now : Moment w) → Rule w stored provider m now → Sound w m → weight w now < weight w m
  falls stored provider m now (collects {t = t} up r) s = collects_falls t m now r
  falls stored provider m now (rule.schedules {request = request} {rest = rest} calm building is verifies r) s =
      let adds = schedules_adds stored request (with_loop w m (record m.loop { queue = rest })) now r in
      let first : length m.loop.queue ≡ length rest + 1 = ap length is ∙ (omega arith) in
      omega (arith, adds, first)
  falls stored provider m now (puts_off {x = x} {rest = rest} calm building is other e) s = puts_off_falls x rest m now is e
  falls stored provider m now (runs {f = f} fin begun awaits unknown r) s = runs_falls f m now fin begun r (s.up fin.0.0)
  falls stored provider m now (applies {f = f} fin captured states r) s = applies_falls f m now fin captured states r
  falls stored provider m now (covers fin advanced captured needed r) s = begins_falls m now needed r
  falls stored provider m now (observes {f = f} {captured = captured} fin advanced is covered r) s = observes_falls f captured m now fin is r
  falls stored provider m now (ends {f = f} fin advanced captured r) s = ends_falls stored f m now fin advanced captured r
  falls stored provider m now (breaks idle broken e) s = breaks_falls m now _ idle.0.0 e
  falls stored provider m now (completes {active = active} idle unbroken done r) s = completes_falls active m now done r (s.up idle.0.0)
  falls stored provider m now (begins idle unbroken undone needed r) s = begins_falls m now needed r
  falls stored provider m now (builds {t = t} {rest = rest} calm is r) s =
      let no_more = builds_no_heavier provider t (with_loop w m (record m.loop { actions = rest })) now r in
      let first : sum_by action_weight m.loop.actions ≡ 1 + sum_by action_weight rest = ap (sum_by action_weight) is ∙ sum_by-cons action_weight (action.Build t) rest in
      omega (arith, no_more, first)
  falls stored provider m now (takes {x = x} {mid = mid} calm taken does) s =
      let less = takes_falls x m mid taken in let adds = does_adds stored x mid now does in omega (arith, less, adds)
