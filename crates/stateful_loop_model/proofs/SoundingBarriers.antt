-- Barriers that begin and complete keep a sound moment sound.
use Rattle.std.proofs.Common.{◌≡◌, ◌≤◌, ◌<◌, ◌+◌, ◌∷◌, ◌++◌, ℕ, Bool, true, false, List, All, [], length, map, drop, Option, Some, None, refl, sym, ap, ◌∙◌, subst, arith, length-append, cond}
use Rattle.std.proofs.lemmas.List.{length-map, map-append}
use Rattle.std.proofs.lemmas.List.Elements.{All-push, All-tail}
use Rattle.stateful_db.specs.Laws.{Laws}
use Rattle.stateful_durability.specs.Durability.{Coverage, receipts_above}
use Rattle.stateful_exec_model.specs.Workings.{Workings}
use Rattle.stateful_loop_model.proofs.OutTokens.{out_at_push, out_in_open, out_in_flushed}
use Rattle.stateful_loop_model.proofs.SoundingFront.{front_covered}
use Rattle.stateful_loop_model.proofs.SoundingHeld.{held_covered, held_above}
use Rattle.stateful_loop_model.proofs.SoundingKept.{Sound-is}
use Rattle.stateful_loop_model.specs.Barriers.{flushed, is_flushed}
use Rattle.stateful_loop_model.specs.Moments.{Moment}
use Rattle.stateful_loop_model.specs.Rules.{BeginsBarrier, CompletesBarrier, Needed}
use Rattle.stateful_loop_model.specs.Sound.{AreHeld, FrontAgrees, IsUp, Sound, out_at}
use Rattle.stateful_loop_model.specs.declared.barriers.Active.{Active}
use Rattle.stateful_loop_model.specs.declared.tables.Finalizing.{Finalizing}

heights_of : List Active → List ℕ
heights_of barriers = map (λ (active : Active). active.height.0) barriers

-- the first of the open barriers is the one that was flushed
pub flushed_first : (barriers : List Active) (a : Active) → flushed barriers ≡ Some a → (more : List Active) × (barriers ≡ a ∷ more) × (is_flushed a ≡ true)
flushed_first [] a e = absurd (cc)
flushed_first (b ∷ more) a e = by (is_flushed b) refl e
  where
    some_is : (x y : Active) → Some x ≡ Some y → x ≡ y
    some_is x y h = cc

    by : (t : Bool) → is_flushed b ≡ t → (cond t (Some b) None) ≡ Some a → (rest : List Active) × (b ∷ more ≡ a ∷ rest) × (is_flushed a ≡ true)
    by true is h = (more, ap (λ x. x ∷ more) (some_is b a h), ap is_flushed (sym (some_is b a h)) ∙ is)
    by false is h = absurd (cc)

module _ {B C I P R D H G U : Type 0} (w : Workings B C I P R D H G U) where
  pub begins_sound : Laws w.kind → (m now : Moment w) → m.loop.up ≡ true → Needed m.loop.durability → BeginsBarrier w m now → Sound w m → Sound w now
  begins_sound laws m now up needed r s =
      let u : IsUp w m = s.up up in
      let there : w.kind.point (w.kind.finalized m.members) ≡ Some u.point = laws.finalize.point_finalized m.members ∙ u.here in
      let active : Active = record { number = m.loop.next_barrier; height = record { 0 = m.loop.durability.applied }; barrier = r.barrier } in
      let as_many : length m.loop.barriers ≡ length m.loop.durability.barriers = sym (length-map m.loop.barriers (λ (a : Active). a.height.0)) ∙ ap length u.heights in
      Sound-is w now _ r.becomes (record {
        none_away = laws.places.away_here (w.kind.finalized m.members) u.point there;
        up = λ _. record {
          point = u.point;
          here = there;
          applied = u.applied;
          heights = map-append (λ (a : Active). a.height.0) m.loop.barriers (active ∷ []) ∙ ap (λ xs. xs ++ m.loop.durability.applied ∷ []) u.heights;
          few = let e : length (m.loop.barriers ++ active ∷ []) ≡ length m.loop.barriers + 1 = length-append m.loop.barriers (active ∷ []) in
              let lt : length m.loop.durability.barriers < 2 = needed.0 in omega (arith, e, as_many, lt);
          counts = All-push (λ (a : Active). length a.barrier ≡ w.kind.count) m.loop.barriers active u.counts r.count;
          tokens = λ i lt. laws.finalize.tokens_finalized m.members u.point i lt u.here
              ∙ ap (λ xs. xs ++ w.kind.place m.members i ∷ []) (u.tokens i lt)
              ∙ sym (out_at_push m.loop.barriers active i
              ∙ ap (λ xs. out_at m.loop.barriers i ++ xs) (out_in_open r.barrier i (record { place = w.kind.place m.members i }) (r.handles i lt)));
          front = front_covered w m.loop.durability (m.loop.durability.barriers ++ m.loop.durability.applied ∷ []) m.loop.front m.execution.front u.front;
          held = held_covered w m.loop.durability (m.loop.durability.barriers ++ m.loop.durability.applied ∷ []) m.loop.front u.held;
        };
      })

  pub completes_sound : (active : Active) (m now : Moment w) → m.loop.up ≡ true → m.loop.front ≡ None → flushed m.loop.barriers ≡ Some active
      → CompletesBarrier w active m now → Sound w m → Sound w now
  completes_sound active m now up none done r s =
      let u : IsUp w m = s.up up in
      let (more, is, good) = flushed_first m.loop.barriers active done in
      let left : drop 1 m.loop.barriers ≡ more = ap (drop 1) is in
      let c : Coverage = record {
        durable = active.height.0;
        applied = m.loop.durability.applied;
        barriers = drop 1 m.loop.durability.barriers;
        held = receipts_above active.height.0 m.loop.durability.held;
      } in
      Sound-is w now _ r.becomes (record {
        none_away = s.none_away;
        up = λ _. record {
          point = u.point;
          here = u.here;
          applied = u.applied;
          heights = ap (map (λ (a : Active). a.height.0)) left ∙ ap (drop 1) (sym (ap (map (λ (a : Active). a.height.0)) is)) ∙ ap (drop 1) u.heights;
          few = subst (λ (xs : List Active). length xs ≤ 2) (sym left)
              (let few : length (active ∷ more) ≤ 2 = subst (λ (xs : List Active). length xs ≤ 2) is u.few in omega (arith, few));
          counts = subst (λ (xs : List Active). All (λ a. length a.barrier ≡ w.kind.count) xs) (sym left)
              (All-tail (λ (a : Active). length a.barrier ≡ w.kind.count) active more
              (subst (λ (xs : List Active). All (λ a. length a.barrier ≡ w.kind.count) xs) is u.counts));
          tokens = λ i lt. u.tokens i lt
              ∙ ap (λ (xs : List Active). out_at xs i) is
              ∙ ap (λ xs. xs ++ out_at more i) (out_in_flushed active.barrier i good)
              ∙ sym (ap (λ (xs : List Active). out_at xs i) left);
          front = subst (λ (x : Option (Finalizing B G)). FrontAgrees w c x m.execution.front) (sym none)
              (subst (λ (x : Option (Finalizing B G)). FrontAgrees w m.loop.durability x m.execution.front) none u.front);
          held = subst (λ (x : Option (Finalizing B G)). AreHeld w c x) (sym none)
              (λ n le. held_above m.loop.durability active.height.0 n (drop 1 m.loop.durability.barriers) r.later
              (subst (λ (x : Option (Finalizing B G)). AreHeld w m.loop.durability x) none u.held n le));
        };
      })
