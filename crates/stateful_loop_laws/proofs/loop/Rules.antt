-- Every rule of the loop leaves what the loop keeps standing, and its marks keep the rules on barriers and acknowledgements.
use Rattle.std.proofs.Common.{◌≡◌, ◌+◌, ◌++◌, ◌∷◌, [], inl, inr, ℕ, Bool, true, false, List, All, Option, Some, refl, sym, ap, ◌∙◌, subst, arith}
use Rattle.std.proofs.lemmas.Bool.{true≢false}
use Rattle.std.proofs.lemmas.List.{append-nil}
use Rattle.std.proofs.lemmas.List.Elements.{All-nil, All-cons, All-map}
use Rattle.stateful_base.specs.Names.{Named}
use Rattle.stateful_base.specs.declared.anchor.Anchor.{Anchor}
use Rattle.stateful_db.specs.Laws.{Laws}
use Rattle.stateful_db.specs.declared.application.Hooked.{Hooked}
use Rattle.stateful_db.specs.declared.application.Hooked.TheVariants as hooked
use Rattle.stateful_durability.specs.Durability.{IsInOrder}
use Rattle.stateful_history.specs.Anchors.{anchor_of, applied}
use Rattle.stateful_history.specs.Past.{Past, EachMark, after}
use Rattle.stateful_history.specs.States.{fold}
use Rattle.stateful_history.specs.declared.mark.Mark.{Mark}
use Rattle.stateful_history.specs.declared.mark.Mark.TheVariants.{Withdrawn, Began, BarrierDone}
use Rattle.stateful_exec_model.specs.Finalizing.{HooksOn}
use Rattle.stateful_exec_model.specs.Workings.{Workings, Point}
use Rattle.stateful_exec_model.specs.declared.front.Front.{Front}
use Rattle.stateful_exec_model.specs.declared.front.Stage.TheVariants.{Begun, Ran}
use Rattle.stateful_exec_tables.specs.declared.state.Tables.{Tables}
use Rattle.stateful_exec_laws.specs.Setting.{setting}
use Rattle.stateful_loop_laws.specs.Checkpoints.{Keeping}
use Rattle.stateful_loop_laws.specs.Durability.{IsDurablySaid, LoopBehind}
use Rattle.stateful_loop_laws.specs.Stands.{LoopStands}
use Rattle.stateful_loop_laws.proofs.barriers.Down.{AreBelow, AreBelow-done}
use Rattle.stateful_loop_laws.proofs.loop.CalmItems.{IsCalmMark}
use Rattle.stateful_loop_laws.proofs.loop.Applies.{ShowsStates, LoopBehind-applies}
use Rattle.stateful_loop_laws.proofs.loop.Begins.{LoopBehind-begins}
use Rattle.stateful_loop_laws.proofs.loop.Breaks.{IsDurablySaid-broken}
use Rattle.stateful_loop_laws.proofs.loop.Calm.{LoopStands-same, LoopBehind-calm, LoopBehind-same, LoopBehind-is}
use Rattle.stateful_loop_laws.proofs.loop.Completes.{LoopBehind-acknowledges, LoopBehind-completes}
use Rattle.stateful_loop_laws.proofs.loop.Passes.{LoopBehind-schedules, LoopBehind-ends, LoopBehind-holds}
use Rattle.stateful_loop_model.proofs.SoundingSteps.{in_front}
use Rattle.stateful_loop_model.specs.Barriers.{broken}
use Rattle.stateful_loop_model.specs.Moments.{Moment, with_loop}
use Rattle.stateful_loop_model.specs.Rules.{Collects, Builds, starts, declines, BeginsFinalization, DoesMessage, schedules, answers, acknowledges, holds, begins, RunsFinalized, AppliesBlock, ObservesBlock, IsFinalizing, HasStates, Takes, of_action, of_message, Rule, collects, puts_off, runs, applies, covers, observes, ends, breaks, completes, builds, takes}
use Rattle.stateful_loop_model.specs.Sound.{IsUp, Sound}
use Rattle.stateful_loop_model.specs.declared.barriers.Active.{Active}
use Rattle.stateful_loop_model.specs.declared.message.Message.{Message}
use Rattle.stateful_loop_model.specs.declared.tables.Finalizing.{Finalizing}

module _ {B C I P R D H G U : Type 0} (w : Workings B C I P R D H G U) where
  -- the block of a finalization is of the next height until it is applied
  next_height : (f : Finalizing B G) (m : Moment w) → IsFinalizing w m f → HasStates w m f.block → IsUp w m
      → w.header.height f.block.block ≡ m.execution.state.anchor.height.0 + 1
  next_height f m fin (inl begun) u = let next = (in_front w m f Begun fin.2 begun.0 u).1 in omega (arith, next, u.applied)
  next_height f m fin (inr ran) u = let next = (in_front w m f (Ran ran.0) fin.2 ran.1 u).1 in omega (arith, next, u.applied)

module _ {B C I P R D H G U : Type 0} (w : Workings B C I P R D H G U) (stored : ℕ → Option (Named B)) (base : w.States) (p : Past B C I) where
  -- from one moment to a later one some marks are made, which keep the rules; what the loop keeps stands, as long as the
  -- machine is up; and, be it up or not, the databases keep what was applied, and the next number is above those of all barriers
  pub record DurablyBehind (m now : Moment w) : Type 0 where
    pub more : List (Mark B)
    pub marks_are : now.marks ≡ m.marks ++ more
    pub said : EachMark (IsDurablySaid w) p more
    pub loop : now.loop.up ≡ true → LoopStands w stored base (after p more) now
    pub first : Anchor
    pub origin : ℕ → ℕ
    pub keeping : Keeping (setting w stored) w.kind base (after p more) now.members now.execution.state.anchor first origin
    pub numbers : AreBelow (after p more) now.loop.next_barrier

  stays_up : (m now : Moment w) → LoopBehind w stored base p m now → DurablyBehind m now
  stays_up m now h = record {
    more = h.more;
    marks_are = h.marks_are;
    said = h.said;
    loop = λ up. h.loop;
    first = h.loop.first;
    origin = h.loop.origin;
    keeping = h.loop.keeping;
    numbers = h.loop.barriers.numbers;
  }

  -- another moment before, with the same marks
  behind_from : (m mid now : Moment w) → mid.marks ≡ m.marks → LoopBehind w stored base p mid now → LoopBehind w stored base p m now
  behind_from m mid now same h = record { more = h.more; marks_are = h.marks_are ∙ ap (λ ms. ms ++ h.more) same; loop = h.loop; said = h.said }

  one_calm : (mark : Mark B) → IsCalmMark mark → All (λ x. IsCalmMark x) (mark ∷ [])
  one_calm mark calm = All-cons (λ x. IsCalmMark x) mark [] calm (All-nil (λ x. IsCalmMark x))

  module _ (m now : Moment w) (h : LoopStands w stored base p m) where
    behind_collects : (t : ℕ) → Collects w t m now → LoopBehind w stored base p m now
    behind_collects t r =
        LoopBehind-is w stored base p m now _ r.becomes (LoopBehind-same w stored base p m _ refl
        (record { members = refl; anchor = refl; durable = refl; barriers = refl; next_barrier = refl }) h)

    behind_queue : (queue : _) (actions : _) → now ≡ with_loop w m (record m.loop { queue = queue; actions = actions })
        → LoopBehind w stored base p m now
    behind_queue queue actions e =
        LoopBehind-is w stored base p m now _ e (LoopBehind-same w stored base p m _ refl
        (record { members = refl; anchor = refl; durable = refl; barriers = refl; next_barrier = refl }) h)

    behind_runs : (b : Named B) → RunsFinalized w b m now → LoopBehind w stored base p m now
    behind_runs b r =
        LoopBehind-is w stored base p m now _ r.becomes (LoopBehind-calm w stored base p m _ _ refl (one_calm _ tt)
        (record { members = refl; anchor = ap (λ v. v.anchor) r.runs.state; durable = refl; barriers = refl; next_barrier = refl }) h)

    -- the application has left a hook, or none
    hooked_marks : (b : Named B) (hook : Hooked H) (old new : Tables B C I R U) (before later : List (Mark B)) (front : Option (Front B R U H))
        (live : Bool) → HooksOn w b hook old new before later front live
        → (new.anchor ≡ old.anchor) × ((more : List (Mark B)) × (later ≡ before ++ more) × All (λ x. IsCalmMark x) more)
    hooked_marks b hooked.Done old new before later front live k =
        (ap (λ v. v.anchor) k.0, ([], k.1 ∙ sym (append-nil before), All-nil (λ x. IsCalmMark x)))
    hooked_marks b (hooked.Pending hook) old new before later front live k = (ap (λ v. v.anchor) k.0, (_, k.2, one_calm _ tt))

    behind_observes : (f : Finalizing B G) (captured : G) → ObservesBlock w f captured m now → LoopBehind w stored base p m now
    behind_observes f captured r =
        let o = hooked_marks f.block r.observes.hook m.execution.state r.state m.marks r.marks r.front r.live r.observes.hooks_on in
        LoopBehind-is w stored base p m now _ r.becomes (LoopBehind-calm w stored base p m _ o.1.0 o.1.1 o.1.2
        (record { members = refl; anchor = o.0; durable = refl; barriers = refl; next_barrier = refl }) h)

    behind_builds : (provider : P) (t : ℕ) → Builds w provider t m now → LoopBehind w stored base p m now
    behind_builds provider t (starts b e) =
        LoopBehind-is w stored base p m now _ e (LoopBehind-calm w stored base p m _ _ refl (one_calm _ tt)
        (record { members = refl; anchor = ap (λ v. v.anchor) b.state; durable = refl; barriers = refl; next_barrier = refl }) h)
    behind_builds provider t (declines none e) =
        LoopBehind-is w stored base p m now _ e (LoopBehind-calm w stored base p m _ _ refl (one_calm _ tt)
        (record { members = refl; anchor = refl; durable = refl; barriers = refl; next_barrier = refl }) h)

    behind_finalization : (t : ℕ) (b : Named B) → BeginsFinalization w t b m now → LoopBehind w stored base p m now
    behind_finalization t b r =
        let calm : All (λ x. IsCalmMark x) r.withdrawn =
        subst (λ (ms : List (Mark B)). All (λ x. IsCalmMark x) ms) (sym r.pauses.marks_are)
        (All-map (λ (x : Mark B). IsCalmMark x) (λ f. Withdrawn f) r.pauses.fetches (λ k d l. tt)) in
        LoopBehind-is w stored base p m now _ r.becomes
        (LoopBehind-calm w stored base p m _ (Began t b ∷ r.withdrawn) refl (All-cons (λ x. IsCalmMark x) (Began t b) r.withdrawn tt calm)
        (record { members = refl; anchor = ap (λ v. v.anchor) r.pauses.state; durable = refl; barriers = refl; next_barrier = refl }) h)

    -- what becomes of a message
    pub LoopBehind-does : (stored_now : ℕ → Option (Named B)) (x : Message B C I) → DoesMessage w stored_now m now x
        → LoopBehind w stored base p m now
    LoopBehind-does stored_now x (schedules {request = request} r) = LoopBehind-schedules w stored base p m h stored_now request now r
    LoopBehind-does stored_now x (answers e) =
        LoopBehind-is w stored base p m now _ e (LoopBehind-calm w stored base p m _ _ refl (one_calm _ tt)
        (record { members = refl; anchor = refl; durable = refl; barriers = refl; next_barrier = refl }) h)
    LoopBehind-does stored_now x (acknowledges {t = t} {b = b} again far e) = LoopBehind-acknowledges w stored base p m now h t b again far e
    LoopBehind-does stored_now x (holds {t = t} {b = b} again above e) = LoopBehind-holds w stored base p m h t (w.header.height b.block) now e
    LoopBehind-does stored_now x (begins {t = t} {b = b} above r) = behind_finalization t b r

    behind_breaks : (active : Active) → IsUp w m → broken m.loop.barriers ≡ Some active
        → now ≡ record m { loop = record m.loop { up = false }; marks = m.marks ++ BarrierDone active.number active.height false ∷ [] }
        → DurablyBehind m now
    behind_breaks active u is e = subst (λ (n : Moment w). DurablyBehind m n) (sym e) (record {
      more = BarrierDone active.number active.height false ∷ [];
      marks_are = refl;
      said = (IsDurablySaid-broken w stored base p m active u is h, tt);
      loop = λ up. absurd (true≢false (sym up));
      first = h.first;
      origin = h.origin;
      keeping = record {
        opened = h.keeping.opened;
        height = h.keeping.height;
        climbs = h.keeping.climbs;
        keeps = h.keeping.keeps;
        newest = h.keeping.newest;
        above = h.keeping.above;
        durable = h.keeping.durable;
      };
      numbers = AreBelow-done w.header p m.loop.next_barrier active.number active.height h.barriers.numbers;
    })

  -- what is taken leaves the loop as it is
  taken : (x : Message B C I) (m mid : Moment w) → Takes w x m mid → LoopStands w stored base p m
      → LoopStands w stored base p mid × (mid.marks ≡ m.marks)
  taken x m mid (of_action {rest = rest} is e) h = (
    LoopStands-same w stored base p m mid (record {
      members = ap (λ n. n.members) e;
      anchor = ap (λ n. n.execution.state.anchor) e;
      durable = ap (λ n. n.loop.durability.durable) e;
      barriers = ap (λ n. n.loop.barriers) e;
      next_barrier = ap (λ n. n.loop.next_barrier) e;
    }) h,
    ap (λ n. n.marks) e,
  )
  taken x m mid (of_message {rest = rest} none is e) h = (
    LoopStands-same w stored base p m mid (record {
      members = ap (λ n. n.members) e;
      anchor = ap (λ n. n.execution.state.anchor) e;
      durable = ap (λ n. n.loop.durability.durable) e;
      barriers = ap (λ n. n.loop.barriers) e;
      next_barrier = ap (λ n. n.loop.next_barrier) e;
    }) h,
    ap (λ n. n.marks) e,
  )

  module _ (laws : Laws w.kind) (m now : Moment w) (s : Sound w m) (order : IsInOrder m.loop.durability)
      (anchor_is : anchor_of w.header p ≡ Some m.execution.state.anchor) (point : Point w) (located : w.kind.point m.members ≡ Some point)
      (folded : fold (setting w stored) (Some base) (applied p) ≡ Some point.1) (h : LoopStands w stored base p m) where
    -- a rule goes; where it applies a block, the batch shows the states that the block leads to
    pub DurablyBehind-rule : (stored_now : ℕ → Option (Named B)) (provider : P)
        → ((f : Finalizing B G) → IsFinalizing w m f → HasStates w m f.block → (r : AppliesBlock w f m now)
        → ShowsStates w stored f.block r.batch point)
        → Rule w stored_now provider m now → DurablyBehind m now
    DurablyBehind-rule stored_now provider shown (collects {t = t} up r) = stays_up m now (behind_collects m now h t r)
    DurablyBehind-rule stored_now provider shown (Rule.schedules {request = request} {rest = rest} calm building is verifies r) =
        let mid : Moment w = with_loop w m (record m.loop { queue = rest }) in
        stays_up m now (behind_from m mid now refl (LoopBehind-schedules w stored base p mid
        (LoopStands-same w stored base p m mid
        (record { members = refl; anchor = refl; durable = refl; barriers = refl; next_barrier = refl }) h) stored_now request now r))
    DurablyBehind-rule stored_now provider shown (puts_off calm building is other e) = stays_up m now (behind_queue m now h _ _ e)
    DurablyBehind-rule stored_now provider shown (runs {f = f} fin begun awaits unknown r) = stays_up m now (behind_runs m now h f.block r)
    DurablyBehind-rule stored_now provider shown (applies {f = f} fin captured states r) =
        let u : IsUp w m = s.up fin.0.0 in
        stays_up m now (LoopBehind-applies w laws stored base p m now h f r point located folded (shown f fin states r)
        (next_height w f m fin states u))
    DurablyBehind-rule stored_now provider shown (covers fin advanced captured needed r) =
        stays_up m now (LoopBehind-begins w laws stored base p m now (s.up fin.0.0) order h needed anchor_is r)
    DurablyBehind-rule stored_now provider shown (observes {f = f} {captured = captured} fin advanced is covered r) = stays_up m now
        (behind_observes m now h f captured r)
    DurablyBehind-rule stored_now provider shown (ends {f = f} fin advanced captured r) = stays_up m now
        (LoopBehind-ends w stored base p m h stored_now f now r)
    DurablyBehind-rule stored_now provider shown (breaks {active = active} idle is e) = behind_breaks m now h active (s.up idle.0.0) is e
    DurablyBehind-rule stored_now provider shown (completes {active = active} idle unbroken done r) =
        stays_up m now (LoopBehind-completes w stored base p m now h active (s.up idle.0.0) order done r)
    DurablyBehind-rule stored_now provider shown (Rule.begins idle unbroken undone needed r) =
        stays_up m now (LoopBehind-begins w laws stored base p m now (s.up idle.0.0) order h needed anchor_is r)
    DurablyBehind-rule stored_now provider shown (builds {t = t} {rest = rest} calm is r) =
        let mid : Moment w = with_loop w m (record m.loop { actions = rest }) in
        stays_up m now (behind_from m mid now refl (behind_builds mid now
        (LoopStands-same w stored base p m mid
        (record { members = refl; anchor = refl; durable = refl; barriers = refl; next_barrier = refl }) h) provider t r))
    DurablyBehind-rule stored_now provider shown (takes {x = x} {mid = mid} calm take does) =
        let t = taken x m mid take h in
        stays_up m now (behind_from m mid now t.1 (LoopBehind-does mid now t.0 stored_now x does))
