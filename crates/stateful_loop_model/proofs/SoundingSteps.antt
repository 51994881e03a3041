-- The rules of a finalization in front keep a sound moment sound.
use Rattle.std.proofs.Common.{◌≡◌, ◌≤◌, ◌+◌, ◌∷◌, ◌++◌, inl, inr, ⊎_elim, ℕ, List, [], Bool, Option, Some, None, refl, sym, ap, ◌∙◌, subst, arith}
use Rattle.stateful_base.specs.Names.{Named}
use Rattle.stateful_db.specs.Laws.{Laws}
use Rattle.stateful_db.specs.declared.application.Hooked.{Hooked}
use Rattle.stateful_db.specs.declared.application.Hooked.TheVariants as hooked
use Rattle.stateful_durability.specs.Durability.{Coverage}
use Rattle.stateful_history.specs.declared.mark.Mark.{Mark}
use Rattle.stateful_exec_model.specs.Finalizing.{front_at, HooksOn}
use Rattle.stateful_exec_model.specs.Workings.{Workings}
use Rattle.stateful_exec_model.specs.declared.front.Front.{Front}
use Rattle.stateful_exec_model.specs.declared.front.Stage.{Stage}
use Rattle.stateful_exec_model.specs.declared.front.Stage.TheVariants.{Begun, Running, Ran, Advanced, Hooking}
use Rattle.stateful_exec_tables.specs.declared.state.Tables.{Tables}
use Rattle.stateful_loop_model.proofs.SoundingFront.{agrees_at, turned_sound}
use Rattle.stateful_loop_model.proofs.SoundingHeld.{HasOf, has_right, has_here, held_push, below}
use Rattle.stateful_loop_model.proofs.SoundingKept.{Sound-is}
use Rattle.stateful_loop_model.proofs.Staying.{Stays, Resumes-stays}
use Rattle.stateful_loop_model.specs.Moments.{Moment, inner}
use Rattle.stateful_loop_model.specs.Rules.{IsFinalizing, HasStates, RunsFinalized, AppliesBlock, ObservesBlock, EndsFinalization, finalizing}
use Rattle.stateful_loop_model.specs.Sound.{AgreesWith, FrontAgrees, AreHeld, IsHeldFor, IsUp, Sound}
use Rattle.stateful_loop_model.specs.declared.tables.Finalizing.{Finalizing}

some_there : {T : Type 0} (o : Option T) → (o ≡ None → ⊥) → (x : T) × (o ≡ Some x)
some_there None some = absurd (some refl)
some_there (Some x) some = (x, refl)

module _ {B C I P R D H G U : Type 0} (w : Workings B C I P R D H G U) where
  -- what is known of the finalization in front, of this stage
  pub in_front : (m : Moment w) (f : Finalizing B G) (s : Stage R U H) → m.loop.front ≡ Some f → m.execution.front ≡ front_at f.block s → IsUp w m
      → AgreesWith w m.loop.durability f s
  in_front m f s is reached u =
      (agrees_at w m.loop.durability f m.execution.front f.block s
      (subst (λ (x : Option (Finalizing B G)). FrontAgrees w m.loop.durability x m.execution.front) is u.front) reached).1

  pub held_in_front : (m : Moment w) (f : Finalizing B G) → m.loop.front ≡ Some f → IsUp w m → AreHeld w m.loop.durability (Some f)
  held_in_front m f is u = subst (λ (x : Option (Finalizing B G)). AreHeld w m.loop.durability x) is u.held

  pub runs_sound : (f : Finalizing B G) (m now : Moment w) → IsFinalizing w m f → m.execution.front ≡ front_at f.block Begun → RunsFinalized w f.block m now → Sound w m
      → Sound w now
  runs_sound f m now fin begun r s =
      Sound-is w now _ r.becomes (turned_sound w m _ (ap (λ v. v.anchor) r.runs.state) refl refl refl refl
      (λ u. subst (λ (x : Option (Finalizing B G)). FrontAgrees w m.loop.durability x r.front) (sym fin.2)
      (Running m.execution.state.next_job r.runs.run, r.runs.front_is, in_front m f Begun fin.2 begun u))
      (λ u. u.held) s)

  -- the block is of the next height until it is applied
  next_height : (f : Finalizing B G) (m : Moment w) → IsFinalizing w m f → HasStates w m f.block → IsUp w m
      → w.header.height f.block.block ≡ m.loop.durability.applied + 1
  next_height f m fin (inl begun) u = (in_front m f Begun fin.2 begun.0 u).1
  next_height f m fin (inr ran) u = (in_front m f (Ran ran.0) fin.2 ran.1 u).1

  pub applies_sound : Laws w.kind → (f : Finalizing B G) (m now : Moment w) → IsFinalizing w m f → HasStates w m f.block → AppliesBlock w f m now → Sound w m
      → Sound w now
  applies_sound laws f m now fin states r s =
      let (at, here) = some_there (w.kind.point r.members) r.here in
      Sound-is w now _ r.becomes (record {
        none_away = laws.places.away_here r.members at here;
        up = λ is. let u : IsUp w m = s.up is in record {
          point = at;
          here = here;
          applied = sym (ap (λ v. v.anchor.height.0) r.moves.state);
          heights = u.heights;
          few = u.few;
          counts = u.counts;
          tokens = λ i lt. r.tokens i ∙ u.tokens i lt;
          front = (Advanced, r.moves.after_is, (refl, r.above));
          held = λ n le lt. held_in_front m f fin.2 u n (let e = next_height f m fin states u in omega (arith, e, lt)) lt;
        };
      })

  -- the application has left a hook, or none
  observed : (c : Coverage) (f : Finalizing B G) (hook : Hooked H) (old new : Tables B C I R U) (before now : List (Mark B)) (after : Option (Front B R U H))
      (live : Bool) → HooksOn w f.block hook old new before now after live → AgreesWith w c f Advanced
      → (new.anchor ≡ old.anchor) × FrontAgrees w c (Some (finalizing f.ticket f.block)) after
  observed c f hooked.Done old new before now after live h a = (ap (λ v. v.anchor) h.0, (Advanced, h.2, a))
  observed c f (hooked.Pending hook) old new before now after live h a = (ap (λ v. v.anchor) h.0, (Hooking old.next_job hook, h.3, (refl, a.0, a.1)))

  pub observes_sound : (f : Finalizing B G) (captured : G) (m now : Moment w) → IsFinalizing w m f → m.execution.front ≡ front_at f.block Advanced
      → ObservesBlock w f captured m now → Sound w m → Sound w now
  observes_sound f captured m now fin advanced r s =
      let u : IsUp w m = s.up fin.0.0 in
      let o = observed m.loop.durability f r.observes.hook m.execution.state r.state m.marks r.marks r.front r.live r.observes.hooks_on
      (in_front m f Advanced fin.2 advanced u) in
      Sound-is w now _ r.becomes (turned_sound w m _ o.0 refl refl refl refl (λ _. o.1) (λ v. held_in_front m f fin.2 v) s)

  -- its receipt is held from then on
  ended_held : (c : Coverage) (f : Finalizing B G) (n : ℕ) → w.header.height f.block.block ≡ c.applied → AreHeld w c (Some f) → n ≤ c.applied
      → IsHeldFor (record c { held = c.held ++ (w.header.height f.block.block, f.ticket) ∷ [] }) n
  ended_held c f n last held le = ⊎_elim
      (λ high. let same : n ≡ w.header.height f.block.block = omega (arith, last, le, high) in
      inr (has_right n c.held ((w.header.height f.block.block, f.ticket) ∷ []) (subst (λ h. HasOf n ((h, f.ticket) ∷ [])) same (has_here n f.ticket []))))
      (λ lt. held_push c (w.header.height f.block.block) f.ticket n (held n le lt))
      (below (w.header.height f.block.block) n)

  pub ends_sound : (stored : ℕ → Option (Named B)) (f : Finalizing B G) (m now : Moment w) → IsFinalizing w m f → m.execution.front ≡ front_at f.block Advanced
      → EndsFinalization w stored f m now → Sound w m → Sound w now
  ends_sound stored f m now fin advanced r s =
      let u : IsUp w m = s.up fin.0.0 in
      let stays : Stays w (inner w m) r.then = Resumes-stays w stored (inner w m) r.then r.resumes in
      Sound-is w now _ r.becomes (record {
        none_away = subst w.kind.NoneAway (sym stays.members) s.none_away;
        up = λ _. record {
          point = u.point;
          here = ap w.kind.point stays.members ∙ u.here;
          applied = u.applied ∙ sym (ap (λ a. a.height.0) stays.anchor);
          heights = u.heights;
          few = u.few;
          counts = u.counts;
          tokens = λ i lt. ap (λ x. w.kind.tokens x i) stays.members ∙ u.tokens i lt;
          front = refl;
          held = λ n le. ended_held m.loop.durability f n (in_front m f Advanced fin.2 advanced u).0 (held_in_front m f fin.2 u) le;
        };
      })
