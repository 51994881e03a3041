-- What becomes of a message keeps a sound moment sound, where nothing is in front.
use Rattle.std.proofs.Common.{◌≡◌, ◌≤◌, ◌<◌, ◌+◌, ℕ, Option, None, refl, sym, ap, subst, arith}
use Rattle.stateful_base.specs.Names.{Named}
use Rattle.stateful_durability.specs.Durability.{Coverage, with_duplicate}
use Rattle.stateful_exec_model.specs.Workings.{Workings}
use Rattle.stateful_exec_model.specs.declared.front.Stage.TheVariants.{Begun}
use Rattle.stateful_loop_model.proofs.SoundingFront.{turned_sound}
use Rattle.stateful_loop_model.proofs.SoundingHeld.{held_duplicate}
use Rattle.stateful_loop_model.proofs.SoundingKept.{Sound-is, schedules_kept}
use Rattle.stateful_loop_model.proofs.SoundingRules.{marks_sound}
use Rattle.stateful_loop_model.specs.Moments.{Moment, with_loop}
use Rattle.stateful_loop_model.specs.Rules.{BeginsFinalization, DoesMessage, schedules, answers, acknowledges, holds, begins}
use Rattle.stateful_loop_model.specs.Sound.{AreHeld, FrontAgrees, IsUp, Sound}
use Rattle.stateful_loop_model.specs.declared.message.Message.{Message}
use Rattle.stateful_loop_model.specs.declared.tables.Finalizing.{Finalizing}

module _ {B C I P R D H G U : Type 0} (w : Workings B C I P R D H G U) where
  held_alone : (m : Moment w) → m.loop.front ≡ None → IsUp w m → AreHeld w m.loop.durability None
  held_alone m none u = subst (λ (x : Option (Finalizing B G)). AreHeld w m.loop.durability x) none u.held

  -- a receipt is held behind the others of its height
  pub duplicate_sound : (height t : ℕ) (m now : Moment w) → m.loop.front ≡ None
      → now ≡ with_loop w m (record m.loop { durability = record m.loop.durability { held = with_duplicate m.loop.durability.held height t } }) → Sound w m → Sound w now
  duplicate_sound height t m now none e s =
      let c : Coverage = record m.loop.durability { held = with_duplicate m.loop.durability.held height t } in
      Sound-is w now _ e (record {
        none_away = s.none_away;
        up = λ up. let u : IsUp w m = s.up up in record {
          point = u.point;
          here = u.here;
          applied = u.applied;
          heights = u.heights;
          few = u.few;
          counts = u.counts;
          tokens = u.tokens;
          front = subst (λ (x : Option (Finalizing B G)). FrontAgrees w c x m.execution.front) (sym none)
              (subst (λ (x : Option (Finalizing B G)). FrontAgrees w m.loop.durability x m.execution.front) none u.front);
          held = subst (λ (x : Option (Finalizing B G)). AreHeld w c x) (sym none) (λ n le. held_duplicate m.loop.durability height t n (held_alone m none u n le));
        };
      })

  -- the finalization of a block of the next height begins
  pub finalization_sound : (t : ℕ) (b : Named B) (m now : Moment w) → m.loop.front ≡ None → m.execution.state.anchor.height.0 < w.header.height b.block
      → BeginsFinalization w t b m now → Sound w m → Sound w now
  finalization_sound t b m now none above r s =
      let next : w.header.height b.block ≤ m.execution.state.anchor.height.0 + 1 = r.may.next in
      Sound-is w now _ r.becomes (turned_sound w m _ (ap (λ v. v.anchor) r.pauses.state) refl refl refl refl
      (λ u. (Begun, refl, (refl, (let at : m.loop.durability.applied ≡ m.execution.state.anchor.height.0 = u.applied in omega (arith, at, above, next)))))
      (λ u n le _. held_alone m none u n le) s)

  pub does_sound : (stored : ℕ → Option (Named B)) (x : Message B C I) (m now : Moment w) → m.loop.front ≡ None → DoesMessage w stored m now x → Sound w m → Sound w now
  does_sound stored x m now none (schedules {request = request} r) s = schedules_kept w stored request m now r s
  does_sound stored x m now none (answers e) s = marks_sound w m now _ e s
  does_sound stored x m now none (acknowledges old durable e) s = marks_sound w m now _ e s
  does_sound stored x m now none (holds {t = t} {b = b} old above e) s = duplicate_sound (w.header.height b.block) t m now none e s
  does_sound stored x m now none (begins {t = t} {b = b} above r) s = finalization_sound t b m now none above r s
