-- Every rule keeps a sound moment sound.
use Rattle.std.proofs.Common.{◌≡◌, ℕ, Option, refl, ap, ◌∙◌}
use Rattle.stateful_base.specs.Names.{Named}
use Rattle.stateful_db.specs.Laws.{Laws}
use Rattle.stateful_exec_model.specs.Workings.{Workings}
use Rattle.stateful_loop_model.proofs.SoundingBarriers.{begins_sound, completes_sound}
use Rattle.stateful_loop_model.proofs.SoundingKept.{schedules_kept}
use Rattle.stateful_loop_model.proofs.SoundingMessages.{does_sound}
use Rattle.stateful_loop_model.proofs.SoundingRules.{collects_sound, builds_sound, queue_sound, takes_sound, breaks_sound}
use Rattle.stateful_loop_model.proofs.SoundingSteps.{runs_sound, applies_sound, observes_sound, ends_sound}
use Rattle.stateful_loop_model.specs.Moments.{Moment, with_loop}
use Rattle.stateful_loop_model.specs.Rules.{Takes, of_action, of_message, Rule, collects, schedules, puts_off, runs, applies, covers, observes, ends, breaks, completes, begins, builds, takes}
use Rattle.stateful_loop_model.specs.Sound.{Sound}
use Rattle.stateful_loop_model.specs.declared.message.Message.{Message}

module _ {B C I P R D H G U : Type 0} (w : Workings B C I P R D H G U) where
  -- what is taken leaves the front as it is
  taken_front : (x : Message B C I) (m mid : Moment w) → Takes w x m mid → mid.loop.front ≡ m.loop.front
  taken_front x m mid (of_action is e) = ap (λ n. n.loop.front) e
  taken_front x m mid (of_message none is e) = ap (λ n. n.loop.front) e

  pub rule_sound : Laws w.kind → (stored : ℕ → Option (Named B)) (provider : P) (m now : Moment w) → Rule w stored provider m now → Sound w m → Sound w now
  rule_sound laws stored provider m now (collects {t = t} up r) s = collects_sound w t m now r s
  rule_sound laws stored provider m now (schedules {request = request} {rest = rest} calm building is verifies r) s =
      schedules_kept w stored request (with_loop w m (record m.loop { queue = rest })) now r (queue_sound w m _ rest m.loop.actions refl s)
  rule_sound laws stored provider m now (puts_off calm building is other e) s = queue_sound w m now _ _ e s
  rule_sound laws stored provider m now (runs {f = f} fin begun awaits unknown r) s = runs_sound w f m now fin begun r s
  rule_sound laws stored provider m now (applies {f = f} fin captured states r) s = applies_sound w laws f m now fin states r s
  rule_sound laws stored provider m now (covers fin advanced captured needed r) s = begins_sound w laws m now fin.0.0 needed r s
  rule_sound laws stored provider m now (observes {f = f} {captured = captured} fin advanced is covered r) s = observes_sound w f captured m now fin advanced r s
  rule_sound laws stored provider m now (ends {f = f} fin advanced captured r) s = ends_sound w stored f m now fin advanced r s
  rule_sound laws stored provider m now (breaks idle broken e) s = breaks_sound w m now _ e s
  rule_sound laws stored provider m now (completes {active = active} idle unbroken done r) s = completes_sound w active m now idle.0.0 idle.2 done r s
  rule_sound laws stored provider m now (begins idle unbroken undone needed r) s = begins_sound w laws m now idle.0.0 needed r s
  rule_sound laws stored provider m now (builds {t = t} {rest = rest} calm is r) s =
      builds_sound w provider t (with_loop w m (record m.loop { actions = rest })) now r (queue_sound w m _ m.loop.queue rest refl s)
  rule_sound laws stored provider m now (takes {x = x} {mid = mid} calm taken does) s =
      does_sound w stored x mid now (taken_front x m mid taken ∙ calm.0.2) does (takes_sound w x m mid taken s)
