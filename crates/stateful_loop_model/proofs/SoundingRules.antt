-- The rules that change nothing that soundness speaks of, and those of barriers' breaks, keep it.
use Rattle.std.proofs.Common.{◌≡◌, ℕ, false, List, refl, sym, ap, ◌∙◌, subst, true≢false}
use Rattle.stateful_history.specs.declared.mark.Mark.{Mark}
use Rattle.stateful_exec_model.specs.Workings.{Workings}
use Rattle.stateful_loop_model.proofs.SoundingKept.{Sound-kept, Sound-is}
use Rattle.stateful_loop_model.specs.Moments.{Moment, with_loop}
use Rattle.stateful_loop_model.specs.Rules.{Collects, Builds, starts, declines, Takes, of_action, of_message}
use Rattle.stateful_loop_model.specs.Sound.{Sound}
use Rattle.stateful_loop_model.specs.declared.message.Message.{Message}

module _ {B C I P R D H G U : Type 0} (w : Workings B C I P R D H G U) where
  -- a moment of which only the marks, the queue, the actions, the ids or other parts of the tables are others
  kept : (m now : Moment w) → now.execution.state.anchor ≡ m.execution.state.anchor → now.execution.front ≡ m.execution.front → now.members ≡ m.members
      → now.loop.up ≡ m.loop.up → now.loop.front ≡ m.loop.front → now.loop.durability ≡ m.loop.durability → now.loop.barriers ≡ m.loop.barriers → Sound w m → Sound w now
  kept m now a r d u f c b s = Sound-kept w m now (record { anchor = a; reached = r; members = d; up = u; front = f; durability = c; barriers = b }) s

  pub collects_sound : (t : ℕ) (m now : Moment w) → Collects w t m now → Sound w m → Sound w now
  collects_sound t m now r s = Sound-is w now _ r.becomes (kept m _ refl refl refl refl refl refl refl s)

  pub builds_sound : (provider : P) (t : ℕ) (m now : Moment w) → Builds w provider t m now → Sound w m → Sound w now
  builds_sound provider t m now (starts b e) s =
      Sound-is w now _ e (kept m _ (ap (λ v. v.anchor) b.state) refl refl refl refl refl refl s)
  builds_sound provider t m now (declines none e) s = Sound-is w now _ e (kept m _ refl refl refl refl refl refl refl s)

  -- another queue, other actions, or other marks
  pub queue_sound : (m now : Moment w) (queue : _) (actions : _) → now ≡ with_loop w m (record m.loop { queue = queue; actions = actions }) → Sound w m → Sound w now
  queue_sound m now queue actions e s = Sound-is w now _ e (kept m _ refl refl refl refl refl refl refl s)

  pub marks_sound : (m now : Moment w) (marks : List (Mark B)) → now ≡ record m { marks = marks } → Sound w m → Sound w now
  marks_sound m now marks e s = Sound-is w now _ e (kept m _ refl refl refl refl refl refl refl s)

  pub takes_sound : (x : Message B C I) (m mid : Moment w) → Takes w x m mid → Sound w m → Sound w mid
  takes_sound x m mid (of_action {rest = rest} is e) s = queue_sound m mid m.loop.queue rest e s
  takes_sound x m mid (of_message {rest = rest} none is e) s = queue_sound m mid rest m.loop.actions e s

  -- a machine that isn't up any more
  pub down_sound : (m now : Moment w) → now.loop.up ≡ false → now.members ≡ m.members → Sound w m → Sound w now
  down_sound m now down same s = record {
    none_away = subst w.kind.NoneAway (sym same) s.none_away;
    up = λ up. absurd (true≢false (sym up ∙ down));
  }

  pub breaks_sound : (m now : Moment w) (marks : List (Mark B)) → now ≡ record m { loop = record m.loop { up = false }; marks = marks } → Sound w m → Sound w now
  breaks_sound m now marks e s = down_sound m now (ap (λ n. n.loop.up) e) (ap (λ n. n.members) e) s
