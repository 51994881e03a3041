-- That a new probe keeps the laws, whatever events come.
use Rattle.std.proofs.Common.{◌≡◌, ◌+◌, true, [], count_by, ◌==◌, refl, ap, ◌∙◌, arith}
use Rattle.std.proofs.lemmas.List.Elements.{All-weaker}
use Rattle.stateful_probe.specs.Setup.{Setup}
use Rattle.stateful_probe_sample.specs.Sample.{has_replied}
use Rattle.stateful_probe.specs.Probe.{IsNew}
use Rattle.stateful_probe.specs.Laws.{Brought, KeepsLaws, asked_count}
use Rattle.stateful_probe.specs.declared.state.State.{State}
use Rattle.stateful_base.specs.declared.finalization.Finalization.{Finalization}
use Rattle.stateful_probe.proofs.Known.{AreKeys}
use Rattle.stateful_probe.proofs.Runs.{kept}
use Rattle.stateful_probe.proofs.Trust.{IsSound, sound_empty, step_sound, floor_trusted, floors_handed}
use Rattle.stateful_probe.proofs.Enough.{IsFew, step_few}
use Rattle.stateful_probe.proofs.Sent.{IsHeard, told_all}
use Rattle.stateful_probe.proofs.Blame.{blocked_bad, closed_due, asked_due_all}
use Rattle.stateful_probe.proofs.Tickets.{IsLive, once, none_forgotten, stopped}

module _ {S K C : Type 0} (u : Setup S K C) where
  nobody_live : (s : State K C) → s.subscribers ≡ [] → IsLive s.next_ticket s.subscribers
  nobody_live s nobody = record { single = λ t. rw nobody (omega arith); fresh = λ t above. rw nobody refl }

  pub KeepsLaws-new : AreKeys u.eq u.cmp → (first : State K C) → IsNew u.minimum first → KeepsLaws u first
  KeepsLaws-new keys first new turns last runs =
      let sound = sound_empty u first.sample new.no_replies new.no_floor in
      let told = told_all u keys turns first last new.no_replies new.no_floor new.nobody runs in
      let few = kept u (λ s. IsSound u s.sample × IsFew u s.sample)
      (λ latest s e outs next step here. (step_sound u keys latest s e outs next step here.0, step_few u keys latest s e outs next step here.0 here.1))
      turns first last runs (sound, λ none. rw new.no_replies (omega arith)) in
      record {
        handed = floors_handed u keys turns first last sound runs;
        trusted = floor_trusted u keys turns first last sound runs;
        sent = told.sent;
        few = few.1;
        heard = λ request some. All-weaker (IsHeard u keys last) (λ turn. (peer : _) (f : Finalization C) → Brought u (peer, f) turn → has_replied u.cmp last.sample.replies peer ≡ true)
            (λ turn heard peer f brought. heard peer f brought some) request.since (told.heard request);
        asked = asked_due_all u turns first last runs;
        blocked = blocked_bad u turns first last runs;
        once = once u turns first last runs;
        none_forgotten = λ t. none_forgotten u turns first last (nobody_live first new.nobody) runs t ∙ ap (λ ws. asked_count t turns + count_by (λ w. w == t) ws) new.nobody ∙ omega arith;
        closed = closed_due u turns first last runs;
        idle = told.idle;
        stopped = λ any. stopped u turns first last runs any.0 any.1 any.2 any.3 any.4;
      }
