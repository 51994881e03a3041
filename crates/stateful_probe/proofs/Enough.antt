-- That without a floor no more replies are recorded than may be faulty, and that with one nobody waits.
use Rattle.std.proofs.Common.{◌≡◌, ℕ, ◌≤◌, Bool, true, false, not, Option, Some, None, List, [], length, All, filter, ◌==◌, refl, ap, ◌∙◌, arith}
use Rattle.std.proofs.lemmas.Bool.{leb-true, leb-false}
use Rattle.std.proofs.lemmas.List.{length-map}
use Rattle.std.proofs.Math.Dec.{leb}
use Rattle.stateful_base.specs.Scheme.{max_faults}
use Rattle.stateful_base.specs.declared.finalization.Finalization.{Finalization}
use Rattle.stateful_probe_sample.specs.Sample.{Sampled, with_reply, with_floor, judged, Selects}
use Rattle.stateful_probe.specs.Setup.{Setup, committee, tolerated, faults_of, is_judgeable}
use Rattle.stateful_probe.specs.Probe.{Steps, left_waiting, begins_round, waits, leaves, asks_again, not_needed, recorded, stops}
use Rattle.stateful_probe.specs.declared.state.State.{State}
use Rattle.stateful_probe.specs.declared.event.Event.{Event}
use Rattle.stateful_probe.specs.declared.event.Out.{Out}
use Rattle.stateful_probe.proofs.Known.{AreKeys}
use Rattle.stateful_probe.proofs.Trust.{IsReply, IsSound, all_judged, reply_of, sound_more, with_reply_is, counting_parts}

module _ {S K C : Type 0} (u : Setup S K C) where
  -- without a floor no more replies are recorded than may be faulty
  abbrev pub IsFew : Sampled K C → Type 0
  IsFew s = s.floor ≡ None → length s.replies ≤ tolerated u

  few_chosen : (s : Sampled K C) (keys : List K) (chosen : Option (Finalization C)) → All (IsReply u) s.replies → committee u ≡ Some keys → s.floor ≡ None
      → Selects (length keys) (is_judgeable u) s chosen → IsFew (with_floor s chosen)
  few_chosen s keys (Some f) good known unset selects = λ none. absurd cc
  few_chosen s keys None good known unset selects = λ none. go (leb (length s.replies) (max_faults (length keys))) refl
    where
      all : length (judged (length keys) (is_judgeable u) s) ≡ length s.replies
      all = ap length (all_judged u (length keys) s good) ∙ length-map s.replies (λ e. e.1)

      go : (b : Bool) → leb (length s.replies) (max_faults (length keys)) ≡ b → length s.replies ≤ tolerated u
      go true e = omega (arith, leb-true (length s.replies) (max_faults (length keys)) e, ap faults_of known)
      go false e = let some = selects.exactly.1 (unset, omega (arith, leb-false (length s.replies) (max_faults (length keys)) e, all)) in absurd cc

  pub step_few : AreKeys u.eq u.cmp → (latest : Option (Finalization C)) (s : State K C) (e : Event K) (outs : List (Out K C)) (next : State K C) → Steps u latest s e outs next
      → IsSound u s.sample → IsFew s.sample → IsFew next.sample
  step_few laws latest s e outs next (begins_round unset idle nobody) sound few = λ none. omega arith
  step_few laws latest s e outs next (asks_again unset others) sound few = λ none. omega arith
  step_few laws latest s e outs next (not_needed idle waited good nobody) sound few = λ none. omega arith
  step_few laws latest s e outs next (recorded {peer = peer} {bytes = bytes} {f = f} {keys = keys} {chosen = chosen} idle waited good others known selects) sound few =
      let parts = counting_parts u s.sample peer waited in
      let more = sound_more u laws s.sample peer f sound parts.0 parts.1 (reply_of u peer bytes f good) in
      few_chosen (with_reply u.cmp s.sample peer f) keys chosen more.good known (ap (λ w. w.floor) (with_reply_is u s.sample peer f parts.1) ∙ parts.0) selects
  step_few laws latest s e outs next _ sound few = few

  -- where there is a floor nobody waits
  abbrev pub IsIdle : State K C → Type 0
  IsIdle s = (f : Finalization C) → s.sample.floor ≡ Some f → s.subscribers ≡ []

  none_left : (s : Sampled K C) (waiting : List ℕ) (chosen : Option (Finalization C)) → s.floor ≡ None → (f : Finalization C) → (with_floor s chosen).floor ≡ Some f → left_waiting waiting chosen ≡ []
  none_left s waiting None unset f is = absurd cc
  none_left s waiting (Some g) unset f is = refl

  pub step_idle : (latest : Option (Finalization C)) (s : State K C) (e : Event K) (outs : List (Out K C)) (next : State K C) → Steps u latest s e outs next → IsIdle s → IsIdle next
  step_idle latest s e outs next (begins_round unset idle nobody) rest = λ f is. absurd cc
  step_idle latest s e outs next (waits unset others) rest = λ f is. absurd cc
  step_idle latest s e outs next (leaves {t = t}) rest = λ f is. ap (filter (λ w. not (w == t))) (rest f is)
  step_idle latest s e outs next (asks_again unset others) rest = λ f is. absurd cc
  step_idle latest s e outs next (not_needed idle waited good nobody) rest = λ f is. absurd cc
  step_idle latest s e outs next (recorded {peer = peer} {f = reply} {chosen = chosen} idle waited good others known selects) rest =
      let parts = counting_parts u s.sample peer waited in
      none_left (with_reply u.cmp s.sample peer reply) s.subscribers chosen (ap (λ w. w.floor) (with_reply_is u s.sample peer reply parts.1) ∙ parts.0)
  step_idle latest s e outs next stops rest = λ f is. refl
  step_idle latest s e outs next _ rest = rest
