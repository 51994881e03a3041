-- How a run ends, by what it wrote and what it played.
use Rattle.std.proofs.Common.{◌≡◌, ◌≢◌, ℕ, ◌⊎◌, inl, inr, Bool, true, List, Option, None, Some, IsNone, IsSomeAnd, refl, sym, ◌∙◌}
use Rattle.std.specs.Io.KnownBytes.{Appends}
use Rattle.stateful_actor.specs.declared.driving.Halted.{Halted}
use Rattle.stateful_play_bank.specs.declared.playing.Played.{Played}
use Rattle.stateful_play_edge.specs.declared.status.Status.{Status}
use Rattle.stateful_play_edge.specs.declared.status.Status.TheVariants.{Done, Usage, ReadFault, WriteFault, NoMemory}
use Rattle.stateful_play_edge.specs.declared.status.Status.TheVariants as status
use Rattle.stateful_script.specs.declared.script.Script.{Script}
use Rattle.stateful_script_text.specs.declared.shown.Label.{Label}
use Rattle.stateful_script_text.specs.declared.shown.Shown.{Shown}
use Rattle.stateful_play_bank.specs.Shown.{AreShown, text_of}
use Rattle.stateful_play_bank.specs.Play.{IsPlayOf}
use Rattle.stateful_play_edge.specs.Reading.{Known, IsLoaded}
use Rattle.stateful_play_edge.specs.Writing.{HoldsPrefix, Writes, status_by}
use Rattle.stateful_play.specs.Status.{HoldsPart, AsksFor, IsPlayed, IsHaltedAt}

end_none : (e : Option Halted) → Done ≡ status_by e → IsNone e
end_none None h = refl
end_none (Some halted) h = absurd (cc)

end_halted : (e : Option Halted) (at : ℕ) → status.Halted at ≡ status_by e → IsHaltedAt e at
end_halted None at h = absurd (cc)
end_halted (Some halted) at h = cc

not_cut : (e : Option Halted) → WriteFault ≡ status_by e → ⊥
not_cut None h = cc
not_cut (Some halted) h = cc

not_wanting : (e : Option Halted) → NoMemory ≡ status_by e → ⊥
not_wanting None h = cc
not_wanting (Some halted) h = cc

not_usage : (e : Option Halted) → Usage ≡ status_by e → ⊥
not_usage None h = cc
not_usage (Some halted) h = cc

not_script : (e : Option Halted) (line : ℕ) → status.Script line ≡ status_by e → ⊥
not_script None line h = cc
not_script (Some halted) line h = cc

not_read_fault : (e : Option Halted) → ReadFault ≡ status_by e → ⊥
not_read_fault None h = cc
not_read_fault (Some halted) h = cc

-- A play's transcript was written, or not all of it: this was answered, and this is told of the play.
pub record WasTold (left left_after out out_after : Known) (rose : Type 0) (answer : Status) (played : Option Played) : Type 0 where
  pub p : Played
  pub text : List ℕ
  pub play : IsPlayed left left_after p text
  pub writes : Writes rose out out_after text (status_by p.«end») answer
  pub is : ((answer ≡ NoMemory) × IsNone played) ⊎ ((answer ≢ NoMemory) × (played ≡ Some p))

pub was_told : (left left_after out out_after : Known) (rose : Type 0) (answer : Status) (played : Option Played) (script : Script) (labels : List Label) (shown : List Shown) (p : Played)
    → IsLoaded left left_after script → IsPlayOf script labels p → AreShown p.databases shown → Writes rose out out_after (text_of labels shown p) (status_by p.«end») answer
    → ((answer ≡ NoMemory) × IsNone played) ⊎ ((answer ≢ NoMemory) × (played ≡ Some p))
    → WasTold left left_after out out_after rose answer played
was_told left left_after out out_after rose answer played script labels shown p loaded play are_shown writes is = record {
  p = p;
  text = text_of labels shown p;
  play = record { script = script; loaded = loaded; labels = labels; play = play; shown = shown; are_shown = are_shown; text_is = refl };
  writes = writes;
  is = is;
}

written : (rose : Type 0) (out out_after : Known) (text : List ℕ) (asked answer : Status) → Writes rose out out_after text asked answer → answer ≢ WriteFault → answer ≢ NoMemory → (answer ≡ asked) × Appends out out_after text
written rose out out_after text asked answer (inl w) f m = w
written rose out out_after text asked answer (inr (inl w)) f m = absurd (f w.0)
written rose out out_after text asked answer (inr (inr w)) f m = absurd (m w.0)

cut : (rose : Type 0) (out out_after : Known) (text : List ℕ) (asked answer : Status) → Writes rose out out_after text asked answer → answer ≡ WriteFault → (WriteFault ≡ asked → ⊥) → rose × HoldsPrefix out out_after text
cut rose out out_after text asked answer (inl w) e n = absurd (n (sym e ∙ w.0))
cut rose out out_after text asked answer (inr (inl w)) e n = (w.1, w.2)
cut rose out out_after text asked answer (inr (inr w)) e n = absurd (cc)

wanted : (rose : Type 0) (out out_after : Known) (text : List ℕ) (asked answer : Status) → Writes rose out out_after text asked answer → answer ≡ NoMemory → (NoMemory ≡ asked → ⊥) → HoldsPrefix out out_after text
wanted rose out out_after text asked answer (inl w) e n = absurd (n (sym e ∙ w.0))
wanted rose out out_after text asked answer (inr (inl w)) e n = absurd (cc)
wanted rose out out_after text asked answer (inr (inr w)) e n = w.1

module _ (left left_after out out_after : Known) (rose : Type 0) (answer : Status) (played : Option Played) (w : WasTold left left_after out out_after rose answer played) where
  is_told : answer ≢ NoMemory → played ≡ Some w.p
  is_told n = elim w.is [ inl m ↦ absurd (n m.0) | inr s ↦ s.1 ]

  pub told_done : answer ≡ Done → IsSomeAnd played (λ p. IsNone p.«end» × ((text : List ℕ) × IsPlayed left left_after p text × Appends out out_after text))
  told_done e =
      let done = written rose out out_after w.text (status_by w.p.«end») answer w.writes (λ f. cc) (λ m. cc) in
      rw (is_told (λ m. cc)) (end_none w.p.«end» (sym e ∙ done.0), (w.text, w.play, done.1))

  pub told_halted : (at : ℕ) → answer ≡ status.Halted at → IsSomeAnd played (λ p. IsHaltedAt p.«end» at × ((text : List ℕ) × IsPlayed left left_after p text × Appends out out_after text))
  told_halted at e =
      let done = written rose out out_after w.text (status_by w.p.«end») answer w.writes (λ f. cc) (λ m. cc) in
      rw (is_told (λ m. cc)) (end_halted w.p.«end» at (sym e ∙ done.0), (w.text, w.play, done.1))

  status_is : answer ≢ WriteFault → answer ≢ NoMemory → answer ≡ status_by w.p.«end»
  status_is f m = (written rose out out_after w.text (status_by w.p.«end») answer w.writes f m).0

  pub never_usage : answer ≡ Usage → ⊥
  never_usage e = not_usage w.p.«end» (sym e ∙ status_is (λ f. cc) (λ m. cc))

  pub never_script : (line : ℕ) → answer ≡ status.Script line → ⊥
  never_script line e = not_script w.p.«end» line (sym e ∙ status_is (λ f. cc) (λ m. cc))

  pub never_read_fault : answer ≡ ReadFault → ⊥
  never_read_fault e = not_read_fault w.p.«end» (sym e ∙ status_is (λ f. cc) (λ m. cc))

  pub told_cut : (play : Bool) → play ≡ true → answer ≡ WriteFault → rose × ((text : List ℕ) × AsksFor left left_after play played text × HoldsPrefix out out_after text)
  told_cut play asked e =
      let part = cut rose out out_after w.text (status_by w.p.«end») answer w.writes e (not_cut w.p.«end») in
      rw (is_told (λ m. cc)) (part.0, (w.text, (asked, w.play), part.1))

  pub told_wanting : (play : Bool) → play ≡ true → answer ≡ NoMemory → IsNone played × HoldsPart left left_after play out out_after
  told_wanting play asked e =
      let part = wanted rose out out_after w.text (status_by w.p.«end») answer w.writes e (not_wanting w.p.«end») in
      let none : IsNone played = elim w.is [ inl m ↦ m.1 | inr s ↦ absurd (s.0 e) ] in
      (none, inr (Some w.p, w.text, (asked, w.play), part))
