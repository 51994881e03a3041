-- One event of a probe, from what its code answered.
use Rattle.std.proofs.Common.{◌≡◌, ◌≢◌, ℕ, true, false, Option, Some, None, Result, Ok, Err, List, [], ◌∷◌, ◌++◌, length, refl, sym, subst}
use Rattle.std.specs.Result.{OnOk}
use Rattle.std.proofs.Common.{Bor}
use Rattle.std.specs.Option.{is_some, option_copied}
use Rattle.stateful_base.specs.Format.{Reads}
use Rattle.stateful_base.specs.declared.codec.CodecError.{CodecError}
use Rattle.stateful_base.specs.declared.codec.CodecError.TheVariants.{InvalidEnum, EndOfBuffer, OutOfMemory}
use Rattle.stateful_base.specs.declared.finalization.Finalization.{Finalization}
use Rattle.stateful_probe.specs.Setup.{Setup, committee}
use Rattle.stateful_probe_sample.specs.Sample.{Sampled, still_counts, with_reply}
use Rattle.stateful_probe.specs.Wire.{tag_format}
use Rattle.stateful_probe.specs.Reply.{IsRequest, IsTagged, IsGood}
use Rattle.stateful_probe.specs.Service.{IsResponseOf}
use Rattle.stateful_probe.specs.Probe.{is_empty, is_serving, numbered, restarted, asked, Sends, Steps, begins_round, waits, recorded, served}
use Rattle.stateful_probe.specs.Discovery.{Chooses}
use Rattle.stateful_probe.specs.declared.state.State.{State}
use Rattle.stateful_probe.specs.declared.event.Event.TheVariants.{Subscribe, Received}
use Rattle.stateful_probe.specs.declared.event.Out.{Out}
use Rattle.stateful_probe.specs.declared.event.Out.TheVariants.{Response}
use Rattle.stateful_probe.specs.declared.wire.Tag.TheVariants as tags

-- nobody waits
pub nobody : {A : Type 0} (waiting : List A) → is_empty waiting ≡ true → waiting ≡ []
nobody [] e = refl
nobody (x ∷ waiting) e = cc

-- someone waits
pub someone : {A : Type 0} (waiting : List A) → is_empty waiting ≡ false → waiting ≢ []
someone [] e = cc
someone (x ∷ waiting) e = λ none. cc

-- a floor was found
pub found_some : {A : Type 0} (found : Option (Bor A)) (floor : Option A) → option_copied found ≡ floor → is_some found ≡ true → floor ≢ None
found_some None floor e e' = cc
found_some (Some x) floor e e' = λ none. cc

-- no floor was found
pub found_none : {A : Type 0} (found : Option (Bor A)) (floor : Option A) → option_copied found ≡ floor → is_some found ≡ false → floor ≡ None
found_none None floor e e' = sym e
found_none (Some x) floor e e' = cc

-- two facts of an answer give a third
pub on_ok : {T E P Q R : Type 0} (r : Result T E) → OnOk r P → OnOk r Q → (P → Q → R) → OnOk r R
on_ok (Ok x) p q f = f p q
on_ok (Err e) p q f = p

-- the tag of a request was read
pub request_read : (before after : List ℕ) → Reads tag_format (Ok tags.Request) before after → IsRequest before
request_read before after reads = (after, reads.first.1)

-- the tag of a response was read
pub response_read : (before after : List ℕ) → Reads tag_format (Ok tags.Response) before after → IsTagged before
response_read before after reads = (after, reads.first.1)

-- no tag was read
pub nothing_read : (error : CodecError) (before after : List ℕ) → (error ≡ OutOfMemory → ⊥) → Reads tag_format (Err error) before after → (IsRequest before → ⊥) × (IsTagged before → ⊥)
nothing_read EndOfBuffer before after memory reads =
    (λ r. let e = reads.only (Ok (tags.Request, r.0)) (tt, r.1) in cc, λ r. let e = reads.only (Ok (tags.Response, r.0)) (tt, r.1) in cc)
nothing_read (InvalidEnum byte) before after memory reads =
    (λ r. let e = reads.only (Ok (tags.Request, r.0)) (tt, r.1) in cc, λ r. let e = reads.only (Ok (tags.Response, r.0)) (tt, r.1) in cc)
nothing_read OutOfMemory before after memory reads = absurd (memory refl)

-- what is sent where these bytes were made
abbrev pub sent : {K C : Type 0} → K → Option (List ℕ) → List (Out K C)
sent peer None = []
sent peer (Some value) = Response peer value ∷ []

sends : {S K C : Type 0} (u : Setup S K C) (latest : Option (Finalization C)) (peer : K) (found : Option (List ℕ)) → IsResponseOf u.certificates latest found → Sends u.certificates latest peer (sent peer found)
sends u None peer found is = rw is refl
sends u (Some f) peer found is = (is.0, rw is.1 refl)

module _ {S K C : Type 0} (u : Setup S K C) (latest : Option (Finalization C)) (s : State K C) where
  -- what is chosen when this sample has the reply
  abbrev ChoosesAt : Sampled K C → List (Out K C) → State K C → Type 0
  ChoosesAt sample outs next = (keys : List K) → committee u ≡ Some keys → Chooses u (length keys) (record s { sample = sample }) [] outs next

  -- a good reply is recorded, and a floor is chosen if there are enough
  pub recorded_by : (peer : K) (bytes : List ℕ) (f : Finalization C) (sample : Sampled K C) (outs : List (Out K C)) (next : State K C)
      → is_serving s ≡ false → still_counts u.cmp s.sample peer ≡ true → IsGood u peer bytes f → is_empty s.subscribers ≡ false
      → sample ≡ with_reply u.cmp s.sample peer f → ChoosesAt sample outs next
      → Steps u latest s (Received peer bytes) outs next
  recorded_by peer bytes f sample outs next serving awaited good some is chooses =
      let here : ChoosesAt (with_reply u.cmp s.sample peer f) outs next = subst (λ (w : Sampled K C). ChoosesAt w outs next) is chooses in
      let chosen = here good.keys good.takes_part.committee_is in
      rw (chosen.handed, chosen.next_is) (recorded {f = f} {keys = good.keys} {chosen = chosen.chosen} serving awaited good (someone s.subscribers some) good.takes_part.committee_is chosen.selects)

  -- a request is answered with the latest finalization
  pub served_by : (peer : K) (bytes : List ℕ) (found : Option (List ℕ)) → is_serving s ≡ true → IsRequest bytes → IsResponseOf u.certificates latest found → Steps u latest s (Received peer bytes) (sent peer found) s
  served_by peer bytes found serving request is = served serving request (sends u latest peer found is)

  -- the first that waits begins a round
  pub begins_by : (t : ℕ) (outs : List (Out K C)) (begun : State K C) (waiting : List ℕ)
      → s.sample.floor ≡ None → is_serving s ≡ false → is_empty s.subscribers ≡ true
      → outs ≡ asked (committee u) → begun ≡ restarted (numbered s t) → waiting ≡ begun.subscribers ++ t ∷ []
      → Steps u latest s (Subscribe t) outs (record begun { subscribers = waiting })
  begins_by t outs begun waiting none serving first ask is joined =
      let alone : s.subscribers ≡ [] = nobody s.subscribers first in
      let front : begun.subscribers ≡ [] = cc in
      let only : waiting ≡ t ∷ [] = rw front at joined in
      rw (ask, is, only) (begins_round none serving alone)

  -- a further one waits behind the others
  pub waits_by : (t : ℕ) (outs : List (Out K C)) (next : State K C) (waiting : List ℕ)
      → s.sample.floor ≡ None → is_empty s.subscribers ≡ false
      → outs ≡ [] → next ≡ numbered s t → waiting ≡ next.subscribers ++ t ∷ []
      → Steps u latest s (Subscribe t) outs (record next { subscribers = waiting })
  waits_by t outs next waiting none some ask is joined =
      let behind : waiting ≡ s.subscribers ++ t ∷ [] = rw is at joined in
      rw (ask, is, behind) (waits none (someone s.subscribers some))
