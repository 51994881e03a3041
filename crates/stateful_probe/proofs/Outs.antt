-- What holds of all that is put out at once.
use Rattle.std.proofs.Common.{◌≡◌, ℕ, Option, Some, None, List, [], ◌∷◌, All, refl}
use Rattle.std.proofs.lemmas.List.Elements.{All-nil, All-cons, All-map, All-same}
use Rattle.stateful_base.specs.declared.finalization.Finalization.{Finalization}
use Rattle.stateful_probe.specs.Setup.{Setup}
use Rattle.stateful_probe.specs.Probe.{Sends, asked, handed_out}
use Rattle.stateful_probe.specs.declared.event.Out.{Out}
use Rattle.stateful_probe.specs.declared.event.Out.TheVariants.{Floor, Request, Response}

module _ {K C : Type 0} (P : Out K C → Type 0) where
  pub one_out : (out : Out K C) → P out → All P (out ∷ [])
  one_out out p = All-cons P out [] p (All-nil P)

  pub asked_all : ((keys : List K) → P (Request keys)) → (known : Option (List K)) → All P (asked known)
  asked_all each None = All-nil P
  asked_all each (Some keys) = one_out (Request keys) (each keys)

  pub handed_all : (chosen : Option (Finalization C)) (waiting : List ℕ) → ((t : ℕ) (f : Finalization C) → chosen ≡ Some f → P (Floor t f)) → All P (handed_out waiting chosen)
  handed_all None waiting each = All-nil P
  handed_all (Some f) waiting each = All-map P (λ t. Floor t f) waiting (λ k d lt. each _ f refl)

  pub sent_all : {S : Type 0} (u : Setup S K C) → ((peer : K) (bytes : List ℕ) → P (Response peer bytes)) → (latest : Option (Finalization C)) (peer : K) (outs : List (Out K C))
      → Sends u.certificates latest peer outs → All P outs
  sent_all u each None peer outs none = All-same P outs [] none (All-nil P)
  sent_all u each (Some f) peer outs sends = All-same P outs _ sends.1 (one_out _ (each peer _))
