-- What a finalization of an epoch that counts is worth.
use Rattle.std.proofs.Common.{◌≡◌, ℕ, Some, None, List, [], drop, sym, ap, subst, ◌∙◌, append-nil}
use Rattle.std.specs.Prelude.{option_map}
use Rattle.stateful_base.specs.Format.{IsFormat}
use Rattle.stateful_base.specs.Finalization.{finalization_format}
use Rattle.stateful_base.proofs.Values.{finalization_alone}
use Rattle.stateful_base.specs.declared.finalization.Finalization.{Finalization}
use Rattle.stateful_probe.specs.Setup.{Setup, scheme_at, committee}
use Rattle.stateful_probe.specs.Reply.{IsWhole, IsGood, IsAtFault, uncertified, IsIgnored, unjudged}
use Rattle.stateful_probe.specs.Judgement.{IsCounting}
use Rattle.stateful_probe.proofs.Known.{one_value}
use Rattle.stateful_probe.proofs.Reading.{whole_header}

-- bytes are a whole response with one finalization at most
whole_same : {S K C : Type 0} (u : Setup S K C) → IsFormat u.certificates → (bytes : List ℕ) (f g : Finalization C) → IsWhole u bytes f → IsWhole u bytes g → f ≡ g
whole_same u law bytes f g whole other =
    let format = finalization_format u.certificates in
    let e : format.spelling f ≡ format.spelling g = ap (drop 1) (sym whole.1 ∙ other.1) in
    (finalization_alone u.certificates law).alone f g [] whole.0 other.0 (append-nil (format.spelling f) ∙ e)

module _ {S K C : Type 0} (u : Setup S K C) (peer : K) (f : Finalization C) (bytes : List ℕ) (counting : IsCounting u peer bytes f) where
  -- nobody is known to take part
  pub worthless : None ≡ scheme_at u u.minimum → IsIgnored u bytes
  worthless e = unjudged f counting.whole (ap (option_map u.keys) (sym e))

  module _ (lowest : S) (known : Some lowest ≡ scheme_at u u.minimum) where
    committee_is : committee u ≡ Some (u.keys lowest)
    committee_is = ap (option_map u.keys) (sym known)

    module _ (scheme : S) (has : Some scheme ≡ scheme_at u f.round.epoch) where
      same : scheme ≡ counting.scheme
      same = one_value (scheme_at u f.round.epoch) scheme counting.scheme (sym has) counting.counts.known

      -- a finalization that holds
      pub worthy : u.certifies scheme f → IsGood u peer bytes f
      worthy holds = record {
        whole = counting.whole;
        scheme = counting.scheme;
        counts = counting.counts;
        certified = subst (λ s. u.certifies s f) same holds;
        keys = u.keys lowest;
        takes_part = record { committee_is = committee_is; member = counting.heard (u.keys lowest) committee_is };
      }

      -- it doesn't hold
      pub unfounded : IsFormat u.certificates → (u.certifies scheme f → ⊥) → IsAtFault u peer bytes
      unfounded law none =
          uncertified counting.scheme (u.keys lowest)
          (record { round = f.round; header = whole_header u bytes f counting.whole; counts = counting.counts })
          committee_is
          (λ g whole certified. none (subst (λ s. u.certifies s f) (sym same) (subst (u.certifies counting.scheme) (whole_same u law bytes g f whole counting.whole) certified)))
