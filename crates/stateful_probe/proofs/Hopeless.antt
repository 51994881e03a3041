-- Which certificates could make a good reply of a peer.
use Rattle.std.proofs.Common.{◌≡◌, ℕ, ◌<◌, true, false, Option, Some, None, List, length, refl, sym, ap, ◌∙◌, arith}
use Rattle.std.specs.Prelude.{option_map, IsTrue, nat_lt, ◌↔◌}
use Rattle.std.proofs.lemmas.Bool.{ltb-true, lt-ltb}
use Rattle.stateful_base.specs.declared.number.Epoch.{Epoch}
use Rattle.stateful_probe.specs.Setup.{Setup, scheme_at, committee, membership, is_one_of, Counts}
use Rattle.stateful_probe.specs.Judgement.{IsHopeless, foreign, outsider, oversized}
use Rattle.stateful_probe.proofs.Known.{one_value}

module _ {S K C : Type 0} (u : Setup S K C) (max_size : ℕ → ℕ) (peer : K) (epoch : Epoch) (size : ℕ) where
  -- of a participant: it is too long
  pub of_member : (scheme : S) (longest : ℕ) → Counts u epoch scheme → longest ≡ max_size (length (u.keys scheme)) → Some true ≡ membership u peer
      → IsTrue (nat_lt longest size) ↔ IsHopeless u max_size peer epoch size
  of_member scheme longest counts is member = (λ long. there (committee u) refl (sym member) (ltb-true longest size long), λ hopeless. lt-ltb longest size (back hopeless))
    where
      there : (known : Option (List K)) → committee u ≡ known → option_map (λ keys. is_one_of u.eq keys peer) known ≡ Some true → longest < size → IsHopeless u max_size peer epoch size
      there None e among long = absurd cc
      there (Some keys) e among long = oversized scheme keys counts e (omega (arith, long, is))

      back : IsHopeless u max_size peer epoch size → longest < size
      back (foreign none) = absurd (none scheme counts)
      back (outsider out) = let e = member ∙ out in absurd cc
      back (oversized other keys also known long) =
          let same : scheme ≡ other = one_value (scheme_at u epoch) scheme other counts.known also.known in
          omega (arith, long, is, ap (λ s. max_size (length (u.keys s))) same)

  -- of one that isn't
  pub of_outsider : Some false ≡ membership u peer → IsTrue true ↔ IsHopeless u max_size peer epoch size
  of_outsider e = (λ t. outsider (sym e), λ h. refl)

  -- where nobody is known to take part
  pub of_unknown : (scheme : S) → Counts u epoch scheme → None ≡ membership u peer → IsTrue false ↔ IsHopeless u max_size peer epoch size
  of_unknown scheme counts e = (λ t. absurd cc, back)
    where
      back : IsHopeless u max_size peer epoch size → IsTrue false
      back (foreign none) = absurd (none scheme counts)
      back (outsider out) = let e' = e ∙ out in absurd cc
      back (oversized other keys also known long) = let e' = ap (option_map (λ keys. is_one_of u.eq keys peer)) known in absurd cc
