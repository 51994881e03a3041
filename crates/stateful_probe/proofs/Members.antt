-- That the set of the participants can be looked up in their place.
use Rattle.std.proofs.Common.{◌≡◌, Some, None, is_eq, sym, ap, ◌∙◌}
use Rattle.std.specs.Prelude.{option_map}
use Rattle.std.specs.List.{list_any}
use Rattle.std.specs.BTreeSet.{BTreeSet, IsFromIterResult}
use Rattle.stateful_probe.specs.Setup.{Setup, scheme_in, is_one_of}
use Rattle.stateful_probe.specs.Schemes.{AreMembers}
use Rattle.stateful_probe.proofs.Known.{AreKeys}

module _ {S K C : Type 0} (u : Setup S K C) where
  -- where there is a scheme
  pub members : AreKeys u.eq u.cmp → (scheme : S) (set : BTreeSet K) → Some scheme ≡ scheme_in u.schemes u.minimum → IsFromIterResult u.cmp (u.keys scheme) set → AreMembers u (Some set)
  members laws scheme set known from peer =
      let agree : (k : K) → is_eq (u.cmp peer k) ≡ u.eq k peer = λ k. sym (laws.same.symm k peer ∙ laws.agrees peer k) in
      let all : list_any (λ k. is_eq (u.cmp peer k)) (u.keys scheme) ≡ is_one_of u.eq (u.keys scheme) peer = λ i. list_any (λ k. agree k i) (u.keys scheme) in
      ap Some (from.0 peer ∙ all) ∙ ap (λ o. option_map (λ keys. is_one_of u.eq keys peer) (option_map u.keys o)) known

  -- where there is none
  pub no_members : None ≡ scheme_in u.schemes u.minimum → AreMembers u None
  no_members none peer = ap (λ o. option_map (λ keys. is_one_of u.eq keys peer) (option_map u.keys o)) none
