-- What a probe is set up with.
use Rattle.std.specs.Prelude.{◌≡◌, ℕ, ◌≤◌, ◌==◌, Bool, true, Option, Some, None, List, length}
use Rattle.std.specs.Prelude.{option_map, is_some}
use Rattle.std.specs.List.{list_any}
use Rattle.std.specs.Map.{lookup}
use Rattle.std.specs.declared.cmp.Ordering.{Ordering}
use Rattle.stateful_base.specs.Format.{Format}
use Rattle.stateful_base.specs.Scheme.{max_faults}
use Rattle.stateful_base.specs.declared.number.Epoch.{Epoch}
use Rattle.stateful_base.specs.declared.finalization.Finalization.{Finalization}
use Rattle.stateful_probe.specs.declared.probe.Config.{Config}

-- how keys compare and certificates are spelled, what schemes are, which schemes are known, and
-- which epochs count
pub record Setup (S K C : Type 0) : Type 1 where
  -- the order of keys, and which are the same
  pub cmp : K → K → Ordering
  pub eq : K → K → Bool
  pub certificates : Format C
  -- the participants of a scheme, and which finalizations have a certificate of it that holds
  pub keys : S → List K
  pub certifies : S → Finalization C → Type 0
  -- the schemes of epochs, of which the first one of an epoch counts
  pub schemes : List (Epoch × S)
  -- the lowest epoch that counts
  pub minimum : Epoch

abbrev pub setup : {S K C : Type 0} → (K → K → Ordering) → (K → K → Bool) → Format C
    → (S → List K) → (S → Finalization C → Type 0) → Config S → Setup S K C
setup cmp eq certificates keys certifies config = record {
  cmp = cmp;
  eq = eq;
  certificates = certificates;
  keys = keys;
  certifies = certifies;
  schemes = config.schemes;
  minimum = config.minimum_epoch;
}

-- the scheme of an epoch, where it is known
abbrev pub scheme_in : {S : Type 0} → List (Epoch × S) → Epoch → Option S
scheme_in schemes epoch = lookup (λ known. known.0 == epoch.0) schemes

-- whether the key is one of these
abbrev pub is_one_of : {K : Type 0} → (K → K → Bool) → List K → K → Bool
is_one_of eq keys peer = list_any (λ key. eq key peer) keys

-- how many of the participants may be faulty, where they are known
abbrev pub faults_of : {K : Type 0} → Option (List K) → ℕ
faults_of None = 0
faults_of (Some keys) = max_faults (length keys)

module _ {S K C : Type 0} (u : Setup S K C) where
  abbrev pub scheme_at : Epoch → Option S
  scheme_at epoch = scheme_in u.schemes epoch

  -- the participants of the lowest epoch, where its scheme is known
  abbrev pub committee : Option (List K)
  committee = option_map u.keys (scheme_at u.minimum)

  -- how many of them may be faulty: none where they aren't known
  abbrev pub tolerated : ℕ
  tolerated = faults_of committee

  -- whether the peer is one of them, where they are known
  abbrev pub membership : K → Option Bool
  membership peer = option_map (λ keys. is_one_of u.eq keys peer) committee

  -- whether the finalization's epoch has a scheme
  abbrev pub is_judgeable : Finalization C → Bool
  is_judgeable f = is_some (scheme_at f.round.epoch)

  -- the epoch counts: it isn't below the lowest one, and its scheme is known
  pub record Counts (epoch : Epoch) (scheme : S) : Type 0 where
    pub reached : u.minimum.0 ≤ epoch.0
    pub known : scheme_at epoch ≡ Some scheme

  -- the peer takes part in the lowest epoch, with these participants
  pub record TakesPart (peer : K) (keys : List K) : Type 0 where
    pub committee_is : committee ≡ Some keys
    pub member : is_one_of u.eq keys peer ≡ true
