-- What is looked up of the schemes of epochs.
use Rattle.std.specs.Prelude.{◌≡◌, Option, option_map}
use Rattle.std.specs.BTreeSet.{BTreeSet, contains}
use Rattle.stateful_probe.specs.Setup.{Setup, membership}

-- the set has the participants of the lowest epoch, and there is one where they are known
abbrev pub AreMembers : {S K C : Type 0} → Setup S K C → Option (BTreeSet K) → Type 0
AreMembers {K = K} u members = (peer : K)
    → option_map (λ set. contains u.cmp set peer) members ≡ membership u peer
