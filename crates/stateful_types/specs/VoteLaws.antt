-- Certificates of votes: how long they are, and which hold.
use Rattle.std.proofs.Common.{◌≡◌, ℕ, zero, suc, ◌+◌, ◌*◌, ◌<◌, ◌≤◌, List, [], ◌∷◌, length, refl}
use Rattle.std.proofs.Common.{arith, add-one, length-append}
use Rattle.std.specs.Prelude.{slice_index}
use Rattle.std.specs.List.{flat_map}
use Rattle.std.specs.List.Sorted.{IsStrictlyIncreasing}
use Rattle.stateful_base.specs.Number.{u32_format}
use Rattle.stateful_types.specs.Vote.{votes_format, IsQuorum}

length-numbers : (xs : List ℕ) → length (flat_map u32_format.spelling xs) ≡ 4 * length xs
length-numbers [] = refl
length-numbers (x ∷ xs) = simp length-append (omega (arith, length-numbers xs))

-- four bytes for the number of signers, and four for each
pub length-votes : (signers : List ℕ)
    → length (votes_format.spelling signers) ≡ 4 + 4 * length signers
length-votes signers = simp length-append (omega (arith, length-numbers signers))

-- the k-th of ascending numbers is at least k
climbs : (xs : List ℕ) → IsStrictlyIncreasing xs → (k : ℕ) → k < length xs → k ≤ slice_index xs k
climbs xs up zero lt = omega arith
climbs xs up (suc k) lt =
    let below : k ≤ slice_index xs k = climbs xs up k (omega arith) in
    let step : slice_index xs k < slice_index xs (suc k) = rw add-one at (up k (omega arith)) in
    omega arith

-- ascending numbers below n are at most n
at_most : (n k : ℕ) (signers : List ℕ)
    → IsQuorum n signers
    → length signers ≡ k
    → length signers ≤ n
at_most n zero signers quorum e = omega arith
at_most n (suc k) signers quorum e =
    let last : k ≤ slice_index signers k = climbs signers quorum.ascending k (omega arith) in
    let below : slice_index signers k < n = quorum.known k 0 (omega arith) in
    omega arith

pub votes_bounded : {n participants : ℕ} {signers : List ℕ}
    → IsQuorum n signers
    → n ≤ participants
    → length (votes_format.spelling signers) ≤ 4 + 4 * participants
votes_bounded {n} {participants} {signers} quorum few =
    omega (arith, length-votes signers, at_most n (length signers) signers quorum refl)
