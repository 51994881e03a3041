use Rattle.std.proofs.Common.{ℕ, List, ◌∷◌, map, Option, Some, subst}
use Rattle.stateful_base.specs.Number.{u64_format}
use Rattle.stateful_bank.specs.Op.{amount_of}
use Rattle.stateful_db.specs.Pair.{left, right, both}
use Rattle.stateful_db_compact.specs.Compacted.{sealed}
use Rattle.stateful_db_compact.specs.CompactShown.{DraftShows}
use Rattle.stateful_bank_app.specs.Draft.{IsAmong}
use Rattle.stateful_bank_logs.proofs.Pairing.{left_among, right_among}
use Rattle.stateful_bank_triple.proofs.triple.TripleWorld.complete.Goals as goal

-- the second database is at its part of the point
second_among : {I J K S T U : Type 0} (a : Option (I × S)) (b : Option (J × T)) (d : Option (K × U)) (c : List ((I × (J × K)) × (S × (T × U)))) → IsAmong (both a (both b d)) c → IsAmong b (map left (map right c))
second_among a b d c at = left_among b d (map right c) (right_among a (both b d) c at)

pub returns-in_ok-compact-in-Some : goal.returns-in_ok-compact-in-Some
returns-in_ok-compact-in-Some c = λ writes i p chain holds at.
    let shown = rw c.in-Some.is at (c.in_ok-amounts.ensures i.1.0 (left (right p)) (map left (map right chain)) holds.1.0 (second_among _ _ _ (p ∷ chain) at)) in
    let compact = c.in_ok-compact-in-Some.ensures i.1.1 (right (right p)) (map right (map right chain)) holds.1.1 in (
      c.complete_balances-balances.ensures writes i.0 (left p) (map left chain) holds.0,
      (
        shown.0,
        subst (λ (floor : ℕ). DraftShows u64_format.spelling c.in_ok-compact-in-Some.compact ((i.1.1, sealed u64_format.spelling (record { values = map amount_of c.args.ops.now; metadata = Some c.args.height.0; floor = floor }) (right (right p)).1) ∷ right (right p) ∷ map right (map right chain))) shown.1 compact,
      ),
    )

-- a batch that stands on the databases isn't stale
pub returns-in-None : goal.returns-in-None
returns-in-None c = λ writes i p chain holds at.
    rw c.in-None.is at (c.in_ok-amounts.ensures i.1.0 (left (right p)) (map left (map right chain)) holds.1.0 (second_among _ _ _ (p ∷ chain) at))
