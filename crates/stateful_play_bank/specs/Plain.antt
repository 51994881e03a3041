-- The grounds of plays over one database of balances.
use Rattle.std.specs.Prelude.{ℕ, []}
use Rattle.stateful_base.specs.declared.target.Target.{Target}
use Rattle.stateful_db.specs.Single.{single}
use Rattle.stateful_db.specs.declared.held.Held.TheVariants as held
use Rattle.stateful_db_plain.specs.Shown.{SealShows}
use Rattle.stateful_db_plain.specs.Stored.{calls_of, calls_here}
use Rattle.stateful_db_plain.specs.Whole.{Whole, begun, initial, target_of}
use Rattle.stateful_db_plain.specs.declared.batch.PlainMerkleized.{PlainMerkleized}
use Rattle.stateful_db_plain.specs.declared.batch.PlainUnmerkleized.{PlainUnmerkleized}
use Rattle.stateful_bank_app.specs.Fresh.{AreUncalled}
use Rattle.stateful_bank_plain.specs.Single.{single_rules, HoldsEntries}
use Rattle.stateful_bank_plain.specs.Blank.{OneDatabase, member_of, next_of, calls_on, IsBlank}
use Rattle.stateful_play_world.specs.Grounds.{Grounds}

-- how often the database has failed
abbrev pub failed_of : OneDatabase → ℕ → ℕ
failed_of d i = elim d [
  | held.Here db ↦ (calls_here db).faults
  | held.Closed medium ↦ (calls_of medium).faults
  | held.Lost medium ↦ (calls_of medium).faults
  | held.Away ↦ 0
]

abbrev pub plain : Grounds PlainUnmerkleized PlainMerkleized OneDatabase
plain = record {
  Ids = ℕ;
  States = Whole;
  Targets = Target;
  rules = single_rules;
  holds = HoldsEntries;
  kind = single target_of (λ target. target) begun initial;
  shows = SealShows;
  members = member_of;
  next = next_of;
  counted = failed_of;
  Blank = λ d. IsBlank d × AreUncalled 1 (calls_on d) [];
}
