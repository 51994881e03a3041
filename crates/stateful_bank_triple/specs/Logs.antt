-- The two logs of amounts as one set: what each is by itself, and that the laws of sets hold of both.
use Rattle.std.specs.Prelude.{ℕ, refl}
use Rattle.stateful_base.specs.Number.{u64_format}
use Rattle.stateful_base.specs.declared.target.CompactTarget.{CompactTarget}
use Rattle.stateful_db.specs.Databases.{Databases}
use Rattle.stateful_db.specs.Laws.{Laws}
use Rattle.stateful_db.specs.Single.{single}
use Rattle.stateful_db.specs.SingleLaws.{single_laws}
use Rattle.stateful_db.specs.Pair.{pair}
use Rattle.stateful_db.specs.PairLaws.{pair_laws}
use Rattle.stateful_db.specs.Targeted.{compact_target}
use Rattle.stateful_db_compact.specs.Compacted as compact
use Rattle.stateful_bank_logs.specs.Kept.{amounts}

-- the compact database by itself
abbrev pub latest : Databases ℕ (compact.State ℕ) CompactTarget
latest =
    single compact.target_of compact_target (compact.begun u64_format.spelling)
    (compact.initial u64_format.spelling)

pub logs_laws : Laws (pair amounts latest)
logs_laws =
    pair_laws amounts latest
    (single_laws amounts.target_of (λ target. target) amounts.begun amounts.initial)
    (single_laws latest.target_of compact_target latest.begun latest.initial)
    refl
