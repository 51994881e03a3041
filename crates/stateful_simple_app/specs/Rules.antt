-- Rules: what blocks do to the entries of a state, by what they carry.
use Rattle.std.specs.Prelude.{ℕ, ◌+◌, Bool, List, Option, None, if◌then◌else◌}
use Rattle.std.specs.Option.{option_map}
use Rattle.stateful_base.specs.declared.outcome.Finality.{Finality}
use Rattle.stateful_base.specs.declared.outcome.Finality.TheVariants.{Candidate, Finalized}
use Rattle.stateful_base.specs.declared.target.Target.{Target}
use Rattle.stateful_db.specs.Meaning.{Meaning}
use Rattle.stateful_db_plain.specs.Whole.{Whole}
use Rattle.stateful_simple_app.specs.declared.block.PayloadBlock.{PayloadBlock}

-- the entries of a state, by ascending key
abbrev pub Entries : Type 0
Entries = List (ℕ × ℕ)

pub record Rules (Payload Input : Type 0) : Type 0 where
  -- what the block at height 0 carries
  pub genesis : Payload
  -- the entries after a block that carries this, where it leads to any
  pub step : Entries → Payload → Option Entries
  -- whether a candidate that carries this is acceptable
  pub accept : Entries → Payload → Bool
  -- what a request puts into a block, where it asks for one
  pub choose : Entries → Input → Option Payload

-- the state of these entries that comes after this one: one applied batch more
abbrev pub after : Whole → Entries → Whole
after whole entries = record { size = whole.size + 1; entries = entries }

module _ {P I : Type 0} (rules : Rules P I) where
  -- the state after a block that carries this, where it leads to any
  abbrev pub stepped : Whole → P → Option Whole
  stepped whole payload = option_map (after whole) (rules.step whole.entries payload)

  -- the state that a run of a block ends with that carries this: a candidate has to be acceptable
  abbrev pub run_outcome : Finality → Whole → P → Option Whole
  run_outcome Candidate whole payload =
      if rules.accept whole.entries payload then stepped whole payload else None
  run_outcome Finalized whole payload = stepped whole payload

  -- what blocks do to states
  abbrev pub one_turn_meaning : Meaning (PayloadBlock P) Whole Target
  one_turn_meaning = record {
    step = λ whole b. stepped whole b.payload;
    accept = λ whole b. rules.accept whole.entries b.payload;
    targets = λ b. b.target;
  }
