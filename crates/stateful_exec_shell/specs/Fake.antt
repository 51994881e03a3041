-- What fake blocks say of themselves, and what they do.
use Rattle.std.specs.Prelude.{[], ◌∷◌, true, Option, Some, None}
use Rattle.stateful_base.specs.Names.{Header}
use Rattle.stateful_base.specs.declared.target.Target.{Target}
use Rattle.stateful_db.specs.Meaning.{Meaning}
use Rattle.stateful_db_plain.specs.Whole.{Whole, begun}
use Rattle.stateful_exec_shell.specs.declared.block.End.{End}
use Rattle.stateful_exec_shell.specs.declared.block.End.TheVariants.{States, Nothing, Fails}
use Rattle.stateful_exec_shell.specs.declared.block.FakeBlock.{FakeBlock}

-- its bytes are its name
abbrev pub fake_header : Header FakeBlock
fake_header = record {
  parent = λ b. b.parent;
  height = λ b. b.height.0;
  round = λ b. b.round;
  bytes = λ b. b.name ∷ [];
}

-- what a block of this end leads to: nothing, or the same entries, one applied batch later
abbrev pub led : End → Whole → Option Whole
led States whole = Some (begun whole)
led Nothing whole = None
led Fails whole = Some (begun whole)

abbrev pub fake_meaning : Meaning FakeBlock Whole Target
fake_meaning = record {
  step = λ whole b. led b.end whole;
  accept = λ whole b. true;
  targets = λ b. b.target;
}
