use Rattle.std.proofs.Common.{sym}
use Rattle.stateful_script.proofs.NameText.{name_is_text}
use Rattle.stateful_script.proofs.field.name.Goals as goal

pub returns-in-Err : goal.returns-in-Err
returns-in-Err c = absurd (c.in-Err.ensures.cases.0 (name_is_text c.args.field.now (sym c.if-not-is_name.ensures)))
