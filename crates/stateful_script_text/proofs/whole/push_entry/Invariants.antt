use Rattle.std.proofs.Common.{◌≡◌, ◌++◌, [], take}
use Rattle.std.specs.List.{flat_map}
use Rattle.std.specs.Fmt.{decimal}
use Rattle.std.specs.Prelude.{codes}
use Rattle.stateful_script_text.specs.Line.{line}
use Rattle.stateful_script_text.specs.Mark.{mark_line}
use Rattle.stateful_script_text.proofs.whole.push_entry.Given as goal

abbrev pub invariant-loop-mark : goal.invariant-loop-mark
invariant-loop-mark g l =
    l.out.items ≡ l.fn.out.items ++ line (codes "#" ++ decimal l.number) [] ++ flat_map (mark_line g.B.Block.header.height l.lines.labels.now) (take l.mark-index l.mark-items)
