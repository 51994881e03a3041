use Rattle.std.proofs.Common.{◌≡◌, ◌++◌, ◌∷◌, take, map}
use Rattle.std.specs.List.{flat_map}
use Rattle.stateful_script_text.specs.Line.{field_text}
use Rattle.stateful_script_text.proofs.line.Lines.line.Given as goal

abbrev pub invariant-loop-field : goal.invariant-loop-field
invariant-loop-field l =
    l.out.items ≡ l.fn.out.items ++ l.word ++ flat_map (λ field. 32 ∷ field) (map (field_text l.self.labels.now) (take l.field-index l.fields))
