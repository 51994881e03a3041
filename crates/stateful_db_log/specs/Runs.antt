-- Operations in order, of which the first may stand apart.
use Rattle.std.specs.Prelude.{List, ◌∷◌, Option, Some, None}

abbrev pub run_of : {Op : Type 0} → Option Op → List Op → List Op
run_of None rest = rest
run_of (Some op) rest = op ∷ rest
