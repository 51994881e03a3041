-- A text of which nothing is written, since memory ran out.
use Rattle.std.proofs.Common.{◌≡◌, ℕ, List, inr, arith}
use Rattle.stateful_types.proofs.Known.{appends_none}
use Rattle.stateful_play_edge.specs.Reading.{Known}
use Rattle.stateful_play_edge.specs.Writing.{HoldsPrefix, Writes}
use Rattle.stateful_play_edge.specs.declared.status.Status.{Status}
use Rattle.stateful_play_edge.specs.declared.status.Status.TheVariants.{NoMemory}

-- nothing more is out
pub nothing_out : (out : Known) (text : List ℕ) → HoldsPrefix out out text
nothing_out out text = (0, omega arith, appends_none out)

pub want_writes : (rose : Type 0) (out : Known) (text : List ℕ) (asked answer : Status) → answer ≡ NoMemory → Writes rose out out text asked answer
want_writes rose out text asked answer e = inr (inr (e, nothing_out out text))
