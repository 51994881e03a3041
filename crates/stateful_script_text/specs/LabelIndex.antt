-- By which index labels are found.
use Rattle.std.specs.Prelude.{◌≡◌, ℕ, Bool, List}
use Rattle.std.specs.List.{position_from}
use Rattle.std.specs.Str.{bytes_eq}
use Rattle.std.specs.BTreeMap.{BTreeMap, get}
use Rattle.stateful_base.specs.Digest.{digest_cmp}
use Rattle.stateful_base.specs.declared.digest.Digest.{Digest}
use Rattle.stateful_script_text.specs.declared.shown.Label.{Label}

-- the label is of this digest
abbrev pub is_of : Digest → Label → Bool
is_of digest label = bytes_eq label.digest.0 digest.0

-- each digest has the place of its first label, where these labels are those from a place on
abbrev pub IsIndexFrom : ℕ → List Label → BTreeMap Digest ℕ → Type 0
IsIndexFrom place labels places =
    (d : Digest) → get digest_cmp places d ≡ position_from (is_of d) place labels

abbrev pub IsIndex : List Label → BTreeMap Digest ℕ → Type 0
IsIndex labels places = IsIndexFrom 0 labels places
