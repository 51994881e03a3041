-- Names are text.
use Rattle.std.proofs.Common.{◌≡◌, ℕ, ◌<◌, List, true, arith}
use Rattle.std.specs.List.{list_all}
use Rattle.std.specs.Str.{IsUtf8}
use Rattle.std.proofs.lemmas.Grind.{common_steps}
use Rattle.std.proofs.lemmas.List.Sums.{AllPass-from_list_all}
use Rattle.std.proofs.lemmas.Str.{IsUtf8-from_ascii}
use Rattle.std.proofs.lemmas.Str.Ascii.{IsAscii-from_all}
use Rattle.stateful_script.specs.Fields.{is_name_byte, is_name}

name_byte_is_ascii : (b : ℕ) → is_name_byte b ≡ true → b < 128
name_byte_is_ascii b h = grind (arith, common_steps)

name_bytes : (field : List ℕ) → is_name field ≡ true → list_all is_name_byte field ≡ true
unfolding is_name
name_bytes field h = grind (arith, common_steps)

pub name_is_text : (field : List ℕ) → is_name field ≡ true → IsUtf8 field
name_is_text field h =
    let each = AllPass-from_list_all is_name_byte field (name_bytes field h) in
    IsUtf8-from_ascii field (IsAscii-from_all field (λ k d below. name_byte_is_ascii _ (each k d below)))
