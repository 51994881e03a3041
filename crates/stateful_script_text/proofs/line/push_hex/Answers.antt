use Rattle.std.proofs.Common.{◌≡◌, ◌∙◌, arith}
use Rattle.stateful_script_text.specs.Line.{hex_of}
use Rattle.stateful_script_text.proofs.Hex.{encode_lower-bytes}
use Rattle.stateful_script_text.proofs.line.push_hex.Goals as goal

pub returns : goal.returns
returns c =
    let digits = encode_lower-bytes c.args.bytes.now (λ k. omega (arith, c.type_inv.bytes k)) in
    let same : c.as_bytes.result.now ≡ hex_of c.args.bytes.now = c.as_bytes.ensures.value ∙ c.in_ok-digits.ensures ∙ digits in
    rw same at c.push.ensures
