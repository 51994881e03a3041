use Rattle.std.proofs.Common.{◌≡◌, ℕ, ◌+◌, ◌%◌, ◌^◌, ◌<◌, List, ◌++◌, sym, ap, ◌∙◌, inl, inr, arith}
use Rattle.std.specs.Int.{w64, to_be_bytes}
use Rattle.std.proofs.lemmas.Bool.{cases_lt}
use Rattle.stateful_base.specs.declared.digest.Digest.{Digest}
use Rattle.sha2.specs.Sha256.{sha256}
use Rattle.stateful_db_plain.specs.Whole.{root_of, entry_bytes}
use Rattle.stateful_db_plain.proofs.op.PlainOpLinked.link.Goals as goal

-- an end that is one too great for eight bytes has those of 0
next_bytes : (n : ℕ) → n < 2 ^ 64 → to_be_bytes w64 ((n + 1) % 2 ^ 64) ≡ to_be_bytes w64 (n + 1)
next_bytes n small =
    elim (cases_lt (n + 1) (2 ^ 64)) [
      | inl less ↦ let same : (n + 1) % 2 ^ 64 ≡ n + 1 = omega arith in ap (λ m. to_be_bytes w64 m) same
      | inr le ↦
          let last : n + 1 ≡ 2 ^ 64 = omega arith in
          ap (λ m. to_be_bytes w64 (m % 2 ^ 64)) last ∙ sym (ap (λ m. to_be_bytes w64 m) last)
    ]

pub returns : goal.returns
returns c =
    let es = c.args.self.now in
    let rooted : List ℕ → Digest = λ bytes. record { 0 = sha256 (bytes ++ entry_bytes es) } in
    c.root_of.ensures ∙ ap (λ xs. root_of (record { size = (c.args.at + 1) % 2 ^ 64; entries = xs })) c.entries.ensures ∙ ap rooted (next_bytes c.args.at c.ranges.at.fits)
