-- Digests as fields.
use Rattle.std.proofs.Common.{◌≡◌, ap}
use Rattle.std.proofs.lemmas.Map.Lookups.{exact_bytes}
use Rattle.std.specs.declared.cmp.Ordering.TheVariants.{Equal}
use Rattle.stateful_base.specs.Format.{IsFormat}
use Rattle.stateful_base.specs.FixedLaws.{bytes_alone}
use Rattle.stateful_base.specs.Digest.{digest_format, digest_cmp}
use Rattle.stateful_base.specs.declared.digest.Digest.{Digest}

pub digest_alone : IsFormat digest_format
digest_alone =
    let law = bytes_alone 32 in
    record {
      some = (record { 0 = law.some.0 }, law.some.1);
      alone =
          λ x y rest fits fits' e. ap (λ bytes. record { 0 = bytes })
          (law.alone x.0 y.0 rest fits fits' e);
    }

pub digest_exact : (a b : Digest) → digest_cmp a b ≡ Equal → a ≡ b
digest_exact a b same = ap (λ bytes. record { 0 = bytes }) (exact_bytes a.0 b.0 same)
