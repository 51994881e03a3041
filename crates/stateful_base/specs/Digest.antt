-- Digests in bytes, and their order.
use Rattle.std.specs.declared.cmp.Ordering.{Ordering}
use Rattle.std.specs.Ordering.{nat_cmp}
use Rattle.std.specs.Cmp.Lexicographic.{slice_cmp}
use Rattle.stateful_base.specs.Format.{Format}
use Rattle.stateful_base.specs.Number.{bytes_format}
use Rattle.stateful_base.specs.declared.digest.Digest.{Digest}

-- 32 bytes
abbrev pub digest_format : Format Digest
digest_format =
    record
    { fits = λ d. (bytes_format 32).fits d.0; spelling = λ d. (bytes_format 32).spelling d.0 }

-- by their bytes, from the first on
abbrev pub digest_cmp : Digest → Digest → Ordering
digest_cmp a b = slice_cmp nat_cmp a.0 b.0
