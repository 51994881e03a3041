-- The digests at the locations of a log that is cut off, goes on or is pruned.
use Rattle.std.proofs.Common.{◌≡◌, ℕ, zero, suc, ◌+◌, ◌-◌, ◌≤◌, List, [], ◌∷◌, ◌++◌, length, take}
use Rattle.std.proofs.Common.{drop, refl, ap, sym, ◌∙◌, arith, length-append}
use Rattle.std.proofs.lemmas.List.{take-take, take-append-le, take_all}
use Rattle.std.proofs.Math.Seq.{take-nil}
use Rattle.stateful_base.specs.declared.digest.Digest.{Digest}
use Rattle.stateful_db_log.specs.Linking.{behind, behind-append}
use Rattle.stateful_db_log.specs.Between.{between}
use Rattle.stateful_db_log.specs.Held.{Held, end_of, until, further, digest_at, from}

module _ {Op : Type 0} (link : ℕ → Digest → Op → Digest) where
  -- the first operations, and then the first of the others
  behind-take : (m n at : ℕ) (d : Digest) (ops : List Op)
      → behind link (at + m) (behind link at d (take m ops)) (take n (drop m ops))
      ≡ behind link at d (take (m + n) ops)
  behind-take zero n at d ops =
      let here : at + zero ≡ at = omega arith in
      let same : zero + n ≡ n = omega arith in
      rw (here, same) refl
  behind-take (suc m) n at d [] = rw (take-nil n, take-nil (suc m + n)) refl
  behind-take (suc m) n at d (op ∷ ops) =
      let here : at + suc m ≡ at + 1 + m = omega arith in
      let more : suc m + n ≡ suc (m + n) = omega arith in
      rw (here, more) (behind-take m n (at + 1) (link at d op) ops)

  module _ (h : Held Op) where
    -- the operations between two locations lead from the digest at the one to that at the other
    pub digest_at-between : (start at : ℕ)
        → h.first ≤ start
        → start ≤ at
        → behind link start (digest_at link h start) (between h.first h.ops start at)
        ≡ digest_at link h at
    digest_at-between start at low high =
        let m : ℕ = start - h.first in
        let n : ℕ = at - start in
        let here : start ≡ h.first + m = omega arith in
        let whole : m + n ≡ at - h.first = omega arith in
        ap (λ k. behind link k (digest_at link h start) (take n (drop m h.ops))) here
        ∙ behind-take m n h.first h.before h.ops
        ∙ ap (λ k. behind link h.first h.before (take k h.ops)) whole

    -- without the operations before a location, the digests from it on are those that they were
    pub digest_at-from : (start at : ℕ)
        → h.first ≤ start
        → start ≤ at
        → digest_at link (from link h start) at ≡ digest_at link h at
    digest_at-from start at low high = digest_at-between start at low high

    -- without the operations from a location on, the digests up to it are those that they were
    pub digest_at-until : (end at : ℕ)
        → at ≤ end
        → digest_at link (until h end) at ≡ digest_at link h at
    digest_at-until end at low =
        let first : take (at - h.first) (take (end - h.first) h.ops) ≡ take (at - h.first) h.ops =
        take-take (at - h.first) (end - h.first) h.ops (omega arith) in
        ap (behind link h.first h.before) first

    -- with more operations behind, the digests up to where these begin are those that they were
    pub digest_at-further : (more : List Op) (at : ℕ)
        → at ≤ end_of h
        → digest_at link (further h more) at ≡ digest_at link h at
    digest_at-further more at low =
        let first : take (at - h.first) (h.ops ++ more) ≡ take (at - h.first) h.ops =
        take-append-le (at - h.first) h.ops more (omega arith) in
        ap (behind link h.first h.before) first

    -- and they lead to the last digest
    pub digest_at-end : (more : List Op)
        → digest_at link (further h more) (end_of h + length more)
        ≡ behind link (end_of h) (digest_at link h (end_of h)) more
    digest_at-end more =
        let last : ℕ = end_of h + length more - h.first in
        let whole : take (end_of h - h.first) h.ops ≡ h.ops =
        take_all (end_of h - h.first) h.ops (omega arith) in
        let both : take last (h.ops ++ more) ≡ h.ops ++ more =
        take_all last (h.ops ++ more) (omega (arith, length-append h.ops more)) in
        ap (behind link h.first h.before) both
        ∙ behind-append link h.first h.before h.ops more
        ∙ ap (λ ops. behind link (end_of h) (behind link h.first h.before ops) more) (sym whole)
