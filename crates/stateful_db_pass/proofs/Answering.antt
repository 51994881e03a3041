-- What a log answers to the sync of a range.
use Rattle.std.proofs.Common.{◌≡◌, ℕ, ◌+◌, ◌-◌, List, length, drop, min, Bool, Option, Some, None}
use Rattle.std.proofs.Common.{subst, sym, arith, length-take, length-drop}
use Rattle.std.specs.Int.NonZero.{non_zero_u64_get}
use Rattle.std.specs.declared.num.NonZeroU64.{NonZeroU64}
use Rattle.stateful_base.specs.declared.digest.Digest.{Digest}
use Rattle.stateful_base.specs.declared.target.Target.{Target}
use Rattle.stateful_types.specs.declared.response.Response.{Response}
use Rattle.stateful_db_log.specs.Held.{Held}
use Rattle.stateful_db_pass.specs.declared.pass.Fetches.{Fetches}
use Rattle.stateful_db_pass.specs.declared.pass.Fetches.TheVariants.{Range}
use Rattle.stateful_db_pass.specs.Fetched.{Fetched, Fits, request}
use Rattle.stateful_db_pass.specs.Serving.{IsHeld, Answers}

module _ {Op : Type 0} (link : ℕ → Digest → Op → Digest) (alone : Op → Bool) where
  fit : (target : Target) (batch : NonZeroU64) (before : Option Digest) (ops : List Op)
      (h : Held Op) (response : Response Op)
      → let p : Fetched Op =
      record { target = target; fetches = Range batch; before = before; ops = ops } in
      IsHeld h (request p)
      → Answers link h (request p) response
      → Fits alone p response
  fit target batch None ops h response held (op, there, is) =
      subst (λ r. Fits alone (record { target = target; fetches = Range batch; before = None; ops = ops }) r)
      (sym is) held.ranged
  fit target batch (Some before) ops h response held is =
      let start : ℕ = target.start.0 + length ops in
      let count : ℕ = min (non_zero_u64_get batch) (target.end.0 - start) in
      subst (λ r. Fits alone (record { target = target; fetches = Range batch; before = Some before; ops = ops }) r)
      (sym is)
      (omega (
        arith,
        held.low,
        held.ranged,
        held.high,
        length-take (start + count - start) (drop (start - h.first) h.ops),
        length-drop (start - h.first) h.ops,
      ))

  -- it is of the kind and of the length that was asked for
  pub answers_fit : (p : Fetched Op) (batch : NonZeroU64) (h : Held Op) (response : Response Op)
      → p.fetches ≡ Range batch
      → IsHeld h (request p)
      → Answers link h (request p) response
      → Fits alone p response
  answers_fit p batch h response range held answers =
      let with_fetches : Fetches → Fetched Op = λ f. record { target = p.target; fetches = f; before = p.before; ops = p.ops } in
      subst (λ f. Fits alone (with_fetches f) response) (sym range)
      (fit p.target batch p.before p.ops h response
      (subst (λ f. IsHeld h (request (with_fetches f))) range held)
      (subst (λ f. Answers link h (request (with_fetches f)) response) range answers))
