-- What a source's answer leaves of a sync.
use Rattle.std.proofs.Common.{◌≡◌, ℕ, zero, suc, ◌+◌, Bool, true, false, Option, Some, None}
use Rattle.std.proofs.Common.{Result, Ok, Err, IfOk, IfSome, refl, sym, ap, subst, ◌∙◌, arith}
use Rattle.std.proofs.lemmas.Bool.{false≢true}
use Rattle.stateful_base.specs.declared.digest.Digest.{Digest}
use Rattle.stateful_base.specs.declared.target.Target.{Target}
use Rattle.stateful_types.specs.declared.request.Request.{Request}
use Rattle.stateful_types.specs.declared.response.Response.{Response}
use Rattle.stateful_types.specs.declared.response.Response.TheVariants as kind
use Rattle.stateful_db_source.specs.declared.source.ServeFault.{ServeFault}
use Rattle.stateful_db_pass.specs.declared.fault.SyncFault.{SyncFault}
use Rattle.stateful_db_pass.specs.Fetched.{Fetched, Fits, Leads, request, is_reached, anew}
use Rattle.stateful_db_pass.specs.Fetched.{with_response}
use Rattle.stateful_db_pass.specs.Counted.{Needs, Falls, IsWithin, requests_fall}
use Rattle.stateful_db_pass.specs.Progress.{Settles, goes_on, reaches, misses, takes}
use Rattle.stateful_db_pass.specs.Progress.{discards, Progresses, served, wants, not_served, failed}
use Rattle.stateful_db_pass.specs.Progress.{wanted}
use Rattle.stateful_passes.specs.Asks.{told, IsKind, Lessens, more, last, lost, Asks}

module _ {Op : Type 0} (linked : ℕ → Digest → Op → Digest) (alone : Op → Bool) where
  one : (n left : ℕ) → n ≡ left + 1 → left ≡ 0 → n ≡ 1
  one n left less z = omega (arith, less, z)

  -- more is to be fetched exactly where a request is left
  settled : (p : Fetched Op) (n : ℕ) (reached : Option Target) (q : Fetched Op)
      → Falls p n
      → Settles linked p reached q
      → Lessens linked p n reached q
  settled p n None q falls (goes_on unreached) =
      elim falls.left as (λ k. falls.left ≡ k → Lessens linked p n None p) [
        | zero ↦ λ z. absurd (false≢true (sym unreached ∙ falls.last z))
        | suc k ↦ λ z. more falls.left (omega (arith, z)) falls.less falls.needs
      ] refl
  settled p n reached q falls (reaches all leads) =
      elim falls.left as (λ k. falls.left ≡ k → Lessens linked p n (Some p.target) p) [
        | zero ↦ λ z. last (one n falls.left falls.less z) leads
        | suc k ↦ λ z. absurd (false≢true (sym (falls.more (omega (arith, z))) ∙ all))
      ] refl
  settled p n reached q falls (misses all other) =
      elim falls.left as (λ k. falls.left ≡ k → Lessens linked p n None (anew p)) [
        | zero ↦ λ z. lost (one n falls.left falls.less z) other
        | suc k ↦ λ z. absurd (false≢true (sym (falls.more (omega (arith, z))) ∙ all))
      ] refl

  -- a response that fits leaves one request less
  pub lessens : (p : Fetched Op) (result : Result (Option Target) SyncFault) (q : Fetched Op)
      (response : Response Op) (n : ℕ)
      → IsWithin p
      → is_reached p ≡ false
      → Progresses linked alone p (Ok response) result q
      → Fits alone p response
      → Needs p n
      → IfOk result (λ reached. Lessens linked (with_response p response) n reached q)
  lessens p result q response n within lacks (served (takes fit settles)) fits needs =
      settled (with_response p response) n _ q
      (requests_fall alone p response n within lacks fits needs) settles
  lessens p result q response n within lacks (served (discards unfit)) fits needs =
      absurd (unfit fits)
  lessens p result q response n within lacks wants fits needs = tt

  same_kind : (p : Fetched Op) (response : Response Op) → IsKind p (with_response p response)
  same_kind p (kind.Boundary before op) = record { target = refl; fetches = refl }
  same_kind p (kind.Operations ops) = record { target = refl; fetches = refl }

  settled_kind : (p r : Fetched Op) (reached : Option Target) (q : Fetched Op)
      → IsKind p r
      → Settles linked r reached q
      → IsKind p q
  settled_kind p r reached q same (goes_on unreached) = same
  settled_kind p r reached q same (reaches all leads) = same
  settled_kind p r reached q same (misses all other) =
      record { target = same.target; fetches = same.fetches }

  -- the target stays
  pub keeps_kind : (p : Fetched Op) (answer : Result (Response Op) ServeFault)
      (result : Result (Option Target) SyncFault) (q : Fetched Op)
      → Progresses linked alone p answer result q
      → IsKind p q
  keeps_kind p (Ok response) result q (served (takes fits settles)) =
      settled_kind p (with_response p response) _ q (same_kind p response) settles
  keeps_kind p (Ok response) result q (served (discards unfit)) =
      record { target = refl; fetches = refl }
  keeps_kind p (Ok response) result q wants = record { target = refl; fetches = refl }
  keeps_kind p (Err e) result q not_served = record { target = refl; fetches = refl }
  keeps_kind p (Err e) result q failed = record { target = refl; fetches = refl }
  keeps_kind p (Err e) result q wanted = record { target = refl; fetches = refl }

-- the target that is answered is the sync's
told_same : (P Q : Target → Type 0) (target : Target) (result : Result (Option Target) SyncFault)
    → IfOk result (λ reached. IfSome reached (λ t. (t ≡ target) × P t × Q t))
    → told target result ≡ result
told_same P Q target (Ok None) is = refl
told_same P Q target (Ok (Some t)) is = ap (λ (x : Target). Ok (Some x)) (sym is.0)
told_same P Q target (Err e) is = refl

-- what a source answers is asked for, and makes of the sync what its answer makes of it
pub asked : {Op S : Type 0} (serve : S → Request → Result (Response Op) ServeFault → S → Type 0)
    (linked : ℕ → Digest → Op → Digest) (alone : Op → Bool) (p : Fetched Op) (source : S)
    (result : Result (Option Target) SyncFault) (q : Fetched Op) (next : S)
    → IsWithin p
    → is_reached p ≡ false
    → ((answer : Result (Response Op) ServeFault)
    × serve source (request p) answer next
    × Progresses linked alone p answer result q)
    → IfOk result (λ reached. IfSome reached (λ t.
    (t ≡ p.target) × (is_reached q ≡ true) × Leads linked q))
    → Asks serve linked alone p source (told p.target result) q next
asked serve linked alone p source result q next within lacks (answer, serves, progresses) is =
    subst (λ r. Asks serve linked alone p source r q next) (sym (told_same (λ t. is_reached q ≡ true) (λ t. Leads linked q) p.target result is))
    (record {
      answer = answer;
      serves = serves;
      progresses = progresses;
      falls = λ response n given fits needs.
          lessens linked alone p result q response n within lacks
          (subst (λ a. Progresses linked alone p a result q) given progresses)
          fits needs;
    })
