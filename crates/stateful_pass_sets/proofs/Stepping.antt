-- What one request makes of a sync as a set sees it.
use Rattle.std.proofs.Common.{◌≡◌, ℕ, ◌<◌, inl, inr, Bool, true, false, Option, Some, None, is_some}
use Rattle.std.proofs.Common.{Result, Ok, Err, IfOk, IfSome, refl, sym, ap, subst, ◌∙◌, arith}
use Rattle.std.specs.Prelude.{IfErr, IsErrAnd, OnOk}
use Rattle.stateful_base.specs.declared.digest.Digest.{Digest}
use Rattle.stateful_base.specs.declared.target.Target.{Target}
use Rattle.stateful_types.specs.declared.request.Request.{Request}
use Rattle.stateful_types.specs.declared.response.Response.{Response}
use Rattle.stateful_types.specs.declared.response.Response.TheVariants.{Boundary, Operations}
use Rattle.stateful_db.specs.declared.database.DbCall.TheVariants.{Sync}
use Rattle.stateful_db.specs.Calls.{Calls, Tells, Passes, IsListed}
use Rattle.stateful_db_source.specs.declared.source.ServeFault.{ServeFault}
use Rattle.stateful_db_pass.specs.declared.fault.SyncFault.{SyncFault}
use Rattle.stateful_db_pass.specs.declared.fault.SyncFault.TheVariants.{Failed}
use Rattle.stateful_db_pass.specs.Fetched as fetched
use Rattle.stateful_db_pass.specs.Fetched.{Fetched, Fits, with_response}
use Rattle.stateful_db_pass.specs.Counted as counted
use Rattle.stateful_db_pass.specs.Progress.{Progresses, takes, discards, served, wants, not_served}
use Rattle.stateful_db_pass.specs.Progress.{failed, wanted}
use Rattle.stateful_passes.specs.Asks as asks
use Rattle.stateful_passes.specs.Asks.{Asks, MediumFails, SyncCall, Reaches, IsKind, HasCauses}
use Rattle.stateful_passes.specs.Asks.{Lessens, told}
use Rattle.stateful_pass_sets.specs.Seeking.{seeking, seek, is_reached, Needs, fetched_needs}
use Rattle.stateful_pass_sets.specs.Seeking.{seeking_needs}
use Rattle.stateful_pass_sets.specs.Steps.{Steps, stays, more, last, anew, Moves, numbered}
use Rattle.stateful_pass_sets.specs.Steps.{unnumbered, IsFault, CallsSync}

ok_is_not_err : {T E : Type 0} (r : Result T E) (t : T) (e : E) → r ≡ Ok t → r ≡ Err e → ⊥
ok_is_not_err r t e ok err = cc

same_err : {T E : Type 0} (r : Result T E) (d e : E) → r ≡ Err d → r ≡ Err e → d ≡ e
same_err r d e one other = cc

module _ {Op : Type 0} (linked : ℕ → Digest → Op → Digest) (alone : Op → Bool) where
  begins : (p : Fetched Op) (response : Response Op)
      → seek p.target p.fetches ≡ seeking (fetched.anew (with_response p response))
  begins p (Boundary before op) = refl
  begins p (Operations ops) = refl

  lessened : (p : Fetched Op) (response : Response Op) (n : ℕ) (reached : Option Target)
      (q : Fetched Op)
      → IfSome reached (λ t. is_reached (seeking q) ≡ true)
      → Lessens linked (with_response p response) n reached q
      → Steps (seeking p) n (is_some reached) (seeking q)
  lessened p response n None q is (asks.more m some less needs) =
      more m some less (seeking_needs (with_response p response) m needs)
  lessened p response n reached q is (asks.last one leads) = last one is
  lessened p response n None q is (asks.lost one other) =
      subst (Steps (seeking p) n false) (begins p response) anew

  stepped : (p : Fetched Op) (answer : Result (Response Op) ServeFault)
      (result : Result (Option Target) SyncFault) (q : Fetched Op) (n : ℕ)
      → Progresses linked alone p answer result q
      → ((response : Response Op) (n : ℕ)
      → answer ≡ Ok response
      → Fits alone p response
      → counted.Needs p n
      → IfOk result (λ reached. Lessens linked (with_response p response) n reached q))
      → counted.Needs p n
      → IfOk result (λ reached. IfSome reached (λ t. is_reached (seeking q) ≡ true))
      → IfOk result (λ reached. Steps (seeking p) n (is_some reached) (seeking q))
  stepped p (Ok response) (Ok reached) q n (served (takes fits settles)) falls needs is =
      lessened p response n reached q is (falls response n refl fits needs)
  stepped p (Ok response) result q n (served (discards unfit)) falls needs is = anew
  stepped p (Ok response) result q n wants falls needs is = tt
  stepped p (Err e) result q n not_served falls needs is = stays
  stepped p (Err e) result q n failed falls needs is = tt
  stepped p (Err e) result q n wanted falls needs is = tt

  module _ {S : Type 0} (serve : S → Request → Result (Response Op) ServeFault → S → Type 0) where
    -- what a call leaves of a sync
    pub steps : (calls calls_new : Option Calls) (before after : ℕ) (p : Fetched Op) (source : S)
        (result : Result (Option Target) SyncFault) (q : Fetched Op) (next : S)
        → SyncCall calls calls_new (MediumFails before after p source result q next)
        (Asks serve linked alone p source result q next)
        → IfOk result (λ reached. IfSome reached (λ t. is_reached (seeking q) ≡ true))
        → (n : ℕ)
        → Needs (seeking p) n
        → IfOk result (λ reached. Steps (seeking p) n (is_some reached) (seeking q))
    steps calls calls_new before after p source result q next call is n needs =
        elim call.either [
          | inl fails ↦
              subst
              (λ r. IfOk r (λ reached. Steps (seeking p) n (is_some reached) (seeking q)))
              (sym fails.fails) tt
          | inr asked ↦
              stepped p asked.answer result q n asked.progresses asked.falls
              (fetched_needs p n needs) is
        ]

    -- what a call makes of a sync, as a set of one database sees it
    pub moves : {T : Type 0} (targeted : T → Target) (calls calls_new : Option Calls)
        (before after : ℕ) (p : Fetched Op) (source : S) (result : Result (Option T) SyncFault)
        (q : Fetched Op) (next : S)
        → SyncCall calls calls_new
        (MediumFails before after p source (told p.target result) q next)
        (Asks serve linked alone p source (told p.target result) q next)
        → IfOk result (λ reached. IfSome reached (λ t. Reaches linked targeted p q t))
        → IsKind p q
        → Moves targeted (seeking p) (numbered targeted result) (seeking q)
    moves targeted calls calls_new before after p source (Ok None) q next call is same = record {
      target = λ targets from. tt;
      reached = tt;
      same = record { target = same.target; fetches = same.fetches };
      steps = steps calls calls_new before after p source (Ok None) q next call tt;
    }
    moves targeted calls calls_new before after p source (Ok (Some t)) q next call is same =
        record {
          target = λ targets from. ap targeted (is.target targets from) ∙ sym from;
          reached = is.reached;
          same = record { target = same.target; fetches = same.fetches };
          steps =
              steps calls calls_new before after p source (Ok (Some p.target)) q next call is.reached;
        }
    moves targeted calls calls_new before after p source (Err e) q next call is same = record {
      target = λ targets from. tt;
      reached = tt;
      same = record { target = same.target; fetches = same.fetches };
      steps = steps calls calls_new before after p source (Err e) q next call tt;
    }

listed_as : {P Q : Type 0} (calls : Option Calls)
    → IfSome calls (λ c. IsListed c Sync → P)
    → (P → Q)
    → IfSome calls (λ c. IsListed c Sync → Q)
listed_as None listed then = tt
listed_as (Some c) listed then = λ is. then (listed is)

unlisted_as : {P : Type 0} (calls : Option Calls)
    → IfSome calls (λ c. IsListed c Sync → P)
    → (P → ⊥)
    → IfSome calls (λ c. IsListed c Sync → ⊥)
unlisted_as None listed isnt = tt
unlisted_as (Some c) listed isnt = λ is. isnt (listed is)

module _ {T : Type 0} (targeted : T → Target) where
  -- the number of the database tells nothing of its sync
  pub same_told : (target : Target) (result : Result (Option T) SyncFault)
      → told target (unnumbered (numbered targeted result)) ≡ told target result
  same_told target (Ok None) = refl
  same_told target (Ok (Some t)) = refl
  same_told target (Err e) = refl

  -- why a call failed
  pub faults : (index source source_new count count_new : ℕ)
      (result : Result (Option T) SyncFault)
      → index < 1
      → HasCauses source source_new count count_new result
      → IfErr (numbered targeted result)
      (λ e. IsFault index source source_new count count_new e)
  faults index source source_new count count_new (Ok None) within causes = tt
  faults index source source_new count count_new (Ok (Some t)) within causes = tt
  faults index source source_new count count_new (Err e) within causes = record {
    index_is = omega (arith, within);
    failed = λ is. causes.failed (ap Err is);
    valid = λ is. causes.valid (ap Err is);
  }

  module _ {Fails : Type 0} (target : Target) (calls calls_new : Option Calls) where
    passes : (result : Result (Option T) SyncFault)
        → (Fails → told target result ≡ Err Failed)
        → Tells Sync calls calls_new
        → IfSome calls (λ c. IsListed c Sync → Fails)
        → OnOk (numbered targeted result) (Passes Sync calls calls_new)
    passes (Err e) refused called listed = tt
    passes (Ok None) refused called listed = record {
      told = called;
      unlisted = unlisted_as calls listed
          (λ fails. ok_is_not_err (Ok None) None Failed refl (refused fails));
    }
    passes (Ok (Some t)) refused called listed = record {
      told = called;
      unlisted = unlisted_as calls listed
          (λ fails. ok_is_not_err (Ok (Some target)) (Some target) Failed refl (refused fails));
    }

    fails : (result : Result (Option T) SyncFault)
        → (Fails → told target result ≡ Err Failed)
        → IfSome calls (λ c. IsListed c Sync → Fails)
        → IfSome calls (λ c. IsListed c Sync
        → IsErrAnd (numbered targeted result) (λ e. e.why ≡ Failed))
    fails (Ok None) refused listed =
        listed_as calls listed
        (λ fails. absurd (ok_is_not_err (Ok None) None Failed refl (refused fails)))
    fails (Ok (Some t)) refused listed =
        listed_as calls listed
        (λ fails.
        absurd (ok_is_not_err (Ok (Some target)) (Some target) Failed refl (refused fails)))
    fails (Err e) refused listed =
        listed_as calls listed
        (λ fails. same_err {T = Option Target} (Err e) e Failed refl (refused fails))

    called : {Asked : Type 0} (result : Result (Option T) SyncFault)
        → (Fails → told target result ≡ Err Failed)
        → SyncCall calls calls_new Fails Asked
        → CallsSync calls calls_new (numbered targeted result)
    called result refused call = record {
      told = call.told;
      passes = passes result refused call.told call.listed;
      listed = fails result refused call.listed;
    }

  -- what the call on its medium makes of the call of a set of one database
  pub calls_sync : {Op S Asked : Type 0} (calls calls_new : Option Calls) (before after : ℕ)
      (p : Fetched Op) (source : S) (result : Result (Option T) SyncFault) (q : Fetched Op)
      (next : S)
      → SyncCall calls calls_new
      (MediumFails before after p source (told p.target result) q next) Asked
      → CallsSync calls calls_new (numbered targeted result)
  calls_sync calls calls_new before after p source result q next call =
      called p.target calls calls_new result (λ fails. fails.fails) call
