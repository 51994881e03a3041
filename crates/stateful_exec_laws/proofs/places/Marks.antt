-- The rules on the marks that requests make, but for why: which tickets they name, new numbers, what is asked and what is started.
use Rattle.std.proofs.Common.{◌≡◌, ℕ, false, Option, None, Some, refl, sym, ◌∙◌, arith}
use Rattle.stateful_history.specs.Answers.{EndsLive, was_cancelled, NamesNoCancelled}
use Rattle.stateful_history.specs.Asked.{started, asked_for}
use Rattle.stateful_history.specs.Fetches.{AskedIsNeeded}
use Rattle.stateful_history.specs.Jobs.{JobOf, started_for}
use Rattle.stateful_history.specs.Numbers.{NumberIsNew}
use Rattle.stateful_history.specs.Past.{Past, EachMark}
use Rattle.stateful_history.specs.Runs.{StartsWell}
use Rattle.stateful_history.specs.declared.mark.Mark.{Mark}
use Rattle.stateful_base.specs.Names.{Named}
use Rattle.stateful_exec_model.specs.Moments.{Moment}
use Rattle.stateful_exec_tables.specs.Tables.{told}
use Rattle.stateful_exec_model.specs.Rules.{Concludes}
use Rattle.stateful_exec_model.specs.Workings.{Workings}
use Rattle.stateful_exec_walk.specs.declared.request.Request.{Request}
use Rattle.stateful_exec_walk.specs.declared.request.Request.TheVariants.{Verify, Recover}
use Rattle.stateful_exec_walk.specs.declared.request.Verdict.{Verdict}
use Rattle.stateful_exec_walk.specs.declared.request.Verdict.TheVariants as verdict
use Rattle.stateful_exec_tables.specs.declared.tables.Requested.{Requested}
use Rattle.stateful_exec_laws.specs.Setting.{setting}
use Rattle.stateful_exec_laws.specs.Requesting.{IsRequestOf}
use Rattle.stateful_exec_laws.specs.Standing.{NumbersStand}
use Rattle.stateful_exec_laws.proofs.ended.Known.{started-by}
use Rattle.stateful_exec_laws.proofs.requests.KeptMarks.{KeepsBehind}

module _ {B C I : Type 0} (p : Past B C I) (next_job next_fetch : ℕ) (numbers : NumbersStand p next_job next_fetch) where
  unstarted : (o : Option JobOf) → started_for next_job p ≡ o → started next_job p ≡ None
  unstarted None is = started-by next_job p ∙ rw is refl
  unstarted (Some job) is = let l = numbers.jobs next_job (λ none. let no = sym is ∙ none in cc) in let no : ⊥ = omega (arith, l) in absurd no

  -- no job has the next number, and no fetch
  pub started-next : started next_job p ≡ None
  started-next = unstarted (started_for next_job p) refl

  unasked : (o : Option (Option ℕ)) → asked_for next_fetch p ≡ o → asked_for next_fetch p ≡ None
  unasked None is = is
  unasked (Some ticket) is = let l = numbers.fetches next_fetch (λ none. let no = sym is ∙ none in cc) in let no : ⊥ = omega (arith, l) in absurd no

  pub asked-next : asked_for next_fetch p ≡ None
  asked-next = unasked (asked_for next_fetch p) refl

module _ {B C I P R D H G U : Type 0} (w : Workings B C I P R D H G U) (stored : ℕ → Option (Named B)) (base : w.States) where
  -- A mark names a live ticket where it ends a request, begins under a new number, asks what is needed and starts what may run.
  -- No mark names a request that was cancelled.
  abbrev pub IsInPlace : Past B C I → Mark B → Type 0
  IsInPlace p mark = EndsLive (setting w stored) p mark × NumberIsNew p mark × AskedIsNeeded (setting w stored) base p mark × StartsWell (setting w stored) p mark × NamesNoCancelled p mark

  told-in_place : (p : Past B C I) (t : ℕ) (request : Request B C I) (v : Verdict) → IsRequestOf w stored p t request → was_cancelled t p ≡ false → EachMark IsInPlace p (told t request v)
  told-in_place p t (Verify u ancestry) verdict.Valid asked live = (((ancestry.first, asked), tt, tt, tt, live), tt)
  told-in_place p t (Verify u ancestry) verdict.Invalid asked live = (((ancestry.first, asked), tt, tt, tt, live), tt)
  told-in_place p t (Recover u context ancestry input kind) verdict.Valid asked live = tt
  told-in_place p t (Recover u context ancestry input kind) verdict.Invalid asked live = (((record { kind = kind; context = context; parent = ancestry.first; input = input }, asked), tt, tt, tt, live), tt)

  -- so does a request that ends
  pub concludes-in_place : (p : Past B C I) (m : Moment w) (t : ℕ) (r : Requested B C I) (v : Verdict) (now : Moment w) → IsRequestOf w stored p t r.request → was_cancelled t p ≡ false → Concludes w m t r v now → KeepsBehind w IsInPlace p m now
  concludes-in_place p m t r v now asked live is = rw is (record { more = _; marks_are = refl; each = told-in_place p t r.request v asked live })
