-- True verdicts are earned: those of a request that acquires what it needs, where what is at hand is known.
use Rattle.std.proofs.Common.{◌≡◌, [], ℕ, List, All, Option, refl, subst, sym}
use Rattle.stateful_base.specs.Names.{Named}
use Rattle.stateful_base.specs.declared.digest.Digest.{Digest}
use Rattle.stateful_history.specs.Known.{Known}
use Rattle.stateful_history.specs.Met.{Met}
use Rattle.stateful_history.specs.Past.{Past}
use Rattle.stateful_exec_cache.specs.Cache.{IsAtHand}
use Rattle.stateful_exec_model.specs.Moments.{Moment}
use Rattle.stateful_exec_model.specs.Rules.{Needs, Concludes, Acquires, valid, invalid, asks, waits, runs}
use Rattle.stateful_exec_tables.specs.Tables.{requested}
use Rattle.stateful_exec_walk.specs.Walk.{IsNeeded, child, IsVerified, IsPrepared}
use Rattle.stateful_exec_walk.specs.Walk as walk
use Rattle.stateful_exec_model.specs.Workings.{Workings, Point}
use Rattle.stateful_exec_walk.specs.declared.request.Request.{Request}
use Rattle.stateful_exec_walk.specs.declared.request.Request.TheVariants.{Verify, Recover}
use Rattle.stateful_exec_walk.specs.declared.request.Verdict.TheVariants as verdict
use Rattle.stateful_exec_tables.specs.declared.tables.Requested.{Requested}
use Rattle.stateful_exec_walk.specs.declared.walk.Acquired.TheVariants as acquired
use Rattle.stateful_exec_laws.specs.Setting.{setting}
use Rattle.stateful_exec_laws.specs.Requesting.{first_of, IsRequestOf}
use Rattle.stateful_exec_laws.specs.Standing.{TablesStand, IsInHand}
use Rattle.stateful_exec_laws.proofs.requests.Acquired.{IsWayOf-ready}
use Rattle.stateful_exec_laws.proofs.linked.ReadyWalks.{ready-at_hand}
use Rattle.stateful_exec_laws.proofs.earned.Path.{IsFolded}
use Rattle.stateful_exec_laws.specs.Storing.{IsStoredNow}
use Rattle.stateful_exec_laws.proofs.earned.Judged.{Earned-judged}
use Rattle.stateful_exec_laws.proofs.earned.Marks.{EarnsBehind, IsTrue, concludes-Earned, concludes-invalid, advances-Earned}

module _ {B C I P R D H G U : Type 0} (w : Workings B C I P R D H G U) (stored : ℕ → Option (Named B)) (base : w.States) (p : Past B C I) (points : Digest → Point w) (point : Point w) (m : Moment w) (s : TablesStand w stored p points point m.next m.state)
    (t : ℕ) (knows : (d : Digest) → IsAtHand m.state.anchor m.state.cache d → Known (setting w stored) p d) (folded : IsFolded w stored base p m.state.anchor m.state.anchor point) (stored_now : ℕ → Option (Named B)) (stored_is : IsStoredNow stored p stored_now) where
  -- what is walked from ends with no verdict that is true
  not_needed : {b : Named B} {chain : List (Named B)} → IsNeeded w.header m.state.anchor m.state.cache b chain acquired.Valid → ⊥
  not_needed (child e is walks) = walks

  -- a block that needs nothing is joined or final
  verified-Earned : {b : Named B} {chain : List (Named B)} → IsVerified w.header m.state.anchor m.state.cache stored_now b chain acquired.Valid → IsTrue w stored base p b
  verified-Earned {b = b} (walk.valid judged) = Earned-judged w stored base p points point m.next m.state s knows folded stored_now stored_is b judged
  verified-Earned (walk.runs judged needed) = absurd (not_needed needed)

  -- a request that needs nothing is of a block that is joined or final, or is a proposal
  valid-Earned : (r : Requested B C I) (now : Moment w) → IsRequestOf w stored p t r.request → (request : Request B C I) → r.request ≡ request → Needs w stored_now m (record r { request = request }) acquired.Valid → Concludes w m t r verdict.Valid now → EarnsBehind w stored base p m now
  valid-Earned r now asked (Verify u ancestry) is needs concludes = concludes-Earned w stored base p points point m s t r asked now (subst (λ (x : Request B C I). IsTrue w stored base p (first_of x)) (sym is) (verified-Earned needs)) concludes
  valid-Earned r now asked (Recover u context ancestry input kind) is needs concludes = absurd needs

  -- each mark of a request that acquires what it needs keeps the rule
  pub acquires-Earned : (r : Requested B C I) (now : Moment w) → IsInHand w stored p t r.request m.state → All (Met (setting w stored) p) r.acquired → Acquires w stored_now m t r now → EarnsBehind w stored base p m now
  acquires-Earned r now hand met (valid needs concludes) = valid-Earned r now hand.asked r.request refl needs concludes
  acquires-Earned r now hand met (invalid needs concludes) = concludes-invalid w stored base p points point m s t r hand.asked now concludes
  acquires-Earned r now hand met (asks digest needs left becomes) = rw becomes (record { more = _; marks_are = refl; each = (tt, tt) })
  acquires-Earned r now hand met (waits needs becomes) = rw becomes (record { more = []; marks_are = refl; each = tt })
  acquires-Earned r now hand met (runs {path = path} needs advances) =
      advances-Earned w stored base p points point m s t (requested r.request) hand.asked m.state.anchor folded path now
      (λ b b_met passed. knows b.digest passed.1) (λ none. let here = ready-at_hand w.header m.state.anchor m.state.cache stored_now r.request r.acquired path needs in (knows path.parent.digest here, here)) (IsWayOf-ready w stored p m.state.anchor m.state.cache stored_now r.request r.acquired path hand.brought met needs) advances
