-- Marks are in their places after a turn of the live build.
use Rattle.std.proofs.Common.{◌≡◌, ◌≢◌, ◌++◌, ℕ, false, List, [], ◌∷◌, All, Option, None, Some, IfSome, refl, sym, ap, ◌∙◌, subst, append-nil}
use Rattle.std.proofs.lemmas.Bool.{eq-eqb}
use Rattle.std.proofs.lemmas.List.Elements.{All-nil, All-cons}
use Rattle.stateful_base.specs.Names.{Named}
use Rattle.stateful_base.specs.declared.outcome.Handoff.{Handoff}
use Rattle.stateful_base.specs.declared.outcome.Handoff.TheVariants as handed
use Rattle.stateful_history.specs.Answers.{EndsLive, was_cancelled}
use Rattle.stateful_history.specs.Past.{Past, Came, EachMark, after}
use Rattle.stateful_history.specs.Requests.{IsLiveRequest}
use Rattle.stateful_history.specs.declared.event.Event.TheVariants.{Turn}
use Rattle.stateful_history.specs.declared.mark.Decision.{Decision}
use Rattle.stateful_history.specs.declared.mark.How.TheVariants.{Nothing}
use Rattle.stateful_history.specs.declared.mark.JobKind.TheVariants as job
use Rattle.stateful_history.specs.declared.mark.Mark.{Mark}
use Rattle.stateful_history.specs.declared.mark.Mark.TheVariants.{Ended, Declined, Built, Answered}
use Rattle.stateful_exec_model.specs.Built.{decided, Gives, EndsBuild, TurnsBuild, other, goes_on, ends}
use Rattle.stateful_db.specs.declared.application.ProposedBlock.{ProposedBlock}
use Rattle.stateful_exec_model.specs.Moments as exec
use Rattle.stateful_exec_model.specs.Workings.{Workings}
use Rattle.stateful_exec_model.specs.declared.building.Building.{Building}
use Rattle.stateful_exec_model.specs.declared.front.Front.{Front}
use Rattle.stateful_exec_laws.specs.Building.{BuildStands}
use Rattle.stateful_exec_laws.specs.Due.{IsDue}
use Rattle.stateful_exec_laws.specs.Setting.{setting}
use Rattle.stateful_exec_laws.proofs.builds.Marks.{nothing-EndsLive, built-EndsLive}
use Rattle.stateful_loop_model.specs.Moments.{Moment, inner, with_inner}
use Rattle.stateful_loop_laws.specs.Execution.{Executes}
use Rattle.stateful_loop_laws.specs.Places.{EndsNoRun, IsInPlace, HasMovedIn, PlacesKept, PlacesBehind}
use Rattle.stateful_loop_laws.specs.RuleMarks.{IsOfRule}
use Rattle.stateful_loop_laws.proofs.places.Past.{IsAskless}
use Rattle.stateful_loop_laws.proofs.places.Still.{IsHookless, asks-left, places-of, unhooked-after}
use Rattle.stateful_loop_laws.proofs.places.Turned.{other-kind}
use Rattle.stateful_loop_laws.proofs.tickets.Uncancelled.{live-uncancelled}

two : {B : Type 0} (Q : Mark B → Type 0) (x y : Mark B) → Q x → Q y → All Q (x ∷ y ∷ [])
two Q x y h k = All-cons Q x (y ∷ []) h (All-cons Q y [] k (All-nil Q))

module _ {B C I P R D H G U : Type 0} (w : Workings B C I P R D H G U) (stored : ℕ → Option (Named B)) (base : w.States) (p : Past B C I) (j : ℕ)
    (m : Moment w) (e : Executes w stored base p m) (k : PlacesKept w stored (Came (Turn j) ∷ p) m) where
  abbrev given : Past B C I
  given = Came (Turn j) ∷ p

  -- the moment after the turn
  abbrev pub Built_at : exec.Moment w → Option (Building B C D) → Moment w
  Built_at then next = record (with_inner w m then) { execution = record m.execution { state = then.state; build = next } }

  module _ (b : Building B C D) (is : m.execution.build ≡ Some b) (own : b.job ≡ j) where
    stands : BuildStands w stored p e.points m.next m.execution.state (Some b)
    stands = subst (λ (o : Option (Building B C D)). BuildStands w stored p e.points m.next m.execution.state o) is e.builds

    no_front : m.execution.front ≡ None
    no_front = e.alone (rw is refl)

    live : IsLiveRequest b.ticket given
    live = stands.each.proposal.live

    uncancelled : was_cancelled b.ticket given ≡ false
    uncancelled = live-uncancelled given k.past.gone b.ticket _ live

    -- the build has ended
    ended_at : (then : exec.Moment w) (more : List (Mark B)) → then.marks ≡ m.marks ++ more → EachMark (IsInPlace w stored base) given more
        → All IsOfRule more → EachMark EndsNoRun given more → All IsAskless more → All IsHookless more
        → IsDue (setting w stored) (after given more) {R = R} {U = U} {H = H} then.state.cache None
        → then.state.requests ≡ m.execution.state.requests → then.state.queued ≡ m.execution.state.queued
        → (IsLiveRequest b.ticket (after given more) → ⊥) → PlacesBehind w stored base given m (Built_at then None)
    ended_at then more marks each rules ends_none askless hookless due requests queued gone =
        places-of w stored base given m (Built_at then None) more marks each rules ends_none k.past
        (subst (λ (o : Option (Front B R U H)). IsDue (setting w stored) (after given more) then.state.cache o) (sym no_front) due)
        (asks-left w stored given more askless m.execution.state then.state m.execution.build None m.execution.front m.execution.front
        (λ Q all. subst (λ es. All Q es) (sym requests) all)
        (λ u alive out. record {
          elsewhere = record { absent = rw requests at out.elsewhere.absent; not_queued = rw queued at out.elsewhere.not_queued };
          unbuilt = subst (λ (o : Option (Building B C D)). IfSome o (λ x. x.ticket ≢ u)) (sym is)
              (λ same. gone (subst (λ n. IsLiveRequest n (after given more)) (sym same) alive));
        })
        (λ moved. absurd (subst (λ (o : Option (Front B R U H)). HasMovedIn o) no_front moved)) k.asks)
        (λ f captured at some. unhooked-after given more hookless ∙ k.hooks f captured at some)

    due_none : IsDue (setting w stored) given {R = R} {U = U} {H = H} m.execution.state.cache None
    due_none = subst (λ (o : Option (Front B R U H)). IsDue (setting w stored) given m.execution.state.cache o) no_front k.due

    gives : (turned : D) (d : Decision) (then : exec.Moment w) (x : ProposedBlock B U) → Gives w (record b { build = turned }) (inner w m) x d then
        → PlacesBehind w stored base given m (Built_at then None)
    gives turned d then x g =
        let lives = subst (λ (i : ℕ). EachMark (EndsLive (setting w stored)) (Came (Turn i) ∷ p)
        (Built b.job b.ticket g.block ∷ Answered b.ticket (decided b.kind d) g.block ∷ [])) own
        (built-EndsLive w stored base p e.points e.point m.next m.execution.state e.tables b stands g.block (decided b.kind d)) in
        ended_at then (Built b.job b.ticket g.block ∷ Answered b.ticket (decided b.kind d) g.block ∷ [])
        (ap (λ (n : exec.Moment w). n.marks) g.becomes)
        ((lives.0, tt, tt, tt, uncancelled), ((lives.1.0, tt, tt, tt, uncancelled), tt)) (two IsOfRule _ _ tt tt) (tt, (tt, tt))
        (two IsAskless _ _ tt tt)
        (two IsHookless _ _ tt tt) due_none (ap (λ (n : exec.Moment w). n.state.requests) g.becomes)
        (ap (λ (n : exec.Moment w). n.state.queued) g.becomes)
        (λ alive. let own_ticket = eq-eqb b.ticket b.ticket refl in let no = rw own_ticket at alive in cc)

    by : (turned : D) (given_to : Handoff (ProposedBlock B U)) (then : exec.Moment w) → EndsBuild w (record b { build = turned })
        (inner w m) given_to then
        → PlacesBehind w stored base given m (Built_at then None)
    by turned handed.Wait then becomes =
        let lives = subst (λ (i : ℕ). EachMark (EndsLive (setting w stored)) (Came (Turn i) ∷ p)
        (Ended b.job Nothing ∷ Declined b.ticket ∷ [])) own
        (nothing-EndsLive w stored base p e.points e.point m.next m.execution.state e.tables b stands) in
        ended_at then (Ended b.job Nothing ∷ Declined b.ticket ∷ []) (ap (λ (n : exec.Moment w). n.marks) becomes)
        ((lives.0, tt, tt, tt, tt), ((lives.1.0, tt, tt, tt, uncancelled), tt)) (two IsOfRule _ _ tt tt)
        (other-kind b.job given job.Build b.parent.digest (λ no. cc) stands.each.job.is Nothing, (tt, tt)) (two IsAskless _ _ tt tt)
        (two IsHookless _ _ tt tt) due_none (ap (λ (n : exec.Moment w). n.state.requests) becomes)
        (ap (λ (n : exec.Moment w). n.state.queued) becomes)
        (λ alive. let own_ticket = eq-eqb b.ticket b.ticket refl in let no = rw own_ticket at alive in cc)
    by turned (handed.Vote x) then g = gives turned _ then x g
    by turned (handed.Stage x) then g = gives turned _ then x g

  -- the build goes on: it is of the same request
  on_still : (b : Building B C D) (turned : D) → m.execution.build ≡ Some b → PlacesBehind w stored base given m
      (Built_at (inner w m) (Some (record b { build = turned })))
  on_still b turned is =
      places-of w stored base given m _ [] (sym (append-nil m.marks)) tt (All-nil IsOfRule) tt k.past k.due
      (asks-left w stored given [] (All-nil IsAskless) m.execution.state m.execution.state m.execution.build (Some (record b { build = turned }))
      m.execution.front m.execution.front (λ Q all. all)
      (λ u alive out. record {
        elsewhere = out.elsewhere;
        unbuilt = subst (λ (o : Option (Building B C D)). IfSome o (λ x. x.ticket ≢ u)) (sym is) out.unbuilt;
      }) k.asks.nothing k.asks)
      k.hooks

  -- They are, whatever it leads to.
  pub places-build : (count : D → ℕ) (b : Building B C D) → m.execution.build ≡ Some b → b.job ≡ j → (then : exec.Moment w)
      (next : Option (Building B C D))
      → TurnsBuild w count (inner w m) m.execution.build j then next → PlacesBehind w stored base given m (Built_at then next)
  places-build count b is own then next (other off same after_is) = absurd (off b (record { live = is; job = own }))
  places-build count b is own then next (goes_on {b = c} {turned = turned} at had same after_is) =
      subst (λ (o : Option (Building B C D)). PlacesBehind w stored base given m (Built_at then o)) (sym after_is)
      (subst (λ (n : exec.Moment w). PlacesBehind w stored base given m (Built_at n (Some (record c { build = turned })))) (sym same)
      (on_still c turned at.live))
  places-build count b is own then next (ends {b = c} {turned = turned} {given = given_to} at had settles after_is) =
      subst (λ (o : Option (Building B C D)). PlacesBehind w stored base given m (Built_at then o)) (sym after_is)
      (by c at.live at.job turned given_to then settles)
