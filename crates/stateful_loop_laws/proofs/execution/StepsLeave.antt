-- What a turn of a candidate run and what follows its end leave of a pause.
use Rattle.std.proofs.Common.{◌≡◌, ℕ, List, [], ◌∷◌, Option, Result, Ok, Err, refl, sym, ap, ◌∙◌, subst}
use Rattle.stateful_base.specs.Names.{Named}
use Rattle.stateful_base.specs.declared.outcome.Moved.{Moved}
use Rattle.stateful_base.specs.declared.outcome.Moved.TheVariants.{Pending, Done}
use Rattle.stateful_db.specs.declared.application.AppFault.{AppFault}
use Rattle.stateful_history.specs.declared.mark.How.{How}
use Rattle.stateful_exec_model.specs.Ending.{InTurn, none, next, TurnsRun, Follows, SettlesBy, Steps}
use Rattle.stateful_exec_pause.specs.Fates.{Crosses}
use Rattle.stateful_exec_model.specs.Moments.{Moment}
use Rattle.stateful_exec_tables.specs.Phase.{released_on}
use Rattle.stateful_exec_model.specs.Workings.{Workings}
use Rattle.stateful_exec_pause.specs.declared.pause.Pause.{Pause}
use Rattle.stateful_exec_tables.specs.declared.state.Tables.{Tables}
use Rattle.stateful_exec_tables.specs.declared.tables.Released.{Released}
use Rattle.stateful_exec_laws.proofs.earned.Left.{LeavesBehind-follows}

module _ {B C I P R D H G U : Type 0} (w : Workings B C I P R D H G U) where
  follow_pause : (b : Named B) (how : How) (rs : List (Released B C I)) (m last : Moment w) → InTurn (Follows w b how) rs m last
      → last.state.pause ≡ m.state.pause
  follow_pause b how [] m _ none = refl
  follow_pause b how (r ∷ rs) m last (next {n = n} rule rules) =
      follow_pause b how rs n last rules ∙ (LeavesBehind-follows w b how r m n rule).left.pause

  module _ (count : R → ℕ) (m now : Moment w) (j : ℕ) where
    module _ (IsSo : Pause → Type 0) (crossed : (b : Named B) (new : Pause) → Crosses w.header b m.state.pause new → IsSo new)
        (before : IsSo m.state.pause) where
      settled_pause : (running : Tables B C I R U) (answer : Result (Moved (Option U)) AppFault)
          → TurnsRun w count m.members j m.state running answer → SettlesBy w (record m { state = running }) j answer now → IsSo now.state.pause
      settled_pause running (Ok Pending) turns is = rw (is, turns.state) before
      settled_pause running (Ok (Done o)) turns settles =
          let after_it : now.state.pause ≡ settles.ends.pause =
          follow_pause settles.block settles.how (released_on j settles.done.state.requests) _ now settles.follow ∙ ap
          (λ (n : Moment w). n.state.pause) settles.ends.becomes in
          subst IsSo (sym after_it)
          (crossed settles.block settles.ends.pause (subst (λ (x : Pause). Crosses w.header settles.block x settles.ends.pause)
          (ap (λ (v : Tables B C I R U). v.pause) turns.state) settles.ends.crosses))
      settled_pause running (Err fault) turns settles = absurd settles

      -- the pause is what the end of a run may make of it
      pub pause-steps : Steps w count m j now → IsSo now.state.pause
      pause-steps s = settled_pause s.running s.answer s.turns s.settles
