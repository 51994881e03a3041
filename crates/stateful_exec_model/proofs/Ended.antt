-- Ends of runs, step by step.
use Rattle.std.proofs.Common.{◌≡◌, ◌++◌, ◌∷◌, [], ℕ, List, Option, Some, refl, ap, ◌∙◌, subst}
use Rattle.stateful_history.specs.declared.mark.How.{How}
use Rattle.stateful_history.specs.declared.mark.Mark.{Mark}
use Rattle.stateful_history.specs.declared.mark.Mark.TheVariants as mark
use Rattle.stateful_table.specs.Table.{at, without}
use Rattle.stateful_exec_model.specs.Workings.{Workings}
use Rattle.stateful_exec_model.specs.Moments.{moment}
use Rattle.stateful_exec_model.specs.Ending.{IsTold, EndsRun}
use Rattle.stateful_exec_pause.specs.Fates.{Crosses}
use Rattle.stateful_exec_pause.specs.declared.pause.Pause.{Pause}
use Rattle.stateful_exec_tables.specs.declared.state.Tables.{Tables}
use Rattle.stateful_exec_tables.specs.declared.tables.LiveRun.{LiveRun}

module _ {B C I P R D H G U : Type 0} (w : Workings B C I P R D H G U) (old taken mid new : Tables B C I R U) (before after : List (Mark B)) (j : ℕ) (live : LiveRun B R) (ended : Option U) (how : How) where
  -- its run is taken out, its end is told, and its block goes on over a finalization or not
  pub ends_run : at old.runs j ≡ Some live → taken ≡ record old { runs = without old.runs j }
      → IsTold w taken.anchor live.block taken.cache mid.cache ended how → mid ≡ record taken { cache = mid.cache }
      → Crosses w.header live.block mid.pause new.pause → new ≡ record mid { pause = new.pause }
      → after ≡ before ++ mark.Ended j how ∷ []
      → (members : w.kind.Members) (next : w.Ids) → EndsRun w (moment w old members next before) j live.block ended how (moment w new members next after)
  ends_run there out told cached crosses paused marks members next = record {
    run = live;
    live = there;
    block_is = refl;
    cache = mid.cache;
    told = subst (λ (t : Tables B C I R U). IsTold w t.anchor live.block t.cache mid.cache ended how) out told;
    pause = new.pause;
    crosses = subst (λ (p : Pause). Crosses w.header live.block p new.pause) (ap (λ (t : Tables B C I R U). t.pause) cached ∙ ap (λ (t : Tables B C I R U). t.pause) out) crosses;
    becomes =
        let state : new ≡ record old { cache = mid.cache; runs = without old.runs j; pause = new.pause } =
        paused ∙ ap (λ (t : Tables B C I R U). record t { pause = new.pause }) cached ∙ ap (λ (t : Tables B C I R U). record t { cache = mid.cache; pause = new.pause }) out in
        ap (λ (t : Tables B C I R U). moment w t members next after) state ∙ ap (λ ms. moment w (record old { cache = mid.cache; runs = without old.runs j; pause = new.pause }) members next ms) marks;
  }
