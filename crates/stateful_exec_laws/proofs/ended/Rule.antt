-- The tables stand after the end of a run in its turn, by the rules of execution.
use Rattle.std.proofs.Common.{◌≡◌, ◌≢◌, ◌<◌, ◌==◌, ℕ, Bool, true, false, List, [], ◌∷◌, All, AllPairs, Option, Some, Ok, refl, sym, ap, ◌∙◌, subst}
use Rattle.std.specs.Ordering.{nat_cmp, match_ordering, MatchOrdering}
use Rattle.std.specs.declared.cmp.Ordering.{Ordering}
use Rattle.std.specs.declared.cmp.Ordering.TheVariants.{Less, Equal, Greater}
use Rattle.std.proofs.lemmas.Bool.{eq-eqb, eqb-false}
use Rattle.std.proofs.lemmas.Cmp.{ranked}
use Rattle.stateful_base.specs.Names.{Header, Named}
use Rattle.stateful_base.specs.declared.digest.Digest.{Digest}
use Rattle.stateful_base.specs.declared.outcome.Moved.TheVariants.{Done}
use Rattle.stateful_history.specs.Anchors.{tip_of}
use Rattle.stateful_history.specs.Past.{Past, Came, Made}
use Rattle.stateful_history.specs.Met.{TrueNames}
use Rattle.stateful_history.specs.declared.event.Event.TheVariants.{Turn}
use Rattle.stateful_history.specs.declared.mark.How.{How}
use Rattle.stateful_history.specs.declared.mark.Mark.TheVariants.{Ended}
use Rattle.stateful_table.specs.Table.{at, put, without}
use Rattle.stateful_table.proofs.Tables.{at-put}
use Rattle.stateful_exec_pause.specs.Boundary.{Boundary}
use Rattle.stateful_exec_pause.specs.Fates.{Crosses}
use Rattle.stateful_exec_tables.specs.Tables.{released}
use Rattle.stateful_exec_model.specs.Ending.{IsTold, EndsRun, TurnsRun}
use Rattle.stateful_exec_model.specs.Moments.{Moment}
use Rattle.stateful_exec_tables.specs.Phase.{released_on, not_on}
use Rattle.stateful_exec_model.specs.Workings.{Workings, Point}
use Rattle.stateful_exec_pause.specs.declared.pause.Pause.{Pause}
use Rattle.stateful_exec_pause.specs.declared.pause.Pause.TheVariants.{Free, Finalizing, Pruning}
use Rattle.stateful_exec_tables.specs.declared.state.Tables.{Tables}
use Rattle.stateful_exec_tables.specs.declared.tables.LiveRun.{LiveRun}
use Rattle.stateful_exec_laws.specs.Setting.{setting}
use Rattle.stateful_exec_laws.specs.Standing.{TablesStand}
use Rattle.stateful_exec_laws.proofs.ended.Runs.{Moves}
use Rattle.stateful_exec_laws.proofs.ended.Requests.{IsTakenOut}
use Rattle.stateful_exec_laws.proofs.ended.Stands.{IsLeftBy}
use Rattle.stateful_exec_laws.proofs.ended.Kept.{IsRoundOf}
use Rattle.stateful_exec_laws.proofs.ended.Finalizing.{Finalizes}
use Rattle.stateful_exec_laws.proofs.ended.Over.{IsLeftOver, IsLeftOver-told}
use Rattle.stateful_exec_laws.proofs.ended.Told.{IsPlain, IsLeftBy-told}

-- a value that is put, and taken out again
pub without_put : {V : Type 0} (es : List (ℕ × V)) (t : ℕ) (v : V) → without (put es t v) t ≡ without es t
without_put [] t v = rw (eq-eqb t t refl) refl
without_put {V = V} (e ∷ es) t v = go (nat_cmp t e.0) (ranked t e.0 (nat_cmp t e.0) refl) (e.0 == t) refl (without_put es t v)
  where
    go : (o : Ordering) → MatchOrdering o (t < e.0) (t ≡ e.0) (e.0 < t) → (b : Bool) → (e.0 == t) ≡ b → without (put es t v) t ≡ without es t
        → without (match_ordering o ((t, v) ∷ e ∷ es) ((e.0, v) ∷ es) (e ∷ put es t v)) t ≡ without (e ∷ es) t
    go Less lt b is rest = rw (eq-eqb t t refl) refl
    go Equal same true is rest = rw is refl
    go Equal same false is rest = absurd (eqb-false e.0 t is (sym same))
    go Greater gt true is rest = rw is rest
    go Greater gt false is rest = rw is (ap (λ es. e ∷ es) rest)

-- where no finalization goes on, the pause stays
pub plain_stays : {B : Type 0} (header : Header B) (b : Named B) (old new : Pause) → IsPlain old → Crosses header b old new → new ≡ old
plain_stays header b Free new plain crosses = crosses
plain_stays header b Pruning new plain crosses = crosses
plain_stays header b (Finalizing boundary) new plain crosses = absurd plain

module _ {B C I P R D H G U : Type 0} (w : Workings B C I P R D H G U) (stored : ℕ → Option (Named B)) where
  -- What stands after a past where the run of a job of this block has ended: the tables without the requests that waited for
  -- it, and these are in hand, each of another ticket.
  pub record IsReleased (p : Past B C I) (point : Point w) (j : ℕ) (b : Named B) (m : Moment w) : Type 0 where
    pub points : Digest → Point w
    pub tables : TablesStand w stored p points point m.next (released j m.state)
    pub in_hand : All (IsTakenOut w stored p (not_on j m.state.requests) m.state.queued b) (released_on j m.state.requests)
    pub apart : AllPairs (λ r s. r.ticket ≢ s.ticket) (released_on j m.state.requests)

  -- and what was at hand has gone over to its points from these
  pub record IsReleasedFrom (before : Past B C I) (points : Digest → Point w) (old : Tables B C I R U) (p : Past B C I) (point : Point w) (j : ℕ) (b : Named B) (m : Moment w) : Type 0 where
    pub released : IsReleased p point j b m
    pub moves : Moves w stored before p points released.points old.anchor old.cache

  -- a finalization goes on
  pub record GoesOn (p : Past B C I) (m : Moment w) : Type 0 where
    pub boundary : Boundary
    pub pause_is : m.state.pause ≡ Finalizing boundary
    pub goes_on : Finalizes w stored p m.state.anchor m.state.cache boundary

  module _ (p : Past B C I) (point : Point w) (m : Moment w) (j : ℕ) (b : Named B) (o : Option U) (how : How) (now : Moment w) where
    abbrev q : Past B C I
    q = Made (Ended j how) ∷ Came (Turn j) ∷ p

    module _ (live : LiveRun B R) (live_is : at m.state.runs j ≡ Some live) (turned : R) where
      abbrev running : Tables B C I R U
      running = record m.state { runs = put m.state.runs j (record live { run = turned }) }

      module _ (ends : EndsRun w (record m { state = running }) j b o how now) where
        same_run : record live { run = turned } ≡ ends.run
        same_run = let found : Some (record live { run = turned }) ≡ Some ends.run = rw (at-put m.state.runs j (record live { run = turned }) j, eq-eqb j j refl) at ends.live in search

        pub same_block : live.block ≡ b
        same_block = ap (λ (r : LiveRun B R). r.block) same_run ∙ ends.block_is

        pub told_so : IsTold w m.state.anchor live.block m.state.cache ends.cache o how
        told_so = subst (λ (c : Named B). IsTold w m.state.anchor c m.state.cache ends.cache o how) (sym same_block) ends.told

        pub crosses_so : Crosses w.header live.block m.state.pause ends.pause
        crosses_so = subst (λ (c : Named B). Crosses w.header c m.state.pause ends.pause) (sym same_block) ends.crosses

        -- what is left by the end of a run stands after its rule
        IsReleasedFrom-left : (points : Digest → Point w) → IsLeftBy w stored p point m.next m.state j live how points ends.cache ends.pause → IsReleasedFrom p points m.state q point j b now
        IsReleasedFrom-left points stands =
            subst (λ (n : Moment w). IsReleasedFrom p points m.state q point j b n) (sym ends.becomes) (record {
              moves = stands.moves;
              released = record {
                points = stands.points;
                tables = rw (without_put m.state.runs j (record live { run = turned })) stands.tables;
                in_hand = subst (λ (c : Named B). All (IsTakenOut w stored q (not_on j m.state.requests) m.state.queued c) (released_on j m.state.requests)) same_block stands.released;
                apart = stands.apart;
              };
            })

        GoesOn-from : (points : Digest → Point w) → IsLeftOver w stored p point m.next m.state j live points how ends.cache ends.pause → GoesOn q now
        GoesOn-from points stands = subst (λ (n : Moment w). GoesOn q n) (sym ends.becomes) (record { boundary = stands.boundary; pause_is = stands.pause_is; goes_on = stands.goes_on })

    module _ (points : Digest → Point w) (s : TablesStand w stored p points point m.next m.state) (here : w.kind.point m.members ≡ Some point) (names : TrueNames (setting w stored) p) (round : IsRoundOf w stored p m.state.anchor) where
      -- The tables stand after the end of a run in its turn, where no finalization goes on, and the requests that waited for
      -- it are in hand.
      pub IsReleasedFrom-plain : IsPlain m.state.pause → tip_of w.header p ≡ Some m.state.anchor → (count : R → ℕ) (running : Tables B C I R U) → TurnsRun w count m.members j m.state running (Ok (Done o)) → EndsRun w (record m { state = running }) j b o how now
          → IsReleasedFrom p points m.state (Made (Ended j how) ∷ Came (Turn j) ∷ p) point j b now
      IsReleasedFrom-plain plain tip count after turns ends =
          let e : EndsRun w (record m { state = running turns.live turns.live_is turns.turned }) j b o how now = subst (λ (t : Tables B C I R U). EndsRun w (record m { state = t }) j b o how now) turns.state ends in
          IsReleasedFrom-left turns.live turns.live_is turns.turned e points
          (subst (λ x. IsLeftBy w stored p point m.next m.state j turns.live how points e.cache x)
          (sym (plain_stays w.header turns.live.block m.state.pause e.pause plain (crosses_so turns.live turns.live_is turns.turned e)))
          (IsLeftBy-told w stored p points point m.next m.state s j turns.live turns.live_is m.members here turns.turned names round plain tip e.cache turns.turns (told_so turns.live turns.live_is turns.turned e)))

      -- The tables stand after the end of a run in its turn, while a finalization goes on, and the requests that waited for
      -- it are in hand. The finalization goes on.
      pub IsReleasedFrom-over : GoesOn p m → (count : R → ℕ) (running : Tables B C I R U) → TurnsRun w count m.members j m.state running (Ok (Done o)) → EndsRun w (record m { state = running }) j b o how now
          → IsReleasedFrom p points m.state (Made (Ended j how) ∷ Came (Turn j) ∷ p) point j b now × GoesOn (Made (Ended j how) ∷ Came (Turn j) ∷ p) now
      IsReleasedFrom-over over count after turns ends =
          let e : EndsRun w (record m { state = running turns.live turns.live_is turns.turned }) j b o how now = subst (λ (t : Tables B C I R U). EndsRun w (record m { state = t }) j b o how now) turns.state ends in
          let left : IsLeftOver w stored p point m.next m.state j turns.live points how e.cache e.pause =
          IsLeftOver-told w stored p points point m.next m.state s names round j turns.live turns.live_is over.boundary over.goes_on over.pause_is m.members here turns.turned e.cache e.pause turns.turns
          (told_so turns.live turns.live_is turns.turned e)
          (subst (λ x. Crosses w.header turns.live.block x e.pause) over.pause_is (crosses_so turns.live turns.live_is turns.turned e)) in
          (IsReleasedFrom-left turns.live turns.live_is turns.turned e points left.leaves, GoesOn-from turns.live turns.live_is turns.turned e points left)
