-- What the end of a candidate run lets go, wherever execution is placed.
use Rattle.std.proofs.Common.{◌≡◌, inl, inr, ℕ, ◌∷◌, Option, Some, None, Ok, sym, ap, ◌∙◌, subst}
use Rattle.stateful_base.specs.Names.{Named}
use Rattle.stateful_base.specs.Anchor.{anchor_by}
use Rattle.stateful_base.specs.declared.anchor.Anchor.{Anchor}
use Rattle.stateful_base.specs.declared.digest.Digest.{Digest}
use Rattle.stateful_base.specs.declared.outcome.Moved.TheVariants.{Done}
use Rattle.stateful_history.specs.Met.{TrueNames}
use Rattle.stateful_history.specs.Past.{Past, Came, Made}
use Rattle.stateful_history.specs.declared.event.Event.TheVariants.{Turn}
use Rattle.stateful_history.specs.declared.mark.How.{How}
use Rattle.stateful_history.specs.declared.mark.Mark.TheVariants.{Ended}
use Rattle.stateful_exec_model.specs.Ending.{EndsRun, TurnsRun}
use Rattle.stateful_exec_model.specs.Moments.{Moment}
use Rattle.stateful_exec_model.specs.Workings.{Workings, Point}
use Rattle.stateful_exec_model.specs.declared.front.Front.{Front}
use Rattle.stateful_exec_model.specs.declared.front.Stage.{Stage}
use Rattle.stateful_exec_model.specs.declared.front.Stage.TheVariants.{Begun, Running, Ran, Advanced, Hooking}
use Rattle.stateful_exec_pause.specs.declared.pause.Pause.{Pause}
use Rattle.stateful_exec_pause.specs.declared.pause.Pause.TheVariants.{Free}
use Rattle.stateful_exec_tables.specs.declared.state.Tables.{Tables}
use Rattle.stateful_exec_laws.specs.Ground.{IsFolded}
use Rattle.stateful_exec_laws.specs.Setting.{setting}
use Rattle.stateful_exec_laws.specs.Standing.{TablesStand}
use Rattle.stateful_exec_laws.proofs.ended.Kept.{IsRoundOf}
use Rattle.stateful_exec_laws.proofs.ended.Rule.{GoesOn, IsReleased, plain_stays, IsReleasedFrom-plain, IsReleasedFrom-over}
use Rattle.stateful_exec_laws.proofs.ended.Told.{IsPlain}
use Rattle.stateful_exec_laws.proofs.front.MovedStands.{HasMoved-ended, IsReleasedFrom-moved}
use Rattle.stateful_exec_laws.proofs.reasons.Ground.{round_of_top}
use Rattle.stateful_loop_laws.specs.Execution.{IsFree, IsPausedFor, HasMovedOn, IsPlacedAt, IsPlaced}
use Rattle.stateful_loop_laws.proofs.earned.Off.{IsClosedIn}
use Rattle.stateful_loop_laws.proofs.earned.Turned.{IsOpen}
use Rattle.stateful_loop_laws.proofs.places.PlacedBehind.{round_of_block}

module _ {B C I P R D H G U : Type 0} (w : Workings B C I P R D H G U) (stored : ℕ → Option (Named B)) (base : w.States) (p : Past B C I)
    (point : Point w) (m : Moment w) (j : ℕ) (b : Named B) (how : How) (done : Moment w) where
  -- After the end of a run the requests that waited for it are in hand, what is cached and goes on over a finalization is compatible
  -- with it, or its block is the anchor; and the databases are where the applied blocks lead to.
  pub record IsLetGo : Type 0 where
    pub names : TrueNames (setting w stored) p
    pub tip : Anchor
    pub folded : IsFolded w stored base p m.state.anchor tip point
    pub round : IsRoundOf w stored p m.state.anchor
    pub released : IsReleased w stored (Made (Ended j how) ∷ Came (Turn j) ∷ p) point j b done
    pub free_way : IsOpen done.state

  module _ (points : Digest → Point w) (s : TablesStand w stored p points point m.next m.state) (located : w.kind.point m.members ≡ Some point)
      (count : R → ℕ) (o : Option U) (running : Tables B C I R U) (turns : TurnsRun w count m.members j m.state running (Ok (Done o)))
      (ends : EndsRun w (record m { state = running }) j b o how done) where
    -- where nothing pauses
    pub let-go-free : IsFree w stored base p points point m.next m.state → IsLetGo
    let-go-free f =
        let free : running.pause ≡ Free = ap (λ (v : Tables B C I R U). v.pause) turns.state ∙ f.pause_is in
        let stays : ends.pause ≡ running.pause =
        plain_stays w.header b running.pause ends.pause (subst (λ (x : Pause). IsPlain x) (sym free) tt) ends.crosses in
        let done_free : done.state.pause ≡ Free = ap (λ (n : Moment w). n.state.pause) ends.becomes ∙ stays ∙ free in
        let round : IsRoundOf w stored p m.state.anchor =
        round_of_top w stored base p points point m.next m.state.anchor Free m.state.anchor m.state.cache f.ground in
        record {
          names = f.ground.names;
          tip = m.state.anchor;
          folded = f.ground.folded;
          round = round;
          released = (IsReleasedFrom-plain w stored p point m j b o how done points s located f.ground.names round
              (subst (λ (x : Pause). IsPlain x) (sym f.pause_is) tt) f.ground.folded.tip_is count running turns ends).released;
          free_way = inl (subst (λ (x : Pause). IsClosedIn x done.state.cache) (sym done_free) tt);
        }

    -- where a finalization goes on
    pub let-go-over : (c : Named B) → IsPausedFor w stored base p points point m.next m.state c → IsLetGo
    let-go-over c f =
        let round : IsRoundOf w stored p m.state.anchor =
        round_of_block w stored p m.state.anchor m.state.cache (anchor_by w.header c) f.boundary f.ground.names f.ground.top in
        let over : GoesOn w stored p m = record { boundary = f.boundary; pause_is = f.pause_is; goes_on = f.finalizes } in
        let r = IsReleasedFrom-over w stored p point m j b o how done points s located f.ground.names round over count running turns ends in
        record {
          names = f.ground.names;
          tip = anchor_by w.header c;
          folded = f.ground.folded;
          round = round;
          released = r.0.released;
          free_way = inl (closed r.1);
        }
      where
        closed : GoesOn w stored (Made (Ended j how) ∷ Came (Turn j) ∷ p) done → IsClosedIn done.state.pause done.state.cache
        closed g = subst (λ (x : Pause). IsClosedIn x done.state.cache) (sym g.pause_is) g.goes_on.closed

    -- where the block of the finalization is the anchor
    pub let-go-moved : HasMovedOn w stored base p points point m.next m.state → IsLetGo
    let-go-moved f =
        let round : IsRoundOf w stored p m.state.anchor =
        round_of_top w stored base p points point m.next m.state.anchor Free m.state.anchor m.state.cache f.ground in
        record {
          names = f.ground.names;
          tip = m.state.anchor;
          folded = f.ground.folded;
          round = round;
          released = (IsReleasedFrom-moved w stored p point m j b o how done points s located f.ground.names round f.ground.folded.tip_is f.moved
              count running turns ends).released;
          free_way = inr (HasMoved-ended w stored p point m j b o how done points s located f.ground.names round f.ground.folded.tip_is f.moved
              count running turns ends);
        }

    -- and so wherever execution is placed
    pub let-go : (front : Option (Front B R U H)) → IsPlaced w stored base p points point m.next m.state front → IsLetGo
    let-go None h = let-go-free h
    let-go (Some f) h = at f.block f.stage h
      where
        at : (c : Named B) (stage : Stage R U H) → IsPlacedAt w stored base p points point m.next m.state c stage → IsLetGo
        at c Begun x = let-go-over c x
        at c (Running k run) x = let-go-over c x.paused
        at c (Ran batch) x = let-go-over c x.paused
        at c Advanced x = let-go-moved x
        at c (Hooking k hook) x = let-go-moved x
