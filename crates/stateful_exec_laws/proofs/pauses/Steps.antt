-- How execution is paused stays so behind what leaves the anchor, the cache and the pause, and after a turn of a run.
use Rattle.std.proofs.Common.{◌≡◌, ◌++◌, ℕ, List, [], ◌∷◌, All, Option, Some, Result, Ok, Err, inr, refl, sym, ap, ◌∙◌, subst}
use Rattle.std.proofs.lemmas.List.{append_assoc, append-nil, append_cancel_left}
use Rattle.std.proofs.lemmas.List.Elements.{All-head, All-tail, All-nil, All-append}
use Rattle.stateful_base.specs.Names.{Named}
use Rattle.stateful_base.specs.declared.digest.Digest.{Digest}
use Rattle.stateful_base.specs.declared.outcome.Moved.{Moved}
use Rattle.stateful_base.specs.declared.outcome.Moved.TheVariants.{Pending, Done}
use Rattle.stateful_db.specs.declared.application.AppFault.{AppFault}
use Rattle.stateful_history.specs.Anchors.{tip_of}
use Rattle.stateful_history.specs.Met.{Met, TrueNames}
use Rattle.stateful_history.specs.Past.{Past, Came, Made, after}
use Rattle.stateful_history.specs.declared.event.Event.TheVariants.{Turn}
use Rattle.stateful_history.specs.declared.mark.How.{How}
use Rattle.stateful_history.specs.declared.mark.Mark.{Mark}
use Rattle.stateful_history.specs.declared.mark.Mark.TheVariants.{Ended}
use Rattle.stateful_history.proofs.Marks.{Met-after}
use Rattle.stateful_exec_model.specs.Ending.{InTurn, none, next, TurnsRun, Follows, Settles, SettlesBy, Steps}
use Rattle.stateful_exec_tables.specs.Tables.{released}
use Rattle.stateful_exec_model.specs.Moments.{Moment}
use Rattle.stateful_exec_tables.specs.Phase.{released_on}
use Rattle.stateful_exec_model.specs.Workings.{Workings, Point}
use Rattle.stateful_exec_tables.specs.declared.state.Tables.{Tables}
use Rattle.stateful_exec_tables.specs.declared.tables.Released.{Released}
use Rattle.stateful_exec_laws.specs.Setting.{setting}
use Rattle.stateful_exec_laws.specs.Standing.{TablesStand}
use Rattle.stateful_exec_laws.proofs.earned.Carried.{IsMild, as_before}
use Rattle.stateful_exec_laws.proofs.earned.Left.{IsLeft, LeavesBehind, LeavesBehind-follows}
use Rattle.stateful_exec_laws.proofs.ended.Kept.{IsRoundOf}
use Rattle.stateful_exec_laws.proofs.ended.Rule.{plain_stays, IsReleasedFrom-over}
use Rattle.stateful_exec_laws.proofs.ended.Told.{IsPlain}
use Rattle.stateful_exec_laws.proofs.front.FinalizesBegins.{Finalizes-later}
use Rattle.stateful_exec_laws.proofs.front.MovedStands.{HasMoved-ended}
use Rattle.stateful_exec_laws.proofs.requests.StepsStand.{IsPaused, plain, goes, has_moved}

-- the tip stays after marks that begin and open nothing
pub tip-mild : {B C I : Type 0} (header : _) (p : Past B C I) (marks : List (Mark B)) → All (λ m. IsMild m) marks → tip_of header (after p marks) ≡ tip_of header p
tip-mild header p [] mild = refl
tip-mild header p (mark ∷ marks) mild = tip-mild header (Made mark ∷ p) marks (All-tail (λ m. IsMild m) mark marks mild) ∙ (as_before header p mark (All-head (λ m. IsMild m) mark marks mild)).tip

module _ {B C I P R D H G U : Type 0} (w : Workings B C I P R D H G U) where
  -- all requests that follow the end of a run leave the anchor, the cache and the pause
  LeavesBehind-follow : (b : Named B) (how : How) (rs : List (Released B C I)) (m last : Moment w) → InTurn (Follows w b how) rs m last → LeavesBehind w m last
  LeavesBehind-follow b how [] m _ none = record { more = []; marks_are = sym (append-nil m.marks); mild = All-nil (λ x. IsMild x); left = record { anchor = refl; cache = refl; pause = refl } }
  LeavesBehind-follow b how (r ∷ rs) m last (next {n = n} rule rules) =
      let f : LeavesBehind w m n = LeavesBehind-follows w b how r m n rule in
      let g : LeavesBehind w n last = LeavesBehind-follow b how rs n last rules in
      record {
        more = f.more ++ g.more;
        marks_are = g.marks_are ∙ ap (λ marks. marks ++ g.more) f.marks_are ∙ append_assoc m.marks f.more g.more;
        mild = All-append (λ x. IsMild x) f.more g.more f.mild g.mild;
        left = record { anchor = g.left.anchor ∙ f.left.anchor; cache = g.left.cache ∙ f.left.cache; pause = g.left.pause ∙ f.left.pause };
      }

  module _ (stored : ℕ → Option (Named B)) where
    -- where the anchor, the cache and the pause are as they were, and so is the tip, execution is paused as it was
    pub IsPaused-left : (p q : Past B C I) (m now : Moment w) → tip_of w.header q ≡ tip_of w.header p → ((b : Named B) → Met (setting w stored) p b → Met (setting w stored) q b) → IsLeft m.state now.state → IsPaused w stored p m → IsPaused w stored q now
    IsPaused-left p q m now same met left (plain free tip) = plain (subst (λ x. IsPlain x) (sym left.pause) free) (same ∙ tip ∙ ap (λ a. Some a) (sym left.anchor))
    IsPaused-left p q m now same met left (goes over) = goes (record {
      boundary = over.boundary;
      pause_is = left.pause ∙ over.pause_is;
      goes_on = rw (left.anchor, left.cache) (Finalizes-later w stored p q same met m.state.anchor m.state.cache over.boundary over.goes_on);
    })
    IsPaused-left p q m now same met left (has_moved h tip) =
        has_moved (record { boundary = h.boundary; pause_is = left.pause ∙ h.pause_is; moved = rw (left.anchor, left.cache) h.moved }) (same ∙ tip ∙ ap (λ a. Some a) (sym left.anchor))

    module _ (p : Past B C I) (points : Digest → Point w) (point : Point w) (m : Moment w) (s : TablesStand w stored p points point m.next m.state) (names : TrueNames (setting w stored) p) (round : IsRoundOf w stored p m.state.anchor)
        (located : w.kind.point m.members ≡ Some point) (count : R → ℕ) (j : ℕ) (now : Moment w) where
      -- after the end of the run
      ended_so : (o : Option U) (running : Tables B C I R U) → TurnsRun w count m.members j m.state running (Ok (Done o)) → (settles : Settles w (record m { state = running }) j o now) → IsPaused w stored p m
          → IsPaused w stored (Made (Ended j settles.how) ∷ Came (Turn j) ∷ p) settles.done
      ended_so o running turns settles (plain free tip) =
          let anchored : running.anchor ≡ m.state.anchor = ap (λ (v : Tables B C I R U). v.anchor) turns.state in
          let paused : running.pause ≡ m.state.pause = ap (λ (v : Tables B C I R U). v.pause) turns.state in
          let free_still : IsPlain running.pause = subst (λ x. IsPlain x) (sym paused) free in
          let stays : settles.ends.pause ≡ running.pause = plain_stays w.header settles.block running.pause settles.ends.pause free_still settles.ends.crosses in
          subst (λ (n : Moment w). IsPaused w stored (Made (Ended j settles.how) ∷ Came (Turn j) ∷ p) n) (sym settles.ends.becomes) (plain (subst (λ x. IsPlain x) (sym stays) free_still) (tip ∙ ap (λ a. Some a) (sym anchored)))
      ended_so o running turns settles (goes over) =
          goes (IsReleasedFrom-over w stored p point m j settles.block o settles.how settles.done points s located names round over count running turns settles.ends).1
      ended_so o running turns settles (has_moved h tip) =
          let anchored : settles.done.state.anchor ≡ m.state.anchor = ap (λ (n : Moment w). n.state.anchor) settles.ends.becomes ∙ ap (λ (v : Tables B C I R U). v.anchor) turns.state in
          has_moved (HasMoved-ended w stored p point m j settles.block o settles.how settles.done points s located names round tip h count running turns settles.ends) (tip ∙ ap (λ a. Some a) (sym anchored))

      by : (running : Tables B C I R U) (answer : Result (Moved (Option U)) AppFault) → TurnsRun w count m.members j m.state running answer → SettlesBy w (record m { state = running }) j answer now → IsPaused w stored p m
          → (more : List (Mark B)) → now.marks ≡ m.marks ++ more → IsPaused w stored (after (Came (Turn j) ∷ p) more) now
      by running (Ok Pending) turns settles paused more is =
          let nothing : more ≡ [] = append_cancel_left m.marks more [] (sym is ∙ ap (λ (n : Moment w). n.marks) settles ∙ sym (append-nil m.marks)) in
          rw nothing (IsPaused-left p (Came (Turn j) ∷ p) m now refl (λ b h. inr h)
          (subst (λ (n : Moment w). IsLeft m.state n.state) (sym settles) (rw turns.state (record { anchor = refl; cache = refl; pause = refl }))) paused)
      by running (Ok (Done o)) turns settles paused more is =
          let q : Past B C I = Made (Ended j settles.how) ∷ Came (Turn j) ∷ p in
          let mid : Moment w = record settles.done { state = released j settles.done.state } in
          let l : LeavesBehind w mid now = LeavesBehind-follow settles.block settles.how (released_on j settles.done.state.requests) mid now settles.follow in
          let marks_are : now.marks ≡ m.marks ++ Ended j settles.how ∷ l.more =
          l.marks_are ∙ ap (λ marks. marks ++ l.more) (ap (λ (n : Moment w). n.marks) settles.ends.becomes) ∙ append_assoc m.marks (Ended j settles.how ∷ []) l.more in
          let same : more ≡ Ended j settles.how ∷ l.more = append_cancel_left m.marks more (Ended j settles.how ∷ l.more) (sym is ∙ marks_are) in
          rw same (IsPaused-left q (after q l.more) mid now (tip-mild w.header q l.more l.mild) (Met-after (setting w stored) q l.more) l.left
          (IsPaused-left q q settles.done mid refl (λ b h. h) (record { anchor = refl; cache = refl; pause = refl }) (ended_so o running turns settles paused)))
      by running (Err fault) turns settles paused more is = absurd settles

      -- execution is paused as it was, after a turn of a candidate run and what its answer leads to
      pub IsPaused-steps : IsPaused w stored p m → Steps w count m j now → (more : List (Mark B)) → now.marks ≡ m.marks ++ more → IsPaused w stored (after (Came (Turn j) ∷ p) more) now
      IsPaused-steps paused steps more is = by steps.running steps.answer steps.turns steps.settles paused more is
