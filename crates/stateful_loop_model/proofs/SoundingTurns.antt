-- Turns, cancels and answered fetches leave the anchor and the databases as they are.
use Rattle.std.proofs.Common.{◌≡◌, ℕ, Result, Ok, Err, Option, List, refl, ap, ◌∙◌}
use Rattle.stateful_base.specs.Names.{Named}
use Rattle.stateful_base.specs.declared.outcome.Handoff.{Handoff}
use Rattle.stateful_base.specs.declared.outcome.Handoff.TheVariants.{Wait, Vote, Stage}
use Rattle.stateful_base.specs.declared.outcome.Moved.{Moved}
use Rattle.stateful_base.specs.declared.outcome.Moved.TheVariants.{Pending, Done}
use Rattle.stateful_db.specs.declared.application.AppFault.{AppFault}
use Rattle.stateful_db.specs.declared.application.ProposedBlock.{ProposedBlock}
use Rattle.stateful_history.specs.declared.mark.How.{How}
use Rattle.stateful_history.specs.declared.mark.Mark.{Mark}
use Rattle.stateful_exec_model.specs.Built.{EndsBuild, TurnsBuild, other, goes_on, ends, GivesUp, building, asking}
use Rattle.stateful_exec_model.specs.Ending.{InTurn, none, next, Follows, EndsRun, Settles, SettlesBy, Steps}
use Rattle.stateful_exec_tables.specs.Tables.{released}
use Rattle.stateful_exec_model.specs.Ending as ending
use Rattle.stateful_exec_model.specs.Fetching.{serving, IsFetched}
use Rattle.stateful_exec_tables.specs.Cancelling.{Cancels}
use Rattle.stateful_exec_tables.specs.Fetching.{with_block}
use Rattle.stateful_exec_model.specs.Fetching as fetching
use Rattle.stateful_exec_tables.specs.Cancelling as cancel
use Rattle.stateful_exec_model.specs.Moments as exec
use Rattle.stateful_exec_tables.specs.Tables.{requested}
use Rattle.stateful_exec_model.specs.Workings.{Workings}
use Rattle.stateful_exec_model.specs.declared.building.Building.{Building}
use Rattle.stateful_exec_walk.specs.declared.request.Verdict.TheVariants.{Invalid}
use Rattle.stateful_exec_tables.specs.declared.state.Tables.{Tables}
use Rattle.stateful_exec_tables.specs.declared.tables.Released.{Released}
use Rattle.stateful_loop_model.proofs.Staying.{Stays, Stays-same, Stays-then, becomes, concluded, Advances-stays, Acquires-stays}

-- a cancel leaves the anchor
cancels_anchor : {B C I R U : Type 0} (old new : Tables B C I R U) (t : ℕ) (marks : List (Mark B)) → Cancels old new t marks → new.anchor ≡ old.anchor
cancels_anchor old new t marks (cancel.idle r there phase e empty) = ap (λ v. v.anchor) e
cancels_anchor old new t marks (cancel.withdraws r fetch there e is) = ap (λ v. v.anchor) e
cancels_anchor old new t marks (cancel.leaves r j path there phase others e empty) = ap (λ v. v.anchor) e
cancels_anchor old new t marks (cancel.ends r j path there phase alone e is) = ap (λ v. v.anchor) e
cancels_anchor old new t marks (cancel.unqueued unasked e empty) = ap (λ v. v.anchor) e

pub gives_up_anchor : {B C I R U D : Type 0} (old new : Tables B C I R U) (before after : Option (Building B C D)) (t : ℕ) (marks : List (Mark B))
    → GivesUp old new before after t marks → new.anchor ≡ old.anchor
gives_up_anchor old new before after t marks (building for e gone is) = ap (λ v. v.anchor) e
gives_up_anchor old new before after t marks (asking not_built cancels same) = cancels_anchor old new t marks cancels

module _ {B C I P R D H G U : Type 0} (w : Workings B C I P R D H G U) where
  -- as it is
  same : (m now : exec.Moment w) → now ≡ m → Stays w m now
  same m now e = record { anchor = ap (λ n. n.state.anchor) e; members = ap (λ n. n.members) e }

  follows_stays : (b : Named B) (how : How) (r : Released B C I) (m now : exec.Moment w) → Follows w b how r m now → Stays w m now
  follows_stays b how r m now (ending.given_up given concludes) = concluded w m r.ticket (requested r.request) Invalid now concludes
  follows_stays b how r m now (ending.at_boundary at e) = becomes w m _ m.next _ now e refl
  follows_stays b how r m now (ending.failed free unknown concludes) = concluded w m r.ticket (requested r.request) Invalid now concludes
  follows_stays b how r m now (ending.parked pruning known e) = becomes w m _ m.next _ now e refl
  follows_stays b how r m now (ending.goes_on kept free unpruned known a) = Advances-stays w m r.ticket (requested r.request) r.path now a

  pub follow_stays : (b : Named B) (how : How) (rs : List (Released B C I)) (m now : exec.Moment w) → InTurn (Follows w b how) rs m now → Stays w m now
  follow_stays b how rs m now none = Stays-same w m
  follow_stays b how rs m now (next {x = x} {n = n} f rest) = Stays-then w (follows_stays b how x m n f) (follow_stays b how _ n now rest)

  settles_stays : (m : exec.Moment w) (j : ℕ) (ended : Option U) (now : exec.Moment w) → Settles w m j ended now → Stays w m now
  settles_stays m j ended now s =
      let one : Stays w m s.done = becomes w m _ m.next _ s.done s.ends.becomes refl in
      let two : Stays w (record s.done { state = released j s.done.state }) now = follow_stays s.block s.how _ _ now s.follow in
      record { anchor = two.anchor ∙ one.anchor; members = two.members ∙ one.members }

  settled_stays : (m : exec.Moment w) (j : ℕ) (answer : Result (Moved (Option U)) AppFault) (now : exec.Moment w) → SettlesBy w m j answer now → Stays w m now
  settled_stays m j (Ok Pending) now e = same m now e
  settled_stays m j (Ok (Done ended)) now s = settles_stays m j ended now s
  settled_stays m j (Err fault) now s = absurd s

  pub steps_stays : (count : R → ℕ) (m : exec.Moment w) (j : ℕ) (now : exec.Moment w) → Steps w count m j now → Stays w m now
  steps_stays count m j now s =
      let two : Stays w (record m { state = s.running }) now = settled_stays (record m { state = s.running }) j s.answer now s.settles in
      record { anchor = two.anchor ∙ ap (λ v. v.anchor) s.turns.state; members = two.members }

  -- the end of a build leaves another cache
  ends_stays : (b : Building B C D) (m : exec.Moment w) (given : Handoff (ProposedBlock B U)) (now : exec.Moment w) → EndsBuild w b m given now → Stays w m now
  ends_stays b m Wait now e = becomes w m m.state m.next _ now e refl
  ends_stays b m (Vote p) now g = becomes w m _ m.next _ now g.becomes refl
  ends_stays b m (Stage p) now g = becomes w m _ m.next _ now g.becomes refl

  pub builds_stays : (count : D → ℕ) (m : exec.Moment w) (build : Option (Building B C D)) (j : ℕ) (now : exec.Moment w) (after : Option (Building B C D))
      → TurnsBuild w count m build j now after → Stays w m now
  builds_stays count m build j now after (other not_live e is) = same m now e
  builds_stays count m build j now after (goes_on live turns e is) = same m now e
  builds_stays count m build j now after (ends {b = b} {turned = turned} {given = given} live turns ended is) = ends_stays (record b { build = turned }) m given now ended

  -- an answered fetch
  pub fetched_stays : (stored : ℕ → Option (Named B)) (m : exec.Moment w) (fetch : ℕ) (answer : Option (Named B)) (now : exec.Moment w)
      → IsFetched w stored m fetch answer now → Stays w m now
  fetched_stays stored m fetch answer now (fetching.found t r b there is a) =
      let s : Stays w (serving w m t) now = Acquires-stays w stored (serving w m t) t (with_block r b) now a in record { anchor = s.anchor; members = s.members }
  fetched_stays stored m fetch answer now (fetching.waits t r there is verifies e) = becomes w m _ m.next _ now e refl
  fetched_stays stored m fetch answer now (fetching.declines t r there is proposes e) =
      let s : Stays w (serving w m t) now = concluded w (serving w m t) t r Invalid now e in record { anchor = s.anchor; members = s.members }
  fetched_stays stored m fetch answer now (fetching.dead dead e) = same m now e
