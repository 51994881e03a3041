use Rattle.std.proofs.Common.{refl, subst}
use Rattle.stateful_bank_app.specs.Fresh.{AreUncalled}
use Rattle.stateful_play_world.proofs.Played.{played}
use Rattle.stateful_play_world.proofs.play.play_in.Goals as goal

pub returns : goal.returns
returns g c =
    let planned = rw c.as_slice.ensures at c.in_ok-planned.ensures.made in
    let labelled = rw (c.as_slice-2.ensures, c.as_slice-3.ensures.value) at c.in_ok-labels.ensures in
    let stored = rw (c.as_slice-4.ensures.value, c.as_slice-5.ensures) at c.in_ok-store.ensures in
    let events = rw (c.as_slice-6.ensures.value, c.as_slice-7.ensures) at c.in_ok-events.ensures in
    let set = g.W.Databases.DatabaseSet in
    let uncalled = subst (λ failing. AreUncalled set.kind.count (set.calls c.empty.result) failing) c.none.ensures c.empty.ensures.calls in
    record {
      last = _;
      beside = record { members_are = refl; next_is = refl; faults_are = refl };
      play = played _ c.args.script.now c.in_ok-planned.planned.items c.in_ok-labels.labels.items c.in_ok-events.events.items _ _ _ _ _ c.empty.result
          planned c.requires labelled stored events g.met.W.Fresh.commits
          (c.empty.ensures.blank, uncalled) (g.met.W.Fresh.blank_are c.empty.result c.empty.ensures.blank) c.empty.ensures.counts
          (record { members_are = refl; next_is = refl; faults_are = refl })
          (c.in_ok-stateful.ensures.new _ _) (c.in_ok-stateful.ensures.media _ _ _) c.in_ok-driven.ensures;
    }

pub drive_all-requires-clause-new : goal.drive_all-requires-clause-new
drive_all-requires-clause-new g c = c.in_ok-stateful.ensures.new _ _

pub drive_all-requires-clause-none_away : goal.drive_all-requires-clause-none_away
drive_all-requires-clause-none_away g c =
    g.met.W.Databases.DatabaseSet.laws.places.away_openable _ (g.met.W.Fresh.blank_are c.empty.result c.empty.ensures.blank).openable
