-- A new probe keeps the laws of probes.
use Rattle.std.proofs.Common.{refl, ap}
use Rattle.stateful_probe.proofs.Laws.{KeepsLaws-new}
use Rattle.stateful_probe.proofs.probe.Probe.new.Goals as goal

pub returns-clause-laws : goal.returns-clause-laws
returns-clause-laws g c =
    KeepsLaws-new _ (record { same = g.met.S.Key.Eq.laws; agrees = g.met.S.Key.Ord.matches_eq }) _
    (record {
      minimum_is = ap (λ s. s.minimum_epoch) c.new-2.ensures;
      no_replies = ap (λ s. s.replies) c.new-2.ensures;
      no_floor = ap (λ s. s.floor) c.new-2.ensures;
      nobody = c.new-3.ensures;
      alone = refl;
      first = refl;
      goes_on = refl;
    })
