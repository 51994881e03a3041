use Rattle.std.proofs.Common.{refl, sym, ◌∙◌, IsTrue}
use Rattle.stateful_exec_cache.proofs.Digests.{finds}
use Rattle.stateful_exec_pause.proofs.boundary.FinalizationBoundary.disposition.Goals.{else-later-via-then-later+else-contains, else-later-via-else-later}
use Rattle.stateful_exec_pause.proofs.boundary.FinalizationBoundary.disposition.Goals as goal

pub returns-then-contains-clause-retain : goal.returns-then-contains-clause-retain
returns-then-contains-clause-retain c = rw (← c.self.view_is) (
  λ is. record {
    other = λ e. let t : IsTrue c.is.result = c.is.ensures.1 e in cc;
    later = c.is_later_than-later.ensures.0 c.if-later.true;
    parent = (finds c.args.step.now.parent c.self.inside.compatible.keys).0 (sym c.contains.ensures ∙ c.if-contains.true);
  },
  λ kept. refl,
)

pub returns-else-later-clause-retain : goal.returns-else-later-clause-retain
returns-else-later-clause-retain c = rw (← c.self.view_is) (
  λ is. cc,
  λ kept. elim c.else-later.branch [
    | else-later-via-then-later+else-contains w ↦
        let t = (finds c.args.step.now.parent c.self.inside.compatible.keys).1 kept.parent in
        let f = sym w.contains.ensures ∙ w.if-contains.false in cc
    | else-later-via-else-later w ↦ let t : IsTrue c.is_later_than-later.result = c.is_later_than-later.ensures.1 kept.later in let f = w.if-later.false in cc
  ],
)
