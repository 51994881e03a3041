use Rattle.std.proofs.Common.{sym, ◌∙◌}
use Rattle.stateful_sync.specs.Classify.{below, again, further, conflicts, skips}
use Rattle.stateful_sync.proofs.Classifying.{same_place, next_height}
use Rattle.stateful_sync.proofs.classification.advance.Goals as goal

pub returns-then-height-anchor-clause-passes : goal.returns-then-height-anchor-clause-passes
returns-then-height-anchor-clause-passes g c = below (rw c.height-height.ensures at c.if-height-anchor.true)

pub returns-then-is-clause-passes : goal.returns-then-is-clause-passes
returns-then-is-clause-passes g c =
    again (same_place _ _ c.args.last (rw c.height-height.ensures at c.if-height-last.true) (sym c.digest-digest.ensures ∙ c.is.ensures.0 c.if-is.true))

pub returns-then-height-last-clause-refuses : goal.returns-then-height-last-clause-refuses
returns-then-height-last-clause-refuses g c =
    rw c.digest-digest.ensures
    (conflicts (rw c.height-height.ensures at c.if-height-last.true) (λ same. let is = c.is.ensures.1 (c.digest-digest.ensures ∙ same) in cc))

pub returns-then-height-expected-clause-refuses : goal.returns-then-height-expected-clause-refuses
returns-then-height-expected-clause-refuses g c =
    rw c.height-height.ensures (skips (rw c.height-height.ensures at c.if-height-expected.true))

pub returns-clause-passes : goal.returns-clause-passes
returns-clause-passes g c =
    rw (c.height-height.ensures, c.digest-digest.ensures)
    (further (next_height _ c.args.anchor.height.0 c.args.last.height.0 c.requires
    (rw c.height-height.ensures at c.if-height-anchor.false)
    (rw c.height-height.ensures at c.if-height-last.false)
    (rw c.height-height.ensures at c.if-height-expected.false)))
