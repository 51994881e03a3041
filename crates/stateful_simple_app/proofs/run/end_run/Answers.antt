use Rattle.std.proofs.Common.{◌≡◌, true, sym, ◌∙◌}
use Rattle.std.proofs.lemmas.Bool.{false≢true}
use Rattle.stateful_base.specs.declared.outcome.Finality.TheVariants.{Candidate}
use Rattle.stateful_db_plain.specs.Shown.{SealShows}
use Rattle.stateful_db_plain.specs.declared.batch.PlainMerkleized.{PlainMerkleized}
use Rattle.stateful_db_plain.specs.Whole.{Whole}
use Rattle.stateful_simple_app.specs.Rules.{after, run_outcome}
use Rattle.stateful_simple_app.specs.Drafts.{Holds, chain_of}
use Rattle.stateful_simple_app.proofs.Ending.{shown_by, becomes_at, leads_to}
use Rattle.stateful_simple_app.proofs.run.end_run.Goals.{else-eq-via-then-eq+else-not-accept, else-eq-via-else-eq}
use Rattle.stateful_simple_app.proofs.run.end_run.Goals as goal

-- a block that isn't rejected and leads to entries ends with their state
pub returns-in_ok-seal-in-Ok-Some-clause-ok : goal.returns-in_ok-seal-in-Ok-Some-clause-ok
returns-in_ok-seal-in-Ok-Some-clause-ok g c = λ place holds.
    let rules = g.A.OneTurn.rules in
    let whole = place.at.1 in
    let payload = c.args.payload.now in
    let ran = rw c.in-Ok-Some.field-0-is at c.in-Ok-Some.ensures in
    let left = shown_by (λ draft now. Holds draft place now) c.in-Ok-Some.draft (rules.step whole.entries payload) (ran place whole.entries holds) in
    let good : c.args.finality ≡ Candidate → rules.accept whole.entries payload ≡ true = λ candidate. elim c.else-eq.branch [
      | else-eq-via-then-eq+else-not-accept w ↦ sym (w.accept.ensures place whole.entries holds) ∙ w.if-not-accept.false
      | else-eq-via-else-eq w ↦ absurd (false≢true (rw candidate at w.if-eq.ensures))
    ] in
    becomes_at (λ (m : PlainMerkleized) (now : Whole). SealShows m (chain_of place now)) c.in_ok-seal-in-Ok-Some.field-0 (run_outcome rules c.args.finality whole payload) (after whole left.0) (leads_to rules c.args.finality whole payload left.0 good left.1) (c.in_ok-seal-in-Ok-Some.ensures.ok place left.0 left.2)
