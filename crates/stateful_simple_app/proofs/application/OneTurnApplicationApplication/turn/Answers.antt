use Rattle.std.proofs.Common.{◌≡◌, ◌∷◌, sym, refl, ap, ◌∙◌}
use Rattle.stateful_db.specs.Meaning.{outcome}
use Rattle.stateful_db.specs.Disk.{point}
use Rattle.stateful_db.specs.Works.{block_of, run_chain}
use Rattle.stateful_db_plain.specs.Stored.{standing_of}
use Rattle.stateful_db_plain.specs.Shown.{SealShows}
use Rattle.stateful_db_plain.specs.Whole.{Whole}
use Rattle.stateful_db_plain.specs.declared.batch.PlainMerkleized.{PlainMerkleized}
use Rattle.stateful_simple_app.specs.Rules.{run_outcome, one_turn_meaning}
use Rattle.stateful_simple_app.specs.Drafts.{Place}
use Rattle.stateful_simple_app.proofs.Ending.{here_at, outcome_of, ends_with}
use Rattle.stateful_simple_app.proofs.application.OneTurnApplicationApplication.turn.Goals as goal

-- a run ends with the state after its block, or with none where there is none
pub returns-clause-ok : goal.returns-clause-ok
returns-clause-ok g c = λ r n q is at among.
    let rules = g.A.OneTurn.rules in
    let place : Place = record { own = r.own; at = r.at; below = r.below } in
    let held = sym c.take.ensures.value ∙ c.in-Here-Some.is-1 in
    let here = here_at (point (standing_of c.in-Here-Some.database)) (r.at ∷ r.below) at among (rw c.in-Here-Some.is-0 refl) in
    let ended = c.in_ok-end_run.ensures.ok place (record { shows = rw held at is.batch; among = here }) in
    let block_is : c.inner.result.now ≡ block_of r = c.inner.ensures ∙ ap (λ named. named.block) is.block_is in
    let outcome_is : run_outcome rules c.args.run.now.finality r.at.1 c.inner.result.now.payload ≡ outcome (one_turn_meaning rules) r.finality r.at.1 (block_of r) =
    rw (block_is, is.finality_is) (outcome_of rules r.finality r.at.1 (block_of r)) in
    ends_with c.in_ok-end_run.field-0 _ (λ (m : PlainMerkleized) (s : Whole). SealShows m (run_chain r s)) _ (rw outcome_is at ended)
