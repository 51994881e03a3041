use Rattle.std.proofs.Common.{◌≡◌, ◌∷◌, sym, refl, ap, ◌∙◌}
use Rattle.stateful_base.specs.declared.outcome.Finality.TheVariants.{Candidate}
use Rattle.stateful_db_plain.specs.Whole.{Whole}
use Rattle.stateful_db_plain.specs.Shown.{SealShows}
use Rattle.stateful_db_plain.specs.declared.batch.PlainMerkleized.{PlainMerkleized}
use Rattle.stateful_simple_app.specs.Rules.{run_outcome}
use Rattle.stateful_simple_app.specs.Drafts.{chain_of}
use Rattle.stateful_simple_app.specs.Works.{place_of, block_for}
use Rattle.stateful_simple_app.proofs.Ending.{shown_by, steps_to}
use Rattle.stateful_simple_app.proofs.build.end_build.Goals as goal

-- the request asks for no block
pub returns-in_default-chosen-clause-ok : goal.returns-in_default-chosen-clause-ok
returns-in_default-chosen-clause-ok g c = λ b header_is input_is holds.
    let rules = g.A.OneTurn.rules in
    let chosen = sym c.in_default-chosen.is ∙ (c.in-Ok.ensures (place_of b) b.at.1.entries holds ∙ ap (rules.choose b.at.1.entries) input_is) in
    rw (sym chosen) refl

-- the block isn't acceptable, or leads to no state
pub returns-in-None-clause-ok : goal.returns-in-None-clause-ok
returns-in-None-clause-ok g c = λ b header_is input_is holds.
    let rules = g.A.OneTurn.rules in
    let chosen = sym c.in-Some.is ∙ (c.in-Ok.ensures (place_of b) b.at.1.entries holds ∙ ap (rules.choose b.at.1.entries) input_is) in
    let none = rw c.in-None.is at (c.in_ok-merkleized.ensures.ok (place_of b) holds) in
    rw (sym chosen, none) refl

-- the block commits to the sealed batch
pub returns-in-Some-2-clause-ok : goal.returns-in-Some-2-clause-ok
returns-in-Some-2-clause-ok g c = λ b header_is input_is holds.
    let rules = g.A.OneTurn.rules in
    let bytes = g.A.Payload.Payload.bytes in
    let chosen = sym c.in-Some.is ∙ (c.in-Ok.ensures (place_of b) b.at.1.entries holds ∙ ap (rules.choose b.at.1.entries) input_is) in
    let ran = rw c.in-Some-2.is at (c.in_ok-merkleized.ensures.ok (place_of b) holds) in
    let left = shown_by (λ (m : PlainMerkleized) (now : Whole). SealShows m (chain_of (place_of b) now)) c.in-Some-2.merkleized (run_outcome rules Candidate b.at.1 c.in-Some.payload) ran in
    let block : c.finish.result.block ≡ block_for bytes b.asked c.in-Some.payload left.0 = rw header_is at (c.finish.ensures.block (b.own, left.0) (b.at ∷ b.below) left.2) in
    record {
      gives = rw (sym chosen, left.1, block) refl;
      states = left.0;
      steps = rw block (steps_to rules b.at.1 c.in-Some.payload left.0 left.1);
      shown = rw c.finish.ensures.batch left.2;
    }
