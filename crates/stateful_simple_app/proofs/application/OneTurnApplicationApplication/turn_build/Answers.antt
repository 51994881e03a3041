use Rattle.std.proofs.Common.{◌≡◌, ℕ, List, ◌∷◌, sym, refl, ◌∙◌}
use Rattle.stateful_base.specs.declared.outcome.Handoff.{Handoff}
use Rattle.stateful_base.specs.declared.outcome.Handoff.TheVariants.{Wait, Vote, Stage}
use Rattle.stateful_base.specs.declared.outcome.Moved.TheVariants.{Done}
use Rattle.stateful_db.specs.declared.application.ProposedBlock.{ProposedBlock}
use Rattle.stateful_db.specs.Disk.{point}
use Rattle.stateful_db.specs.Works.{BuildEnds}
use Rattle.stateful_db_plain.specs.Stored.{standing_of}
use Rattle.stateful_db_plain.specs.Shown.{SealShows}
use Rattle.stateful_db_plain.specs.declared.batch.PlainMerkleized.{PlainMerkleized}
use Rattle.stateful_simple_app.specs.Rules.{Rules}
use Rattle.stateful_simple_app.specs.Works.{OneTurnBuildOf, one_turn_works}
use Rattle.stateful_simple_app.specs.declared.block.PayloadBlock.{PayloadBlock}
use Rattle.stateful_simple_app.proofs.Ending.{here_at}
use Rattle.stateful_simple_app.proofs.application.OneTurnApplicationApplication.turn_build.Goals as goal

-- a build that has ended doesn't go on, whatever that would take
ends : {P I : Type 0} (rules : Rules P I) (bytes : P → List ℕ) (b : OneTurnBuildOf P I) (GoesOn : Type 0) (h : Handoff (ProposedBlock (PayloadBlock P) PlainMerkleized))
    → BuildEnds (one_turn_works rules bytes) (Done h) SealShows b ⊥
    → BuildEnds (one_turn_works rules bytes) (Done h) SealShows b GoesOn
ends rules bytes b GoesOn Wait e = e
ends rules bytes b GoesOn (Vote p) e = e
ends rules bytes b GoesOn (Stage p) e = e

-- a build ends with what its request asks for
pub returns-clause-ok : goal.returns-clause-ok
returns-clause-ok g c = λ b n q is at among.
    let held = sym c.take.ensures.value ∙ c.in-Here-Some.is-1 in
    let here = here_at (point (standing_of c.in-Here-Some.database)) (b.at ∷ b.below) at among (rw c.in-Here-Some.is-0 refl) in
    let work = rw held at is.work in
    ends g.A.OneTurn.rules g.A.Payload.Payload.bytes b _ _
    (c.in_ok-end_build.ensures.ok b is.header_is work.0 (record { shows = work.1; among = here }))
