use Rattle.std.proofs.Common.{Err, ap, inr}
use Rattle.stateful_db.proofs.Chains.{has_id-point}
use Rattle.stateful_simple_app.specs.Rules.{after}
use Rattle.stateful_simple_app.specs.Drafts.{chain_of}
use Rattle.stateful_simple_app.proofs.draft.Draft.seal.Goals as goal

-- the seal shows what the draft has
pub returns-in-Ok-clause-ok : goal.returns-in-Ok-clause-ok
returns-in-Ok-clause-ok c = λ place entries holds.
    c.in-Ok.ensures.whole (chain_of place (after place.at.1 entries)) holds.shows

-- a batch that stands on the database isn't stale
pub returns-in-Err-StaleRead-clause-ok : goal.returns-in-Err-StaleRead-clause-ok
returns-in-Err-StaleRead-clause-ok c = λ place entries holds.
    let chain = chain_of place (after place.at.1 entries) in
    let found = has_id-point _ chain (inr holds.among) in
    let missing = (c.in-Err-StaleRead.ensures.stale chain holds.shows).0 (ap Err c.in-Err-StaleRead.field-0-is) in
    cc
