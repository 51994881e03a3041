use Rattle.std.proofs.Common.{◌∷◌, Err, ap, inr}
use Rattle.stateful_db.proofs.Chains.{has_id-point}
use Rattle.stateful_simple_app.specs.Rules.{after}
use Rattle.stateful_simple_app.specs.Drafts.{chain_of}
use Rattle.stateful_simple_app.proofs.draft.Draft.get.Goals as goal

-- the value is that of the chain's first state
pub returns-in-Ok : goal.returns-in-Ok
returns-in-Ok c = λ place entries holds.
    c.in-Ok.ensures.value (place.own, after place.at.1 entries) (place.at ∷ place.below) holds.shows

-- a batch that stands on the database isn't stale
pub returns-in-Err : goal.returns-in-Err
returns-in-Err c = λ place entries holds.
    let chain = chain_of place (after place.at.1 entries) in
    let found = has_id-point _ chain (inr holds.among) in
    let missing = (c.in-Err.ensures.stale chain holds.shows).0 (ap Err c.in-Err.ensures.cause) in
    cc
