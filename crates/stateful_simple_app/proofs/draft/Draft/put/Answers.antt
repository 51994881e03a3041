use Rattle.std.proofs.Common.{◌∷◌}
use Rattle.stateful_simple_app.specs.Rules.{after}
use Rattle.stateful_simple_app.proofs.draft.Draft.put.Goals as goal

-- the draft stands where it stood
pub returns : goal.returns
returns c = λ place entries holds.
    record {
      shows = c.in_ok-batch.ensures (place.own, after place.at.1 entries) (place.at ∷ place.below) holds.shows;
      among = holds.among;
    }
