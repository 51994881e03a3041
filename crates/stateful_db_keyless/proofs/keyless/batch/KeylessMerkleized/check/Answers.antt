use Rattle.std.proofs.Common.{◌≡◌, ◌∷◌, true, false, ap, sym, ◌∙◌}
use Rattle.stateful_db.specs.Chain.{has_id}
use Rattle.stateful_db_keyless.proofs.keyless.batch.KeylessMerkleized.check.Goals as goal

pub returns-then-not-stands-clause-refused : goal.returns-then-not-stands-clause-refused
returns-then-not-stands-clause-refused g c = λ p chain why shown inside is.
    let both : true ≡ false = sym inside ∙ ap (λ n. has_id (p ∷ chain) n) (sym c.id.ensures) ∙ c.stands_on-stands.ensures (p ∷ chain) shown ∙ c.if-not-stands.true in
    cc
