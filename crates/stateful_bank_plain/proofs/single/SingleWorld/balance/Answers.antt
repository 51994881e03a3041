use Rattle.std.proofs.Common.{◌∷◌, refl, sym, subst, ◌∙◌}
use Rattle.std.proofs.lemmas.Option.{same_Some}
use Rattle.stateful_db.specs.Chain.{IsPoint}
use Rattle.stateful_bank_plain.proofs.single.SingleWorld.balance.Goals as goal

pub returns-in-Here : goal.returns-in-Here
returns-in-Here c = λ entries i p chain holds at.
    let here = same_Some _ _ (sym at.is ∙ rw c.in-Here.is refl) in
    c.balance_here.ensures entries i p chain holds (subst (λ q. IsPoint q (p ∷ chain)) here at.among)
