use Rattle.std.proofs.Common.{arith, Contains, subst, ℕ, List}
use Rattle.stateful_db_medium.specs.TokenPlaces.{no_later_put}
use Rattle.stateful_db_medium.proofs.opened.Opened.put_token.Goals as goal

pub invariant_of-self : goal.invariant_of-self
invariant_of-self g c =
    record {
      no_later = λ at out.
          let P : List ℕ → Type 0 = λ xs. Contains xs at in
          no_later_put c.place-place.result _ c.args.self.now.out at c.args.self.now.no_later (omega arith) (subst P c.put.ensures out);
    }
