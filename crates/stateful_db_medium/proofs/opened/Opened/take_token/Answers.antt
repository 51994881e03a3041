use Rattle.std.proofs.Common.{ℕ, List, Contains, ap, subst, arith}
use Rattle.stateful_db.specs.Disk.{place}
use Rattle.stateful_db_medium.specs.TokenPlaces.{Contains-without}
use Rattle.stateful_db_medium.proofs.opened.Opened.take_token.Goals as goal

pub flush-requires : goal.flush-requires
flush-requires g c = c.args.self.now.no_later c.args.token.place c.requires

pub invariant_of-self-2 : goal.invariant_of-self-2
invariant_of-self-2 g c =
    let still = ap place c.flush.ensures in
    record {
      no_later = λ at out.
          let P : List ℕ → Type 0 = λ xs. Contains xs at in
          let before = c.args.self.now.no_later at (Contains-without c.args.token.place at c.args.self.now.out (subst P c.take.ensures out)) in
          omega arith;
    }
