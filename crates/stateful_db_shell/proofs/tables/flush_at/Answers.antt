use Rattle.std.proofs.Common.{◌≡◌, ℕ, ◌<◌, List, [], ◌∷◌, ◌++◌, Option, Some, None, true, is_some, Contains, refl, arith}
use Rattle.std.proofs.lemmas.List.Elements.{Contains-append_right}
use Rattle.stateful_db.specs.Barrier.{open_at}
use Rattle.stateful_db.specs.declared.database.FlushToken.{FlushToken}
use Rattle.stateful_db_shell.proofs.tables.flush_at.Goals as goal

there : {P : Type 0} (o : Option P) → is_some o ≡ true → (p : P) × (o ≡ Some p)
there None h = cc
there (Some p) h = (p, refl)

same_place : (o p : Option FlushToken) (token : FlushToken) (at : ℕ) → o ≡ Some token → o ≡ p → p ≡ Some (record { place = at }) → at ≡ token.place
same_place o p token at one same other = cc

out_last : (xs : List ℕ) (at place : ℕ) → at ≡ place → Contains (xs ++ at ∷ []) place
out_last xs at place same = Contains-append_right xs (at ∷ []) place (0, omega arith, same)

pub flush-requires-clause-out : goal.flush-requires-clause-out
flush-requires-clause-out g c =
    let kind = g.S.DatabaseSet.kind in
    let laws = g.met.S.DatabaseSet.laws in
    let m = g.S.DatabaseSet.members c.args.set.now in
    let i = c.args.database in
    let is : is_some (kind.point m) ≡ true = cc in
    let here = there (kind.point m) is in
    let within : i < kind.count = omega arith in
    let tokens = laws.finalize.tokens_finalized m here.0 i within here.1 in
    let handle = c.in_ok-barrier.ensures.handles i within in
    let place = same_place c.handle.result (open_at c.in_ok-barrier.barrier i) c.in-Some.token (kind.place m i) c.in-Some.is c.handle.ensures handle in
    rw (c.in_ok-barrier.ensures.ok, tokens) (out_last (kind.tokens m i) (kind.place m i) c.in-Some.token.place place)
