use Rattle.std.proofs.Common.{◌≡◌, ℕ, ◌<◌, List, [], ◌∷◌, Option, Some, None, Contains, refl, arith, rules}
use Rattle.stateful_db.specs.Barrier.{open_at}
use Rattle.stateful_db.specs.Databases.{Databases}
use Rattle.stateful_db.specs.Laws.{Laws}
use Rattle.stateful_db.specs.Tokens.{without}
use Rattle.stateful_db.specs.declared.database.FlushToken.{FlushToken}
use Rattle.stateful_db_bench.proofs.blocks.finalize.Goals as goal

there : {P : Type 0} (o : Option P) → (o ≡ None → ⊥) → (p : P) × (o ≡ Some p)
there None is = absurd (is refl)
there (Some p) is = (p, refl)

-- a token alone is out behind a finalize where none was
out : {I S T : Type 0} (d : Databases I S T) (m : d.Members) → Laws d → d.count ≡ 1 → (d.point m ≡ None → ⊥) → d.tokens m 0 ≡ [] → d.tokens (d.finalized m) 0 ≡ d.place m 0 ∷ []
out d m laws alone is none =
    let p = there (d.point m) is in
    rw none at (laws.finalize.tokens_finalized m p.0 0 (omega (arith, alone)) p.1)

contained : (xs : List ℕ) (at place : ℕ) → xs ≡ at ∷ [] → place ≡ at → Contains xs place
contained xs at place is same = rw (is, same) (0, omega arith, refl)

removed : (xs : List ℕ) (at place : ℕ) → xs ≡ at ∷ [] → place ≡ at → without place xs ≡ []
removed xs at place is same = rw (is, same) (search rules)

same_place : (o p : Option FlushToken) (token : FlushToken) (at : ℕ) → o ≡ Some token → o ≡ p → p ≡ Some (record { place = at }) → token.place ≡ at
same_place o p token at is same found = cc

pub flush-requires-clause-out : goal.flush-requires-clause-out
flush-requires-clause-out g c =
    let kind = g.S.DatabaseSet.kind in
    let m = g.S.DatabaseSet.members c.apply.new.self in
    let none : kind.tokens m 0 ≡ [] = rw (c.in_ok-apply.ensures.tokens 0) c.requires in
    let alone = out kind m g.met.S.DatabaseSet.laws g.met.S.NumberSet.alone c.in_ok-apply.ensures.here none in
    let handle = c.in_ok-barrier.ensures.handles 0 (omega (arith, g.met.S.NumberSet.alone)) in
    let place = same_place c.handle.result (open_at c.in_ok-barrier.barrier 0) c.in-Some.token (kind.place m 0) c.in-Some.is c.handle.ensures handle in
    rw c.in_ok-barrier.ensures.ok (contained _ _ _ alone place)

pub returns-in-Some : goal.returns-in-Some
returns-in-Some g c =
    let kind = g.S.DatabaseSet.kind in
    let laws = g.met.S.DatabaseSet.laws in
    let m = g.S.DatabaseSet.members c.apply.new.self in
    let none : kind.tokens m 0 ≡ [] = rw (c.in_ok-apply.ensures.tokens 0) c.requires in
    let alone = out kind m laws g.met.S.NumberSet.alone c.in_ok-apply.ensures.here none in
    let within : 0 < kind.count = omega (arith, g.met.S.NumberSet.alone) in
    let place = same_place c.handle.result (open_at c.in_ok-barrier.barrier 0) c.in-Some.token (kind.place m 0) c.in-Some.is c.handle.ensures (c.in_ok-barrier.ensures.handles 0 within) in
    rw (c.in_ok-flush-in-Some.ensures.ok, c.in_ok-barrier.ensures.ok, laws.flush.tokens_flushed (kind.finalized m) 0 c.in-Some.token.place within) (removed _ _ _ alone place)
