use Rattle.std.proofs.Common.{◌≡◌, ℕ, ◌==◌, false, ◌∷◌, refl, subst, arith}
use Rattle.std.proofs.lemmas.Bool.Decides.{nat_tests}
use Rattle.stateful_bank.specs.Balances.{with_balance}
use Rattle.stateful_db_plain.specs.Whole.{put}
use Rattle.stateful_db_plain.specs.Shown.{DraftShows}
use Rattle.stateful_bank_plain.specs.Single.{state_after}
use Rattle.stateful_bank_plain.proofs.single.SingleWorld.set_balance.Goals as goal
use Rattle.stateful_bank_plain.proofs.single.SingleWorld.set_balance.Goals.{then-balance-eq0, else-balance-eq0}

not_zero : (n : ℕ) → (n ≡ 0 → ⊥) → (n == 0) ≡ false
not_zero n h = grind (arith, nat_tests)

pub returns : goal.returns
returns c = λ entries i p chain holds.
    let wrote = c.in_ok-write.ensures (i, state_after p.1 entries) (p ∷ chain) holds in
    let same : put entries c.from.result c.if-balance-eq0.entry ≡ with_balance entries c.args.account c.args.balance =
    elim c.if-balance-eq0.branch [
      | then-balance-eq0 w ↦ rw (w.entry-is, c.from.ensures, w.if-balance-eq0.true) refl
      | else-balance-eq0 w ↦ rw (w.entry-is, c.from.ensures, not_zero c.args.balance w.if-balance-eq0.false) refl
    ] in
    subst (λ after. DraftShows c.in_ok-write.field-0 ((i, state_after p.1 after) ∷ p ∷ chain)) same wrote
