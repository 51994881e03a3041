-- How many verdicts are awaited.
use Rattle.std.proofs.Common.{◌≡◌, ℕ, suc, zero, ◌+◌, ◌-◌, ◌≤◌, ◌==◌, Bool, true, false, cond, Option, Some, None, List, refl, arith}
use Rattle.std.proofs.lemmas.Bool.{eq-eqb, eqb-true, eqb-false}
use Rattle.std.proofs.lemmas.Bool.Decides.{nat_tests}
use Rattle.stateful_table.specs.Table.{at, put, without, total}
use Rattle.stateful_p2p_tables.specs.Deliveries.{waiting_on, awaited_of, kept, heard, IsSound}
use Rattle.stateful_p2p_tables.specs.declared.state.State.{State}
use Rattle.stateful_p2p_tables.specs.declared.state.Verdicts.{Verdicts}
use Rattle.stateful_table.proofs.Tables.{at-put, at-without}

-- whether a ticket waits on this delivery
abbrev pub on : ℕ → ℕ → ℕ
on d e = cond (e == d) 1 0

module _ {D : Type 0} where
  -- a ticket that has a candidate of a delivery to judge is awaited there
  pub awaits_one : (s : State D) (d : ℕ) (v : Verdicts) (left : List (ℕ × ℕ)) → IsSound s → at s.deliveries d ≡ Some v
      → ((weigh : ℕ → ℕ) → total weigh left + weigh d ≡ total weigh s.unjudged) → 1 ≤ v.awaited
  awaits_one s d v left sound there sums =
      let c = rw there at (sound.counted d) in
      let e = sums (on d) in
      let one = rw (eq-eqb d d refl) at e in
      omega (arith, c, one)

  -- a delivery that some ticket has to judge is outstanding
  pub is_there : (s : State D) (d : ℕ) (left : List (ℕ × ℕ)) → IsSound s → ((weigh : ℕ → ℕ) → total weigh left + weigh d ≡ total weigh s.unjudged) → at s.deliveries d ≡ None → ⊥
  is_there s d left sound sums none =
      let c = rw none at (sound.counted d) in
      let e = sums (on d) in
      let one = rw (eq-eqb d d refl) at e in
      let no : ⊥ = absurd (omega (arith, c, one)) in no

  -- what is counted once a ticket gave its verdict, or left
  pub released_sound : (s : State D) (t d : ℕ) (v v' : Verdicts) (left : List (ℕ × ℕ)) → IsSound s → at s.deliveries d ≡ Some v → v'.awaited ≡ v.awaited - 1
      → ((weigh : ℕ → ℕ) → total weigh left + weigh d ≡ total weigh s.unjudged)
      → IsSound (record s { unjudged = left; deliveries = kept d v' (without s.deliveries d) })
  released_sound s t d v v' left sound there less sums = record {
    counted = λ e. counted e (v'.awaited == 0) refl (d == e) refl;
    fresh = λ e above. fresh e above (v'.awaited == 0);
  }
    where
      counted : (e : ℕ) (b : Bool) → (v'.awaited == 0) ≡ b → (h : Bool) → (d == e) ≡ h
          → waiting_on e left ≡ awaited_of (at (cond b (without s.deliveries d) (put (without s.deliveries d) d v')) e)
      counted e true none true here =
          let same = eqb-true d e here in
          let w = at-without s.deliveries d e in
          let c = sound.counted e in
          let t' = rw same at there in
          let c' = rw t' at c in
          let m = rw (same, eq-eqb e e refl) at (sums (on e)) in
          rw (w, here) (omega (arith, c', m, less, eqb-true v'.awaited 0 none))
      counted e false some true here =
          let same = eqb-true d e here in
          let w = at-put (without s.deliveries d) d v' e in
          let c = sound.counted e in
          let t' = rw same at there in
          let c' = rw t' at c in
          let m = rw (same, eq-eqb e e refl) at (sums (on e)) in
          rw (w, here) (omega (arith, c', m, less, eqb-false v'.awaited 0 some))
      counted e true none false other =
          let w = at-without s.deliveries d e in
          let c = sound.counted e in
          let m = rw other at (sums (on e)) in
          rw (w, other) (omega (arith, c, m))
      counted e false some false other =
          let w = at-put (without s.deliveries d) d v' e in
          let w' = at-without s.deliveries d e in
          let c = sound.counted e in
          let m = rw other at (sums (on e)) in
          rw (w, other, w', other) (omega (arith, c, m))

      apart : (e : ℕ) → s.next_delivery ≤ e → (d == e) ≡ false
      apart e above = go (d == e) refl
        where
          go : (b : Bool) → (d == e) ≡ b → b ≡ false
          go true same = let none = sound.fresh e above in let t' = rw (eqb-true d e same) at there in let no : ⊥ = cc in absurd no
          go false other = refl

      fresh : (e : ℕ) → s.next_delivery ≤ e → (b : Bool) → at (cond b (without s.deliveries d) (put (without s.deliveries d) d v')) e ≡ None
      fresh e above true = rw (at-without s.deliveries d e, apart e above) (sound.fresh e above)
      fresh e above false = rw (at-put (without s.deliveries d) d v' e, apart e above, at-without s.deliveries d e, apart e above) (sound.fresh e above)

-- one verdict fewer is awaited
pub heard_less : (v : Verdicts) (t : ℕ) (verdict : Option Bool) → (heard v t verdict).awaited ≡ v.awaited - 1
heard_less v t None = refl
heard_less v t (Some valid) = refl

-- what isn't 0
pub not_zero : (n : ℕ) → (n ≡ 0 → ⊥) → (n == 0) ≡ false
not_zero zero some = absurd (some refl)
not_zero (suc n) some = grind (arith, nat_tests)
