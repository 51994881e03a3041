-- How many tickets are live, and what changes leave of a mailbox.
use Rattle.std.proofs.Common.{◌≡◌, ℕ, ◌+◌, ◌≤◌, ◌==◌, Bool, true, false, cond, Option, Some, None, List, [], ◌∷◌, length, refl, ◌∙◌, arith}
use Rattle.std.specs.Map.{values_of}
use Rattle.std.proofs.lemmas.List.Sums.{sum_by-cons}
use Rattle.std.proofs.lemmas.Bool.{eqb-true}
use Rattle.std.proofs.lemmas.Bool.Decides.{nat_tests}
use Rattle.stateful_table.specs.Table.{at, put, without}
use Rattle.stateful_p2p.specs.Tickets.{stands_live, ended, ended_from, answered, live_weight, live_count}
use Rattle.stateful_p2p.specs.declared.tickets.Standing.{Standing}
use Rattle.stateful_p2p.specs.declared.tickets.Standing.TheVariants.{Open, Answered, Dropped}
use Rattle.stateful_table.proofs.Tables.{at-put, at-without}

light : (s : Standing) → live_weight s ≤ 1
light Open = omega arith
light Answered = omega arith
light Dropped = omega arith

-- no more are live than there are
pub live_few : (tickets : List (ℕ × Standing)) → live_count tickets ≤ length tickets
live_few [] = omega arith
live_few (e ∷ es) = omega (arith, sum_by-cons live_weight e.1 (values_of es), light e.1, live_few es)

-- ---- tickets that weren't drawn

abbrev pub AreFresh : ℕ → List (ℕ × Standing) → Type 0
AreFresh next tickets = (t : ℕ) → next ≤ t → at tickets t ≡ None

pub drawn_fresh : (next : ℕ) (tickets : List (ℕ × Standing)) (s : Standing) → AreFresh next tickets → AreFresh (next + 1) (put tickets next s)
drawn_fresh next tickets s fresh t above = let e = at-put tickets next s t in let f = fresh t (omega arith) in grind (arith, nat_tests)

-- what a ticket that isn't there leaves
put_fresh : (next : ℕ) (tickets : List (ℕ × Standing)) (u : ℕ) (s held : Standing) → at tickets u ≡ Some held → AreFresh next tickets → AreFresh next (put tickets u s)
put_fresh next tickets u s held there fresh t above =
    let e = at-put tickets u s t in
    let f = fresh t above in
    go (u == t) refl e f
  where
    go : (b : Bool) → (u == t) ≡ b → at (put tickets u s) t ≡ cond (u == t) (Some s) (at tickets t) → at tickets t ≡ None → at (put tickets u s) t ≡ None
    go true same e f = absurd (let at_u : at tickets t ≡ Some held = rw (eqb-true u t same) at there in cc)
    go false other e f = e ∙ rw other f

without_fresh : (next : ℕ) (tickets : List (ℕ × Standing)) (u : ℕ) → AreFresh next tickets → AreFresh next (without tickets u)
without_fresh next tickets u fresh t above = let e = at-without tickets u t in let f = fresh t above in go (u == t) e f
  where
    go : (b : Bool) → at (without tickets u) t ≡ cond b None (at tickets t) → at tickets t ≡ None → at (without tickets u) t ≡ None
    go true e f = e
    go false e f = e ∙ f

pub ended_fresh : (next : ℕ) (tickets : List (ℕ × Standing)) (u : ℕ) → AreFresh next tickets → AreFresh next (ended tickets u)
ended_fresh next tickets u fresh = go (at tickets u) refl
  where
    go : (held : Option Standing) → at tickets u ≡ held → AreFresh next (ended_from held tickets u)
    go None is = fresh
    go (Some Open) is = put_fresh next tickets u Dropped Open is fresh
    go (Some Answered) is = without_fresh next tickets u fresh
    go (Some Dropped) is = fresh

pub answered_fresh : (next : ℕ) (tickets : List (ℕ × Standing)) (u : ℕ) → AreFresh next tickets → AreFresh next (answered tickets u)
answered_fresh next tickets u fresh = go (at tickets u) refl
  where
    go : (held : Option Standing) → at tickets u ≡ held → AreFresh next (cond (stands_live held) (put tickets u Answered) tickets)
    go None is = fresh
    go (Some Open) is = put_fresh next tickets u Answered Open is fresh
    go (Some Answered) is = put_fresh next tickets u Answered Answered is fresh
    go (Some Dropped) is = fresh
