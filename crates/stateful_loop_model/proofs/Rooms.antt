-- Where fewer than two barriers are open, each database has room for one token more.
use Rattle.std.proofs.Common.{◌≡◌, ℕ, zero, suc, ◌<◌, Option, Some, None, List, [], ◌∷◌, ◌++◌, length, map, refl, sym, ap, ◌∙◌, subst, arith}
use Rattle.stateful_db.specs.Databases.{Databases}
use Rattle.stateful_db.specs.Laws.{PlaceLaws}
use Rattle.stateful_db.specs.declared.barrier.Flushed.{Flushed}
use Rattle.stateful_db.specs.declared.barrier.Flushed.TheVariants.{Good, Interrupted}
use Rattle.stateful_db.specs.declared.barrier.Handle.{Handle}
use Rattle.stateful_db.specs.declared.database.FlushToken.{FlushToken}
use Rattle.stateful_loop_model.specs.Sound.{out_of, out_in, out_at}
use Rattle.stateful_loop_model.specs.declared.barriers.Active.{Active}

out_of_short : (token : FlushToken) (answer : Option Flushed) → length (out_of (record { token = token; answer = answer })) < 2
out_of_short token None = omega arith
out_of_short token (Some Good) = omega arith
out_of_short token (Some Interrupted) = omega arith

out_in_short : (handles : List Handle) (i : ℕ) → length (out_in handles i) < 2
out_in_short [] i = omega arith
out_in_short (h ∷ hs) zero = out_of_short h.token h.answer
out_in_short (h ∷ hs) (suc i) = out_in_short hs i

without_end : (xs : List ℕ) → xs ++ [] ≡ xs
without_end [] = refl
without_end (x ∷ xs) = ap (λ ys. x ∷ ys) (without_end xs)

-- fewer than two tokens are out where fewer than two barriers are open
out_at_short : (barriers : List Active) (i : ℕ) → length barriers < 2 → length (out_at barriers i) < 2
out_at_short [] i few = omega arith
out_at_short (a ∷ []) i few = subst (λ xs. length xs < 2) (sym (without_end (out_in a.barrier i))) (out_in_short a.barrier i)
out_at_short (a ∷ b ∷ more) i few = absurd (omega arith)

length_heights : (barriers : List Active) → length (map (λ active. active.height.0) barriers) ≡ length barriers
length_heights [] = refl
length_heights (a ∷ barriers) = ap suc (length_heights barriers)

pub has_room : {Ids S T : Type 0} (d : Databases Ids S T) → PlaceLaws d → (m : d.Members) (p : Ids × S) → d.point m ≡ Some p
    → (barriers : List Active) (heights : List ℕ) → map (λ active. active.height.0) barriers ≡ heights
    → ((i : ℕ) → i < d.count → d.tokens m i ≡ out_at barriers i) → length heights < 2 → d.HasRoom m × (length barriers < 2)
has_room d laws m p here barriers heights are tokens few =
    let short : length barriers < 2 = subst (λ n. n < 2) (sym (ap length are) ∙ length_heights barriers) few in
    (laws.room_from m p here (λ i lt. subst (λ xs. length xs < 2) (sym (tokens i lt)) (out_at_short barriers i short)), short)
