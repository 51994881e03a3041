-- In which order a mailbox hands out what it takes, and that it keeps what it doesn't drop.
use Rattle.std.proofs.Common.{◌≡◌, true, false, List, [], ◌∷◌, ◌++◌, append_assoc, append-nil, subst, ◌∙◌, sym, Bool}
use Rattle.std.specs.Prelude.{cond, not, filter}
use Rattle.std.specs.List.Sorted.{IsPermutation}
use Rattle.std.proofs.lemmas.List.Sorted.{IsPermutation-refl, IsPermutation-sym, IsPermutation-trans, IsPermutation-cons, IsPermutation-middle, IsPermutation-append}
use Rattle.stateful_types.specs.Mailbox.{Queues, Parts, none_left, stays, goes, messages, Drops, Call, Calls, takes, lets_wait, hands_out, drops, closes, none, further, IsInOrder, IsKept, KeepsOrder}

-- ---- a list in two parts

module _ {T : Type 0} where
  all_stay : (xs : List T) → Parts xs xs []
  all_stay [] = none_left
  all_stay (x ∷ xs) = stays (all_stay xs)

  same_stay : (xs ys : List T) → xs ≡ ys → Parts xs ys []
  same_stay xs ys e = subst (λ (zs : List T). Parts xs zs []) e (all_stay xs)

  in_front : (front all kept gone : List T) → Parts all kept gone → Parts (front ++ all) (front ++ kept) gone
  in_front [] all kept gone parts = parts
  in_front (x ∷ front) all kept gone parts = stays (in_front front all kept gone parts)

  behind : (all kept gone rest : List T) → Parts all kept gone → Parts (all ++ rest) (kept ++ rest) gone
  behind all kept gone rest none_left = all_stay rest
  behind all kept gone rest (stays {all = xs} {kept = ys} {gone = zs} parts) = stays (behind xs ys zs rest parts)
  behind all kept gone rest (goes {all = xs} {kept = ys} {gone = zs} parts) = goes (behind xs ys zs rest parts)

  -- what stays of what stays
  pub record StaysOf (all kept gone more : List T) : Type 0 where
    pub lost : List T
    pub are : IsPermutation lost (gone ++ more)
    pub parts : Parts all kept lost

  then_parts : (all mid kept gone more : List T) → Parts all mid gone → Parts mid kept more → StaysOf all kept gone more
  then_parts all mid kept gone more none_left other = record { lost = more; are = IsPermutation-refl more; parts = other }
  then_parts all mid kept gone more (goes {x = x} {all = xs} {kept = ys} {gone = zs} one) other =
      let rec = then_parts xs ys kept zs more one other in
      record { lost = x ∷ rec.lost; are = IsPermutation-cons x rec.lost (zs ++ more) rec.are; parts = goes rec.parts }
  then_parts all mid kept gone more (stays {x = x} {all = xs} {kept = ys} {gone = zs} one) (stays {kept = ks} other) =
      let rec = then_parts xs ys ks zs more one other in
      record { lost = rec.lost; are = rec.are; parts = stays rec.parts }
  then_parts all mid kept gone more (stays {x = x} {all = xs} {kept = ys} {gone = zs} one) (goes {gone = gs} other) =
      let rec = then_parts xs ys kept zs gs one other in
      record {
        lost = x ∷ rec.lost;
        are = IsPermutation-trans (x ∷ rec.lost) (x ∷ (zs ++ gs)) (zs ++ x ∷ gs) (IsPermutation-cons x rec.lost (zs ++ gs) rec.are) (IsPermutation-sym (zs ++ x ∷ gs) (x ∷ (zs ++ gs)) (IsPermutation-middle zs x gs));
        parts = goes rec.parts;
      }

  -- what a test keeps, and what it doesn't
  pub filtered : (test : T → Bool) (xs : List T) → Parts xs (filter test xs) (filter (λ x. not (test x)) xs)
  filtered test [] = none_left
  filtered test (x ∷ xs) =
      let rest = filtered test xs in
      let kept = filter test xs in
      let gone = filter (λ y. not (test y)) xs in
      elim (test x) as (λ b. Parts (x ∷ xs) (cond b (x ∷ kept) kept) (cond (not b) (x ∷ gone) gone)) [ true ↦ stays rest | false ↦ goes rest ]

-- ---- calls of a mailbox

module _ {T : Type 0} (kept : List T → T → List T) (in_order : IsInOrder kept) where
  -- a call that drops nothing
  nothing_lost : (q : Queues T) (taken handed : List T) (r : Queues T) → messages q ++ taken ≡ handed ++ messages r → IsKept q taken handed [] r
  nothing_lost q taken handed r e = record { gone = []; are = IsPermutation-refl []; parts = same_stay (messages q ++ taken) (handed ++ messages r) e }

  some_lost : (q r : Queues T) (dropped : List T) → Drops q r dropped → IsKept q [] [] dropped r
  some_lost q r dropped d = record {
    gone = dropped;
    are = IsPermutation-refl dropped;
    parts =
        let parts : Parts (messages q) (q.ready ++ r.overflow) dropped = in_front q.ready q.overflow r.overflow dropped d.parts in
        rw (append-nil, d.others) parts;
  }

  one_keeps : (q : Queues T) (taken handed dropped : List T) (r : Queues T) → Call kept q taken handed dropped r → IsKept q taken handed dropped r
  one_keeps q taken handed dropped r (takes message room) = nothing_lost q taken handed r (rw room.overflow (simp append-nil))
  one_keeps q taken handed dropped r (lets_wait message busy) = nothing_lost q taken handed r (rw in_order (append_assoc q.ready q.overflow (message ∷ [])))
  one_keeps q taken handed dropped r (hands_out h) = nothing_lost q taken handed r (append-nil (messages q) ∙ h.front)
  one_keeps q taken handed dropped r (drops d) = some_lost q r dropped d
  one_keeps q taken handed dropped r closes = nothing_lost q taken handed r (append-nil _)

  -- two runs of calls, one behind the other
  both_keep : (q r last : Queues T) (taken handed dropped more_taken more_handed more_dropped : List T) → IsKept q taken handed dropped r → IsKept r more_taken more_handed more_dropped last
      → IsKept q (taken ++ more_taken) (handed ++ more_handed) (dropped ++ more_dropped) last
  both_keep q r last a b d a' b' d' one more =
      let first : Parts ((messages q ++ a) ++ a') ((b ++ messages r) ++ a') one.gone = behind (messages q ++ a) (b ++ messages r) one.gone a' one.parts in
      let second : Parts (b ++ (messages r ++ a')) (b ++ (b' ++ messages last)) more.gone = in_front b (messages r ++ a') (b' ++ messages last) more.gone more.parts in
      let all = then_parts (messages q ++ (a ++ a')) (b ++ (messages r ++ a')) ((b ++ b') ++ messages last) one.gone more.gone
      (subst (λ (w : List T). Parts w (b ++ (messages r ++ a')) one.gone) (append_assoc (messages q) a a') (subst (λ (w : List T). Parts ((messages q ++ a) ++ a') w one.gone) (append_assoc b (messages r) a') first))
      (subst (λ (w : List T). Parts (b ++ (messages r ++ a')) w more.gone) (sym (append_assoc b b' (messages last))) second) in
      record {
        gone = all.lost;
        are = IsPermutation-trans all.lost (one.gone ++ more.gone) (d ++ d') all.are (IsPermutation-append one.gone d more.gone d' one.are more.are);
        parts = all.parts;
      }

  all_keep : (q : Queues T) (taken handed dropped : List T) (last : Queues T) → Calls kept q taken handed dropped last → IsKept q taken handed dropped last
  all_keep q taken handed dropped last none = nothing_lost q taken handed last (append-nil _)
  all_keep q taken handed dropped last (further {r = r} {taken = a} {handed = b} {dropped = d} {more_taken = a'} {more_handed = b'} {more_dropped = d'} one more) =
      both_keep q r last a b d a' b' d' (one_keeps q a b d r one) (all_keep r a' b' d' last more)

-- an empty mailbox keeps the order, as any does
pub keeps_order : {T : Type 0} (kept : List T → T → List T) (q : Queues T) → KeepsOrder kept q
keeps_order kept q in_order = all_keep kept in_order q
