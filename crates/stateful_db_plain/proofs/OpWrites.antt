-- writing entries by ascending key
use Rattle.std.proofs.Common.{◌≡◌, ℕ, ◌+◌, ◌^◌, ◌<◌, ◌≤◌, List, [], ◌∷◌, ◌++◌, length, refl, sym, ap, subst, ◌∙◌, append_assoc, append-nil, arith}
use Rattle.std.specs.Int.{w64, to_be_bytes}
use Rattle.stateful_base.specs.Number.{u32_format}
use Rattle.stateful_db_plain.specs.Whole.{entry_bytes, pair_bytes}
use Rattle.stateful_db_plain.specs.Writes.{IsInOrder}
use Rattle.stateful_db_plain.specs.Ops.{AscendFrom, op_format}
use Rattle.stateful_db_plain.proofs.Entries.{Above, Ascends, ascends_from}

-- keys and values have 64 bits
abbrev pub Wide : List (ℕ × ℕ) → Type 0
Wide [] = Unit {0}
Wide (e ∷ es) = (e.0 < 2 ^ 64) × ((e.1 < 2 ^ 64) × Wide es)

wide_more : (es : List (ℕ × ℕ)) (k v : ℕ) → Wide es → k < 2 ^ 64 → v < 2 ^ 64 → Wide (es ++ (k, v) ∷ [])
wide_more [] k v wide key value = (key, (value, tt))
wide_more (e ∷ es) k v wide key value = (wide.0, (wide.1.0, wide_more es k v wide.1.1 key value))

bytes_more : (es : List (ℕ × ℕ)) (k v : ℕ) → entry_bytes (es ++ (k, v) ∷ []) ≡ entry_bytes es ++ pair_bytes k v
bytes_more [] k v = append-nil (pair_bytes k v)
bytes_more (e ∷ es) k v = ap (λ w. pair_bytes e.0 e.1 ++ w) (bytes_more es k v) ∙ sym (append_assoc (pair_bytes e.0 e.1) (entry_bytes es) (pair_bytes k v))

-- the first key isn't below this one
abbrev Begins_at : ℕ → List (ℕ × ℕ) → Type 0
Begins_at least [] = Unit {0}
Begins_at least (e ∷ es) = least ≤ e.0

begins_above : (k : ℕ) (es : List (ℕ × ℕ)) → Above k es → Begins_at (k + 1) es
begins_above k [] above = tt
begins_above k (e ∷ es) above = omega (arith, above.0)

ascend : (least : ℕ) (es : List (ℕ × ℕ)) → Begins_at least es → Ascends es → Wide es → AscendFrom least es
ascend least [] first up wide = tt
ascend least (e ∷ es) first up wide = (first, (wide.0, (wide.1.0, ascend (e.0 + 1) es (begins_above e.0 es up.0) up.1 wide.1.1)))

begins_first : (es : List (ℕ × ℕ)) → Begins_at 0 es
begins_first [] = tt
begins_first (e ∷ es) = omega arith

-- behind what was there stand the number of all entries, and those that aren't left
pub record WritesOn (before out : List ℕ) (all left : List (ℕ × ℕ)) : Type 0 where
  pub done : List (ℕ × ℕ)
  pub whole : done ++ left ≡ all
  pub wide : Wide done
  pub written : out ≡ before ++ (u32_format.spelling (length all) ++ entry_bytes done)

module _ (before out : List ℕ) (all : List (ℕ × ℕ)) where
  pub writes_none : out ≡ before ++ u32_format.spelling (length all) → WritesOn before out all all
  writes_none is = record { done = []; whole = refl; wide = tt; written = is ∙ ap (λ w. before ++ w) (sym (append-nil (u32_format.spelling (length all)))) }

  -- one entry more
  pub writes_more : (last after : List ℕ) (k v : ℕ) (left rest : List (ℕ × ℕ)) → WritesOn before out all left → left ≡ (k, v) ∷ rest → k < 2 ^ 64 → v < 2 ^ 64
      → last ≡ out ++ to_be_bytes w64 k → after ≡ last ++ to_be_bytes w64 v → WritesOn before after all rest
  writes_more last after k v left rest on is key value one two =
      let count = u32_format.spelling (length all) in
      let done = entry_bytes on.done in
      let pair = pair_bytes k v in
      record {
        done = on.done ++ (k, v) ∷ [];
        whole = append_assoc on.done ((k, v) ∷ []) rest ∙ ap (λ xs. on.done ++ xs) (sym is) ∙ on.whole;
        wide = wide_more on.done k v on.wide key value;
        written =
            two ∙ ap (λ w. w ++ to_be_bytes w64 v) one ∙ append_assoc out (to_be_bytes w64 k) (to_be_bytes w64 v) ∙ ap (λ w. w ++ pair) on.written
            ∙ append_assoc before (count ++ done) pair
            ∙ ap (λ w. before ++ w) (append_assoc count done pair ∙ ap (λ w. count ++ w) (sym (bytes_more on.done k v)));
      }

  module _ (on : WritesOn before out all []) where
    all_done : on.done ≡ all
    all_done = sym (append-nil on.done) ∙ on.whole

    pub writes_fits : IsInOrder all → length all < 2 ^ 32 → op_format.fits all
    writes_fits up small =
        let P : List (ℕ × ℕ) → Type 0 = λ es. Wide es in
        (small, ascend 0 all (begins_first all) (ascends_from all up) (subst P all_done on.wide))

    pub writes_all : out ≡ before ++ op_format.spelling all
    writes_all = on.written ∙ ap (λ es. before ++ (u32_format.spelling (length all) ++ entry_bytes es)) all_done
