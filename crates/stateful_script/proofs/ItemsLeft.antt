-- Reading the items of a line one by one.
use Rattle.std.proofs.Common.{◌≡◌, ℕ, zero, suc, ◌≤◌, List, [], ◌∷◌, ◌++◌, length, Option, Some, None, option_map, arith, refl, ap, sym, ◌∙◌, append-nil, append_assoc}
use Rattle.stateful_script.specs.Fields.{Fields}
use Rattle.stateful_script.specs.BlockItems.{item_by, items_within, items_of, with_first}
use Rattle.stateful_script.specs.declared.item.Item.{Item}

-- the items read, and what the fields that are left spell, make the whole
pub record Remaining (front : List Item) (left : Fields) (whole : Option (List Item)) : Type 0 where
  pub most : ℕ
  pub enough : length left ≤ most
  pub same : option_map (λ more. front ++ more) (items_within most left) ≡ whole

map_id : (o : Option (List Item)) → option_map (λ more. [] ++ more) o ≡ o
map_id None = refl
map_id (Some x) = refl

pub at_first : (fields : Fields) → Remaining [] fields (items_of fields)
unfolding items_of
at_first fields = record { most = length fields; enough = omega arith; same = map_id (items_within (length fields) fields) }

none_left : (n : ℕ) → items_within n [] ≡ Some []
unfolding items_within
none_left zero = refl
none_left (suc n) = refl

pub at_last : (front : List Item) (whole : Option (List Item)) → Remaining front [] whole → Some front ≡ whole
at_last front whole r = let e = rw (none_left r.most, append-nil) at r.same in e

shift : (front : List Item) (item : Item) (o : Option (List Item)) → option_map (λ more. front ++ more) (with_first item o) ≡ option_map (λ more. (front ++ item ∷ []) ++ more) o
shift front item None = refl
shift front item (Some more) = ap Some (sym (append_assoc front (item ∷ []) more))

step_at : (n : ℕ) (front : List Item) (word : List ℕ) (after rest : Fields) (item : Item) (whole : Option (List Item)) → length (word ∷ after) ≤ n → option_map (λ more. front ++ more) (items_within n (word ∷ after)) ≡ whole → item_by word after ≡ Some (item, rest) → length rest ≤ length after → Remaining (front ++ item ∷ []) rest whole
unfolding items_within
step_at zero front word after rest item whole enough same e less = absurd (omega arith)
step_at (suc n) front word after rest item whole enough same e less =
    let same' = rw e at same in
    record { most = n; enough = omega arith; same = sym (shift front item (items_within n rest)) ∙ same' }

pub one_more : (front : List Item) (word : List ℕ) (after rest : Fields) (item : Item) (whole : Option (List Item)) → Remaining front (word ∷ after) whole → item_by word after ≡ Some (item, rest) → length rest ≤ length after → Remaining (front ++ item ∷ []) rest whole
one_more front word after rest item whole r e less = step_at r.most front word after rest item whole r.enough r.same e less

refused_at : (n : ℕ) (front : List Item) (word : List ℕ) (after : Fields) (whole : Option (List Item)) → option_map (λ more. front ++ more) (items_within n (word ∷ after)) ≡ whole → item_by word after ≡ None → None ≡ whole
unfolding items_within
refused_at zero front word after whole same e = same
refused_at (suc n) front word after whole same e = rw e at same

pub refused : (front : List Item) (word : List ℕ) (after : Fields) (whole : Option (List Item)) → Remaining front (word ∷ after) whole → item_by word after ≡ None → None ≡ whole
refused front word after whole r e = refused_at r.most front word after whole r.same e
