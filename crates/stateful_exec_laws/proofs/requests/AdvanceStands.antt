-- The tables stand behind a request that goes along its path.
use Rattle.std.proofs.Common.{◌≡◌, ◌++◌, ℕ, List, [], ◌∷◌, All, Option, refl, sym, ap, ◌∙◌, subst}
use Rattle.std.proofs.lemmas.List.{append_assoc}
use Rattle.std.proofs.lemmas.List.Elements.{All-nil, All-cons, All-head, All-tail}
use Rattle.stateful_base.specs.Names.{Header, Named}
use Rattle.stateful_history.specs.Setting.{parent_of}
use Rattle.stateful_history.specs.Past.{Past}
use Rattle.stateful_history.specs.Met.{Met}
use Rattle.stateful_exec_walk.specs.Path.{Path, Descends}
use Rattle.stateful_exec_tables.specs.Meeting.{first_or}
use Rattle.stateful_exec_tables.specs.Meeting.{Reaches}
use Rattle.stateful_exec_model.specs.Workings.{Workings}
use Rattle.stateful_exec_walk.specs.declared.request.Request.{Request}
use Rattle.stateful_exec_tables.specs.declared.state.Tables.{Tables}
use Rattle.stateful_exec_laws.specs.Setting.{setting}
use Rattle.stateful_exec_laws.specs.Requesting.{steps, LeadsDown, IsWayOf}

module _ {B : Type 0} (header : Header B) where
  Descends-front : (xs ys : List (Named B)) → Descends header (xs ++ ys) → Descends header xs
  Descends-front [] ys h = tt
  Descends-front (x ∷ []) ys h = tt
  Descends-front (x ∷ y ∷ xs) ys h = (h.0, Descends-front (y ∷ xs) ys h.1)

  LeadsDown-front : (xs ys : List (Named B)) → LeadsDown header (xs ++ ys) → LeadsDown header xs
  LeadsDown-front [] ys h = tt
  LeadsDown-front (x ∷ []) ys h = tt
  LeadsDown-front (x ∷ y ∷ xs) ys h = (h.0, Descends-front (y ∷ xs) ys h.1)

  Descends-child : (xs : List (Named B)) (b parent : Named B) (ys : List (Named B)) → Descends header (xs ++ b ∷ parent ∷ ys) → parent.digest ≡ header.parent b.block
  Descends-child [] b parent ys h = h.0.0
  Descends-child (x ∷ []) b parent ys h = h.1.0.0
  Descends-child (x ∷ y ∷ xs) b parent ys h = Descends-child (y ∷ xs) b parent ys h.1

  LeadsDown-child : (xs : List (Named B)) (b parent : Named B) (ys : List (Named B)) → LeadsDown header (xs ++ b ∷ parent ∷ ys) → parent.digest ≡ header.parent b.block
  LeadsDown-child [] b parent ys h = h.0
  LeadsDown-child (x ∷ []) b parent ys h = h.1.0.0
  LeadsDown-child (x ∷ y ∷ xs) b parent ys h = Descends-child (y ∷ xs) b parent ys h.1

pub All-front : {X : Type 0} (P : X → Type 0) (xs ys : List X) → All P (xs ++ ys) → All P xs
All-front P [] ys all = All-nil P
All-front P (x ∷ xs) ys all = All-cons P x xs (All-head P x (xs ++ ys) all) (All-front P xs ys (All-tail P x (xs ++ ys) all))

pub All-back : {X : Type 0} (P : X → Type 0) (xs ys : List X) → All P (xs ++ ys) → All P ys
All-back P [] ys all = all
All-back P (x ∷ xs) ys all = All-back P xs ys (All-tail P x (xs ++ ys) all)

-- the first of what is left and the block that was met is the first of the path
first_same : {B : Type 0} (left passed : List (Named B)) (b parent : Named B) → first_or parent (left ++ b ∷ passed) ≡ first_or b left
first_same [] passed b parent = refl
first_same (x ∷ left) passed b parent = refl

-- what was passed and the end of the path begin with the parent
record Begins {B : Type 0} (passed : List (Named B)) (last : Named B) : Type 0 where
  rest : List (Named B)
  is : passed ++ last ∷ [] ≡ first_or last passed ∷ rest

begins_with : {B : Type 0} (passed : List (Named B)) (last : Named B) → Begins passed last
begins_with [] last = record { rest = []; is = refl }
begins_with (x ∷ passed) last = record { rest = passed ++ last ∷ []; is = refl }

module _ {B C I P R D H G U : Type 0} (w : Workings B C I P R D H G U) (stored : ℕ → Option (Named B)) (p : Past B C I) (v : Tables B C I R U) (request : Request B C I) (path : Path B) (way : IsWayOf w stored p request path)
    (left : List (Named B)) (b parent : Named B) (reaches : Reaches w.header v path left b parent) where
  module _ (begins : Begins reaches.passed path.parent) where
    abbrev whole : List (Named B)
    whole = left ++ (b ∷ (parent ∷ begins.rest))

    whole_is : steps path ≡ left ++ (b ∷ (parent ∷ begins.rest))
    whole_is =
        let behind : reaches.passed ++ path.parent ∷ [] ≡ parent ∷ begins.rest = begins.is ∙ ap (λ x. x ∷ begins.rest) (sym reaches.parent_is) in
        ap (λ l. l ++ path.parent ∷ []) reaches.parts ∙ append_assoc left (b ∷ reaches.passed) (path.parent ∷ []) ∙ ap (λ l. left ++ (b ∷ l)) behind

    each_met : All (Met (setting w stored) p) (left ++ (b ∷ (parent ∷ begins.rest)))
    each_met = subst (λ l. All (Met (setting w stored) p) l) whole_is way.met

    leads : LeadsDown w.header (left ++ (b ∷ (parent ∷ begins.rest)))
    leads = subst (λ l. LeadsDown w.header l) whole_is way.leads

    behind_met : All (Met (setting w stored) p) (b ∷ (parent ∷ begins.rest))
    behind_met = All-back (Met (setting w stored) p) left (b ∷ (parent ∷ begins.rest)) each_met

    met_by : Met (setting w stored) p b
    met_by = All-head (Met (setting w stored) p) b (parent ∷ begins.rest) behind_met

    parent_met_by : Met (setting w stored) p parent
    parent_met_by = All-head (Met (setting w stored) p) parent begins.rest (All-tail (Met (setting w stored) p) b (parent ∷ begins.rest) behind_met)

    child_by : parent.digest ≡ parent_of (setting w stored) b
    child_by = LeadsDown-child w.header left b parent begins.rest leads

    regroup : left ++ (b ∷ (parent ∷ begins.rest)) ≡ (left ++ b ∷ []) ++ (parent ∷ begins.rest)
    regroup = sym (append_assoc left (b ∷ []) (parent ∷ begins.rest))

    way_by : IsWayOf w stored p request (record { blocks = left; parent = b })
    way_by = record {
      met = All-front (Met (setting w stored) p) (left ++ b ∷ []) (parent ∷ begins.rest) (subst (λ l. All (Met (setting w stored) p) l) regroup each_met);
      leads = LeadsDown-front w.header (left ++ b ∷ []) (parent ∷ begins.rest) (subst (λ l. LeadsDown w.header l) regroup leads);
      begins = sym (first_same left reaches.passed b path.parent) ∙ ap (λ l. first_or path.parent l) (sym reaches.parts) ∙ way.begins;
    }

  -- the block that is met on the path and its parent are blocks of the history, and it is the parent's child
  pub reached_met : Met (setting w stored) p b
  reached_met = met_by (begins_with reaches.passed path.parent)

  pub reached_parent_met : Met (setting w stored) p parent
  reached_parent_met = parent_met_by (begins_with reaches.passed path.parent)

  pub reached_child : parent.digest ≡ parent_of (setting w stored) b
  reached_child = child_by (begins_with reaches.passed path.parent)

  -- what is left is a way of the request down to the block that was met
  pub reached_way : IsWayOf w stored p request (record { blocks = left; parent = b })
  reached_way = way_by (begins_with reaches.passed path.parent)
