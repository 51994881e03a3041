-- A rule on marks, from moment to moment: which marks are made between them, and that each keeps the rule at its place.
use Rattle.std.proofs.Common.{◌≡◌, ◌++◌, List, [], ◌∷◌, sym, ap, ◌∙◌, subst}
use Rattle.std.proofs.lemmas.List.{append_assoc, append-nil, append_cancel_left}
use Rattle.stateful_history.specs.Past.{Past, EachMark, after}
use Rattle.stateful_history.specs.declared.mark.Mark.{Mark}
use Rattle.stateful_history.proofs.Marks.{EachMark-append, after-append}
use Rattle.stateful_exec_model.specs.Ending.{InTurn, none, next}
use Rattle.stateful_exec_model.specs.Moments.{Moment}
use Rattle.stateful_exec_model.specs.Workings.{Workings}

module _ {B C I P R D H G U : Type 0} (w : Workings B C I P R D H G U) (Rule : Past B C I → Mark B → Type 0) where
  -- from one moment to a later one some marks are made, and each of them keeps the rule
  pub record KeepsBehind (p : Past B C I) (m now : Moment w) : Type 0 where
    pub more : List (Mark B)
    pub marks_are : now.marks ≡ m.marks ++ more
    pub each : EachMark Rule p more

  -- where no mark is made
  pub KeepsBehind-same : (p : Past B C I) (m now : Moment w) → now.marks ≡ m.marks → KeepsBehind p m now
  KeepsBehind-same p m now is = record { more = []; marks_are = is ∙ sym (append-nil m.marks); each = tt }

  -- the marks that were made are those of the record
  pub EachMark-behind : (p : Past B C I) (m now : Moment w) (more : List (Mark B)) → now.marks ≡ m.marks ++ more → KeepsBehind p m now → EachMark Rule p more
  EachMark-behind p m now more is k = subst (λ (ms : List (Mark B)). EachMark Rule p ms) (append_cancel_left m.marks k.more more (sym k.marks_are ∙ is)) k.each

  -- from one moment over another one to a third
  pub KeepsBehind-then : (p : Past B C I) (m mid now : Moment w) (more : List (Mark B)) → mid.marks ≡ m.marks ++ more → KeepsBehind p m mid → KeepsBehind (after p more) mid now → KeepsBehind p m now
  KeepsBehind-then p m mid now more is e f = record {
    more = more ++ f.more;
    marks_are = f.marks_are ∙ ap (λ (ms : List (Mark B)). ms ++ f.more) is ∙ append_assoc m.marks more f.more;
    each = EachMark-append Rule p more f.more (EachMark-behind p m mid more is e) f.each;
  }

  module _ {X : Type 0} (Step : X → Moment w → Moment w → Type 0) (Ready : List X → Past B C I → Moment w → Type 0) where
    -- so it is, and these are ready behind it
    pub record KeepsReady (xs : List X) (p : Past B C I) (m now : Moment w) : Type 0 where
      pub more : List (Mark B)
      pub marks_are : now.marks ≡ m.marks ++ more
      pub each : EachMark Rule p more
      pub ready : Ready xs (after p more) now

    -- from one moment over another one to a third, with what is ready then
    pub KeepsReady-then : (xs : List X) (p : Past B C I) (m mid now : Moment w) (more : List (Mark B)) → mid.marks ≡ m.marks ++ more → EachMark Rule p more → KeepsReady xs (after p more) mid now → KeepsReady xs p m now
    KeepsReady-then xs p m mid now more is each rest = record {
      more = more ++ rest.more;
      marks_are = rest.marks_are ∙ ap (λ (ms : List (Mark B)). ms ++ rest.more) is ∙ append_assoc m.marks more rest.more;
      each = EachMark-append Rule p more rest.more each rest.each;
      ready = subst (λ (q : Past B C I). Ready xs q now) (sym (after-append p more rest.more)) rest.ready;
    }

    module _ (keeps : (x : X) (xs : List X) (p : Past B C I) (m now : Moment w) → Ready (x ∷ xs) p m → Step x m now → KeepsReady xs p m now) where
      -- one step after another
      pub KeepsReady-in_turn : (xs : List X) (p : Past B C I) (m last : Moment w) → Ready xs p m → InTurn Step xs m last → KeepsReady [] p m last
      KeepsReady-in_turn [] p m _ ready none = record { more = []; marks_are = sym (append-nil m.marks); each = tt; ready = ready }
      KeepsReady-in_turn (x ∷ xs) p m last ready (next {n = n} rule rules) =
          let one : KeepsReady xs p m n = keeps x xs p m n ready rule in
          KeepsReady-then [] p m n last one.more one.marks_are one.each (KeepsReady-in_turn xs (after p one.more) n last one.ready rules)
