-- Reading a script line by line.
use Rattle.std.proofs.Common.{◌≡◌, ℕ, ◌+◌, ◌==◌, List, [], ◌∷◌, Bool, true, false, length, Some, None, Result, Ok, Err, refl, ap, cond, sym, ◌∙◌}
use Rattle.std.specs.List.{slice_split, onto_first}
use Rattle.stateful_script.specs.Lines.{read_line}
use Rattle.stateful_script.specs.Script.{read_from, at_line}
use Rattle.stateful_script.specs.declared.script.Script.{Script}

-- there is a first part
abbrev pub HasFirst : List (List ℕ) → Type 0
HasFirst parts = (first : List ℕ) × (more : List (List ℕ)) × (parts ≡ first ∷ more)

first_onto : (x : ℕ) (parts : List (List ℕ)) → HasFirst parts → HasFirst (onto_first x parts)
first_onto x [] h = (x ∷ [], [], refl)
first_onto x (part ∷ parts) h = (x ∷ part, parts, refl)

first_by : (b : Bool) (x : ℕ) (parts : List (List ℕ)) → HasFirst parts → HasFirst (cond b ([] ∷ parts) (onto_first x parts))
first_by true x parts h = ([], parts, refl)
first_by false x parts h = first_onto x parts h

-- a split has a first part
pub split_has_first : (p : ℕ → Bool) (xs : List ℕ) → HasFirst (slice_split p xs)
split_has_first p [] = ([], [], refl)
split_has_first p (x ∷ xs) = first_by (p x) x (slice_split p xs) (split_has_first p xs)

-- what stands between LFs
abbrev pub parts_of : List ℕ → List (List ℕ)
parts_of bytes = slice_split (λ b. b == 10) bytes

lined_at : (s : Script) (number : ℕ) (text : List ℕ) (parts : List (List ℕ)) → HasFirst parts → read_from s number (text ∷ parts) ≡ at_line number (read_line s text) (λ q. read_from q (number + 1) parts)
unfolding read_from
lined_at s number text parts (first, more, e) = rw e refl

-- a text with an LF behind it is a line
pub lined : (s : Script) (number : ℕ) (text after : List ℕ) → read_from s number (text ∷ parts_of after) ≡ at_line number (read_line s text) (λ q. read_from q (number + 1) (parts_of after))
lined s number text after = lined_at s number text (parts_of after) (split_has_first (λ b. b == 10) after)

cut_line : (s : Script) (number : ℕ) (rest text after : List ℕ) (whole : Result Script ℕ) → read_from s number (parts_of rest) ≡ whole → parts_of rest ≡ text ∷ parts_of after → at_line number (read_line s text) (λ q. read_from q (number + 1) (parts_of after)) ≡ whole
cut_line s number rest text after whole same e = sym (lined s number text after) ∙ (ap (read_from s number) (sym e) ∙ same)

pub refused_line : (s : Script) (number : ℕ) (rest text after : List ℕ) (whole : Result Script ℕ) → read_from s number (parts_of rest) ≡ whole → parts_of rest ≡ text ∷ parts_of after → read_line s text ≡ None → whole ≡ Err number
refused_line s number rest text after whole same e none = let h = rw none at (cut_line s number rest text after whole same e) in sym h

pub next_line : (s q : Script) (number : ℕ) (rest text after : List ℕ) (whole : Result Script ℕ) → read_from s number (parts_of rest) ≡ whole → parts_of rest ≡ text ∷ parts_of after → read_line s text ≡ Some q → read_from q (number + 1) (parts_of after) ≡ whole
next_line s q number rest text after whole same e some = let h = rw some at (cut_line s number rest text after whole same e) in h

pub last_at : (s : Script) (number : ℕ) (rest : List ℕ) → read_from s number (rest ∷ []) ≡ cond (length rest == 0) (Ok s) (Err number)
unfolding read_from
last_at s number rest = refl

pub at_end : (s : Script) (number : ℕ) (rest : List ℕ) (whole : Result Script ℕ) → read_from s number (parts_of rest) ≡ whole → parts_of rest ≡ rest ∷ [] → (length rest == 0) ≡ true → whole ≡ Ok s
at_end s number rest whole same e empty = sym same ∙ (ap (read_from s number) e ∙ (last_at s number rest ∙ rw empty refl))

pub no_end : (s : Script) (number : ℕ) (rest : List ℕ) (whole : Result Script ℕ) → read_from s number (parts_of rest) ≡ whole → parts_of rest ≡ rest ∷ [] → (length rest == 0) ≡ false → whole ≡ Err number
no_end s number rest whole same e some = sym same ∙ (ap (read_from s number) e ∙ (last_at s number rest ∙ rw some refl))
