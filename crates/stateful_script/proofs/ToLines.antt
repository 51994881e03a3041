-- From the answer to lines: bytes that are read, or refused, as lines with an LF behind each.
use Rattle.std.proofs.Common.{◌≡◌, ◌≢◌, ℕ, ◌+◌, ◌<◌, ◌==◌, Bool, true, false, cond, List, [], ◌∷◌, ◌++◌, Option, Some, None, Ok, Err, length, refl, ap, sym, ◌∙◌, ◌⊎◌, inl, inr, arith, append-nil, append_assoc, All}
use Rattle.std.specs.List.{onto_first, join_with_byte}
use Rattle.std.proofs.lemmas.Grind.{common_steps}
use Rattle.std.proofs.lemmas.List.{nil_from_length}
use Rattle.std.proofs.lemmas.List.Elements.{All-nil, All-cons, All-head, All-tail, All-same}
use Rattle.std.proofs.lemmas.List.Splits.{join_with_byte-slice_split}
use Rattle.stateful_script.specs.Named.{at_start}
use Rattle.stateful_script.specs.Lines.{read_line}
use Rattle.stateful_script.specs.Script.{read_from, at_line, script_or_line}
use Rattle.stateful_script.specs.Laws.{IsLine, text_of, after_lines, IsWhole, IsUnread, IsFirstUnread}
use Rattle.stateful_script.specs.declared.script.Script.{Script}
use Rattle.stateful_script.proofs.LinesLeft.{HasFirst, split_has_first, parts_of}
use Rattle.stateful_script.proofs.FromLines.{regroup}

not_lf : (b : ℕ) → (b == 10) ≡ false → b ≢ 10
not_lf b h = grind (arith, common_steps)

-- no part has an LF
apart_by : (b : Bool) (x : ℕ) (parts : List (List ℕ)) → (x == 10) ≡ b → All IsLine parts → All IsLine (cond b ([] ∷ parts) (onto_first x parts))
apart_by true x parts is h = All-cons IsLine [] parts (All-nil (λ b. b ≢ 10)) h
apart_by false x [] is h = All-cons IsLine (x ∷ []) [] (All-cons (λ b. b ≢ 10) x [] (not_lf x is) (All-nil (λ b. b ≢ 10))) (All-nil IsLine)
apart_by false x (part ∷ parts) is h =
    All-cons IsLine (x ∷ part) parts (All-cons (λ b. b ≢ 10) x part (not_lf x is) (All-head IsLine part parts h)) (All-tail IsLine part parts h)

parts_apart : (bytes : List ℕ) → All IsLine (parts_of bytes)
parts_apart [] = All-cons IsLine [] [] (All-nil (λ b. b ≢ 10)) (All-nil IsLine)
parts_apart (x ∷ xs) = apart_by (x == 10) x (parts_of xs) refl (parts_apart xs)

-- the parts in front, and the one at the seam
All-front : (xs ys : List (List ℕ)) → All IsLine (xs ++ ys) → All IsLine xs
All-front [] ys h = All-nil IsLine
All-front (x ∷ xs) ys h = All-cons IsLine x xs (All-head IsLine x (xs ++ ys) h) (All-front xs ys (All-tail IsLine x (xs ++ ys) h))

All-seam : (xs : List (List ℕ)) (y : List ℕ) (ys : List (List ℕ)) → All IsLine (xs ++ y ∷ ys) → IsLine y
All-seam [] y ys h = All-head IsLine y ys h
All-seam (x ∷ xs) y ys h = All-seam xs y ys (All-tail IsLine x (xs ++ y ∷ ys) h)

-- parts joined by LFs are lines with an LF behind each, and what is left

join_first : (line : List ℕ) (parts : List (List ℕ)) → HasFirst parts → join_with_byte 10 (line ∷ parts) ≡ line ++ 10 ∷ join_with_byte 10 parts
join_first line parts (first, more, is) = rw is refl

seam_has_first : (lines : List (List ℕ)) (text : List ℕ) (rest : List (List ℕ)) → HasFirst (lines ++ text ∷ rest)
seam_has_first [] text rest = (text, rest, refl)
seam_has_first (line ∷ lines) text rest = (line, lines ++ text ∷ rest, refl)

join_lines : (lines : List (List ℕ)) (text : List ℕ) (rest : List (List ℕ)) → join_with_byte 10 (lines ++ text ∷ rest) ≡ text_of lines ++ join_with_byte 10 (text ∷ rest)
join_lines [] text rest = refl
join_lines (line ∷ lines) text rest =
    join_first line (lines ++ text ∷ rest) (seam_has_first lines text rest)
    ∙ (ap (λ more. line ++ 10 ∷ more) (join_lines lines text rest)
    ∙ sym (regroup line lines (join_with_byte 10 (text ∷ rest))))

joined : (bytes : List ℕ) (lines : List (List ℕ)) (text : List ℕ) (rest : List (List ℕ)) → parts_of bytes ≡ lines ++ text ∷ rest → bytes ≡ text_of lines ++ join_with_byte 10 (text ∷ rest)
joined bytes lines text rest split = sym (join_with_byte-slice_split 10 bytes) ∙ (ap (join_with_byte 10) split ∙ join_lines lines text rest)

-- all parts but the last are lines that are read, and the last is empty
record AreRead (s : Script) (parts : List (List ℕ)) (q : Script) : Type 0 where
  lines : List (List ℕ)
  split : parts ≡ lines ++ [] ∷ []
  read : after_lines s lines ≡ Some q

last_read : (s q : Script) (number : ℕ) (last : List ℕ) (b : Bool) → (length last == 0) ≡ b → cond b (Ok s) (Err number) ≡ Ok q → AreRead s (last ∷ []) q
last_read s q number last true is h =
    let empty : last ≡ [] = nil_from_length last (grind (arith, common_steps)) in
    record { lines = []; split = ap (λ l. l ∷ []) empty; read = cc }
last_read s q number last false is h = absurd (cc)

line_read : (s q : Script) (number : ℕ) (text next : List ℕ) (more : List (List ℕ)) (o : Option Script) → read_line s text ≡ o → at_line number o (λ p. read_from p (number + 1) (next ∷ more)) ≡ Ok q → ((p : Script) → read_from p (number + 1) (next ∷ more) ≡ Ok q → AreRead p (next ∷ more) q) → AreRead s (text ∷ next ∷ more) q
line_read s q number text next more None is h later = absurd (cc)
line_read s q number text next more (Some p) is h later =
    let those = later p h in
    record { lines = text ∷ those.lines; split = ap (λ l. text ∷ l) those.split; read = rw is those.read }

are_read : (s q : Script) (number : ℕ) (parts : List (List ℕ)) → read_from s number parts ≡ Ok q → AreRead s parts q
unfolding read_from
are_read s q number [] h = absurd (cc)
are_read s q number (last ∷ []) h = last_read s q number last (length last == 0) refl h
are_read s q number (text ∷ next ∷ more) h =
    line_read s q number text next more (read_line s text) refl h (λ p k. are_read p q (number + 1) (next ∷ more) k)

pub whole : (bytes : List ℕ) (s : Script) → script_or_line bytes ≡ Ok s → IsWhole bytes s
unfolding script_or_line
whole bytes s h =
    let those = are_read at_start s 1 (parts_of bytes) h in
    record {
      lines = those.lines;
      apart = All-front those.lines ([] ∷ []) (All-same IsLine _ _ (sym those.split) (parts_apart bytes));
      spelled = joined bytes those.lines [] [] those.split ∙ append-nil (text_of those.lines);
      read = those.read;
    }

-- the parts before some part are lines that are read, and that part isn't one
record FirstUnreadPart (s : Script) (number : ℕ) (parts : List (List ℕ)) (line : ℕ) : Type 0 where
  lines : List (List ℕ)
  before : Script
  text : List ℕ
  rest : List (List ℕ)
  split : parts ≡ lines ++ text ∷ rest
  counted : line ≡ number + length lines
  read : after_lines s lines ≡ Some before
  unread : (HasFirst rest × (read_line before text ≡ None)) ⊎ ((0 < length text) × (rest ≡ []))

last_unread : (s : Script) (number line : ℕ) (last : List ℕ) (b : Bool) → (length last == 0) ≡ b → cond b (Ok s) (Err number) ≡ Err line → FirstUnreadPart s number (last ∷ []) line
last_unread s number line last true is h = absurd (cc)
last_unread s number line last false is h =
    record { lines = []; before = s; text = last; rest = []; split = refl; counted = grind arith; read = refl; unread = inr (grind (arith, common_steps), refl) }

line_unread : (s : Script) (number line : ℕ) (text next : List ℕ) (more : List (List ℕ)) (o : Option Script) → read_line s text ≡ o → at_line number o (λ p. read_from p (number + 1) (next ∷ more)) ≡ Err line → ((p : Script) → read_from p (number + 1) (next ∷ more) ≡ Err line → FirstUnreadPart p (number + 1) (next ∷ more) line) → FirstUnreadPart s number (text ∷ next ∷ more) line
line_unread s number line text next more None is h later =
    record { lines = []; before = s; text = text; rest = next ∷ more; split = refl; counted = grind arith; read = refl; unread = inl ((next, more, refl), is) }
line_unread s number line text next more (Some p) is h later =
    let those = later p h in
    record {
      lines = text ∷ those.lines;
      before = those.before;
      text = those.text;
      rest = those.rest;
      split = ap (λ l. text ∷ l) those.split;
      counted = omega (arith, those.counted);
      read = rw is those.read;
      unread = those.unread;
    }

first_unread : (s : Script) (number line : ℕ) (parts : List (List ℕ)) → HasFirst parts → read_from s number parts ≡ Err line → FirstUnreadPart s number parts line
unfolding read_from
first_unread s number line [] (first, more, is) h = absurd (cc)
first_unread s number line (last ∷ []) has h = last_unread s number line last (length last == 0) refl h
first_unread s number line (text ∷ next ∷ more) has h =
    line_unread s number line text next more (read_line s text) refl h (λ p k. first_unread p (number + 1) line (next ∷ more) (next, more, refl) k)

-- what is left behind that part
record Left (lines : List (List ℕ)) (before : Script) (text : List ℕ) (rest : List (List ℕ)) : Type 0 where
  bytes : List ℕ
  spelled : text_of lines ++ join_with_byte 10 (text ∷ rest) ≡ text_of lines ++ text ++ bytes
  unread : IsUnread before text bytes

left : (lines : List (List ℕ)) (before : Script) (text : List ℕ) (rest : List (List ℕ)) → (HasFirst rest × (read_line before text ≡ None)) ⊎ ((0 < length text) × (rest ≡ [])) → Left lines before text rest
left lines before text rest (inl ((next, more, is), none)) =
    record {
      bytes = 10 ∷ join_with_byte 10 (next ∷ more);
      spelled = ap (λ r. text_of lines ++ join_with_byte 10 (text ∷ r)) is ∙ sym (append_assoc (text_of lines) text (10 ∷ join_with_byte 10 (next ∷ more)));
      unread = inl ((join_with_byte 10 (next ∷ more), refl), none);
    }
left lines before text rest (inr (some, is)) =
    record {
      bytes = [];
      spelled = ap (λ r. text_of lines ++ join_with_byte 10 (text ∷ r)) is ∙ sym (append-nil (text_of lines ++ text));
      unread = inr (some, refl);
    }

named_at : (bytes : List ℕ) (line : ℕ) → FirstUnreadPart at_start 1 (parts_of bytes) line → IsFirstUnread bytes line
named_at bytes line those =
    let behind = left those.lines those.before those.text those.rest those.unread in
    let apart = All-same IsLine _ _ (sym those.split) (parts_apart bytes) in
    record {
      lines = those.lines;
      before = those.before;
      text = those.text;
      rest = behind.bytes;
      apart = All-front those.lines (those.text ∷ those.rest) apart;
      is_line = All-seam those.lines those.text those.rest apart;
      spelled = joined bytes those.lines those.text those.rest those.split ∙ behind.spelled;
      counted = omega (arith, those.counted);
      read = those.read;
      unread = behind.unread;
    }

pub first : (bytes : List ℕ) (line : ℕ) → script_or_line bytes ≡ Err line → IsFirstUnread bytes line
unfolding script_or_line
first bytes line h = named_at bytes line (first_unread at_start 1 line (parts_of bytes) (split_has_first (λ b. b == 10) bytes) h)
