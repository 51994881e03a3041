-- From lines to the answer: what reading says of bytes that are lines with an LF behind each.
use Rattle.std.proofs.Common.{◌≡◌, ◌≢◌, ℕ, suc, ◌+◌, ◌==◌, false, List, [], ◌∷◌, ◌++◌, Some, Ok, Err, length, refl, ap, sym, ◌∙◌, inl, inr, arith, append-nil, append_assoc, add-zero, All}
use Rattle.std.proofs.lemmas.Grind.{common_steps}
use Rattle.std.proofs.lemmas.List.Elements.{All-head, All-tail, All-weaker}
use Rattle.std.proofs.lemmas.List.Splits.{slice_split_at, slice_split_none}
use Rattle.std.proofs.lemmas.Option.{option_and_then_some, same_Some}
use Rattle.stateful_script.specs.Named.{at_start}
use Rattle.stateful_script.specs.Lines.{read_line}
use Rattle.stateful_script.specs.Script.{read_from, at_line, script_or_line}
use Rattle.stateful_script.specs.Laws.{IsLine, text_of, after_lines, IsWhole, IsUnread, IsFirstUnread}
use Rattle.stateful_script.specs.declared.script.Script.{Script}
use Rattle.stateful_script.proofs.LinesLeft.{parts_of, lined, last_at}

no_lf : (line : List ℕ) → IsLine line → All (λ b. (b == 10) ≡ false) line
no_lf line h = All-weaker (λ b. b ≢ 10) (λ b. (b == 10) ≡ false) (λ b ne. grind (arith, common_steps)) line h

-- a line is cut off at its LF
cut_off : (line after : List ℕ) → IsLine line → parts_of (line ++ 10 ∷ after) ≡ line ∷ parts_of after
cut_off line after h = slice_split_at (λ b. b == 10) line 10 after (no_lf line h) refl

pub regroup : (line : List ℕ) (lines : List (List ℕ)) (tail : List ℕ) → text_of (line ∷ lines) ++ tail ≡ line ++ 10 ∷ (text_of lines ++ tail)
regroup line lines tail = append_assoc (line ++ 10 ∷ []) (text_of lines) tail ∙ append_assoc line (10 ∷ []) (text_of lines ++ tail)

-- lines that are read lead to what follows them
past_lines : (s q : Script) (number : ℕ) (lines : List (List ℕ)) (tail : List ℕ) → All IsLine lines → after_lines s lines ≡ Some q → read_from s number (parts_of (text_of lines ++ tail)) ≡ read_from q (number + length lines) (parts_of tail)
past_lines s q number [] tail apart read = let same : s ≡ q = same_Some s q read in rw (same, add-zero) refl
past_lines s q number (line ∷ lines) tail apart read =
    option_and_then_some (λ r. after_lines r lines) (read_line s line) q read
    (λ r here later.
    ap (λ bytes. read_from s number (parts_of bytes)) (regroup line lines tail)
    ∙ (ap (read_from s number) (cut_off line (text_of lines ++ tail) (All-head IsLine line lines apart))
    ∙ (lined s number line (text_of lines ++ tail)
    ∙ (ap (λ o. at_line number o (λ p. read_from p (number + 1) (parts_of (text_of lines ++ tail)))) here
    ∙ (past_lines r q (number + 1) lines tail (All-tail IsLine line lines apart) later
    ∙ ap (λ n. read_from q n (parts_of tail)) (let e : number + 1 + length lines ≡ number + suc (length lines) = omega arith in e))))))

pub is_whole : (bytes : List ℕ) (s : Script) → IsWhole bytes s → script_or_line bytes ≡ Ok s
unfolding script_or_line
is_whole bytes s whole =
    let spelled : bytes ≡ text_of whole.lines ++ [] = whole.spelled ∙ sym (append-nil (text_of whole.lines)) in
    ap (λ b. read_from at_start 1 (parts_of b)) spelled
    ∙ (past_lines at_start s 1 whole.lines [] whole.apart whole.read
    ∙ last_at s (1 + length whole.lines) [])

unread_answer : (before : Script) (number : ℕ) (text rest : List ℕ) → IsLine text → IsUnread before text rest → read_from before number (parts_of (text ++ rest)) ≡ Err number
unread_answer before number text rest line (inl ((more, more_is), none)) =
    ap (λ r. read_from before number (parts_of (text ++ r))) more_is
    ∙ (ap (read_from before number) (cut_off text more line)
    ∙ (lined before number text more
    ∙ ap (λ o. at_line number o (λ p. read_from p (number + 1) (parts_of more))) none))
unread_answer before number text rest line (inr (some, rest_is)) =
    ap (λ r. read_from before number (parts_of (text ++ r))) rest_is
    ∙ (ap (λ t. read_from before number (parts_of t)) (append-nil text)
    ∙ (ap (read_from before number) (slice_split_none (λ b. b == 10) text (no_lf text line))
    ∙ (last_at before number text
    ∙ (let long : (length text == 0) ≡ false = grind (arith, common_steps) in rw long refl))))

pub is_first : (bytes : List ℕ) (number : ℕ) → IsFirstUnread bytes number → script_or_line bytes ≡ Err number
unfolding script_or_line
is_first bytes number first =
    let spelled : bytes ≡ text_of first.lines ++ (first.text ++ first.rest) = first.spelled ∙ append_assoc (text_of first.lines) first.text first.rest in
    let counted : 1 + length first.lines ≡ number = omega (arith, first.counted) in
    ap (λ b. read_from at_start 1 (parts_of b)) spelled
    ∙ (past_lines at_start first.before 1 first.lines (first.text ++ first.rest) first.apart first.read
    ∙ (ap (λ n. read_from first.before n (parts_of (first.text ++ first.rest))) counted
    ∙ unread_answer first.before number first.text first.rest first.is_line first.unread))
