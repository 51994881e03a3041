-- Lines of marks, read back.
use Rattle.std.proofs.Common.{◌≡◌, ℕ, ◌^◌, ◌<◌, List, [], ◌∷◌, ◌++◌, Bool, true, false, cond, ltb, Option, Some, None, get_or, ap, refl, ◌∙◌}
use Rattle.std.specs.Prelude.{codes, IfSome}
use Rattle.std.specs.Fmt.{decimal}
use Rattle.std.specs.Str.{bytes_eq}
use Rattle.std.proofs.lemmas.Bool.{lt-ltb, cond-true}
use Rattle.stateful_base.specs.declared.digest.Digest.{Digest}
use Rattle.stateful_base.specs.declared.anchor.Anchor.{Anchor}
use Rattle.stateful_base.specs.declared.number.Height.{Height}
use Rattle.stateful_base.specs.Names.{Named}
use Rattle.stateful_history.specs.declared.mark.JobKind.{JobKind}
use Rattle.stateful_history.specs.declared.mark.JobKind.TheVariants.{Candidate, Finalized, Build, Hook}
use Rattle.stateful_history.specs.declared.mark.How.{How}
use Rattle.stateful_history.specs.declared.mark.How.TheVariants.{Kept, Rejected, Mismatched, Missed, Cancelled, Nothing, Hooked}
use Rattle.stateful_history.specs.declared.mark.Decision.{Decision}
use Rattle.stateful_history.specs.declared.mark.Decision.TheVariants.{Block, Vote, Stage}
use Rattle.stateful_history.specs.declared.mark.Mark.{Mark}
use Rattle.stateful_history.specs.declared.mark.Mark.TheVariants.{Opened, Converged, Asked, Withdrawn, Started, Ended, Built, Verdict, Answered, Declined, Databases, Began, Applied, BarrierBegun, BarrierDone, Acknowledged, Dropped, Recorded, Dispatched, Pruned, Completed, Stopped}
use Rattle.stateful_script_text.specs.declared.shown.Label.{Label}
use Rattle.stateful_script_text.specs.Line.{line, name_of}
use Rattle.stateful_script_text.specs.Mark.{kind_word, how_word, decision_word, truth_word, asker_word, mark_line}
use Rattle.stateful_script_text.specs.MarkMeaning.{TellsApart, told, Fits}
use Rattle.stateful_script_text.proofs.Words.{is_plain, ArePlain, words_of, words_of-line, rest_of, rest_of-line}
use Rattle.stateful_script_text.proofs.Spelled.{number_of, number_of-decimal, is_plain-decimal, first_of_decimal}
use Rattle.stateful_script_text.proofs.Names.{digest_of, digest_of-name_of, is_plain-name_of}

pub kind_of : List ℕ → JobKind
kind_of word = cond (bytes_eq word (codes "candidate")) Candidate (cond (bytes_eq word (codes "finalized")) Finalized (cond (bytes_eq word (codes "build")) Build Hook))

kind_of-kind_word : (kind : JobKind) → kind_of (kind_word kind) ≡ kind
unfolding kind_of
kind_of-kind_word Candidate = refl
kind_of-kind_word Finalized = refl
kind_of-kind_word Build = refl
kind_of-kind_word Hook = refl

is_plain-kind_word : (kind : JobKind) → is_plain (kind_word kind) ≡ true
is_plain-kind_word Candidate = refl
is_plain-kind_word Finalized = refl
is_plain-kind_word Build = refl
is_plain-kind_word Hook = refl

pub how_of : List ℕ → How
how_of word =
    cond (bytes_eq word (codes "kept")) Kept (cond (bytes_eq word (codes "rejected")) Rejected (cond (bytes_eq word (codes "mismatched")) Mismatched
    (cond (bytes_eq word (codes "missed")) Missed (cond (bytes_eq word (codes "cancelled")) Cancelled (cond (bytes_eq word (codes "nothing")) Nothing Hooked)))))

how_of-how_word : (how : How) → how_of (how_word how) ≡ how
unfolding how_of
how_of-how_word Kept = refl
how_of-how_word Rejected = refl
how_of-how_word Mismatched = refl
how_of-how_word Missed = refl
how_of-how_word Cancelled = refl
how_of-how_word Nothing = refl
how_of-how_word Hooked = refl

is_plain-how_word : (how : How) → is_plain (how_word how) ≡ true
is_plain-how_word Kept = refl
is_plain-how_word Rejected = refl
is_plain-how_word Mismatched = refl
is_plain-how_word Missed = refl
is_plain-how_word Cancelled = refl
is_plain-how_word Nothing = refl
is_plain-how_word Hooked = refl

pub decision_of : List ℕ → Decision
decision_of word = cond (bytes_eq word (codes "block")) Block (cond (bytes_eq word (codes "vote")) Vote Stage)

decision_of-decision_word : (decision : Decision) → decision_of (decision_word decision) ≡ decision
unfolding decision_of
decision_of-decision_word Block = refl
decision_of-decision_word Vote = refl
decision_of-decision_word Stage = refl

is_plain-decision_word : (decision : Decision) → is_plain (decision_word decision) ≡ true
is_plain-decision_word Block = refl
is_plain-decision_word Vote = refl
is_plain-decision_word Stage = refl

pub truth_of : List ℕ → Bool
truth_of word = bytes_eq word (codes "true")

truth_of-truth_word : (truth : Bool) → truth_of (truth_word truth) ≡ truth
unfolding truth_of
truth_of-truth_word true = refl
truth_of-truth_word false = refl

is_plain-truth_word : (truth : Bool) → is_plain (truth_word truth) ≡ true
is_plain-truth_word true = refl
is_plain-truth_word false = refl

pub asker_of : List ℕ → Option ℕ
asker_of word = cond (ltb (get_or word 0 0) 58) (Some (number_of word)) None

asker_of-asker_word : (ticket : Option ℕ) → IfSome ticket (λ t. t < 2 ^ 64) → asker_of (asker_word ticket) ≡ ticket
unfolding asker_of
asker_of-asker_word None fits = refl
asker_of-asker_word (Some ticket) fits =
    cond-true (ltb (get_or (decimal ticket) 0 0) 58) _ _ (lt-ltb (get_or (decimal ticket) 0 0) 58 (first_of_decimal ticket fits)) ∙ ap Some (number_of-decimal ticket fits)

is_plain-asker_word : (ticket : Option ℕ) → IfSome ticket (λ t. t < 2 ^ 64) → is_plain (asker_word ticket) ≡ true
is_plain-asker_word None fits = refl
is_plain-asker_word (Some ticket) fits = is_plain-decimal ticket fits

abbrev pub height_of : ℕ → Height
height_of n = record { 0 = n }

abbrev pub anchor_of : ℕ → Digest → Anchor
anchor_of n d = record { height = height_of n; round = record { epoch = record { 0 = 0 }; view = record { 0 = 0 } }; digest = d }

abbrev pub block_of : Digest → Named (Option ℕ)
block_of d = record { digest = d; block = None }

-- A mark, from the first word of its line and the fields behind it.
module _ (labels : List Label) (fields : List (List ℕ)) where
  abbrev pub field_at : ℕ → List ℕ
  field_at i = get_or fields i []

  abbrev pub number_at : ℕ → ℕ
  number_at i = number_of (field_at i)

  abbrev pub digest_at : ℕ → Digest
  digest_at i = digest_of labels (field_at i)

  abbrev pub mark_of : List ℕ → Mark (Option ℕ)
  mark_of word =
      cond (bytes_eq word (codes "opened")) (Opened (anchor_of (number_at 0) (digest_at 1))) (
      cond (bytes_eq word (codes "converged")) (Converged (anchor_of (number_at 0) (digest_at 1))) (
      cond (bytes_eq word (codes "asked")) (Asked (number_at 0) (asker_of (field_at 1)) (digest_at 2)) (
      cond (bytes_eq word (codes "withdrawn")) (Withdrawn (number_at 0)) (
      cond (bytes_eq word (codes "started")) (Started (number_at 0) (kind_of (field_at 1)) (digest_at 2)) (
      cond (bytes_eq word (codes "ended")) (Ended (number_at 0) (how_of (field_at 1))) (
      cond (bytes_eq word (codes "built")) (Built (number_at 0) (number_at 1) (block_of (digest_at 2))) (
      cond (bytes_eq word (codes "verdict")) (Verdict (number_at 0) (truth_of (field_at 1))) (
      cond (bytes_eq word (codes "answered")) (Answered (number_at 0) (decision_of (field_at 1)) (block_of (digest_at 2))) (
      cond (bytes_eq word (codes "declined")) (Declined (number_at 0)) (
      cond (bytes_eq word (codes "databases")) (Databases (number_at 0)) (
      cond (bytes_eq word (codes "began")) (Began (number_at 0) (block_of (digest_at 1))) (
      cond (bytes_eq word (codes "applied")) (Applied (record { digest = digest_at 1; block = Some (number_at 0) })) (
      cond (bytes_eq word (codes "barrier")) (BarrierBegun (number_at 0) (height_of (number_at 1))) (
      cond (bytes_eq word (codes "durable")) (BarrierDone (number_at 0) (height_of (number_at 1)) true) (
      cond (bytes_eq word (codes "broken")) (BarrierDone (number_at 0) (height_of (number_at 1)) false) (
      cond (bytes_eq word (codes "acknowledged")) (Acknowledged (number_at 0) (height_of (number_at 1))) (
      cond (bytes_eq word (codes "dropped")) (Dropped (number_at 0)) (
      cond (bytes_eq word (codes "recorded")) (Recorded (anchor_of (number_at 0) (digest_at 1))) (
      cond (bytes_eq word (codes "dispatched")) (Dispatched (number_at 0) (height_of (number_at 1))) (
      cond (bytes_eq word (codes "pruned")) (Pruned (height_of (number_at 0)) (height_of (number_at 1))) (
      cond (bytes_eq word (codes "completed")) (Completed (height_of (number_at 0))) Stopped)))))))))))))))))))))

-- the mark of a text's first line
abbrev pub mark_of_words : List Label → List (List ℕ) → Mark (Option ℕ)
mark_of_words labels [] = Stopped
mark_of_words labels (word ∷ fields) = mark_of labels fields word

-- the text is one line, of this mark
pub record Reads (labels : List Label) (mark : Mark (Option ℕ)) (text : List ℕ) : Type 0 where
  pub first : (rest : List ℕ) → mark_of_words labels (words_of (text ++ rest)) ≡ mark
  pub behind : (rest : List ℕ) → rest_of (text ++ rest) ≡ rest

reads : (labels : List Label) (word : List ℕ) (fields : List (List ℕ)) (mark : Mark (Option ℕ)) → is_plain word ≡ true → ArePlain fields → mark_of labels fields word ≡ mark → Reads labels mark (line word fields)
reads labels word fields mark plain all same = record {
  first = λ rest. ap (mark_of_words labels) (words_of-line word fields rest plain all) ∙ same;
  behind = λ rest. rest_of-line word fields rest plain all;
}

-- a field's text is plain, and gives back its value
record GivesBack {T : Type 0} (value_of : List ℕ → T) (text : List ℕ) (value : T) : Type 0 where
  plain : is_plain text ≡ true
  back : value_of text ≡ value

of_number : (n : ℕ) → n < 2 ^ 64 → GivesBack number_of (decimal n) n
of_number n fits = record { plain = is_plain-decimal n fits; back = number_of-decimal n fits }

of_asker : (ticket : Option ℕ) → IfSome ticket (λ t. t < 2 ^ 64) → GivesBack asker_of (asker_word ticket) ticket
of_asker ticket fits = record { plain = is_plain-asker_word ticket fits; back = asker_of-asker_word ticket fits }

of_kind : (kind : JobKind) → GivesBack kind_of (kind_word kind) kind
of_kind kind = record { plain = is_plain-kind_word kind; back = kind_of-kind_word kind }

of_how : (how : How) → GivesBack how_of (how_word how) how
of_how how = record { plain = is_plain-how_word how; back = how_of-how_word how }

of_decision : (decision : Decision) → GivesBack decision_of (decision_word decision) decision
of_decision decision = record { plain = is_plain-decision_word decision; back = decision_of-decision_word decision }

of_truth : (truth : Bool) → GivesBack truth_of (truth_word truth) truth
of_truth truth = record { plain = is_plain-truth_word truth; back = truth_of-truth_word truth }

module _ {B : Type 0} (height : B → ℕ) (labels : List Label) (tell : TellsApart labels) where
  of_block : (d : Digest) → GivesBack (digest_of labels) (name_of labels d) d
  of_block d = record { plain = is_plain-name_of labels tell d; back = digest_of-name_of labels tell d }

  reads_one : {T : Type 0} {f : List ℕ → T} {a : List ℕ} {x : T} (word : List ℕ) → GivesBack f a x → (make : T → Mark (Option ℕ)) → is_plain word ≡ true → ((a : List ℕ) → mark_of labels (a ∷ []) word ≡ make (f a)) → Reads labels (make x) (line word (a ∷ []))
  reads_one {a = a} word u make plain same = reads labels word (a ∷ []) _ plain (u.plain, tt) (same a ∙ ap make u.back)

  reads_two : {T U : Type 0} {f : List ℕ → T} {g : List ℕ → U} {a b : List ℕ} {x : T} {y : U} (word : List ℕ) → GivesBack f a x → GivesBack g b y → (make : T → U → Mark (Option ℕ)) → is_plain word ≡ true → ((a b : List ℕ) → mark_of labels (a ∷ b ∷ []) word ≡ make (f a) (g b)) → Reads labels (make x y) (line word (a ∷ b ∷ []))
  reads_two {g = g} {a = a} {b = b} {x = x} word u v make plain same =
      reads labels word (a ∷ b ∷ []) _ plain (u.plain, (v.plain, tt)) (same a b ∙ ap (λ x. make x (g b)) u.back ∙ ap (make x) v.back)

  reads_three : {T U V : Type 0} {f : List ℕ → T} {g : List ℕ → U} {h : List ℕ → V} {a b c : List ℕ} {x : T} {y : U} {z : V} (word : List ℕ) → GivesBack f a x → GivesBack g b y → GivesBack h c z → (make : T → U → V → Mark (Option ℕ)) → is_plain word ≡ true → ((a b c : List ℕ) → mark_of labels (a ∷ b ∷ c ∷ []) word ≡ make (f a) (g b) (h c)) → Reads labels (make x y z) (line word (a ∷ b ∷ c ∷ []))
  reads_three {g = g} {h = h} {a = a} {b = b} {c = c} {x = x} {y = y} word u v w make plain same =
      reads labels word (a ∷ b ∷ c ∷ []) _ plain (u.plain, (v.plain, (w.plain, tt))) (same a b c ∙ ap (λ x. make x (g b) (h c)) u.back ∙ ap (λ y. make x y (h c)) v.back ∙ ap (make x y) w.back)

  -- the line of a mark is one line, of what it tells
  pub read : (mark : Mark B) → Fits height mark → Reads labels (told height mark) (mark_line height labels mark)
  read (Opened anchor) fits = reads_two (codes "opened") (of_number anchor.height.0 fits) (of_block anchor.digest) (λ n d. Opened (anchor_of n d)) refl (λ a b. refl)
  read (Converged anchor) fits = reads_two (codes "converged") (of_number anchor.height.0 fits) (of_block anchor.digest) (λ n d. Converged (anchor_of n d)) refl (λ a b. refl)
  read (Asked fetch ticket digest) fits = reads_three (codes "asked") (of_number fetch fits.0) (of_asker ticket fits.1) (of_block digest) (λ n t d. Asked n t d) refl (λ a b c. refl)
  read (Withdrawn fetch) fits = reads_one (codes "withdrawn") (of_number fetch fits) (λ n. Withdrawn n) refl (λ a. refl)
  read (Started job kind digest) fits = reads_three (codes "started") (of_number job fits) (of_kind kind) (of_block digest) (λ n k d. Started n k d) refl (λ a b c. refl)
  read (Ended job how) fits = reads_two (codes "ended") (of_number job fits) (of_how how) (λ n h. Ended n h) refl (λ a b. refl)
  read (Built job ticket block) fits = reads_three (codes "built") (of_number job fits.0) (of_number ticket fits.1) (of_block block.digest) (λ n t d. Built n t (block_of d)) refl (λ a b c. refl)
  read (Verdict ticket valid) fits = reads_two (codes "verdict") (of_number ticket fits) (of_truth valid) (λ n v. Verdict n v) refl (λ a b. refl)
  read (Answered ticket decision block) fits = reads_three (codes "answered") (of_number ticket fits) (of_decision decision) (of_block block.digest) (λ n k d. Answered n k (block_of d)) refl (λ a b c. refl)
  read (Declined ticket) fits = reads_one (codes "declined") (of_number ticket fits) (λ n. Declined n) refl (λ a. refl)
  read (Databases ticket) fits = reads_one (codes "databases") (of_number ticket fits) (λ n. Databases n) refl (λ a. refl)
  read (Began ticket block) fits = reads_two (codes "began") (of_number ticket fits) (of_block block.digest) (λ n d. Began n (block_of d)) refl (λ a b. refl)
  read (Applied block) fits = reads_two (codes "applied") (of_number (height block.block) fits) (of_block block.digest) (λ n d. Applied (record { digest = d; block = Some n })) refl (λ a b. refl)
  read (BarrierBegun barrier h) fits = reads_two (codes "barrier") (of_number barrier fits.0) (of_number h.0 fits.1) (λ n h. BarrierBegun n (height_of h)) refl (λ a b. refl)
  read (BarrierDone barrier h true) fits = reads_two (codes "durable") (of_number barrier fits.0) (of_number h.0 fits.1) (λ n h. BarrierDone n (height_of h) true) refl (λ a b. refl)
  read (BarrierDone barrier h false) fits = reads_two (codes "broken") (of_number barrier fits.0) (of_number h.0 fits.1) (λ n h. BarrierDone n (height_of h) false) refl (λ a b. refl)
  read (Acknowledged ticket h) fits = reads_two (codes "acknowledged") (of_number ticket fits.0) (of_number h.0 fits.1) (λ n h. Acknowledged n (height_of h)) refl (λ a b. refl)
  read (Dropped ticket) fits = reads_one (codes "dropped") (of_number ticket fits) (λ n. Dropped n) refl (λ a. refl)
  read (Recorded anchor) fits = reads_two (codes "recorded") (of_number anchor.height.0 fits) (of_block anchor.digest) (λ n d. Recorded (anchor_of n d)) refl (λ a b. refl)
  read (Dispatched generation h) fits = reads_two (codes "dispatched") (of_number generation fits.0) (of_number h.0 fits.1) (λ n h. Dispatched n (height_of h)) refl (λ a b. refl)
  read (Pruned marshal target) fits = reads_two (codes "pruned") (of_number marshal.0 fits.0) (of_number target.0 fits.1) (λ n h. Pruned (height_of n) (height_of h)) refl (λ a b. refl)
  read (Completed h) fits = reads_one (codes "completed") (of_number h.0 fits) (λ n. Completed (height_of n)) refl (λ a. refl)
  read Stopped fits = reads labels (codes "stopped") [] Stopped refl tt refl
