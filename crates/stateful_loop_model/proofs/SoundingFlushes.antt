-- The answers of databases to open barriers keep a sound moment sound.
use Rattle.std.proofs.Common.{◌≡◌, ◌≤◌, ◌<◌, ◌∷◌, ⊎_elim, ℕ, zero, suc, List, All, [], length, map, filter, Some, refl, sym, ap, ◌∙◌, subst, arith}
use Rattle.std.proofs.lemmas.Bool.{cases_eq}
use Rattle.std.proofs.lemmas.List.{length-map}
use Rattle.std.proofs.lemmas.List.Elements.{All-nil, All-cons, All-head, All-tail, All-map, All-filter}
use Rattle.stateful_db.specs.Barrier.{open_at}
use Rattle.stateful_db.specs.Laws.{Laws}
use Rattle.stateful_db.specs.Tokens.{without}
use Rattle.stateful_db.specs.declared.barrier.Flushed.{Flushed}
use Rattle.stateful_db.specs.declared.barrier.Flushed.TheVariants.{Good, Interrupted}
use Rattle.stateful_db.specs.declared.barrier.Handle.{Handle}
use Rattle.stateful_db.specs.declared.database.FlushToken.{FlushToken}
use Rattle.stateful_exec_model.specs.Workings.{Workings}
use Rattle.stateful_loop_model.proofs.OutTokens.{out_at_good, out_at_other, out_at_interrupted, heights_answered, counts_answered}
use Rattle.stateful_loop_model.proofs.SoundingKept.{Sound-is}
use Rattle.stateful_loop_model.specs.Barriers.{first_of, awaits, with_answer}
use Rattle.stateful_loop_model.specs.Intake.{Flushes, flushed_by}
use Rattle.stateful_loop_model.specs.Moments.{Moment}
use Rattle.stateful_loop_model.specs.Sound.{IsUp, Sound, out_at}
use Rattle.stateful_loop_model.specs.declared.barriers.Active.{Active}

-- what holds of all holds of the first
first_all : {T : Type 0} (Q : T → Type 0) (xs : List T) (x : T) → first_of xs ≡ Some x → All Q xs → Q x
first_all Q [] x e all = absurd (cc)
first_all {T} Q (y ∷ ys) x e all = subst Q (some_is y x e) (All-head Q y ys all)
  where
    some_is : (a b : T) → Some a ≡ Some b → a ≡ b
    some_is a b h = cc

all_from_map : {X Y : Type 0} (Q : Y → Type 0) (f : X → Y) (xs : List X) → All Q (map f xs) → All (λ x. Q (f x)) xs
all_from_map Q f [] all = All-nil (λ x. Q (f x))
all_from_map Q f (x ∷ xs) all = All-cons (λ x. Q (f x)) x xs (All-head Q (f x) (map f xs) all) (all_from_map Q f xs (All-tail Q (f x) (map f xs) all))

open_within : (handles : List Handle) (i : ℕ) (t : FlushToken) → open_at handles i ≡ Some t → i < length handles
open_within [] i t e = absurd (cc)
open_within (h ∷ hs) zero t e = omega arith
open_within (h ∷ hs) (suc i) t e = omega (arith, open_within hs i t e)

module _ {B C I P R D H G U : Type 0} (w : Workings B C I P R D H G U) where
  counted : (barriers : List Active) (k i : ℕ) (answer : Flushed) → All (λ active. length active.barrier ≡ w.kind.count) barriers
      → All (λ active. length active.barrier ≡ w.kind.count) (with_answer k i answer barriers)
  counted barriers k i answer all = all_from_map (λ n. n ≡ w.kind.count) (λ (a : Active). length a.barrier) (with_answer k i answer barriers)
      (subst (λ xs. All (λ n. n ≡ w.kind.count) xs) (sym (counts_answered k i answer barriers))
      (All-map (λ n. n ≡ w.kind.count) (λ (a : Active). length a.barrier) barriers all))

  within : (k i : ℕ) (answer : Flushed) (m now : Moment w) (f : Flushes w k i answer m now) → IsUp w m → i < w.kind.count
  within k i answer m now f u =
      let lt : i < length f.active.barrier = open_within f.active.barrier i f.token f.unanswered in
      let is : length f.active.barrier ≡ w.kind.count =
      first_all (λ (a : Active). length a.barrier ≡ w.kind.count) (filter (awaits k i) m.loop.barriers) f.active f.awaits
      (All-filter (awaits k i) (λ (a : Active). length a.barrier ≡ w.kind.count) m.loop.barriers u.counts) in
      omega (arith, lt, is)

  -- the tokens that are out behind an answer
  out_by : Laws w.kind → (k i : ℕ) (answer : Flushed) (m now : Moment w) (f : Flushes w k i answer m now) → IsUp w m → (j : ℕ) → j < w.kind.count
      → w.kind.tokens (flushed_by w answer m.members i f.token) j ≡ out_at (with_answer k i answer m.loop.barriers) j
  out_by laws k i Good m now f u j lt = ⊎_elim
      (λ e. subst (λ n. w.kind.tokens (w.kind.flushed m.members i f.token.place) n ≡ out_at (with_answer k i Good m.loop.barriers) n) (sym e)
      (laws.flush.tokens_flushed m.members i f.token.place (within k i Good m now f u)
      ∙ ap (without f.token.place) (u.tokens i (within k i Good m now f u))
      ∙ sym (out_at_good k i m.loop.barriers f.active f.token u.few f.awaits f.unanswered)))
      (λ ne. laws.flush.tokens_others m.members i f.token.place j (within k i Good m now f u) lt ne ∙ u.tokens j lt ∙ sym (out_at_other k i j Good m.loop.barriers ne))
      (cases_eq j i)
  out_by laws k i Interrupted m now f u j lt = u.tokens j lt ∙ sym (out_at_interrupted k i j m.loop.barriers)

  here_by : Laws w.kind → (answer : Flushed) (d : w.kind.Members) (i : ℕ) (token : FlushToken) → w.kind.point (flushed_by w answer d i token) ≡ w.kind.point d
  here_by laws Good d i token = laws.flush.point_flushed d i token.place
  here_by laws Interrupted d i token = refl

  pub flush_sound : Laws w.kind → (k i : ℕ) (answer : Flushed) (m now : Moment w) → Flushes w k i answer m now → IsUp w m → Sound w now
  flush_sound laws k i answer m now f u =
      let here : w.kind.point (flushed_by w answer m.members i f.token) ≡ Some u.point = here_by laws answer m.members i f.token ∙ u.here in
      let after : List Active = with_answer k i answer m.loop.barriers in
      let heights : map (λ (a : Active). a.height.0) after ≡ map (λ (a : Active). a.height.0) m.loop.barriers =
      heights_answered (λ (a : Active). a.height.0) (λ a n b. refl) k i answer m.loop.barriers in
      let as_many : length after ≡ length m.loop.barriers =
      sym (length-map after (λ (a : Active). a.height.0)) ∙ ap length heights ∙ length-map m.loop.barriers (λ (a : Active). a.height.0) in
      Sound-is w now _ f.becomes (record {
        none_away = laws.places.away_here (flushed_by w answer m.members i f.token) u.point here;
        up = λ _. record {
          point = u.point;
          here = here;
          applied = u.applied;
          heights = heights ∙ u.heights;
          few = subst (λ n. n ≤ 2) (sym as_many) u.few;
          counts = counted m.loop.barriers k i answer u.counts;
          tokens = λ j lt. out_by laws k i answer m now f u j lt;
          front = u.front;
          held = u.held;
        };
      })
