-- The open barriers stand behind an answer of a database to one of them.
use Rattle.std.proofs.Common.{◌≡◌, ◌≤◌, ◌<◌, ◌-◌, ◌+◌, ◌∷◌, ⊎_elim, ◌⊎◌, inl, inr, ℕ, zero, suc, Bool, true, false, List, [], length, map, Option, Some, None, refl, sym, ap, subst, ◌∙◌, arith, get_or, eqb}
use Rattle.std.specs.Prelude.{All, Any, AllPairs, slice_get, is_some}
use Rattle.std.proofs.Math.Nat.{le-max_left}
use Rattle.std.proofs.lemmas.Bool.{and_parts, eqb-true, cases_Bool}
use Rattle.std.proofs.lemmas.List.{length-map, get_or-map, get_or_default}
use Rattle.std.proofs.lemmas.List.Elements.{All-cons, All-head, All-tail, All-weaker}
use Rattle.stateful_base.specs.Names.{Header}
use Rattle.stateful_base.specs.declared.anchor.Anchor.{Anchor}
use Rattle.stateful_db.specs.Barrier.{open_at, still_open, answered}
use Rattle.stateful_db.specs.Databases.{Databases}
use Rattle.stateful_db.specs.Laws.{FlushLaws}
use Rattle.stateful_db.specs.declared.barrier.Flushed.{Flushed}
use Rattle.stateful_db.specs.declared.barrier.Flushed.TheVariants.{Good, Interrupted}
use Rattle.stateful_db.specs.declared.barrier.Handle.{Handle}
use Rattle.stateful_db.specs.declared.database.FlushToken.{FlushToken}
use Rattle.stateful_history.specs.Past.{Past, Came}
use Rattle.stateful_history.specs.declared.event.Event.TheVariants as event
use Rattle.stateful_loop_laws.specs.OpenBarriers.{HandleStands, ActiveStands, BarriersStand}
use Rattle.stateful_loop_laws.proofs.barriers.Left.{ActiveStands-left}
use Rattle.stateful_loop_laws.proofs.loop.CalmItems.{LeavesBarriers, LeavesLoop-flushed}
use Rattle.stateful_loop_model.proofs.OutTokens.{some_is, awaiting_first, awaiting_behind, heights_answered}
use Rattle.stateful_loop_model.specs.Barriers.{awaits, awaiting, answered_by, with_answer}
use Rattle.stateful_loop_model.specs.declared.barriers.Active.{Active}

-- a handle of the list with an answer: the answered one, or one of the list
answered_at : (answer : Flushed) (hs : List Handle) (n i : ℕ) (handle : Handle) → slice_get (answered hs n answer) i ≡ Some handle
    → ((i ≡ n) × ((h : Handle) × (slice_get hs n ≡ Some h) × (handle ≡ record h { answer = Some answer }))) ⊎
    ((i ≡ n → ⊥) × (slice_get hs i ≡ Some handle))
answered_at answer [] n i handle e = absurd (cc)
answered_at answer (h ∷ hs) zero zero handle e = inl (refl, (h, refl, (let s : Some (record h { answer = Some answer }) ≡ Some handle = e in cc)))
answered_at answer (h ∷ hs) zero (suc i) handle e = inr ((λ same. absurd (omega arith)), e)
answered_at answer (h ∷ hs) (suc n) zero handle e = inr ((λ same. absurd (omega arith)), e)
answered_at answer (h ∷ hs) (suc n) (suc i) handle e = ⊎_elim
    (λ same. inl (ap (λ (k : ℕ). suc k) same.0, same.1))
    (λ other. inr ((λ same. other.0 (omega arith)), other.1))
    (answered_at answer hs n i handle e)

-- an open handle of the list, with its token
pub open_there : (hs : List Handle) (n : ℕ) (token : FlushToken) → open_at hs n ≡ Some token
    → (h : Handle) × (slice_get hs n ≡ Some h) × (h.token ≡ token) × (n < length hs)
open_there [] n token e = absurd (cc)
open_there (h ∷ hs) zero token e = (h, refl, by h.answer e, omega arith)
  where
    by : (a : Option Flushed) → still_open (record { token = h.token; answer = a }) ≡ Some token → h.token ≡ token
    by None e = cc
    by (Some a) e = absurd (cc)
open_there (h ∷ hs) (suc n) token e = let r = open_there hs n token e in (r.0, r.1, r.2, omega (arith, r.3))

-- the barrier that takes in the answer has its number
awaiting_number : (k i : ℕ) (barriers : List Active) (a : Active) → awaiting k i barriers ≡ Some a → a.number ≡ k
awaiting_number k i [] a e = absurd (cc)
awaiting_number k i (b ∷ bs) a e = ⊎_elim
    (λ w. ap (λ (x : Active). x.number) (sym (some_is b a (sym (awaiting_first k i b bs w) ∙ e)))
    ∙ eqb-true b.number k (and_parts (eqb b.number k) (is_some (open_at b.barrier i)) w).0)
    (λ w. awaiting_number k i bs a (sym (awaiting_behind k i b bs w) ∙ e))
    (cases_Bool (awaits k i b))

-- what holds of each barrier, and of the one that takes in the answer, holds of all behind it
All-with_answer : (P Q : Active → Type 0) (k i : ℕ) (answer : Flushed) (a : Active) → ((b : Active) → P b → Q b) → (P a → Q (answered_by i answer a))
    → (barriers : List Active) → awaiting k i barriers ≡ Some a → All P barriers → All Q (with_answer k i answer barriers)
All-with_answer P Q k i answer a each one [] e all = absurd (cc)
All-with_answer P Q k i answer a each one (b ∷ bs) e all =
    by (awaits k i b) refl (λ w. All-with_answer P Q k i answer a each one bs (sym (awaiting_behind k i b bs w) ∙ e) (All-tail P b bs all))
  where
    by : (t : Bool) → awaits k i b ≡ t → (awaits k i b ≡ false → All Q (with_answer k i answer bs)) → All Q (with_answer k i answer (b ∷ bs))
    by true w rest =
        let same : b ≡ a = some_is b a (sym (awaiting_first k i b bs w) ∙ e) in
        rw w (All-cons Q (answered_by i answer b) bs (subst (λ x. P x → Q (answered_by i answer x)) (sym same) one (All-head P b bs all))
        (All-weaker P Q each bs (All-tail P b bs all)))
    by false w rest = rw w (All-cons Q b (with_answer k i answer bs) (each b (All-head P b bs all)) (rest w))

module _ (k i : ℕ) (answer : Flushed) (barriers : List Active) where
  numbers_same : map (λ (a : Active). a.number) (with_answer k i answer barriers) ≡ map (λ (a : Active). a.number) barriers
  numbers_same = heights_answered (λ (a : Active). a.number) (λ a n b. refl) k i answer barriers

  length_same : length (with_answer k i answer barriers) ≡ length barriers
  length_same = sym (length-map (with_answer k i answer barriers) (λ (a : Active). a.number)) ∙ ap length numbers_same
      ∙ length-map barriers (λ (a : Active). a.number)

  -- each has the number that it had
  number_at : (j : ℕ) (x : Active) → j < length barriers → (get_or (with_answer k i answer barriers) j x).number ≡ (get_or barriers j x).number
  number_at j x l =
      sym (get_or-map (λ (a : Active). a.number) (with_answer k i answer barriers) j x x.number (omega (arith, length_same, l)))
      ∙ ap (λ ns. get_or ns j x.number) numbers_same
      ∙ get_or-map (λ (a : Active). a.number) barriers j x x.number l

  -- the one of a number is there still
  pub Any-answered : (n : ℕ) → Any (λ (a : Active). a.number ≡ n) barriers → Any (λ (a : Active). a.number ≡ n) (with_answer k i answer barriers)
  Any-answered n (j, x, l, is, e) = (
    j,
    get_or (with_answer k i answer barriers) j x,
    omega (arith, length_same, l),
    get_or_default (with_answer k i answer barriers) j
        (get_or (with_answer k i answer barriers) j x) x (omega (arith, length_same, l)),
    number_at j x l ∙ ap (λ (a : Active). a.number) is ∙ e,
  )

  -- and numbers ascend as before
  pub ascending_answered : AllPairs (λ (a b : Active). a.number < b.number) barriers
      → AllPairs (λ (a b : Active). a.number < b.number) (with_answer k i answer barriers)
  ascending_answered up a b x lt l =
      let l2 : b < length barriers = omega (arith, length_same, l) in
      rw (number_at a x (omega (arith, lt, l2)), number_at b x l2) (up a b x lt l2)

module _ {B C I Ids S T : Type 0} (d : Databases Ids S T) (laws : FlushLaws d) (header : Header B) (p : Past B C I) (m : d.Members) (first : Anchor)
    (origin : ℕ → ℕ) (k i : ℕ) (point : Ids × S) (here : d.point m ≡ Some point) (within : i < d.count) (token : FlushToken) where
  -- what an answer makes of the databases
  abbrev pub given : Flushed → d.Members
  given Good = d.flushed m i token.place
  given Interrupted = m

  -- the past with the answer
  abbrev pub after_answer : Flushed → Past B C I
  after_answer answer = Came (event.Flushed k i answer) ∷ p

  -- they are as durable as before
  pub durable_given : (answer : Flushed) (j : ℕ) → j < d.count → d.durable m j ≤ d.durable (given answer) j
  durable_given Good j l = (laws.preserves_flushed m i token.place).durable j l
  durable_given Interrupted j l = omega arith

  -- the handle that takes in the answer stands
  HandleStands-answered : (answer : Flushed) (number offset : ℕ) (handle : Handle) → number ≡ k → handle.token ≡ token
      → HandleStands d header p m first origin number offset i handle
      → HandleStands d header (after_answer answer) (given answer) first origin number offset i (record handle { answer = Some answer })
  HandleStands-answered Good number offset handle own is h =
      let placed : token.place ≡ origin i + offset = ap (λ (t : FlushToken). t.place) (sym is) ∙ h.place in
      record {
        place = h.place;
        flushed = λ good. (
          inl (own, refl),
          rw (laws.durable_flushed m point i token.place within here)
              (omega (arith, placed, le-max_left token.place (d.durable m i))),
        );
        interrupted = λ e. absurd (cc);
      }
  HandleStands-answered Interrupted number offset handle own is h = record {
    place = h.place;
    flushed = λ e. absurd (cc);
    interrupted = λ e. inl own;
  }

  module _ (answer : Flushed) where
    leaves : LeavesBarriers header p (Came (event.Flushed k i answer))
    leaves = (LeavesLoop-flushed header p k i answer).barriers

    older : (a : Active) → ActiveStands d header p m first origin a → ActiveStands d header (after_answer answer) (given answer) first origin a
    older = ActiveStands-left d header p (Came (event.Flushed k i answer)) leaves m (given answer) first origin (durable_given answer)

    -- the barrier that takes it in stands
    ActiveStands-answered : (a : Active) → a.number ≡ k → open_at a.barrier i ≡ Some token → ActiveStands d header p m first origin a
        → ActiveStands d header (after_answer answer) (given answer) first origin (answered_by i answer a)
    ActiveStands-answered a own unanswered s =
        let old = older a s in
        record {
          live = old.live;
          over = old.over;
          began = old.began;
          since = old.since;
          handles = λ j handle l is. ⊎_elim
              (λ same. answers j handle same)
              (λ other. old.handles j handle l other.1)
              (answered_at answer a.barrier i j handle is);
        }
      where
        answers : (j : ℕ) (handle : Handle)
            → (j ≡ i) × ((h : Handle) × (slice_get a.barrier i ≡ Some h) × (handle ≡ record h { answer = Some answer }))
            → HandleStands d header (after_answer answer) (given answer) first origin a.number (a.height.0 - first.height.0) j handle
        answers j handle (at, (h, there, is)) =
            let opened = open_there a.barrier i token unanswered in
            let same : opened.0 ≡ h = let one = opened.1 in cc in
            subst (λ n. HandleStands d header (after_answer answer) (given answer) first origin a.number (a.height.0 - first.height.0) n handle)
            (sym at)
            (subst (λ (x : Handle). HandleStands d header (after_answer answer) (given answer) first origin a.number
            (a.height.0 - first.height.0) i x) (sym is)
            (HandleStands-answered answer a.number (a.height.0 - first.height.0) h own (ap (λ (x : Handle). x.token) (sym same) ∙ opened.2)
            (s.handles i h within there)))

    -- the open barriers stand behind it
    pub BarriersStand-flushed : (barriers : List Active) (next : ℕ) (a : Active) → awaiting k i barriers ≡ Some a → open_at a.barrier i ≡ Some token
        → BarriersStand d header p m first origin barriers next
        → BarriersStand d header (after_answer answer) (given answer) first origin (with_answer k i answer barriers) next
    BarriersStand-flushed barriers next a awaits unanswered h = record {
      each = All-with_answer (ActiveStands d header p m first origin)
          (ActiveStands d header (after_answer answer) (given answer) first origin) k i answer a older
          (ActiveStands-answered a (awaiting_number k i barriers a awaits) unanswered) barriers awaits h.each;
      ascending = ascending_answered k i answer barriers h.ascending;
      complete = λ n live. Any-answered k i answer barriers n (h.complete n (sym (leaves.live n) ∙ live));
      done = λ n since. ⊎_elim (λ w. inl (leaves.done n w)) (λ l. inr (leaves.live n ∙ l)) (h.done n (leaves.since_before n since));
      later = λ n l since before. let low = h.later n l (leaves.since_before l since) (leaves.before n l before) in (leaves.since n low.0, low.1);
      numbers = λ n begun. h.numbers n (λ none. begun (leaves.over n ∙ none));
    }
