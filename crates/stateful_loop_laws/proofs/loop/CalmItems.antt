-- What an item leaves of barriers, openings and applied blocks.
use Rattle.std.proofs.Common.{◌≡◌, ◌≢◌, inl, inr, ℕ, ◌==◌, ◌∷◌, [], Bool, true, false, if◌then◌else◌, Option, Some, None, refl}
use Rattle.std.proofs.lemmas.Bool.{false≢true, eq-eqb}
use Rattle.stateful_base.specs.Names.{Header}
use Rattle.stateful_db.specs.declared.barrier.Flushed.{Flushed as Answer}
use Rattle.stateful_db.specs.declared.barrier.Flushed.TheVariants.{Good, Interrupted}
use Rattle.stateful_history.specs.Anchors.{applied}
use Rattle.stateful_history.specs.Barriers.{live_barrier, begun_over, WasInterrupted, BeganSince, BeganBefore, WasDone}
use Rattle.stateful_history.specs.Durable.{durable, BeganOver, WasApplied, WasFlushed}
use Rattle.stateful_history.specs.Opening.{opening}
use Rattle.stateful_history.specs.Past.{Past, Item, Came, Made}
use Rattle.stateful_history.specs.declared.event.Event.TheVariants.{Flushed, Restart}
use Rattle.stateful_history.specs.declared.mark.Mark.{Mark}
use Rattle.stateful_history.specs.declared.mark.Mark.TheVariants.{Opened, Converged, Applied, BarrierBegun, BarrierDone, Acknowledged, Stopped}

-- the mark says nothing of barriers, openings and applied blocks, and acknowledges nothing
abbrev pub IsCalmMark : {B : Type 0} → Mark B → Type 0
IsCalmMark (Opened anchor) = ⊥
IsCalmMark (Converged anchor) = ⊥
IsCalmMark (Applied b) = ⊥
IsCalmMark (BarrierBegun k height) = ⊥
IsCalmMark (BarrierDone k height good) = ⊥
IsCalmMark (Acknowledged t height) = ⊥
IsCalmMark Stopped = ⊥
IsCalmMark mark = Unit {0}

-- the item says nothing of barriers, openings and applied blocks
abbrev pub IsCalmItem : {B C I : Type 0} → Item B C I → Type 0
IsCalmItem (Came (Restart floor keep)) = ⊥
IsCalmItem (Came (Flushed k i answer)) = ⊥
IsCalmItem (Made (Acknowledged t height)) = Unit {0}
IsCalmItem (Made mark) = IsCalmMark mark
IsCalmItem item = Unit {0}

module _ {B C I : Type 0} (header : Header B) (p : Past B C I) (x : Item B C I) where
  -- the item begins, ends and interrupts no barrier, and takes back no answer of a flush
  pub record LeavesBarriers : Type 0 where
    pub live : (k : ℕ) → live_barrier k (x ∷ p) ≡ live_barrier k p
    pub over : (k : ℕ) → begun_over k (x ∷ p) ≡ begun_over k p
    pub began : (k n : ℕ) → BeganOver header k n p → BeganOver header k n (x ∷ p)
    pub since : (k : ℕ) → BeganSince k p → BeganSince k (x ∷ p)
    pub since_before : (k : ℕ) → BeganSince k (x ∷ p) → BeganSince k p
    pub before : (k n : ℕ) → BeganBefore k n (x ∷ p) → BeganBefore k n p
    pub done : (k : ℕ) → WasDone k p → WasDone k (x ∷ p)
    pub flushed : (k i : ℕ) → WasFlushed k i p → WasFlushed k i (x ∷ p)
    pub interrupted : (k : ℕ) → WasInterrupted k p → WasInterrupted k (x ∷ p)

  -- the item opens and applies nothing
  pub record LeavesApplied : Type 0 where
    pub opening : opening (x ∷ p) ≡ opening p
    pub blocks : applied (x ∷ p) ≡ applied p
    pub was : (n : ℕ) → WasApplied header n p → WasApplied header n (x ∷ p)

  -- and the durable height is as it was
  pub record LeavesLoop : Type 0 where
    pub barriers : LeavesBarriers
    pub applied : LeavesApplied
    pub durable : durable (x ∷ p) ≡ durable p

module _ {B C I : Type 0} (header : Header B) (p : Past B C I) where
  -- a calm item leaves all that the loop keeps
  pub LeavesLoop-calm : (x : Item B C I) → IsCalmItem x → LeavesLoop header p x
  LeavesLoop-calm (Came (Restart floor keep)) calm = absurd calm
  LeavesLoop-calm (Came (Flushed k i answer)) calm = absurd calm
  LeavesLoop-calm (Made (Opened anchor)) calm = absurd calm
  LeavesLoop-calm (Made (Converged anchor)) calm = absurd calm
  LeavesLoop-calm (Made (Applied b)) calm = absurd calm
  LeavesLoop-calm (Made (BarrierBegun k height)) calm = absurd calm
  LeavesLoop-calm (Made (BarrierDone k height good)) calm = absurd calm
  LeavesLoop-calm (Made Stopped) calm = absurd calm
  LeavesLoop-calm x calm = record {
    barriers = record {
      live = λ k. refl;
      over = λ k. refl;
      began = λ k n h. h;
      since = λ k h. h;
      since_before = λ k h. h;
      before = λ k n h. h;
      done = λ k h. h;
      flushed = λ k i h. h;
      interrupted = λ k h. h;
    };
    applied = record { opening = refl; blocks = refl; was = λ n h. h };
    durable = refl;
  }

  -- a calm mark is a calm item
  pub IsCalmItem-mark : (mark : Mark B) → IsCalmMark mark → IsCalmItem {C = C} {I = I} (Made mark)
  IsCalmItem-mark (Acknowledged t height) calm = tt
  IsCalmItem-mark mark calm = calm

  -- an answer of a flush leaves it too
  pub LeavesLoop-flushed : (k i : ℕ) (answer : Answer) → LeavesLoop header p (Came (Flushed k i answer))
  LeavesLoop-flushed k i Good = record {
    barriers = record {
      live = λ n. refl;
      over = λ n. refl;
      began = λ n height h. h;
      since = λ n h. h;
      since_before = λ n h. h;
      before = λ m n h. h;
      done = λ n h. h;
      flushed = λ n j h. inr h;
      interrupted = λ n h. h;
    };
    applied = record { opening = refl; blocks = refl; was = λ n h. h };
    durable = refl;
  }
  LeavesLoop-flushed k i Interrupted = record {
    barriers = record {
      live = λ n. refl;
      over = λ n. refl;
      began = λ n height h. h;
      since = λ n h. h;
      since_before = λ n h. h;
      before = λ m n h. h;
      done = λ n h. h;
      flushed = λ n j h. h;
      interrupted = λ n h. inr h;
    };
    applied = record { opening = refl; blocks = refl; was = λ n h. h };
    durable = refl;
  }

  -- an applied block leaves barriers
  pub LeavesBarriers-applied : (b : _) → LeavesBarriers header p (Made (Applied b))
  LeavesBarriers-applied b = record {
    live = λ k. refl;
    over = λ k. refl;
    began = λ k n h. h;
    since = λ k h. h;
    since_before = λ k h. h;
    before = λ k n h. h;
    done = λ k h. h;
    flushed = λ k i h. h;
    interrupted = λ k h. h;
  }

  -- the begin and the end of a barrier apply nothing
  pub LeavesApplied-begun : (k : ℕ) (height : _) → LeavesApplied header p (Made (BarrierBegun k height))
  LeavesApplied-begun k height = record { opening = refl; blocks = refl; was = λ n h. h }

  -- nor does its end
  pub LeavesApplied-done : (k : ℕ) (height : _) → LeavesApplied header p (Made (BarrierDone k height true))
  LeavesApplied-done k height = record { opening = refl; blocks = refl; was = λ n h. h }

module _ {X : Type 0} where
  some_if : (t : Bool) (x : X) (o : Option X) → t ≡ true → (if t then Some x else o) ≢ None
  some_if true x o e none = cc
  some_if false x o e none = absurd (false≢true e)

  some_else : (t : Bool) (x : X) (o : Option X) → o ≢ None → (if t then Some x else o) ≢ None
  some_else true x o some none = cc
  some_else false x o some none = some none

module _ {B C I : Type 0} where
  -- a barrier that began since the opening has begun
  pub begun_since : (k : ℕ) (p : Past B C I) → BeganSince k p → begun_over k p ≢ None
  begun_since k [] h = absurd h
  begun_since k (Came (Restart floor keep) ∷ p) h = absurd h
  begun_since k (Made (Opened anchor) ∷ p) h = absurd h
  begun_since k (Made (Converged anchor) ∷ p) h = absurd h
  begun_since k (Made (BarrierBegun m height) ∷ p) (inl e) = some_if (k == m) height (begun_over k p) (eq-eqb k m e)
  begun_since k (Made (BarrierBegun m height) ∷ p) (inr h) = some_else (k == m) height (begun_over k p) (begun_since k p h)
  begun_since k (item ∷ p) h = begun_since k p h

  -- and so has one before which another one began
  pub begun_behind : (k n : ℕ) (p : Past B C I) → BeganBefore k n p → begun_over n p ≢ None
  begun_behind k n [] h = absurd h
  begun_behind k n (Made (BarrierBegun m height) ∷ p) (inl e) = some_if (n == m) height (begun_over n p) (eq-eqb n m e.0)
  begun_behind k n (Made (BarrierBegun m height) ∷ p) (inr h) = some_else (n == m) height (begun_over n p) (begun_behind k n p h)
  begun_behind k n (item ∷ p) h = begun_behind k n p h
