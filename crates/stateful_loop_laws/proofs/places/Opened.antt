-- What is kept for marks to be in their places is kept where a machine is opened, behind what a past keeps.
use Rattle.std.proofs.Common.{◌≡◌, ◌∷◌, ℕ, Option, Some, None, List, refl, sym, ap, ◌∙◌, subst}
use Rattle.std.proofs.lemmas.List.Elements.{All-nil}
use Rattle.stateful_base.specs.Names.{Named}
use Rattle.stateful_base.specs.Anchor.{anchor_by}
use Rattle.stateful_base.specs.declared.floor.Floor.{Floor}
use Rattle.stateful_history.specs.Past.{Past, Made}
use Rattle.stateful_history.specs.Stops.{NothingLive}
use Rattle.stateful_history.specs.declared.mark.Mark.TheVariants.{Opened}
use Rattle.stateful_exec_model.specs.Workings.{Workings}
use Rattle.stateful_exec_model.specs.declared.front.Front.{Front}
use Rattle.stateful_exec_tables.specs.declared.tables.Phase.TheVariants.{Fetching}
use Rattle.stateful_exec_tables.specs.declared.tables.Requested.{Requested}
use Rattle.stateful_exec_laws.specs.Due.{IsDue}
use Rattle.stateful_exec_laws.specs.Gathering.{gathered, AsksParents, AsksAlong}
use Rattle.stateful_exec_laws.specs.Setting.{setting}
use Rattle.stateful_exec_laws.proofs.runs.SpentRuns.{MayRunAgain-mark}
use Rattle.stateful_loop_model.specs.Moments.{Moment}
use Rattle.stateful_loop_model.specs.Opening.{Opens}
use Rattle.stateful_loop_model.specs.declared.tables.Processing.{Processing}
use Rattle.stateful_loop_laws.specs.Places.{CancelledIsGone, HasMovedIn, PastKept, PlacesKept}
use Rattle.stateful_loop_laws.proofs.places.Past.{orderly-gone}
use Rattle.stateful_loop_laws.proofs.tickets.Uncancelled.{gone-mark}

module _ {B C I P R D H G U : Type 0} (w : Workings B C I P R D H G U) (stored stored_now : ℕ → Option (Named B)) (floor : Floor) (keep : List ℕ)
    (p : Past B C I) (m now : Moment w) where
  -- So it is where nothing was live, and nothing was in front.
  pub kept-opens : PastKept w stored p → NothingLive p → m.loop.front ≡ None → (o : Opens w stored_now floor keep m now)
      → PlacesKept w stored (Made (Opened (anchor_by w.header o.block)) ∷ p) now
  kept-opens h nothing front o = record {
    past = record {
      orderly = orderly-gone w stored (Made (Opened (anchor_by w.header o.block)) ∷ p) gone h.past.orderly.apart
          (λ d. MayRunAgain-mark (setting w stored) p (Opened (anchor_by w.header o.block)) d (λ j how is. cc) (h.past.orderly.again d));
      gone = gone;
      whole = refl;
    };
    due = subst (λ (f : Option (Front B R U H)). IsDue (setting w stored) (Made (Opened (anchor_by w.header o.block)) ∷ p) now.execution.state.cache f)
        (sym o.nothing.1) refl;
    asks = record {
      along = subst (λ (es : List (ℕ × Requested B C I)). AsksAlong (setting w stored) (Made (Opened (anchor_by w.header o.block)) ∷ p) es)
          (sym o.requests.0) (All-nil (λ (e : ℕ × Requested B C I). (f : ℕ) → e.1.phase ≡ Fetching f
          → AsksParents (setting w stored) (Made (Opened (anchor_by w.header o.block)) ∷ p) e.0 (gathered e.1.request e.1.acquired)));
      earlier = λ t d was. h.earlier t d was;
      inside = λ t d was live out. let none = nothing.tickets t in let both = sym none ∙ live in let never : ⊥ = cc in absurd never;
      nothing = λ moved. absurd (subst (λ (f : Option (Front B R U H)). HasMovedIn f) o.nothing.1 moved);
    };
    hooks = λ f captured at some. let none = sym front ∙ sym (ap (λ (l : Processing B C I G). l.front) o.loop) ∙ at in let never : ⊥ = cc in absurd never;
  }
    where
      gone : CancelledIsGone (Made (Opened (anchor_by w.header o.block)) ∷ p)
      gone = gone-mark p (Opened (anchor_by w.header o.block)) h.past.gone
