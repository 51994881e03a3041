-- Marks are in their places where a finalized block is run, is applied and is observed.
use Rattle.std.proofs.Common.{◌≡◌, ℕ, Bool, List, [], ◌∷◌, All, Option, None, Some, refl, sym, ap, ◌∙◌, subst, append-nil}
use Rattle.std.proofs.lemmas.List.Elements.{All-nil, All-cons}
use Rattle.stateful_base.specs.Names.{Named}
use Rattle.stateful_db.specs.declared.application.Hooked.{Hooked}
use Rattle.stateful_db.specs.declared.application.Hooked.TheVariants as hooked
use Rattle.stateful_history.specs.Past.{Past, Made}
use Rattle.stateful_history.specs.declared.mark.JobKind.TheVariants as job
use Rattle.stateful_history.specs.declared.mark.Mark.{Mark}
use Rattle.stateful_history.specs.declared.mark.Mark.TheVariants.{Started, Applied}
use Rattle.stateful_exec_cache.specs.Cache.{IsIn}
use Rattle.stateful_exec_model.specs.Finalizing.{front_at, HooksOn}
use Rattle.stateful_exec_model.specs.Workings.{Workings}
use Rattle.stateful_exec_model.specs.declared.front.Front.{Front}
use Rattle.stateful_exec_model.specs.declared.front.Stage.TheVariants.{Begun, Advanced}
use Rattle.stateful_exec_tables.specs.declared.state.Tables.{Tables}
use Rattle.stateful_exec_laws.specs.Due.{IsDue}
use Rattle.stateful_exec_laws.specs.Fronting.{FrontStands}
use Rattle.stateful_exec_laws.specs.Setting.{setting}
use Rattle.stateful_exec_laws.proofs.pauses.DueStands.{IsDue-runs, IsDue-moves, IsDue-observes}
use Rattle.stateful_exec_laws.proofs.front.Marks.{runs-StartsWell, hooks-StartsWell}
use Rattle.stateful_exec_laws.proofs.places.Marks.{started-next}
use Rattle.stateful_loop_model.specs.Moments.{Moment}
use Rattle.stateful_loop_model.specs.Rules.{finalizing, IsFinalizing, RunsFinalized, AppliesBlock, ObservesBlock}
use Rattle.stateful_loop_model.specs.declared.tables.Finalizing.{Finalizing}
use Rattle.stateful_loop_laws.specs.Execution.{Executes}
use Rattle.stateful_loop_laws.specs.Places.{HasMovedIn, PlacesKept, PlacesBehind}
use Rattle.stateful_loop_laws.specs.RuleMarks.{IsOfRule}
use Rattle.stateful_loop_laws.proofs.places.Past.{IsAskless}
use Rattle.stateful_loop_laws.proofs.places.Still.{asks-same, places-of}

pub one_rule : {B : Type 0} (m : Mark B) → IsOfRule m → All IsOfRule (m ∷ [])
one_rule m h = All-cons IsOfRule m [] h (All-nil IsOfRule)

pub one_askless : {B : Type 0} (m : Mark B) → IsAskless m → All IsAskless (m ∷ [])
one_askless m h = All-cons IsAskless m [] h (All-nil IsAskless)

module _ {B C I P R D H G U : Type 0} (w : Workings B C I P R D H G U) (stored : ℕ → Option (Named B)) (base : w.States) (p : Past B C I)
    (m now : Moment w) (e : Executes w stored base p m) (h : PlacesKept w stored p m) where
  abbrev v : Tables B C I R U
  v = m.execution.state

  fronts_at : (front : Option (Front B R U H)) → m.execution.front ≡ front → FrontStands w stored p e.point m.next v.anchor front
  fronts_at front is = subst (λ (o : Option (Front B R U H)). FrontStands w stored p e.point m.next v.anchor o) is e.fronts

  due_at : (front : Option (Front B R U H)) → m.execution.front ≡ front → IsDue (setting w stored) p v.cache front
  due_at front is = subst (λ (o : Option (Front B R U H)). IsDue (setting w stored) p v.cache o) is h.due

  -- where the finalized block is run
  pub places-runs : (b : Named B) → m.execution.front ≡ front_at b Begun → (IsIn v.cache b.digest → ⊥) → RunsFinalized w b m now
      → PlacesBehind w stored base p m now
  places-runs b is unknown r = subst (λ (n : Moment w). PlacesBehind w stored base p m n) (sym r.becomes)
      (places-of w stored base p m _ (Started v.next_job job.Finalized b.digest ∷ []) refl (
        (
          tt,
          started-next p v.next_job v.next_fetch e.tables.numbers,
          tt,
          runs-StartsWell w stored p e.point m.next v.anchor b (fronts_at (front_at b Begun) is) v.cache
              (due_at (front_at b Begun) is) unknown v.next_job,
          tt,
        ),
        tt,
      )
      (one_rule _ tt) (tt, tt) h.past
      (IsDue-runs w stored (Made (Started v.next_job job.Finalized b.digest) ∷ p) r.state.cache b m.members m.next r.next v r.state r.front r.runs)
      (asks-same w stored p (Started v.next_job job.Finalized b.digest ∷ []) (one_askless _ tt) v r.state m.execution.build m.execution.build
      m.execution.front r.front (ap (λ (x : Tables B C I R U). x.requests) r.runs.state) (ap (λ (x : Tables B C I R U). x.queued) r.runs.state) refl
      (λ moved. absurd (subst (λ (o : Option (Front B R U H)). HasMovedIn o) r.runs.front_is moved)) h.asks)
      (λ f captured at some. h.hooks f captured at some))

  -- where it is applied
  pub places-applies : (f : Finalizing B G) → AppliesBlock w f m now → PlacesBehind w stored base p m now
  places-applies f r = subst (λ (n : Moment w). PlacesBehind w stored base p m n) (sym r.becomes)
      (places-of w stored base p m _ (Applied f.block ∷ []) refl ((tt, tt, tt, tt, tt), tt) (one_rule _ tt) (tt, tt) h.past
      (IsDue-moves w stored
      (Made (Applied f.block) ∷ p) r.state.cache refl f.block m.members v r.state m.execution.front r.front r.batch r.captured r.moves)
      (asks-same w stored p (Applied f.block ∷ []) (one_askless _ tt) v r.state m.execution.build m.execution.build
      m.execution.front r.front (ap (λ (x : Tables B C I R U). x.requests) r.moves.state) (ap (λ (x : Tables B C I R U). x.queued) r.moves.state) refl
      (λ moved t d was. was) h.asks)
      (λ g captured at some. let same : record f { captured = Some r.captured } ≡ g = cc in ap (λ (x : Finalizing B G). Some x.block) same))

  module _ (f : Finalizing B G) (captured : G) (fin : IsFinalizing w m f) (is : m.execution.front ≡ front_at f.block Advanced)
      (some : f.captured ≡ Some captured) where
    moved_on : HasMovedIn m.execution.front
    moved_on = subst (λ (o : Option (Front B R U H)). HasMovedIn o) (sym is) tt

    observed : (hook : Hooked H) (state : Tables B C I R U) (front : Option (Front B R U H)) (marks : List (Mark B)) (live : Bool)
        → HooksOn w f.block hook v state m.marks marks front live
        → PlacesBehind w stored base p m (record m {
          execution = record m.execution { state = state; front = front };
          loop = record m.loop { front = Some (finalizing f.ticket f.block) };
          marks = marks;
        })
    observed hooked.Done state front marks live on =
        places-of w stored base p m _ [] (on.1 ∙ sym (append-nil m.marks)) tt (All-nil IsOfRule) tt h.past
        (IsDue-observes w stored p state.cache (due_at (front_at f.block Advanced) is) f.block hooked.Done v state m.marks marks front live on)
        (asks-same w stored p [] (All-nil IsAskless) v state m.execution.build m.execution.build
        m.execution.front front (ap (λ (x : Tables B C I R U). x.requests) on.0) (ap (λ (x : Tables B C I R U). x.queued) on.0) refl
        (λ moved. h.asks.nothing moved_on) h.asks)
        (λ g other at has. let same : finalizing f.ticket f.block ≡ g = cc in let no : None ≡ Some other = ap
        (λ (x : Finalizing B G). x.captured) same ∙ has in
        let never : ⊥ = cc in absurd never)
    observed (hooked.Pending hook) state front marks live on =
        places-of w stored base p m _ (Started v.next_job job.Hook f.block.digest ∷ []) on.2 (
          (
            tt,
            started-next p v.next_job v.next_fetch e.tables.numbers,
            tt,
            hooks-StartsWell w stored p e.point m.next v.anchor f.block (h.hooks f captured fin.2 some) v.next_job,
            tt,
          ),
          tt,
        ) (one_rule _ tt)
        (tt, tt) h.past
        (IsDue-observes w stored (Made (Started v.next_job job.Hook f.block.digest) ∷ p) state.cache (due_at (front_at f.block Advanced) is) f.block
        (hooked.Pending hook) v state m.marks marks front live on)
        (asks-same w stored p (Started v.next_job job.Hook f.block.digest ∷ []) (one_askless _ tt) v state m.execution.build m.execution.build
        m.execution.front front (ap (λ (x : Tables B C I R U). x.requests) on.0) (ap (λ (x : Tables B C I R U). x.queued) on.0) refl
        (λ moved t d was. h.asks.nothing moved_on t d was) h.asks)
        (λ g other at has. let same : finalizing f.ticket f.block ≡ g = cc in let no : None ≡ Some other = ap
        (λ (x : Finalizing B G). x.captured) same ∙ has in
        let never : ⊥ = cc in absurd never)

    -- where it is observed
    pub places-observes : ObservesBlock w f captured m now → PlacesBehind w stored base p m now
    places-observes o = subst (λ (n : Moment w). PlacesBehind w stored base p m n) (sym o.becomes)
        (observed o.observes.hook o.state o.front o.marks o.live o.observes.hooks_on)
