-- Histories of steps, an entry longer.
use Rattle.std.proofs.Common.{◌≡◌, ◌<◌, ◌++◌, ℕ, true, List, [], ◌∷◌, map, take, length, arith, Option, refl, sym, ◌∙◌, ap, subst}
use Rattle.stateful_base.specs.Names.{Named}
use Rattle.stateful_history.specs.Live.{may_come}
use Rattle.stateful_history.specs.Past.{Past, after_entry, after_all}
use Rattle.stateful_history.specs.declared.event.Event.{Event}
use Rattle.stateful_history.specs.declared.entry.Entry.{Entry}
use Rattle.stateful_history.specs.declared.mark.Mark.{Mark}
use Rattle.stateful_history.proofs.Marks.{after_all-push}
use Rattle.stateful_exec_model.specs.Workings.{Workings}
use Rattle.stateful_actor_register.specs.Register.{RegisterStands}
use Rattle.stateful_actor_register.specs.declared.register.Register.{Register}
use Rattle.stateful_loop_model.specs.Intake.{Counts}
use Rattle.stateful_loop_model.specs.Moments.{Moment}
use Rattle.stateful_actor_laws.specs.Entering.{Steps}
use Rattle.stateful_actor_laws.specs.Machine.{numbered}
use Rattle.stateful_actor_laws.specs.Steps.{IsStep}

-- the events of a history, one more
events-append : {B C I : Type 0} (history : List (Entry B C I)) (entry : Entry B C I) → map (λ (e : Entry B C I). e.event)
    (history ++ entry ∷ []) ≡ map (λ (e : Entry B C I). e.event) history ++ entry.event ∷ []
events-append [] entry = refl
events-append {B} {C} {I} (x ∷ history) entry = ap (λ (l : List (Event B C I)). x.event ∷ l) (events-append history entry)

pub events-push : {B C I : Type 0} (history longer : List (Entry B C I)) (event : Event B C I) (marks : List (Mark B)) (events : List (Event B C I))
    → longer ≡ history ++ record { event = event; marks = marks } ∷ []
    → map (λ (e : Entry B C I). e.event) history ≡ events → map (λ (e : Entry B C I). e.event) longer ≡ events ++ event ∷ []
events-push {B} {C} {I} history longer event marks events adds is =
    ap (λ (l : List (Entry B C I)). map (λ (e : Entry B C I). e.event) l) adds
    ∙ events-append history (record { event = event; marks = marks })
    ∙ ap (λ (l : List (Event B C I)). l ++ event ∷ []) is

-- one more behind a list that is another one's
pub added : {X : Type 0} (new mid old : List X) (x : X) → new ≡ mid ++ x ∷ [] → mid ≡ old → new ≡ old ++ x ∷ []
added {X} new mid old x is same = is ∙ ap (λ (l : List X). l ++ x ∷ []) same

module _ {B C I P R D H G U : Type 0} (w : Workings B C I P R D H G U) (stored : ℕ → Option (Named B)) (provider : P) (counts : Counts R D H) where
  -- one more step
  pub Steps-push : (p : Past B C I) (old mid : Moment w) (history : List (Entry B C I)) (event : Event B C I) (register : Register) (new : Moment w)
      → Steps w stored provider counts p old history mid
      → may_come (numbered w.kind.count) (after_all p history) event ≡ true → RegisterStands (numbered w.kind.count) (after_all p history) register
      → IsStep w stored provider counts register event mid new
      → Steps w stored provider counts p old (history ++ record { event = event; marks = new.marks } ∷ []) (record new { marks = [] })
  Steps-push p old mid [] event register new is may stood step = (
    may,
    register,
    stood,
    new,
    refl,
    subst (λ (x : Moment w). IsStep w stored provider counts register event x new) is step,
    refl,
  )
  Steps-push p old mid (x ∷ history) event register new steps may stood step = (
    steps.0,
    steps.1,
    steps.2,
    steps.3,
    steps.4,
    steps.5,
    Steps-push (after_entry p x.event x.marks) (record (steps.3) { marks = [] }) mid history event register new steps.6 may stood step,
  )

-- the event behind those that were taken in
pub event_at : {X : Type 0} (done rest left all taken : List X) (x : X) → done ++ rest ≡ all → rest ≡ x ∷ left → taken ≡ done → all ≡ taken
    ++ x ∷ left
event_at {X} done rest left all taken x e is t = sym e ∙ (ap (λ (l : List X). done ++ l) is ∙ ap (λ (d : List X). d ++ x ∷ left) (sym t))

-- a register that stands for a history an entry longer
pub registered-longer : {B C I : Type 0} (count : ℕ) (history longer : List (Entry B C I)) (entry : Entry B C I) (register : Register)
    → longer ≡ history ++ entry ∷ []
    → RegisterStands count (after_entry (after_all [] history) entry.event entry.marks) register → RegisterStands count (after_all [] longer) register
registered-longer {B} {C} {I} count history longer entry register is stands =
    subst (λ (p : Past B C I). RegisterStands count p register)
    (sym (ap (λ (h : List (Entry B C I)). after_all [] h) is ∙ after_all-push [] history entry)) stands

-- the past of a history an entry longer
pub longer-past : {B C I : Type 0} (history longer : List (Entry B C I)) (event : Event B C I) (marks : List (Mark B))
    → longer ≡ history ++ record { event = event; marks = marks } ∷ []
    → after_all [] longer ≡ after_entry (after_all [] history) event marks
longer-past {B} {C} {I} history longer event marks is =
    ap (λ (h : List (Entry B C I)). after_all [] h) is ∙ after_all-push [] history (record { event = event; marks = marks })

-- and these are the first ones, and not all
pub taken_before : {X Y : Type 0} (history : List X) (f : X → Y) (x : Y) (rest all : List Y) → all ≡ map f history ++ x ∷ rest
    → map f history ≡ take (length history) all
taken_before {X} {Y} history f x rest all is = go history ∙ ap (λ (l : List Y). take (length history) l) (sym is)
  where
    go : (l : List X) → map f l ≡ take (length l) (map f l ++ x ∷ rest)
    go [] = refl
    go (y ∷ l) = ap (λ (r : List Y). f y ∷ r) (go l)

pub within_events : {X Y : Type 0} (history : List X) (f : X → Y) (x : Y) (rest all : List Y) → all ≡ map f history ++ x ∷ rest
    → length history < length all
within_events {X} {Y} history f x rest all is = subst (λ (l : List Y). length history < length l) (sym is) (go history)
  where
    go : (l : List X) → length l < length (map f l ++ x ∷ rest)
    go [] = omega (arith)
    go (y ∷ l) = let n = go l in omega (arith)
