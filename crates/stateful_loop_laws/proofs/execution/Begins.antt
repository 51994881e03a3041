-- Execution stands behind the begin of a finalization.
use Rattle.std.proofs.Common.{◌≡◌, ◌<◌, ◌++◌, inl, inr, ℕ, get_or, List, [], ◌∷◌, map, All, Option, Some, None, refl, sym, ap, ◌∙◌, subst, arith}
use Rattle.std.proofs.lemmas.List.{append_cancel_left}
use Rattle.std.proofs.lemmas.List.Elements.{All-cons, All-map, All-nil}
use Rattle.stateful_base.specs.Names.{Named}
use Rattle.stateful_db.specs.Laws.{Laws}
use Rattle.stateful_history.specs.Finalizations.{IsChildOf}
use Rattle.stateful_history.specs.Met.{Met, TrueNames}
use Rattle.stateful_history.specs.Past.{Past, Made, after}
use Rattle.stateful_history.specs.Setting.{Setting}
use Rattle.stateful_history.proofs.Marks.{Met-after}
use Rattle.stateful_history.specs.declared.mark.Mark.{Mark}
use Rattle.stateful_history.specs.declared.mark.Mark.TheVariants.{Began, Withdrawn}
use Rattle.stateful_exec_model.specs.Finalizing.{front_at}
use Rattle.stateful_exec_model.specs.Moments as exec
use Rattle.stateful_exec_tables.specs.Phase.{dropped}
use Rattle.stateful_exec_model.specs.Workings.{Workings}
use Rattle.stateful_exec_model.specs.declared.building.Building.{Building}
use Rattle.stateful_exec_model.specs.declared.front.Front.{Front}
use Rattle.stateful_exec_model.specs.declared.front.Stage.TheVariants.{Begun}
use Rattle.stateful_exec_pause.specs.declared.pause.Pause.TheVariants.{Finalizing}
use Rattle.stateful_exec_tables.specs.declared.state.Tables.{Tables}
use Rattle.stateful_exec_tables.specs.declared.tables.Phase.TheVariants.{Fetching}
use Rattle.stateful_exec_tables.specs.declared.tables.Requested.{Requested}
use Rattle.stateful_exec_laws.specs.Building.{BuildStands}
use Rattle.stateful_exec_laws.specs.Caching.{CacheStands}
use Rattle.stateful_exec_laws.specs.Crossing.{Finalizes}
use Rattle.stateful_exec_laws.specs.Fronting.{FrontStands}
use Rattle.stateful_exec_laws.specs.Requesting.{AllAbstain}
use Rattle.stateful_exec_laws.specs.Setting.{setting}
use Rattle.stateful_exec_laws.specs.Standing.{TablesStand}
use Rattle.stateful_exec_laws.proofs.linked.Abstaining.{AllAbstain-finalizing}
use Rattle.stateful_exec_laws.proofs.builds.Passes.{IsItsJob, IsItsTicket, BuildStands-passes}
use Rattle.stateful_exec_laws.proofs.earned.Carried.{IsMild}
use Rattle.stateful_exec_laws.proofs.earned.Together.{IsNoneTrue, AreEarned-none}
use Rattle.stateful_exec_laws.proofs.front.FinalizesBegins.{Finalizes-begins, Finalizes-paused}
use Rattle.stateful_exec_laws.proofs.front.Passes.{IsFrontJob, NoTicket, FrontStands-passes}
use Rattle.stateful_exec_laws.proofs.front.Runs.{FrontStands-begins}
use Rattle.stateful_exec_laws.proofs.pauses.PassingRules.{PassesBy-pauses}
use Rattle.stateful_exec_laws.proofs.pauses.Begins.{TablesStand-finalizing}
use Rattle.stateful_exec_laws.proofs.pauses.Known.{IsOverTip}
use Rattle.stateful_exec_laws.proofs.pauses.Tables.{unfetched_none}
use Rattle.stateful_exec_laws.proofs.requests.SamePast.{IsSamePast, IsSamePast-mild}
use Rattle.stateful_loop_model.specs.Moments.{Moment}
use Rattle.stateful_loop_model.specs.Rules.{BeginsFinalization, finalizing}
use Rattle.stateful_loop_laws.specs.Execution.{FetchesNone, IsFree, IsGroundFor, IsPlaced, Executes, NamesBehind, ExecutesBehind}

-- what holds of each withdrawal holds of all these
withdrawn_all : {B : Type 0} (Q : Mark B → Type 0) → ((f : ℕ) → Q (Withdrawn f)) → (fs : List ℕ) → All Q (map (λ f. Withdrawn f) fs)
withdrawn_all Q each [] = All-nil Q
withdrawn_all Q each (f ∷ fs) = All-cons Q (Withdrawn f) (map (λ g. Withdrawn g) fs) (each f) (withdrawn_all Q each fs)

module _ {B C I S T : Type 0} (s : Setting B S T) where
  -- withdrawals bring no block
  Met-withdrawn : (p : Past B C I) (fs : List ℕ) (b : Named B) → Met s (after p (map (λ f. Withdrawn f) fs)) b → Met s p b
  Met-withdrawn p [] b met = met
  Met-withdrawn p (f ∷ fs) b met = elim (Met-withdrawn (Made (Withdrawn f) ∷ p) fs b met) [ inl brought ↦ absurd brought | inr old ↦ old ]

  -- behind withdrawals the past is the same
  pub IsSamePast-withdrawn : (p : Past B C I) (fs : List ℕ) → IsSamePast s p (after p (map (λ f. Withdrawn f) fs))
  IsSamePast-withdrawn p fs = IsSamePast-mild s p (map (λ f. Withdrawn f) fs) (withdrawn_all (λ x. IsMild x) (λ f. tt) fs)
      (λ b. (Met-withdrawn p fs b, Met-after s p (map (λ f. Withdrawn f) fs) b))

-- no request fetches whose fetch is given up
dropped_none : {B C I : Type 0} (requests : List (ℕ × Requested B C I)) → FetchesNone (map dropped requests)
dropped_none {B = B} {C = C} {I = I} requests = All-map (λ (e : ℕ × Requested B C I). (f : ℕ) → e.1.phase ≡ Fetching f → ⊥) dropped requests
    (λ k d l f is. unfetched_none (get_or requests k d).1.phase f is)

module _ {B C I P R D H G U : Type 0} (w : Workings B C I P R D H G U) (laws : Laws w.kind) (stored : ℕ → Option (Named B)) (base : w.States)
    (p : Past B C I) (m now : Moment w) (t : ℕ) (b : Named B) (e : Executes w stored base p m) where
  module _ (free : IsFree w stored base p e.points e.point m.next m.execution.state)
      (fronts : FrontStands w stored p e.point m.next m.execution.state.anchor None)
      (builds : BuildStands w stored p e.points m.next m.execution.state None)
      (high : m.execution.state.anchor.height.0 < w.header.height b.block) (met : Met (setting w stored) p b)
      (r : BeginsFinalization w t b m now) where
    abbrev v : Tables B C I R U
    v = m.execution.state

    abbrev q : Past B C I
    q = Made (Began t b) ∷ p

    abbrev last : Past B C I
    last = after q r.withdrawn

    over : IsOverTip (setting w stored) p v.anchor b
    over = record {
      names = free.ground.names;
      met = met;
      tip_is = free.ground.folded.tip_is;
      top = free.ground.top.block;
      top_met = free.ground.top.met;
      named = free.ground.top.is;
    }

    child : IsChildOf w.header v.anchor b
    child = (let up = r.may.next in omega (arith, up, high), r.may.on_anchor)

    tables : TablesStand w stored last e.points e.point m.next r.state
    tables = TablesStand-finalizing w stored p t b e.points e.point m.next v r.state r.withdrawn r.boundary free.pause_is over r.is_boundary
        e.tables r.pauses

    same : IsSamePast (setting w stored) q last
    same = subst (λ (marks : List (Mark B)). IsSamePast (setting w stored) q (after q marks)) (sym r.pauses.marks_are)
        (IsSamePast-withdrawn (setting w stored) q r.pauses.fetches)

    finalizes : Finalizes w stored last r.state.anchor r.state.cache r.boundary
    finalizes = subst (λ (x : Tables B C I R U). Finalizes w stored last x.anchor x.cache r.boundary) (sym r.pauses.state)
        (Finalizes-paused w stored q v.anchor v.cache r.boundary r.withdrawn v r.state (Some r.boundary) r.pauses
        (Finalizes-begins w stored p e.points m.next v.anchor v.cache free.ground.stands t b over r.boundary r.is_boundary child))

    cache_stands : CacheStands w stored last e.points m.next v.anchor (Finalizing r.boundary) v.cache
    cache_stands = subst (λ (x : Tables B C I R U). CacheStands w stored last e.points m.next x.anchor x.pause x.cache) r.pauses.state tables.cache

    ground : TrueNames (setting w stored) last → IsGroundFor w stored base last e.points e.point m.next r.state b r.boundary
    ground names = subst (λ (x : Tables B C I R U). IsGroundFor w stored base last e.points e.point m.next x b r.boundary) (sym r.pauses.state)
        (record {
          stands = cache_stands;
          at_anchor = free.ground.at_anchor;
          names = names;
          folded = record {
            anchor_is = same.anchor
                ∙ free.ground.folded.anchor_is;
            tip_is = same.tip;
            folded = rw same.blocks free.ground.folded.folded;
          };
          top = record { block = free.ground.top.block; met = (same.met free.ground.top.block).1 (inr free.ground.top.met); is = free.ground.top.is };
          met = (same.met b).1 (inr met);
          child = child;
        })

    -- the moment of the tables, with the begin marked
    abbrev first : exec.Moment w
    first = exec.moment w v m.members m.next (m.marks ++ Began t b ∷ [])

    fronts_behind : FrontStands w stored last e.point m.next r.state.anchor (front_at b Begun)
    fronts_behind = FrontStands-passes w stored e.point (front_at b Begun) q first
        (record first { state = r.state; marks = first.marks ++ r.withdrawn }) r.withdrawn refl
        (PassesBy-pauses w (IsFrontJob (front_at {R = R} {U = U} {H = H} b Begun)) NoTicket first (Some r.boundary) r.state r.withdrawn r.pauses)
        (FrontStands-begins w stored p e.points e.point m.next v e.tables b t r.may.on_anchor fronts)

    builds_behind : BuildStands w stored last e.points m.next r.state None
    builds_behind =
        BuildStands-passes w stored e.points None q first (record first { state = r.state; marks = first.marks ++ r.withdrawn }) r.withdrawn refl
        (PassesBy-pauses w (IsItsJob {B = B} {C = C} {D = D} None) (IsItsTicket {B = B} {C = C} {D = D} None) first
        (Some r.boundary) r.state r.withdrawn r.pauses)
        (record { each = tt; elsewhere = tt; complete = λ j d live. builds.complete j d (record { live = live.live; is = live.is }) })

    settled : FetchesNone r.state.requests
    settled = subst (λ (x : Tables B C I R U). FetchesNone x.requests) (sym r.pauses.state) (dropped_none v.requests)

    executes : m.execution.build ≡ None → TrueNames (setting w stored) last → Executes w stored base last (record m {
      execution = record m.execution { state = r.state; front = front_at b Begun };
      loop = record m.loop { front = Some (finalizing t b) };
      marks = m.marks ++ Began t b ∷ r.withdrawn;
    })
    executes no_build names = record {
      points = e.points;
      point = e.point;
      located = e.located;
      drawn = e.drawn;
      tables = tables;
      builds = subst (λ (o : Option (Building B C D)). BuildStands w stored last e.points m.next r.state o) (sym no_build) builds_behind;
      fronts = fronts_behind;
      placed = record {
        boundary = r.boundary;
        pause_is = ap (λ (x : Tables B C I R U). x.pause) r.pauses.state;
        finalizes = finalizes;
        ground = ground names;
        settled = settled;
      };
      alone = λ some. let none = no_build in absurd (cc);
    }

    none_true : All (λ x. IsNoneTrue x) (Began t b ∷ r.withdrawn)
    none_true = All-cons (λ x. IsNoneTrue x) (Began t b) r.withdrawn tt
        (subst (λ (marks : List (Mark B)). All (λ x. IsNoneTrue x) marks) (sym r.pauses.marks_are)
        (withdrawn_all (λ x. IsNoneTrue x) (λ f. tt) r.pauses.fetches))

    behind : m.execution.build ≡ None → NamesBehind w stored base p m now → ExecutesBehind w stored base p m now
    behind no_build names = record {
      more = Began t b ∷ r.withdrawn;
      marks_are = ap (λ (n : Moment w). n.marks) r.becomes;
      executes = subst (λ (n : Moment w). Executes w stored base last n) (sym r.becomes)
          (executes no_build (names (Began t b ∷ r.withdrawn) (ap (λ (n : Moment w). n.marks) r.becomes)));
      earned = AreEarned-none w stored base p (Began t b ∷ r.withdrawn) none_true;
    }

  -- Where nothing is in front, execution stands behind the begin of the finalization of the next block.
  pub Executes-begins : m.execution.front ≡ None → m.execution.build ≡ None → m.execution.state.anchor.height.0 < w.header.height b.block
      → Met (setting w stored) p b → NamesBehind w stored base p m now → BeginsFinalization w t b m now
      → ExecutesBehind w stored base p m now
  Executes-begins no_front no_build high met names r =
      behind (subst (λ (o : Option (Front B R U H)). IsPlaced w stored base p e.points e.point m.next m.execution.state o) no_front e.placed)
      (subst (λ (o : Option (Front B R U H)). FrontStands w stored p e.point m.next m.execution.state.anchor o) no_front e.fronts)
      (subst (λ (o : Option (Building B C D)). BuildStands w stored p e.points m.next m.execution.state o) no_build e.builds)
      high met r no_build names

  -- Each request that waits abstains behind it, where each did before.
  pub AllAbstain-begins : m.execution.front ≡ None → m.execution.state.anchor.height.0 < w.header.height b.block → BeginsFinalization w t b m now
      → AllAbstain w stored p m.execution.state.requests
      → (more : List (Mark B)) → now.marks ≡ m.marks ++ more → AllAbstain w stored (after p more) now.execution.state.requests
  AllAbstain-begins no_front high r abstain more is =
      let free : IsFree w stored base p e.points e.point m.next m.execution.state = subst
      (λ (o : Option (Front B R U H)). IsPlaced w stored base p e.points e.point m.next m.execution.state o) no_front e.placed in
      let marks : Began t b ∷ r.withdrawn ≡ more = append_cancel_left m.marks (Began t b ∷ r.withdrawn) more
      (sym (ap (λ (n : Moment w). n.marks) r.becomes) ∙ is) in
      subst (λ (x : List (Mark B)). AllAbstain w stored (after p x) now.execution.state.requests) marks
      (subst (λ (n : Moment w). AllAbstain w stored (after p (Began t b ∷ r.withdrawn)) n.execution.state.requests) (sym r.becomes)
      (AllAbstain-finalizing w stored p t b r.boundary m.execution.state r.state r.withdrawn free.ground.folded.tip_is
      (omega (arith, high)) r.pauses abstain))
