-- Marks are in their places after the last turn of a candidate run: that of its end, and those of the requests that follow it.
use Rattle.std.proofs.Common.{◌≡◌, ◌≢◌, ◌++◌, ◌==◌, ℕ, Bool, true, false, List, [], ◌∷◌, All, Option, None, Some, IfSome, Ok, refl, sym, ap, ◌∙◌, subst}
use Rattle.std.proofs.lemmas.Bool.{eq-eqb}
use Rattle.std.proofs.lemmas.List.{append_assoc}
use Rattle.std.proofs.lemmas.List.Elements.{All-nil, All-cons, All-head, All-weaker}
use Rattle.stateful_base.specs.Names.{Named}
use Rattle.stateful_base.specs.declared.anchor.Anchor.{Anchor}
use Rattle.stateful_base.specs.declared.digest.Digest.{Digest}
use Rattle.stateful_base.specs.declared.outcome.Moved.TheVariants.{Done}
use Rattle.stateful_db.specs.Laws.{Laws}
use Rattle.stateful_history.specs.Jobs.{job_of, started_for}
use Rattle.stateful_history.specs.Past.{Past, Came, Made, EachMark, after}
use Rattle.stateful_history.specs.declared.event.Event.TheVariants.{Turn}
use Rattle.stateful_history.specs.declared.mark.How.{How}
use Rattle.stateful_history.specs.declared.mark.JobKind.TheVariants.{Candidate}
use Rattle.stateful_history.specs.declared.mark.Mark.{Mark}
use Rattle.stateful_history.specs.declared.mark.Mark.TheVariants.{Ended}
use Rattle.stateful_table.specs.Table.{at, put}
use Rattle.stateful_exec_tables.specs.Tables.{released}
use Rattle.stateful_exec_model.specs.Ending.{EndsRun, TurnsRun, Settles, InTurn, next, Follows}
use Rattle.stateful_exec_model.specs.Moments as exec
use Rattle.stateful_exec_walk.specs.Path.{Path}
use Rattle.stateful_exec_tables.specs.Phase.{is_on, path_on, released_on, tickets_on}
use Rattle.stateful_exec_model.specs.Workings.{Workings, Point}
use Rattle.stateful_exec_model.specs.declared.building.Building.{Building}
use Rattle.stateful_exec_tables.specs.declared.state.Tables.{Tables}
use Rattle.stateful_exec_tables.specs.declared.tables.LiveRun.{LiveRun}
use Rattle.stateful_exec_tables.specs.declared.tables.Phase.{Phase}
use Rattle.stateful_exec_tables.specs.declared.tables.Phase.TheVariants.{Open, Fetching, Waiting, Executing, Parked}
use Rattle.stateful_exec_tables.specs.declared.tables.Released.{Released}
use Rattle.stateful_exec_tables.specs.declared.tables.Requested.{Requested}
use Rattle.stateful_exec_laws.specs.Orderly.{IsOrderly}
use Rattle.stateful_exec_laws.specs.Requesting.{steps}
use Rattle.stateful_exec_laws.specs.Running.{IsRunning}
use Rattle.stateful_exec_laws.specs.Setting.{setting}
use Rattle.stateful_exec_laws.specs.Ways.{KeepOff}
use Rattle.stateful_exec_laws.proofs.pauses.DueStands.{IsDue-steps}
use Rattle.stateful_exec_laws.proofs.ended.Rule.{same_block}
use Rattle.stateful_exec_laws.proofs.ended.Stands.{running}
use Rattle.stateful_exec_laws.proofs.ended.FollowStands.{ticket_of, request_of, path_of}
use Rattle.stateful_exec_laws.proofs.pauses.InTurn.{IsOnWay}
use Rattle.stateful_exec_laws.proofs.requests.KeptMarks.{EachMark-behind, KeepsReady, KeepsReady-then, KeepsReady-in_turn}
use Rattle.stateful_exec_laws.proofs.runs.SpentRuns.{MayRunAgain-turned}
use Rattle.stateful_loop_model.specs.Moments.{Moment, inner, with_inner}
use Rattle.stateful_loop_laws.specs.Execution.{Executes}
use Rattle.stateful_loop_laws.specs.Places.{IsInPlace, PlacesKept, PlacesBehind}
use Rattle.stateful_loop_laws.specs.RuleMarks.{IsOfRule}
use Rattle.stateful_loop_laws.specs.Ways.{WaysKept}
use Rattle.stateful_loop_laws.proofs.earned.Turned.{AreToFollow, follows-by_right, AreToFollow-settled}
use Rattle.stateful_loop_laws.proofs.execution.LetGo.{IsLetGo, let-go}
use Rattle.stateful_loop_laws.proofs.places.Follows.{IsOrderlyBut, IsOrderly-weaker, follows-in_place, follows-served, follows-orderly}
use Rattle.stateful_loop_laws.proofs.places.Past.{IsAskless, gone-after, whole-after, asked-before}
use Rattle.stateful_loop_laws.proofs.places.Released.{IsFollowing, following-rule, following-askless, following-hookless, follows-following, AsksBeside, follows-asks, asks-released, asks-followed}
use Rattle.stateful_loop_laws.proofs.places.Still.{IsHookless, unhooked-after}
use Rattle.stateful_loop_laws.proofs.ways.Turned.{released-off}

module _ {B C I : Type 0} where
  -- where no request is released, none waits for the run
  released_none : (job : ℕ) (es : List (ℕ × Requested B C I)) → released_on job es ≡ [] → tickets_on job es ≡ []
  released_none job [] none = refl
  released_none job (e ∷ es) none = by_phase e.1.phase refl (released_none job es)
    where
      off : path_on job e.1.phase ≡ None → is_on job e.1.phase ≡ false → (released_on job es ≡ [] → tickets_on job es ≡ [])
          → tickets_on job (e ∷ es) ≡ []
      off no_path is rest = rw is (rest (rw no_path at none))

      on : (k : ℕ) (path : Path B) → e.1.phase ≡ Executing k path → (b : Bool) → (k == job) ≡ b → (released_on job es ≡ [] → tickets_on job es ≡ [])
          → tickets_on job (e ∷ es) ≡ []
      on k path is true same rest = let some = rw (is, same) at none in cc
      on k path is false other rest = off (rw (is, other) refl) (rw (is, other) refl) rest

      by_phase : (phase : Phase B) → e.1.phase ≡ phase → (released_on job es ≡ [] → tickets_on job es ≡ []) → tickets_on job (e ∷ es) ≡ []
      by_phase (Executing k path) is rest = on k path is (k == job) refl rest
      by_phase Open is rest = off (rw is refl) (rw is refl) rest
      by_phase (Fetching f) is rest = off (rw is refl) (rw is refl) rest
      by_phase Waiting is rest = off (rw is refl) (rw is refl) rest
      by_phase (Parked path) is rest = off (rw is refl) (rw is refl) rest

  -- two rules on marks together
  both_rules : (P Q : Past B C I → Mark B → Type 0) (p : Past B C I) (more : List (Mark B)) → EachMark P p more → EachMark Q p more
      → EachMark (λ x m. P x m × Q x m) p more
  both_rules P Q p [] one two = tt
  both_rules P Q p (m ∷ more) one two = ((one.0, two.0), both_rules P Q (Made m ∷ p) more one.1 two.1)

  first_rule : (P Q : Past B C I → Mark B → Type 0) (p : Past B C I) (more : List (Mark B)) → EachMark (λ x m. P x m × Q x m) p more
      → EachMark P p more
  first_rule P Q p [] both = tt
  first_rule P Q p (m ∷ more) both = (both.0.0, first_rule P Q (Made m ∷ p) more both.1)

  second_rule : (P Q : Past B C I → Mark B → Type 0) (p : Past B C I) (more : List (Mark B)) → EachMark (λ x m. P x m × Q x m) p more
      → EachMark Q p more
  second_rule P Q p [] both = tt
  second_rule P Q p (m ∷ more) both = (both.0.1, second_rule P Q (Made m ∷ p) more both.1)

  all_marks : (Q : Mark B → Type 0) (p : Past B C I) (more : List (Mark B)) → EachMark (λ (x : Past B C I) (m : Mark B). Q m) p more → All Q more
  all_marks Q p [] each = All-nil Q
  all_marks Q p (m ∷ more) each = All-cons Q m more each.0 (all_marks Q (Made m ∷ p) more each.1)

module _ {B C I P R D H G U : Type 0} (w : Workings B C I P R D H G U) (stored : ℕ → Option (Named B)) (base : w.States)
    (points : Digest → Point w) (point : Point w) (tip : Anchor)
    (other_states : (n i : w.Ids) (x y : w.States) (c : List (Point w)) → w.kind.issued n ((i, x) ∷ c) → w.kind.issued n ((i, y) ∷ c))
    (b : Named B) (how : How) (build : Option (Building B C D)) where
  -- a mark is in its place, and is one of a request that follows
  abbrev Rule : Past B C I → Mark B → Type 0
  Rule p mark = IsInPlace w stored base p mark × IsFollowing mark

  -- The requests are to follow the end of the run; the past is in order, maybe but for its block; and what was asked stands.
  record ArePlaced (Orderly : Past B C I → Type 0) (rs : List (Released B C I)) (p : Past B C I) (m : exec.Moment w) : Type 0 where
    follow : AreToFollow w stored base points point tip other_states b how rs p m
    orderly : Orderly p
    asks : AsksBeside w stored build rs p m

  -- one of them follows
  one : (Orderly : Past B C I → Type 0) → ((p : Past B C I) → Orderly p → IsOrderlyBut w stored b p) → (r : Released B C I) (rs : List (Released B C I))
      (p : Past B C I) (m now : exec.Moment w) → ArePlaced Orderly (r ∷ rs) p m → Follows w b how r m now
      → KeepsReady w Rule (Follows w b how) (ArePlaced (IsOrderly w stored)) rs p m now
  one Orderly weaker r rs p m now a rule =
      let v = follows-by_right w stored base points point tip other_states b how r rs p m now a.follow rule in
      record {
        more = v.more;
        marks_are = v.marks_are;
        each = both_rules (IsInPlace w stored base) (λ (x : Past B C I) (mark : Mark B). IsFollowing mark) p v.more
            (EachMark-behind w (IsInPlace w stored base) p m now v.more v.marks_are
            (follows-in_place w stored base points point p m a.follow.ready a.follow.free_way b how r on leads off o now rule))
            (following v.more v.marks_are);
        ready = record {
          follow = v.ready;
          orderly = follows-orderly w stored base points point p m a.follow.ready a.follow.free_way b how r on leads off o now v.more v.marks_are rule;
          asks = follows-asks w stored build b how r rs p m now on.hand.absent v.more v.marks_are
              (follows-served w stored base points point p m a.follow.ready a.follow.free_way b how r on leads off o now v.more v.marks_are rule)
              (All-weaker IsFollowing IsAskless (λ mark h. following-askless mark h) v.more
              (all_marks IsFollowing p v.more (following v.more v.marks_are))) rule a.asks;
        };
      }
    where
      on : IsOnWay w stored points point ticket_of request_of path_of p m r
      on = All-head (IsOnWay w stored points point ticket_of request_of path_of p m) r rs a.follow.each

      leads : r.path.parent ≡ b
      leads = All-head (λ (x : Released B C I). x.path.parent ≡ b) r rs a.follow.leads

      off : KeepOff m.state.anchor (steps r.path)
      off = All-head (λ (x : Released B C I). KeepOff m.state.anchor (steps x.path)) r rs a.follow.off

      o : IsOrderlyBut w stored b p
      o = weaker p a.orderly

      following : (more : List (Mark B)) → now.marks ≡ m.marks ++ more → EachMark (λ (x : Past B C I) (mark : Mark B). IsFollowing mark) p more
      following more is = EachMark-behind w (λ (x : Past B C I) (mark : Mark B). IsFollowing mark) p m now more is
          (follows-following w p m now b how r rule)

  -- the first of them, and the others
  all_follow : (r : Released B C I) (rs : List (Released B C I)) (p : Past B C I) (m last : exec.Moment w)
      → ArePlaced (IsOrderlyBut w stored b) (r ∷ rs) p m → InTurn (Follows w b how) (r ∷ rs) m last
      → KeepsReady w Rule (Follows w b how) (ArePlaced (IsOrderly w stored)) [] p m last
  all_follow r rs p m last a (next {n = n} rule rules) =
      let first = one (IsOrderlyBut w stored b) (λ q o. o) r rs p m n a rule in
      KeepsReady-then w Rule (Follows w b how) (ArePlaced (IsOrderly w stored)) [] p m n last first.more first.marks_are first.each
      (KeepsReady-in_turn w Rule (Follows w b how) (ArePlaced (IsOrderly w stored))
      (λ x xs q k now ready step. one (IsOrderly w stored) (λ z o. IsOrderly-weaker w stored b z o) x xs q k now ready step)
      rs (after p first.more) n last first.ready rules)

module _ {B C I P R D H G U : Type 0} (w : Workings B C I P R D H G U) (laws : Laws w.kind) (stored : ℕ → Option (Named B)) (base : w.States)
    (p : Past B C I) (j : ℕ) (m : Moment w) (e : Executes w stored base p m) (ways : WaysKept w stored p m.execution.state)
    (h : PlacesKept w stored p m) (k : PlacesKept w stored (Came (Turn j) ∷ p) m) (count : R → ℕ) (o : Option U) (running_now : Tables B C I R U)
    (then : exec.Moment w) (turns : TurnsRun w count m.members j m.execution.state running_now (Ok (Done o)))
    (settles : Settles w (record (inner w m) { state = running_now }) j o then) where
  abbrev given : Past B C I
  given = Came (Turn j) ∷ p

  abbrev v : Tables B C I R U
  v = m.execution.state

  abbrev Ends : Mark B
  Ends = Ended j settles.how

  abbrev q : Past B C I
  q = Made Ends ∷ given

  abbrev Start : exec.Moment w
  Start = record (settles.done) { state = released j settles.done.state }

  gone : IsLetGo w stored base p e.point (inner w m) j settles.block settles.how settles.done
  gone = let-go w stored base p e.point (inner w m) j settles.block settles.how settles.done e.points e.tables e.located count o running_now turns
      settles.ends m.execution.front e.placed

  -- the tables after the end of the run
  same_requests : settles.done.state.requests ≡ v.requests
  same_requests = ap (λ (n : exec.Moment w). n.state.requests) settles.ends.becomes ∙ ap (λ (x : Tables B C I R U). x.requests) turns.state

  same_queue : settles.done.state.queued ≡ v.queued
  same_queue = ap (λ (n : exec.Moment w). n.state.queued) settles.ends.becomes ∙ ap (λ (x : Tables B C I R U). x.queued) turns.state

  -- the run was started for its block
  own_run : started_for j p ≡ Some (job_of Candidate settles.block.digest)
  own_run =
      let ends : EndsRun w (record (inner w m) { state = record v { runs = put v.runs j (record turns.live { run = turns.turned }) } }) j settles.block
      o settles.how settles.done =
      subst (λ (x : Tables B C I R U). EndsRun w (record (inner w m) { state = x }) j settles.block o settles.how settles.done) turns.state
      settles.ends in
      let run : IsRunning w stored p e.points m.next v.anchor v.cache j turns.live =
      running w stored p e.points e.point m.next v e.tables j turns.live turns.live_is in
      subst (λ (x : Named B). started_for j p ≡ Some (job_of Candidate x.digest))
      (same_block w stored p e.point (inner w m) j settles.block o settles.how settles.done turns.live turns.live_is turns.turned ends) run.job.is

  abbrev Placed : (Past B C I → Type 0) → List (Released B C I) → Past B C I → exec.Moment w → Type 0
  Placed = ArePlaced w stored base gone.released.points e.point gone.tip laws.ids.issued_other settles.block settles.how m.execution.build

  -- behind the requests that have followed
  abbrev Followed : Type 0
  Followed = KeepsReady w
      (Rule w stored base gone.released.points e.point gone.tip laws.ids.issued_other settles.block settles.how m.execution.build)
      (Follows w settles.block settles.how) (Placed (IsOrderly w stored)) [] q Start then

  start : Placed (IsOrderlyBut w stored settles.block) (released_on j settles.done.state.requests) q Start
  start = record {
    follow = AreToFollow-settled w stored base p e.point (inner w m) gone.names e.located e.drawn gone.tip gone.folded gone.round laws.ids.issued_other
        j settles.block settles.how _ settles.done settles.ends.becomes (ap (λ (x : Tables B C I R U). x.anchor) turns.state) gone.released
        gone.free_way
        (subst (λ (n : exec.Moment w). All (λ (r : Released B C I). KeepOff n.state.anchor (steps r.path)) (released_on j n.state.requests))
        (sym settles.ends.becomes)
        (subst (λ (x : Tables B C I R U). All (λ (r : Released B C I). KeepOff x.anchor (steps r.path)) (released_on j x.requests))
        (sym turns.state) (released-off w stored p ways.tip v ways.ways j)));
    orderly = record {
      apart = k.past.orderly.apart;
      live = k.past.orderly.live;
      again = MayRunAgain-turned (setting w stored) p j settles.how settles.block.digest own_run h.past.orderly.again;
    };
    asks = subst
        (λ (rs : List (Released B C I)). AsksBeside w stored m.execution.build rs q Start) (ap (λ es. released_on j es) (sym same_requests))
        (asks-released w stored m.execution.build given (Ends ∷ []) (All-cons IsAskless Ends [] tt (All-nil IsAskless)) v m.execution.front j Start
        e.tables.requests.ascending (ap (λ es. (released j (record v { requests = es })).requests) same_requests) same_queue k.asks);
  }

  -- the run had a request that waited for it
  followed : (rs : List (Released B C I)) → released_on j settles.done.state.requests ≡ rs
      → Placed (IsOrderlyBut w stored settles.block) rs q Start → InTurn (Follows w settles.block settles.how) rs Start then → Followed
  followed [] none placed rules = absurd (e.tables.requests.wanted j (rw turns.live_is refl)
      (released_none j v.requests (ap (λ es. released_on j es) (sym same_requests) ∙ none)))
  followed (r ∷ rs) some placed rules =
      all_follow w stored base gone.released.points e.point gone.tip laws.ids.issued_other settles.block settles.how m.execution.build r rs q Start
      then placed rules

  -- They are, and what is kept for them is kept.
  pub places-settles : PlacesBehind w stored base given m (with_inner w m then)
  places-settles = record {
    more = Ends ∷ f.more;
    marks_are = marks_are;
    each = ((tt, tt, tt, tt, tt), first_rule (IsInPlace w stored base) (λ (x : Past B C I) (mark : Mark B). IsFollowing mark) q f.more f.each);
    kept = record {
      past = record {
        orderly = f.ready.orderly;
        gone = gone-after given (Ends ∷ f.more) k.past.gone;
        whole = whole-after given (Ends ∷ f.more) (All-cons IsOfRule Ends f.more tt
            (All-weaker IsFollowing IsOfRule (λ mark x. following-rule mark x) f.more following)) ∙ k.past.whole;
      };
      due = IsDue-steps w stored p e.points e.point (inner w m) e.tables m.execution.front count j then h.due
          (record { running = running_now; answer = Ok (Done o); turns = turns; settles = settles }) (Ends ∷ f.more) marks_are;
      asks = asks-followed w stored m.execution.build (after q f.more) then m.execution.front
          (λ moved t d was. k.asks.nothing moved t d (asked-before t d given (Ends ∷ f.more) askless was)) f.ready.asks;
      hooks = λ g captured at some. unhooked-after given (Ends ∷ f.more) (All-cons IsHookless Ends f.more tt
          (All-weaker IsFollowing IsHookless (λ mark x. following-hookless mark x) f.more following)) ∙ k.hooks g captured at some;
    };
  }
    where
      f : Followed
      f = followed (released_on j settles.done.state.requests) refl start settles.follow

      following : All IsFollowing f.more
      following = all_marks IsFollowing q f.more
          (second_rule (IsInPlace w stored base) (λ (x : Past B C I) (mark : Mark B). IsFollowing mark) q f.more f.each)

      askless : All IsAskless (Ends ∷ f.more)
      askless = All-cons IsAskless Ends f.more tt (All-weaker IsFollowing IsAskless (λ mark x. following-askless mark x) f.more following)

      marks_are : then.marks ≡ m.marks ++ Ends ∷ f.more
      marks_are = f.marks_are ∙ ap (λ ms. ms ++ f.more) (ap (λ (n : exec.Moment w). n.marks) settles.ends.becomes)
          ∙ append_assoc m.marks (Ends ∷ []) f.more
