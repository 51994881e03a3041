-- The ways of requests stay open after a turn of a candidate run, and behind all that follows its end.
use Rattle.std.proofs.Common.{◌≡◌, ◌++◌, ℕ, not, get_or, List, [], ◌∷◌, All, Option, MatchOption, Result, length, ◌<◌, Ok, Err, refl, sym, ap, ◌∙◌, subst}
use Rattle.std.proofs.lemmas.List.{append_assoc, append-nil}
use Rattle.std.proofs.lemmas.List.Elements.{All-append, All-cons, All-filter, All-head, All-nil, All-tail, All-weaker}
use Rattle.stateful_base.specs.Names.{Header, Named}
use Rattle.stateful_base.specs.declared.anchor.Anchor.{Anchor}
use Rattle.stateful_base.specs.declared.digest.Digest.{Digest}
use Rattle.stateful_base.specs.declared.outcome.Moved.{Moved}
use Rattle.stateful_base.specs.declared.outcome.Moved.TheVariants.{Pending, Done}
use Rattle.stateful_db.specs.declared.application.AppFault.{AppFault}
use Rattle.stateful_history.specs.Past.{Past}
use Rattle.stateful_history.specs.declared.mark.How.{How}
use Rattle.stateful_history.specs.declared.mark.Mark.{Mark}
use Rattle.stateful_history.specs.declared.mark.Mark.TheVariants.{Ended}
use Rattle.stateful_table.specs.Table.{put, without}
use Rattle.stateful_exec_model.specs.Ending.{InTurn, none, next, EndsRun, TurnsRun, Follows, SettlesBy, Steps, IsTold}
use Rattle.stateful_exec_pause.specs.Fates.{Crosses}
use Rattle.stateful_exec_tables.specs.Tables.{released}
use Rattle.stateful_exec_model.specs.Moments as exec
use Rattle.stateful_exec_walk.specs.Path.{Path}
use Rattle.stateful_exec_tables.specs.Phase.{is_on, not_on, released_on}
use Rattle.stateful_exec_model.specs.Workings.{Workings, Point}
use Rattle.stateful_exec_pause.specs.declared.pause.Pause.{Pause}
use Rattle.stateful_exec_pause.specs.declared.pause.Pause.TheVariants.{Free, Finalizing, Pruning}
use Rattle.stateful_exec_tables.specs.declared.state.Tables.{Tables}
use Rattle.stateful_exec_tables.specs.declared.tables.LiveRun.{LiveRun}
use Rattle.stateful_exec_tables.specs.declared.tables.Phase.{Phase}
use Rattle.stateful_exec_tables.specs.declared.tables.Phase.TheVariants.{Executing, Parked}
use Rattle.stateful_exec_tables.specs.declared.tables.Released.{Released}
use Rattle.stateful_exec_tables.specs.declared.tables.Requested.{Requested}
use Rattle.stateful_exec_laws.specs.Requesting.{steps, IsInPhase, IsStanding}
use Rattle.stateful_exec_laws.specs.Setting.{setting}
use Rattle.stateful_exec_laws.specs.Standing.{TablesStand}
use Rattle.stateful_exec_laws.specs.Ways.{KeepOff, IsUnsettled, IsOnOpenWay, WaysStand}
use Rattle.stateful_exec_laws.proofs.earned.Carried.{IsMild}
use Rattle.stateful_exec_laws.proofs.earned.Left.{LeavesBehind, LeavesBehind-follows}
use Rattle.stateful_exec_laws.proofs.ended.Left.{All-released}
use Rattle.stateful_exec_laws.proofs.ended.Rule.{same_block, told_so, crosses_so}
use Rattle.stateful_exec_laws.proofs.reasons.Settled.{told_in, open_crossed}
use Rattle.stateful_exec_laws.proofs.requests.SamePast.{IsSamePast}
use Rattle.stateful_exec_laws.proofs.ways.Kept.{WaysStand-follows}
use Rattle.stateful_loop_laws.specs.Ways.{ParksNone}
use Rattle.stateful_loop_laws.proofs.execution.ParksNone.{ParksNone-follows}

-- execution isn't free of a pause after the end of a run, unless it was before it
free_before : {B : Type 0} (header : Header B) (b : Named B) (old new : Pause) → Crosses header b old new → new ≡ Free → old ≡ Free
free_before header b Free new crosses is = refl
free_before header b Pruning new crosses is = sym crosses ∙ is
free_before header b (Finalizing boundary) Free crosses is = absurd crosses
free_before header b (Finalizing boundary) Pruning crosses is = absurd crosses
free_before header b (Finalizing boundary) (Finalizing other) crosses is = cc

module _ {B C I P R D H G U : Type 0} (w : Workings B C I P R D H G U) (stored : ℕ → Option (Named B)) (p : Past B C I) (tip : Anchor) where
  -- a past is the same as itself
  pub same : IsSamePast (setting w stored) p p
  same = record { met = λ b. (λ met. met, λ met. met); anchor = refl; tip = refl; blocks = refl; pruned = refl }

  -- the ways of the requests that wait for a run are off the anchor
  pub released-off : (v : Tables B C I R U) → WaysStand w stored p tip v → (j : ℕ) → All (λ (r : Released B C I). KeepOff v.anchor (steps r.path))
      (released_on j v.requests)
  released-off v ways j = All-released j (λ (r : Released B C I). KeepOff v.anchor (steps r.path)) v.requests (λ k d l path is.
      let e = get_or v.requests k d in
      let on : IsOnOpenWay w stored p tip v.pause v.anchor v.cache e.1.request (Executing j path) =
      subst (λ (phase : Phase B). IsOnOpenWay w stored p tip v.pause v.anchor v.cache e.1.request phase) is (ways k d l) in
      on.0)

  -- the request waited for a run of the block, and its way is off the anchor
  pub record IsToFollow (anchor : Anchor) (b : Named B) (r : Released B C I) : Type 0 where
    pub leads : r.path.parent ≡ b
    pub off : KeepOff anchor (steps r.path)
    pub unsettled : IsUnsettled w stored p tip r.request

  -- From one moment to a later one marks are made that neither open, finalize nor prune, and the ways stay open, with the same
  -- anchor and pause.
  pub record StaysOpen (m now : exec.Moment w) : Type 0 where
    pub more : List (Mark B)
    pub marks_are : now.marks ≡ m.marks ++ more
    pub mild : All (λ x. IsMild x) more
    pub ways : WaysStand w stored p tip now.state
    pub unparked : now.state.pause ≡ Free → ParksNone now.state.requests

  -- the ways stay open behind the requests that follow the end of a run in turn
  pub StaysOpen-follow : (b : Named B) (how : How) (rs : List (Released B C I)) (m last : exec.Moment w) → InTurn (Follows w b how) rs m last
      → All (IsToFollow m.state.anchor b) rs → WaysStand w stored p tip m.state → (m.state.pause ≡ Free → ParksNone m.state.requests)
      → StaysOpen m last
  StaysOpen-follow b how [] m _ none to ways unparked =
      record { more = []; marks_are = sym (append-nil m.marks); mild = All-nil (λ x. IsMild x); ways = ways; unparked = unparked }
  StaysOpen-follow b how (r ∷ rs) m last (next {n = n} rule turns) to ways unparked =
      let one : IsToFollow m.state.anchor b r = All-head (IsToFollow m.state.anchor b) r rs to in
      let l : LeavesBehind w m n = LeavesBehind-follows w b how r m n rule in
      let rest : StaysOpen n last = StaysOpen-follow b how rs n last turns
      (subst (λ (a : Anchor). All (IsToFollow a b) rs) (sym l.left.anchor) (All-tail (IsToFollow m.state.anchor b) r rs to))
      (WaysStand-follows w stored tip p p same m n ways b how r one.leads one.off one.unsettled rule)
      (λ free. let was : m.state.pause ≡ Free = sym l.left.pause ∙ free in ParksNone-follows w m n (unparked was) was b how r rule) in
      record {
        more = l.more ++ rest.more;
        marks_are = rest.marks_are ∙ ap (λ (ms : List (Mark B)). ms ++ rest.more) l.marks_are ∙ append_assoc m.marks l.more rest.more;
        mild = All-append (λ x. IsMild x) l.more rest.more l.mild rest.mild;
        ways = rest.ways;
        unparked = rest.unparked;
      }

  module _ (points : Digest → Point w) (point : Point w) (m : exec.Moment w) (s : TablesStand w stored p points point m.next m.state)
      (ways : WaysStand w stored p tip m.state) (unparked : m.state.pause ≡ Free → ParksNone m.state.requests) (j : ℕ) where
    module _ (count : R → ℕ) (running : Tables B C I R U) (o : Option U) (turns : TurnsRun w count m.members j m.state running (Ok (Done o)))
        (b : Named B) (how : How) (done last : exec.Moment w) where
      abbrev turned : exec.Moment w
      turned = record m { state = record m.state { runs = put m.state.runs j (record turns.live { run = turns.turned }) } }

      module _ (ends : EndsRun w turned j b o how done) where
        block_is : turns.live.block ≡ b
        block_is = same_block w stored p point m j b o how done turns.live turns.live_is turns.turned ends

        told : IsTold w m.state.anchor turns.live.block m.state.cache ends.cache o how
        told = told_so w stored p point m j b o how done turns.live turns.live_is turns.turned ends

        crosses : Crosses w.header turns.live.block m.state.pause ends.pause
        crosses = crosses_so w stored p point m j b o how done turns.live turns.live_is turns.turned ends

        -- the ways with the pause and the cache after the end
        open_now : All (λ (e : ℕ × Requested B C I). IsOnOpenWay w stored p tip ends.pause m.state.anchor ends.cache e.1.request e.1.phase) m.state.requests
        open_now =
            All-weaker (λ (e : ℕ × Requested B C I). IsOnOpenWay w stored p tip m.state.pause m.state.anchor m.state.cache e.1.request e.1.phase)
            (λ e. IsOnOpenWay w stored p tip ends.pause m.state.anchor ends.cache e.1.request e.1.phase)
            (λ e h. open_crossed w stored turns.live.block m.state.anchor p tip m.state.pause ends.pause m.state.cache ends.cache crosses
            (λ d any. told_in w stored turns.live.block m.state.anchor d m.state.cache ends.cache o how told any) e.1.request e.1.phase h)
            m.state.requests ways

        leads : (k : ℕ) (d : ℕ × Requested B C I) (l : k < length m.state.requests) (path : Path B)
            → (get_or m.state.requests k d).1.phase ≡ Executing j path → path.parent ≡ b
        leads k d l path is =
            let e = get_or m.state.requests k d in
            let standing : IsStanding w stored p m.state.runs e.0 e.1 = s.requests.each k d l in
            let phase : IsInPhase w stored p m.state.runs e.0 e.1.request (Executing j path) =
            subst (λ (y : Phase B). IsInPhase w stored p m.state.runs e.0 e.1.request y) is standing.phase in
            let of_run : turns.live.block ≡ path.parent =
            subst (λ (x : Option (LiveRun B R)). MatchOption x ⊥ (λ run. run.block ≡ path.parent)) turns.live_is phase.0 in
            sym of_run ∙ block_is

        to_follow : All (IsToFollow m.state.anchor b) (released_on j m.state.requests)
        to_follow = All-released j (IsToFollow m.state.anchor b) m.state.requests (λ k d l path is.
            let e = get_or m.state.requests k d in
            let on : IsOnOpenWay w stored p tip ends.pause m.state.anchor ends.cache e.1.request (Executing j path) =
            subst (λ (phase : Phase B). IsOnOpenWay w stored p tip ends.pause m.state.anchor ends.cache e.1.request phase) is (open_now k d l) in
            record { leads = leads k d l path is; off = on.0; unsettled = on.1 })

        abbrev left : Tables B C I R U
        left = record m.state {
          cache = ends.cache;
          runs = without (put m.state.runs j (record turns.live { run = turns.turned })) j;
          pause = ends.pause;
          requests = not_on j m.state.requests;
        }

        abbrev Left : exec.Moment w
        Left = exec.moment w left m.members m.next (m.marks ++ Ended j how ∷ [])

        released_ways : WaysStand w stored p tip left
        released_ways = All-filter (λ (e : ℕ × Requested B C I). not (is_on j e.1.phase))
            (λ e. IsOnOpenWay w stored p tip ends.pause m.state.anchor ends.cache e.1.request e.1.phase) m.state.requests open_now

        released_unparked : ends.pause ≡ Free → ParksNone (not_on j m.state.requests)
        released_unparked free = All-filter (λ (e : ℕ × Requested B C I). not (is_on j e.1.phase))
            (λ e. (path : Path B) → e.1.phase ≡ Parked path → ⊥) m.state.requests
            (unparked (free_before w.header turns.live.block m.state.pause ends.pause crosses free))

        open_ended : InTurn (Follows w b how) (released_on j done.state.requests) (record done { state = released j done.state }) last
            → StaysOpen m last
        open_ended follow =
            let follows : InTurn (Follows w b how) (released_on j m.state.requests) Left last =
            subst (λ (n : exec.Moment w). InTurn (Follows w b how) (released_on j n.state.requests) (record n {
              state =
                  released j n.state;
            }) last) ends.becomes follow in
            let f : StaysOpen Left last =
            StaysOpen-follow b how (released_on j m.state.requests) Left last follows to_follow released_ways released_unparked in
            record {
              more = Ended j how ∷ f.more;
              marks_are = f.marks_are ∙ append_assoc m.marks (Ended j how ∷ []) f.more;
              mild = All-cons (λ x. IsMild x) (Ended j how) f.more tt f.mild;
              ways = f.ways;
              unparked = f.unparked;
            }

    settled : (count : R → ℕ) (running : Tables B C I R U) (answer : Result (Moved (Option U)) AppFault)
        → TurnsRun w count m.members j m.state running answer → (now : exec.Moment w)
        → SettlesBy w (record m { state = running }) j answer now → StaysOpen m now
    settled count running (Ok Pending) turns now is = rw (is, turns.state)
        (record { more = []; marks_are = sym (append-nil m.marks); mild = All-nil (λ x. IsMild x); ways = ways; unparked = unparked })
    settled count running (Ok (Done o)) turns now settles =
        open_ended count running o turns settles.block settles.how settles.done now
        (subst (λ (t : Tables B C I R U). EndsRun w (record m { state = t }) j settles.block o settles.how settles.done) turns.state settles.ends) settles.follow
    settled count running (Err fault) turns now nothing = absurd nothing

    -- the ways stay open after a turn of a candidate run, and all that follows its end
    pub StaysOpen-steps : (count : R → ℕ) (now : exec.Moment w) → Steps w count m j now → StaysOpen m now
    StaysOpen-steps count now turn = settled count turn.running turn.answer turn.turns now turn.settles
