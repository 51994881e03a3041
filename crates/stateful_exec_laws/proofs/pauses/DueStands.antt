-- What is still to come of a finalization is so after its rules, and behind requests and candidate runs.
use Rattle.std.proofs.Common.{◌≡◌, ◌≢◌, ◌++◌, inl, inr, ℕ, Bool, List, [], ◌∷◌, Option, Some, None, Result, Ok, Err, refl, sym, ap, ◌∙◌, subst}
use Rattle.std.proofs.lemmas.List.{append_assoc, append_cancel_left, append-nil}
use Rattle.std.proofs.lemmas.List.Elements.{All-head, All-tail}
use Rattle.stateful_base.specs.Names.{Named}
use Rattle.stateful_base.specs.declared.anchor.Anchor.{Anchor}
use Rattle.stateful_base.specs.declared.digest.Digest.{Digest}
use Rattle.stateful_base.specs.declared.outcome.Moved.{Moved}
use Rattle.stateful_base.specs.declared.outcome.Moved.TheVariants.{Pending, Done}
use Rattle.stateful_db.specs.declared.application.AppFault.{AppFault}
use Rattle.stateful_history.specs.Setting.{Setting}
use Rattle.stateful_history.specs.Asked.{started}
use Rattle.stateful_history.specs.Finalizations.{begun}
use Rattle.stateful_history.specs.Past.{Past, Came, Made, after}
use Rattle.stateful_history.specs.declared.event.Event.{Event}
use Rattle.stateful_history.specs.declared.event.Event.TheVariants.{Turn}
use Rattle.stateful_history.specs.declared.mark.How.{How}
use Rattle.stateful_history.specs.declared.mark.How.TheVariants.{Kept}
use Rattle.stateful_history.specs.declared.mark.Mark.{Mark}
use Rattle.stateful_history.specs.declared.mark.Mark.TheVariants.{Ended, Began}
use Rattle.stateful_exec_cache.specs.Cache.{IsIn}
use Rattle.stateful_exec_cache.specs.declared.cache.Cached.{Cached}
use Rattle.stateful_exec_tables.specs.Keeping.{Takes}
use Rattle.stateful_exec_model.specs.Ending.{IsTold, rejected, mismatched, agreed, EndsRun, TurnsRun, Follows, SettlesBy, Steps}
use Rattle.stateful_exec_tables.specs.Keeping.{there, added, missed}
use Rattle.stateful_exec_tables.specs.Tables.{released}
use Rattle.stateful_db.specs.declared.application.Hooked.{Hooked}
use Rattle.stateful_db.specs.declared.application.Hooked.TheVariants as hooked
use Rattle.stateful_exec_model.specs.Finalizing.{front_at, RunsFinal, StepsFinal, turned, not_live, Moves, HooksOn, TurnsHook, hook_turned, unhooked}
use Rattle.stateful_exec_model.specs.Moments.{Moment}
use Rattle.stateful_exec_tables.specs.Phase.{released_on}
use Rattle.stateful_exec_model.specs.Workings.{Workings, Point}
use Rattle.stateful_exec_model.specs.declared.front.Front.{Front}
use Rattle.stateful_exec_model.specs.declared.front.Stage.{Stage}
use Rattle.stateful_exec_model.specs.declared.front.Stage.TheVariants.{Begun, Running, Ran, Advanced, Hooking}
use Rattle.stateful_exec_pause.specs.declared.pause.Pause.TheVariants.{Free}
use Rattle.stateful_exec_tables.specs.declared.state.Tables.{Tables}
use Rattle.stateful_exec_laws.specs.Setting.{setting}
use Rattle.stateful_exec_laws.specs.Caching.{CacheStands}
use Rattle.stateful_exec_laws.specs.Due.{IsToRun, IsDue}
use Rattle.stateful_exec_laws.specs.Standing.{TablesStand}
use Rattle.stateful_exec_laws.proofs.ended.Kept.{Any-more}
use Rattle.stateful_exec_laws.proofs.ended.Stands.{started-own}
use Rattle.std.proofs.lemmas.List.Quantifiers.{Any-push}
use Rattle.std.proofs.lemmas.Bool.{eq-eqb}
use Rattle.stateful_table.proofs.Tables.{at-put}
use Rattle.stateful_table.specs.Table.{at, put}
use Rattle.stateful_exec_tables.specs.declared.tables.LiveRun.{LiveRun}
use Rattle.stateful_exec_pause.specs.declared.boundary.ExecutionStep.{ExecutionStep}
use Rattle.stateful_exec_laws.proofs.requests.Quiet.{AreQuiet, IsQuiet, unmoved, GoesQuietly, GoesQuietly-follows, GoesQuietly-in_turn}

module _ {B C I S T : Type 0} (s : Setting B S T) (p : Past B C I) {U : Type 0} (d : Digest) where
  -- an event leaves what has to run
  pub IsToRun-came : (event : Event B C I) (cache : List (Cached U)) → IsToRun s p cache d → IsToRun s (Came event ∷ p) cache d
  IsToRun-came event cache h = record { unran = h.unran; has_to = λ out. ((λ is. cc), h.has_to out) }

module _ {B C I S T : Type 0} (s : Setting B S T) where
  -- behind quiet marks the same is begun
  pub begun-quiet : (p : Past B C I) (marks : List (Mark B)) → AreQuiet marks → begun (after p marks) ≡ begun p
  begun-quiet p [] quiet = refl
  begun-quiet p (mark ∷ marks) quiet = begun-quiet (Made mark ∷ p) marks (All-tail (λ m. IsQuiet m) mark marks quiet) ∙ (unmoved s p mark (All-head (λ m. IsQuiet m) mark marks quiet)).begun

module _ {B C I S T : Type 0} (s : Setting B S T) {U : Type 0} (d : Digest) where
  -- and so do quiet marks, where the cache stays
  pub IsToRun-quiet : (p : Past B C I) (marks : List (Mark B)) (cache : List (Cached U)) → AreQuiet marks → IsToRun s p cache d → IsToRun s (after p marks) cache d
  IsToRun-quiet p [] cache quiet h = h
  IsToRun-quiet p (mark ∷ marks) cache quiet h =
      let same = unmoved s p mark (All-head (λ m. IsQuiet m) mark marks quiet) in
      IsToRun-quiet (Made mark ∷ p) marks cache (All-tail (λ m. IsQuiet m) mark marks quiet) (record { unran = same.ran ∙ h.unran; has_to = λ out. same.has_to d (h.has_to out) })

  -- and the end of a run, where its block is cached if it was kept
  pub IsToRun-ended : (p : Past B C I) (j : ℕ) (how : How) (old new : List (Cached U)) → ((e : Digest) → IsIn old e → IsIn new e) → (how ≡ Kept → started j p ≡ Some d → IsIn new d) → IsToRun s p old d → IsToRun s (Made (Ended j how) ∷ p) new d
  IsToRun-ended p j Kept old new grows kept h = record { unran = h.unran; has_to = λ out. ((λ is. out (kept refl is)), h.has_to (λ a. out (grows d a))) }
  IsToRun-ended p j how old new grows kept h = record { unran = h.unran; has_to = λ out. ((λ is. cc), h.has_to (λ a. out (grows d a))) }

module _ {B C I S T : Type 0} (s : Setting B S T) (p : Past B C I) {R U H : Type 0} (cache : List (Cached U)) where
  -- what is due is so after an event that is no start
  by_begun : (q : Past B C I) (new : List (Cached U)) → begun q ≡ begun p → ((d : Digest) → IsToRun s p cache d → IsToRun s q new d) → (front : Option (Front B R U H)) → IsDue s p cache front → IsDue s q new front
  by_begun q new same to None h = same ∙ h
  by_begun q new same to (Some f) h = at f.stage h
    where
      at : (stage : Stage R U H) → IsDue s p cache (front_at f.block stage) → IsDue s q new (front_at f.block stage)
      at Begun is = to f.block.digest is
      at (Running j run) is = tt
      at (Ran batch) is = tt
      at Advanced is = same ∙ is
      at (Hooking j hook) is = same ∙ is

  -- after an event that begins nothing
  pub IsDue-came : (event : Event B C I) → begun (Came event ∷ p) ≡ begun p → (front : Option (Front B R U H)) → IsDue s p cache front → IsDue s (Came event ∷ p) cache front
  IsDue-came event same = by_begun (Came event ∷ p) cache same (λ d. IsToRun-came s p d event cache)

  -- behind quiet marks
  pub IsDue-quiet : (marks : List (Mark B)) → AreQuiet marks → (front : Option (Front B R U H)) → IsDue s p cache front → IsDue s (after p marks) cache front
  IsDue-quiet marks quiet = by_begun (after p marks) cache (begun-quiet s p marks quiet) (λ d. IsToRun-quiet s d p marks cache quiet)

  -- and after the end of a run, where its block is cached if it was kept
  pub IsDue-ended : (j : ℕ) (how : How) (new : List (Cached U)) → ((e : Digest) → IsIn cache e → IsIn new e) → ((d : Digest) → how ≡ Kept → started j p ≡ Some d → IsIn new d) → (front : Option (Front B R U H)) → IsDue s p cache front → IsDue s (Made (Ended j how) ∷ p) new front
  IsDue-ended j how new grows kept = by_begun (Made (Ended j how) ∷ p) new refl (λ d. IsToRun-ended s d p j how cache new grows (kept d))

module _ {B C I P R D H G U : Type 0} (w : Workings B C I P R D H G U) (stored : ℕ → Option (Named B)) (p : Past B C I) where
  -- a finalization that has begun is due: its block has to run, unless it is cached
  pub IsDue-begins : (points : Digest → Point w) (next : w.Ids) (anchor : Anchor) (cache : List (Cached U)) → CacheStands w stored p points next anchor Free cache → (ticket : ℕ) (b : Named B) → b.digest ≢ anchor.digest
      → IsDue (setting w stored) (Made (Began ticket b) ∷ p) {R = R} {H = H} cache (front_at b Begun)
  IsDue-begins points next anchor cache stands ticket b other = record {
    unran = refl;
    has_to = λ out known. elim ((stands.knows b.digest).0 known) [ inl is ↦ other is | inr any ↦ out any ];
  }

  takes_kept : (anchor : Anchor) (b : Named B) (batch : U) (old new : List (Cached U)) (how : How) → Takes w.header anchor b batch old new how → how ≡ Kept → IsIn new b.digest
  takes_kept anchor b batch old new _ (there any is) kept = rw is (any.0, any.1, any.2, any.3, ap (λ (x : ExecutionStep). x.digest) any.4)
  takes_kept anchor b batch old new _ (added out later at_hand is) kept = rw is (Any-push (λ (c : Cached U). c.digest ≡ b.digest) old _ refl)
  takes_kept anchor b batch old new _ (missed out why is) kept = cc

  told_kept : (anchor : Anchor) (b : Named B) (old new : List (Cached U)) (o : Option U) (how : How) → IsTold w anchor b old new o how → how ≡ Kept → IsIn new b.digest
  told_kept anchor b old new _ _ (rejected is) kept = cc
  told_kept anchor b old new _ _ (mismatched differs is) kept = cc
  told_kept anchor b old new _ how (agreed {batch = batch} agrees takes) kept = takes_kept anchor b batch old new how takes kept

  takes_grows : (anchor : Anchor) (b : Named B) (batch : U) (old new : List (Cached U)) (how : How) → Takes w.header anchor b batch old new how → (d : Digest) → IsIn old d → IsIn new d
  takes_grows anchor b batch old new _ (there any is) d h = rw is h
  takes_grows anchor b batch old new _ (added out later at_hand is) d h = rw is (Any-more (λ (c : Cached U). c.digest ≡ d) old _ h)
  takes_grows anchor b batch old new _ (missed out why is) d h = rw is h

  told_grows : (anchor : Anchor) (b : Named B) (old new : List (Cached U)) (o : Option U) (how : How) → IsTold w anchor b old new o how → (d : Digest) → IsIn old d → IsIn new d
  told_grows anchor b old new _ _ (rejected is) d h = rw is h
  told_grows anchor b old new _ _ (mismatched differs is) d h = rw is h
  told_grows anchor b old new _ how (agreed {batch = batch} agrees takes) d h = takes_grows anchor b batch old new how takes d h

  module _ (points : Digest → Point w) (point : Point w) (m : Moment w) (s : TablesStand w stored p points point m.next m.state) (front : Option (Front B R U H)) (count : R → ℕ) (j : ℕ) (now : Moment w) where
    same_digest : (d e : Digest) → started j p ≡ Some d → started j p ≡ Some e → d ≡ e
    same_digest d e is also = let both : Some d ≡ Some e = sym is ∙ also in search

    -- the run that has ended was started for its block
    own_block : (live : LiveRun B R) → at m.state.runs j ≡ Some live → (new_run : R) (b : Named B) (o : Option U) (how : How) (done : Moment w) → EndsRun w (record m { state = record m.state { runs = put m.state.runs j (record live { run = new_run }) } }) j b o how done
        → started j p ≡ Some b.digest
    own_block live live_is new_run b o how done ends =
        let found : Some (record live { run = new_run }) ≡ Some ends.run = rw (at-put m.state.runs j (record live { run = new_run }) j, eq-eqb j j refl) at ends.live in
        let same_run : record live { run = new_run } ≡ ends.run = search in
        let same_block : live.block ≡ b = ap (λ (r : LiveRun B R). r.block) same_run ∙ ends.block_is in
        started-own w stored p points point m.next m.state s j live live_is ∙ ap (λ (c : Named B). Some c.digest) same_block

    by : (running : Tables B C I R U) (answer : Result (Moved (Option U)) AppFault) → TurnsRun w count m.members j m.state running answer → SettlesBy w (record m { state = running }) j answer now → IsDue (setting w stored) p m.state.cache front
        → (more : List (Mark B)) → now.marks ≡ m.marks ++ more → IsDue (setting w stored) (after (Came (Turn j) ∷ p) more) now.state.cache front
    by running (Ok Pending) turns settles due more is =
        let nothing : more ≡ [] = append_cancel_left m.marks more [] (sym is ∙ ap (λ (n : Moment w). n.marks) settles ∙ sym (append-nil m.marks)) in
        let same : now.state.cache ≡ m.state.cache = ap (λ (n : Moment w). n.state.cache) settles ∙ ap (λ (v : Tables B C I R U). v.cache) turns.state in
        subst (λ l. IsDue (setting w stored) (after (Came (Turn j) ∷ p) l) now.state.cache front) (sym nothing)
        (subst (λ c. IsDue (setting w stored) (Came (Turn j) ∷ p) c front) (sym same) (IsDue-came (setting w stored) p m.state.cache (Turn j) refl front due))
    by running (Ok (Done o)) turns settles due more is =
        let ends : EndsRun w (record m { state = running }) j settles.block o settles.how settles.done = settles.ends in
        let mid : Moment w = record settles.done { state = released j settles.done.state } in
        let g : GoesQuietly w mid now = GoesQuietly-in_turn w (Follows w settles.block settles.how) (λ r n l. GoesQuietly-follows w settles.block settles.how r n l) (released_on j settles.done.state.requests) mid now settles.follow in
        let marks_are : now.marks ≡ m.marks ++ Ended j settles.how ∷ g.more =
        g.marks_are ∙ ap (λ marks. marks ++ g.more) (ap (λ (n : Moment w). n.marks) ends.becomes) ∙ append_assoc m.marks (Ended j settles.how ∷ []) g.more in
        let same : more ≡ Ended j settles.how ∷ g.more = append_cancel_left m.marks more (Ended j settles.how ∷ g.more) (sym is ∙ marks_are) in
        let cached : now.state.cache ≡ ends.cache = g.cache ∙ ap (λ (n : Moment w). n.state.cache) ends.becomes in
        let before : running.cache ≡ m.state.cache = ap (λ (v : Tables B C I R U). v.cache) turns.state in
        let told : IsTold w running.anchor settles.block m.state.cache ends.cache o settles.how = subst (λ (c : List (Cached U)). IsTold w running.anchor settles.block c ends.cache o settles.how) before ends.told in
        let started_own : started j p ≡ Some settles.block.digest = own_block turns.live turns.live_is turns.turned settles.block o settles.how settles.done (subst (λ (v : Tables B C I R U). EndsRun w (record m { state = v }) j settles.block o settles.how settles.done) turns.state ends) in
        subst (λ l. IsDue (setting w stored) (after (Came (Turn j) ∷ p) l) now.state.cache front) (sym same)
        (subst (λ c. IsDue (setting w stored) (after (Came (Turn j) ∷ p) (Ended j settles.how ∷ g.more)) c front) (sym cached)
        (IsDue-quiet (setting w stored) (Made (Ended j settles.how) ∷ Came (Turn j) ∷ p) ends.cache g.more g.quiet front
        (IsDue-ended (setting w stored) (Came (Turn j) ∷ p) m.state.cache j settles.how ends.cache (told_grows running.anchor settles.block m.state.cache ends.cache o settles.how told)
        (λ d kept is_d. subst (λ (x : Digest). IsIn ends.cache x) (same_digest settles.block.digest d started_own is_d) (told_kept running.anchor settles.block m.state.cache ends.cache o settles.how told kept))
        front (IsDue-came (setting w stored) p m.state.cache (Turn j) refl front due))))
    by running (Err fault) turns settles due more is = absurd settles

    -- what is due is so after a turn of a candidate run and what its answer leads to
    pub IsDue-steps : IsDue (setting w stored) p m.state.cache front → Steps w count m j now → (more : List (Mark B)) → now.marks ≡ m.marks ++ more → IsDue (setting w stored) (after (Came (Turn j) ∷ p) more) now.state.cache front
    IsDue-steps due steps more is = by steps.running steps.answer steps.turns steps.settles due more is

module _ {B C I P R D H G U : Type 0} (w : Workings B C I P R D H G U) (stored : ℕ → Option (Named B)) (p : Past B C I) (m now : Moment w) (front : Option (Front B R U H)) where
  -- what is due is so after rules of requests
  pub IsDue-quietly : GoesQuietly w m now → IsDue (setting w stored) p m.state.cache front → (more : List (Mark B)) → now.marks ≡ m.marks ++ more → IsDue (setting w stored) (after p more) now.state.cache front
  IsDue-quietly g due more is =
      let same : more ≡ g.more = append_cancel_left m.marks more g.more (sym is ∙ g.marks_are) in
      subst (λ l. IsDue (setting w stored) (after p l) now.state.cache front) (sym same)
      (subst (λ c. IsDue (setting w stored) (after p g.more) c front) (sym g.cache) (IsDue-quiet (setting w stored) p m.state.cache g.more g.quiet front due))

module _ {B C I P R D H G U : Type 0} (w : Workings B C I P R D H G U) (stored : ℕ → Option (Named B)) (q : Past B C I) (cache : List (Cached U)) where
  -- nothing is due of a block that runs or was run
  pub IsDue-runs : (b : Named B) (m : w.kind.Members) (next now : w.Ids) (old new : Tables B C I R U) (front : Option (Front B R U H)) → RunsFinal w b m next now old new front → IsDue (setting w stored) q cache front
  IsDue-runs b m next now old new front starts = subst (λ (o : Option (Front B R U H)). IsDue (setting w stored) q cache o) (sym starts.front_is) tt

  pub IsDue-steps_final : (count : R → ℕ) (m : w.kind.Members) (front : Option (Front B R U H)) (j : ℕ) (old new : List (Mark B)) (last : Option (Front B R U H)) (b : Named B) (run : R) → front ≡ front_at b (Running j run) → StepsFinal w count m front j old new last
      → IsDue (setting w stored) q cache last
  IsDue-steps_final count m front j old new last b run is (turned {b = c} {turned = later} {answer = Ok Pending} live had settles) = subst (λ (o : Option (Front B R U H)). IsDue (setting w stored) q cache o) (sym settles.1) tt
  IsDue-steps_final count m front j old new last b run is (turned {b = c} {turned = later} {answer = Ok (Done o)} live had settles) = subst (λ (x : Option (Front B R U H)). IsDue (setting w stored) q cache x) (sym settles.3) tt
  IsDue-steps_final count m front j old new last b run is (turned {b = c} {turned = later} {answer = Err fault} live had settles) = absurd settles
  IsDue-steps_final count m front j old new last b run is (not_live off same is_front) = absurd (off b run (record { is = is }))

  -- where nothing is begun, nothing is due after an apply, of a hook, and where no finalization goes on
  module _ (none : begun q ≡ None) where
    pub IsDue-moves : (b : Named B) (m : w.kind.Members) (old new : Tables B C I R U) (before last : Option (Front B R U H)) (batch : U) (captured : G) → Moves w b m old new before last batch captured → IsDue (setting w stored) q cache last
    IsDue-moves b m old new before last batch captured moves = subst (λ (o : Option (Front B R U H)). IsDue (setting w stored) q cache o) (sym moves.after_is) none

    pub IsDue-observes : (b : Named B) (hook : Hooked H) (old new : Tables B C I R U) (before now : List (Mark B)) (last : Option (Front B R U H)) (live : Bool) → HooksOn w b hook old new before now last live → IsDue (setting w stored) q cache last
    IsDue-observes b hooked.Done old new before now last live on = subst (λ (o : Option (Front B R U H)). IsDue (setting w stored) q cache o) (sym on.2) none
    IsDue-observes b (hooked.Pending hook) old new before now last live on = subst (λ (o : Option (Front B R U H)). IsDue (setting w stored) q cache o) (sym on.3) none

    pub IsDue-hooks : (count : H → ℕ) (m : w.kind.Members) (front : Option (Front B R U H)) (j : ℕ) (old new : List (Mark B)) (last : Option (Front B R U H)) (b : Named B) (hook : H) → front ≡ front_at b (Hooking j hook) → TurnsHook w count m front j old new last
        → IsDue (setting w stored) q cache last
    IsDue-hooks count m front j old new last b hook is (hook_turned {b = c} {now = later} {answer = Ok Pending} live had settles) = subst (λ (o : Option (Front B R U H)). IsDue (setting w stored) q cache o) (sym settles.1) none
    IsDue-hooks count m front j old new last b hook is (hook_turned {b = c} {now = later} {answer = Ok (Done o)} live had settles) = subst (λ (x : Option (Front B R U H)). IsDue (setting w stored) q cache x) (sym settles.1) none
    IsDue-hooks count m front j old new last b hook is (hook_turned {b = c} {now = later} {answer = Err fault} live had settles) = absurd settles
    IsDue-hooks count m front j old new last b hook is (unhooked off same is_front) = absurd (off b hook (record { is = is }))
