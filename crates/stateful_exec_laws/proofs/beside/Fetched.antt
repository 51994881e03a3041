-- What stays beside the tables after an event that leaves the anchor, the tip and the jobs, and behind the answer of a fetch: live
-- runs go on turning, and the parents of queued proposals are known or lost.
use Rattle.std.proofs.Common.{◌≡◌, ◌≢◌, inl, inr, ℕ, List, [], ◌∷◌, Option, Some, refl, sym, All, get_or}
use Rattle.std.proofs.lemmas.List.{append-nil}
use Rattle.std.proofs.lemmas.List.Elements.{All-push}
use Rattle.stateful_base.specs.Names.{Named}
use Rattle.stateful_base.specs.declared.anchor.Anchor.{Anchor}
use Rattle.stateful_base.specs.declared.digest.Digest.{Digest}
use Rattle.stateful_history.specs.Anchors.{applied, anchor_of}
use Rattle.stateful_history.specs.Fetches.{Abstains}
use Rattle.stateful_history.specs.Met.{Met, TrueNames}
use Rattle.stateful_history.specs.Past.{Past, Item, Came}
use Rattle.stateful_history.specs.declared.event.Event.TheVariants.{Fetched, Turn}
use Rattle.stateful_exec_cache.specs.declared.cache.Cached.{Cached}
use Rattle.stateful_exec_tables.specs.Fetching.{Fetches, with_block}
use Rattle.stateful_exec_model.specs.Fetching.{serving, IsFetched, found, waits, declines, dead}
use Rattle.stateful_exec_model.specs.Moments.{Moment}
use Rattle.stateful_exec_model.specs.Rules.{Needs}
use Rattle.stateful_exec_tables.specs.Tables.{taken}
use Rattle.stateful_exec_model.specs.Workings.{Workings, Point}
use Rattle.stateful_exec_pause.specs.declared.pause.Pause.{Pause}
use Rattle.stateful_exec_pause.specs.declared.pause.Pause.TheVariants.{Free}
use Rattle.stateful_exec_tables.specs.declared.state.Tables.{Tables}
use Rattle.stateful_exec_tables.specs.declared.tables.LiveRun.{LiveRun}
use Rattle.stateful_exec_tables.specs.declared.tables.Requested.{Requested}
use Rattle.stateful_exec_walk.specs.declared.walk.Acquired.TheVariants as acquired
use Rattle.stateful_exec_laws.specs.Setting.{setting}
use Rattle.stateful_exec_laws.specs.Beside.{StaysBeside, BesideBehind}
use Rattle.stateful_exec_laws.specs.Outstanding.{RunsGoOn}
use Rattle.stateful_exec_laws.specs.Requesting.{first_of}
use Rattle.stateful_exec_laws.specs.Running.{RunsStand}
use Rattle.stateful_exec_laws.specs.Standing.{TablesStand, IsInHand}
use Rattle.stateful_exec_laws.proofs.beside.Served.{StaysBeside-acquires, StaysBeside-concludes}
use Rattle.stateful_exec_laws.proofs.requests.Calm.{IsCalm, LeavesJob, CacheStands-calm, IsRunning-calm}
use Rattle.stateful_exec_laws.proofs.requests.FetchStands.{fetched-IsCalm, fetched-LeavesJob, TablesStand-fetched, IsInHand-fetched, acquired-fetched}
use Rattle.stateful_exec_laws.proofs.linked.QueueLost.{QueueReaches-on}
use Rattle.stateful_exec_laws.proofs.linked.QueueServed.{queue-met}
use Rattle.stateful_exec_laws.proofs.reasons.Fetched.{IsGround-fetched}
use Rattle.stateful_exec_laws.proofs.reasons.Ground.{IsGround, IsGround-longer}
use Rattle.stateful_exec_laws.proofs.runs.Removing.{differ}
use Rattle.stateful_exec_laws.proofs.runs.Kept.{RunsTakeTurns, RunsGoOn-moved}

module _ {B C I P R D H G U : Type 0} (w : Workings B C I P R D H G U) (stored : ℕ → Option (Named B)) (base : w.States) (p : Past B C I) (points : Digest → Point w) (point : Point w) (next : w.Ids) (tip : Anchor)
    (pause : Pause) (anchor : Anchor) (cache : List (Cached U)) (g : IsGround w stored base p points point next tip pause anchor cache)
    (x : Item B C I) (calm : IsCalm (setting w stored) p x) (anchor_same : anchor_of w.header (x ∷ p) ≡ anchor_of w.header p) (applied_same : applied (x ∷ p) ≡ applied p) (names : TrueNames (setting w stored) (x ∷ p)) where
  -- the ground is there behind an item that leaves the anchor and the tip
  pub IsGround-calm : IsGround w stored base (x ∷ p) points point next tip pause anchor cache
  IsGround-calm = IsGround-longer w stored base points point tip p (x ∷ p) (λ b met. inr met) anchor_same calm.tip applied_same next next pause anchor cache (CacheStands-calm w stored p x calm points next anchor pause cache g.stands) names g

  -- and runs whose jobs it leaves go on turning, whatever blocks it brings
  pub RunsGoOn-calm : (live : List (ℕ × LiveRun B R)) → All (λ e. LeavesJob p x e.0) live → RunsStand w stored p points next anchor cache live → RunsGoOn w stored base p live → RunsGoOn w stored base (x ∷ p) live
  RunsGoOn-calm live leaves s on =
      RunsGoOn-moved w stored base p points points point point next next tip tip anchor anchor pause pause cache cache (x ∷ p) g IsGround-calm live (λ k d l. (leaves k d l).turns) s.each
      (λ k d l. let e = get_or live k d in IsRunning-calm w stored p x calm points next anchor cache e.0 e.1 (leaves k d l) (s.each k d l)) (λ d a b. refl) on

module _ {B C I P R D H G U : Type 0} (w : Workings B C I P R D H G U) (stored : ℕ → Option (Named B)) (base : w.States) (tip : Anchor) (p : Past B C I) (points : Digest → Point w) (point : Point w) where
  -- What stays beside the tables stays so behind such an item.
  pub StaysBeside-calm : (next : w.Ids) (v : Tables B C I R U) (s : TablesStand w stored p points point next v) (g : IsGround w stored base p points point next tip v.pause v.anchor v.cache) (x : Item B C I) → IsCalm (setting w stored) p x
      → anchor_of w.header (x ∷ p) ≡ anchor_of w.header p → applied (x ∷ p) ≡ applied p → TrueNames (setting w stored) (x ∷ p) → All (λ e. LeavesJob p x e.0) v.runs
      → StaysBeside w stored base p v → StaysBeside w stored base (x ∷ p) v
  StaysBeside-calm next v s g x calm anchor_same applied_same names leaves h = record {
    runs = RunsGoOn-calm w stored base p points point next tip v.pause v.anchor v.cache g x calm anchor_same applied_same names v.runs leaves s.runs h.runs;
    queue = QueueReaches-on w stored base p x calm.starts_none calm.tip names v.queued (queue-met w stored p v.queued v.recovered s.queue) h.queue;
  }

  -- a turn of a job that is no candidate run
  pub StaysBeside-elsewhere : (next : w.Ids) (v : Tables B C I R U) (s : TablesStand w stored p points point next v) (g : IsGround w stored base p points point next tip v.pause v.anchor v.cache) (j : ℕ) → All (λ e. e.0 ≢ j) v.runs
      → StaysBeside w stored base p v → StaysBeside w stored base (Came (Turn j) ∷ p) v
  StaysBeside-elsewhere next v s g j other h =
      StaysBeside-calm next v s g (Came (Turn j)) (record { tip = refl; starts_none = tt; built = λ d was. was; kept = refl }) refl refl names
      (λ k d l. let e = get_or v.runs k d in record { live = refl; started = refl; turns = rw (differ e.0 j (λ is. other k d l (sym is))) refl }) h
    where
      names : TrueNames (setting w stored) (Came (Turn j) ∷ p)
      names = λ x y has_x has_y. g.names x y (elim has_x [ inl none ↦ absurd none | inr one ↦ one ]) (elim has_y [ inl none ↦ absurd none | inr one ↦ one ])

module _ {B C I P R D H G U : Type 0} (w : Workings B C I P R D H G U) (stored : ℕ → Option (Named B)) (base : w.States) (tip : Anchor) (costs : RunsTakeTurns w)
    (other_states : (n i : w.Ids) (x y : w.States) (c : List (Point w)) → w.kind.issued n ((i, x) ∷ c) → w.kind.issued n ((i, y) ∷ c))
    (p : Past B C I) (points : Digest → Point w) (point : Point w) where
  module _ (m : Moment w) (s : TablesStand w stored p points point m.next m.state) (g : IsGround w stored base p points point m.next tip m.state.pause m.state.anchor m.state.cache) (free : m.state.pause ≡ Free)
      (located : w.kind.point m.members ≡ Some point) (drawn : w.kind.issued m.next (point ∷ []))
      (f : ℕ) (answer : Option (Named B)) (names : TrueNames (setting w stored) (Came (Fetched f answer) ∷ p)) (beside : StaysBeside w stored base p m.state) where
    abbrev given : Past B C I
    given = Came (Fetched f answer) ∷ p

    beside_given : StaysBeside w stored base given m.state
    beside_given = StaysBeside-calm w stored base tip p points point m.next m.state s g (Came (Fetched f answer)) (fetched-IsCalm (setting w stored) p f answer) refl refl names (λ k d l. fetched-LeavesJob p f answer (get_or m.state.runs k d).0) beside

    beside_left : (t : ℕ) → StaysBeside w stored base given (taken m.state t)
    beside_left t = record { runs = beside_given.runs; queue = beside_given.queue }

    from_serving : (now : Moment w) (t : ℕ) → BesideBehind w stored base given (serving w m t) now → BesideBehind w stored base given m now
    from_serving now t h = record { more = h.more; marks_are = h.marks_are; stays = h.stays }

    module _ (t : ℕ) (r : Requested B C I) (fetches : Fetches m.state f t r) where
      without_it : TablesStand w stored given points point m.next (taken m.state t)
      without_it = TablesStand-fetched w stored p points point m.next m.state s f answer t r fetches

      hand : IsInHand w stored given t r.request (taken m.state t)
      hand = IsInHand-fetched w stored p points point m.next m.state s f answer t r fetches

      ground : IsGround w stored base given points point m.next tip m.state.pause m.state.anchor m.state.cache
      ground = IsGround-fetched w stored base p points point tip m s g free f answer [] names t r fetches

    -- It stays so behind the answer of a fetch, where a request that has to wait waits for nothing that was begun.
    pub StaysBeside-fetched : (held : ℕ → Option (Named B)) → ((t : ℕ) (r : Requested B C I) (b : Named B) → Fetches m.state f t r → answer ≡ Some b → Needs w held (serving w m t) (with_block r b) acquired.Waits → Abstains (setting w stored) t given (first_of r.request))
        → (now : Moment w) → IsFetched w held m f answer now → BesideBehind w stored base given m now
    StaysBeside-fetched held abstains now (found t r b fetches is rule) = from_serving now t
        (StaysBeside-acquires w stored base tip costs other_states given points point (serving w m t) now (without_it t r fetches) (ground t r fetches) t (with_block r b) (hand t r fetches) (beside_left t) free located drawn
        (All-push (Met (setting w stored) given) r.acquired b (acquired-fetched w stored p points point m.next m.state s f answer t r fetches) (inl is)) held (abstains t r b fetches is) rule)
    StaysBeside-fetched held abstains now (waits t r fetches is verification becomes) = rw becomes (record { more = []; marks_are = refl; stays = record { runs = beside_given.runs; queue = beside_given.queue } })
    StaysBeside-fetched held abstains now (declines t r fetches is proposal rule) = from_serving now t
        (StaysBeside-concludes w stored base tip costs other_states given points point (serving w m t) now (without_it t r fetches) (ground t r fetches) t r (hand t r fetches) (beside_left t) rule)
    StaysBeside-fetched held abstains now (dead none is) = rw is (record { more = []; marks_are = sym (append-nil m.marks); stays = beside_given })
