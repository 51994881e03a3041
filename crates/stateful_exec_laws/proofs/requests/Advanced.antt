-- A request in hand goes along its path.
use Rattle.std.proofs.Common.{◌≡◌, inl, ℕ, List, [], ◌∷◌, All, Option, Some, None, MatchOption, refl}
use Rattle.stateful_base.specs.Names.{Named}
use Rattle.stateful_base.specs.declared.digest.Digest.{Digest}
use Rattle.stateful_history.specs.Past.{Past}
use Rattle.stateful_history.specs.Met.{Met, TrueNames}
use Rattle.stateful_table.specs.Table.{at}
use Rattle.stateful_exec_model.specs.Moments.{Moment}
use Rattle.stateful_exec_walk.specs.Path.{Path}
use Rattle.stateful_exec_tables.specs.Tables.{HasRun}
use Rattle.stateful_exec_model.specs.Rules.{Concludes, Advances, arrives, leaves, joins, starts, misses}
use Rattle.stateful_exec_model.specs.Workings.{Workings, Point}
use Rattle.stateful_exec_walk.specs.declared.request.Verdict.{Verdict}
use Rattle.stateful_exec_tables.specs.declared.tables.LiveRun.{LiveRun}
use Rattle.stateful_exec_tables.specs.declared.tables.Phase.TheVariants.{Executing}
use Rattle.stateful_exec_tables.specs.declared.tables.Requested.{Requested}
use Rattle.stateful_exec_laws.specs.Setting.{setting}
use Rattle.stateful_exec_laws.specs.Requesting.{IsWayOf}
use Rattle.stateful_exec_laws.specs.Running.{IsRunning}
use Rattle.stateful_exec_laws.specs.Standing.{TablesStand, IsInHand, StandsBehind}
use Rattle.stateful_exec_laws.proofs.requests.AdvanceStands.{reached_met, reached_parent_met, reached_child, reached_way}
use Rattle.stateful_exec_laws.proofs.runs.LaunchStands.{TablesStand-launches}
use Rattle.stateful_exec_laws.proofs.runs.Removing.{All-at}
use Rattle.stateful_exec_laws.proofs.requests.Served.{Serves, Serves-concludes, Serves-put, Serves-launches}

module _ {B C I P R D H G U : Type 0} (w : Workings B C I P R D H G U) (stored : ℕ → Option (Named B)) (p : Past B C I) (points : Digest → Point w) (point : Point w) (m : Moment w) (s : TablesStand w stored p points point m.next m.state)
    (t : ℕ) (r : Requested B C I) (hand : IsInHand w stored p t r.request m.state) where
  -- a request in hand ends
  pub StandsBehind-concludes : (v : Verdict) (now : Moment w) → Concludes w m t r v now → StandsBehind w stored p points point m now
  StandsBehind-concludes v now is = (Serves-concludes w stored p points point m s t r hand v now is).behind

  module _ (names : TrueNames (setting w stored) p) (other_states : (n i : w.Ids) (x y : w.States) (c : List (Point w)) → w.kind.issued n ((i, x) ∷ c) → w.kind.issued n ((i, y) ∷ c))
      (located : w.kind.point m.members ≡ Some point) (drawn : w.kind.issued m.next (point ∷ [])) (met : All (Met (setting w stored) p) r.acquired) where
    -- the live run of a block's digest is of the block
    run_is : (b : Named B) (j : ℕ) → Met (setting w stored) p b → HasRun m.state b.digest j → MatchOption (at m.state.runs j) ⊥ (λ run. run.block ≡ b)
    run_is b j b_met has = go (at m.state.runs j) refl has
      where
        go : (o : Option (LiveRun B R)) → at m.state.runs j ≡ o → MatchOption o ⊥ (λ run. run.block.digest ≡ b.digest) → MatchOption o ⊥ (λ run. run.block ≡ b)
        go None there is = is
        go (Some run) there is =
            let running = All-at (λ (e : ℕ × LiveRun B R). IsRunning w stored p points m.next m.state.anchor m.state.cache e.0 e.1) m.state.runs j run there s.runs.each in
            names run.block b running.met b_met is

    -- a request in hand goes along its path
    pub Serves-advances : (path : Path B) (now : Moment w) → IsWayOf w stored p r.request path → Advances w m t r path now → Serves w stored p points point m t now
    Serves-advances path now way (arrives all concludes) = Serves-concludes w stored p points point m s t r hand _ now concludes
    Serves-advances path now way (leaves reaches off concludes) = Serves-concludes w stored p points point m s t r hand _ now concludes
    Serves-advances path now way (joins {left = left} {b = b} {parent = parent} j reaches on unknown has becomes) =
        Serves-put w stored p points point m s t r hand (Executing j (record { blocks = left; parent = b })) now met
        (run_is b j (reached_met w stored p m.state r.request path way left b parent reaches) has, reached_way w stored p m.state r.request path way left b parent reaches) (λ is. absurd (cc)) becomes
    Serves-advances path now way (starts {left = left} {b = b} {parent = parent} reaches on unknown unrun known launches) =
        Serves-launches w stored p points point m s t r hand now launches
        (rw launches.state (TablesStand-launches w stored p points point m.next now.next m.state launches.running s other_states m.members located drawn b parent launches.starts
        (reached_met w stored p m.state r.request path way left b parent reaches) (reached_parent_met w stored p m.state r.request path way left b parent reaches)
        (reached_child w stored p m.state r.request path way left b parent reaches) known (λ is. unknown (inl is)) unrun t r hand met left (reached_way w stored p m.state r.request path way left b parent reaches)))
    Serves-advances path now way (misses reaches on unknown unrun known concludes) = Serves-concludes w stored p points point m s t r hand _ now concludes

    -- the tables stand behind a request that goes along its path
    pub StandsBehind-advances : (path : Path B) (now : Moment w) → IsWayOf w stored p r.request path → Advances w m t r path now → StandsBehind w stored p points point m now
    StandsBehind-advances path now way advances = (Serves-advances path now way advances).behind
