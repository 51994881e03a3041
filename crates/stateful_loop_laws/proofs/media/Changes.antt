-- What each rule of the loop, and each event that is taken in, changes of the databases.
use Rattle.std.proofs.Common.{◌≡◌, ◌++◌, ◌∷◌, [], ℕ, Bool, false, List, Option, refl, ap, ◌∙◌}
use Rattle.stateful_base.specs.Names.{Named}
use Rattle.stateful_db.specs.declared.application.Hooked.{Hooked}
use Rattle.stateful_db.specs.declared.application.Hooked.TheVariants as hooked
use Rattle.stateful_db.specs.declared.barrier.Flushed.TheVariants.{Good, Interrupted}
use Rattle.stateful_history.specs.declared.event.Event.{Event}
use Rattle.stateful_history.specs.declared.mark.Mark.{Mark}
use Rattle.stateful_history.specs.declared.mark.Mark.TheVariants.{BarrierDone}
use Rattle.stateful_exec_model.specs.Finalizing.{HooksOn}
use Rattle.stateful_exec_walk.specs.Request.{ticket_by}
use Rattle.stateful_exec_tables.specs.Tables.{requested}
use Rattle.stateful_exec_model.specs.Workings.{Workings}
use Rattle.stateful_exec_model.specs.declared.front.Front.{Front}
use Rattle.stateful_exec_walk.specs.declared.request.Request.{Request}
use Rattle.stateful_exec_tables.specs.declared.state.Tables.{Tables}
use Rattle.stateful_loop_model.proofs.SoundingTurns.{gives_up_anchor, builds_stays, fetched_stays}
use Rattle.stateful_loop_model.proofs.Staying.{Stays, Acquires-stays, Resumes-stays}
use Rattle.stateful_loop_model.specs.Intake.{Counts, TurnsJob, build, hook, run, TakesIn, enters, cancels, fetched, turns, flushes, stops, progresses, restarts}
use Rattle.stateful_loop_model.specs.Moments.{Moment, inner, with_inner}
use Rattle.stateful_loop_model.specs.Rules.{Schedules, Builds, starts, declines, BeginsFinalization, DoesMessage, schedules, answers, acknowledges, holds, begins, AppliesBlock, IsFinalizing, HasStates, Takes, of_action, of_message, Rule, collects, puts_off, runs, applies, covers, observes, ends, breaks, completes, builds, takes}
use Rattle.stateful_loop_model.specs.declared.barriers.Active.{Active}
use Rattle.stateful_loop_model.specs.declared.message.Message.{Message}
use Rattle.stateful_loop_model.specs.declared.tables.Finalizing.{Finalizing}
use Rattle.stateful_loop_laws.proofs.loop.Turns.{run_marks}

module _ {B C I P R D H G U : Type 0} (w : Workings B C I P R D H G U) where
  -- the databases, the anchor, and whether the machine is up are as they were
  pub record IsStill (m now : Moment w) : Type 0 where
    pub members : now.members ≡ m.members
    pub anchor : now.execution.state.anchor ≡ m.execution.state.anchor
    pub up : now.loop.up ≡ m.loop.up

  -- nothing; a barrier has begun; a block was applied; or nothing, but a barrier broke
  pub data RuleChanges (m now : Moment w) : Type 0 where
    still : IsStill m now → RuleChanges m now
    barrier : now.members ≡ w.kind.finalized m.members → now.execution.state.anchor ≡ m.execution.state.anchor → now.loop.up ≡ m.loop.up
        → RuleChanges m now
    applied_one : {f : Finalizing B G} → IsFinalizing w m f → HasStates w m f.block → AppliesBlock w f m now → RuleChanges m now
    broke_one : (active : Active)
        → now ≡ record m { loop = record m.loop { up = false }; marks = m.marks ++ BarrierDone active.number active.height false ∷ [] }
        → RuleChanges m now

  still_then : (m mid now : Moment w) → IsStill m mid → IsStill mid now → IsStill m now
  still_then m mid now one two = record {
    members = two.members ∙ one.members;
    anchor = two.anchor ∙ one.anchor;
    up = two.up ∙ one.up;
  }

  still_schedules : (stored : ℕ → Option (Named B)) (request : Request B C I) (m now : Moment w) → Schedules w stored request m now → IsStill m now
  still_schedules stored request m now r =
      let s : Stays w (inner w m) r.then = Acquires-stays w stored (inner w m) (ticket_by request) (requested request) r.then r.acquires in
      record {
        members = ap (λ (n : Moment w). n.members) r.becomes ∙ s.members;
        anchor = ap (λ (n : Moment w). n.execution.state.anchor) r.becomes ∙ s.anchor;
        up = ap (λ (n : Moment w). n.loop.up) r.becomes;
      }

  still_builds : (provider : P) (t : ℕ) (m now : Moment w) → Builds w provider t m now → IsStill m now
  still_builds provider t m now (starts b e) = record {
    members = ap (λ (n : Moment w). n.members) e;
    anchor = ap (λ (n : Moment w). n.execution.state.anchor) e ∙ ap (λ (v : Tables B C I R U). v.anchor) b.state;
    up = ap (λ (n : Moment w). n.loop.up) e;
  }
  still_builds provider t m now (declines none e) = record {
    members = ap (λ (n : Moment w). n.members) e;
    anchor = ap (λ (n : Moment w). n.execution.state.anchor) e;
    up = ap (λ (n : Moment w). n.loop.up) e;
  }

  still_begins : (t : ℕ) (b : Named B) (m now : Moment w) → BeginsFinalization w t b m now → IsStill m now
  still_begins t b m now r = record {
    members = ap (λ (n : Moment w). n.members) r.becomes;
    anchor = ap (λ (n : Moment w). n.execution.state.anchor) r.becomes ∙ ap (λ (v : Tables B C I R U). v.anchor) r.pauses.state;
    up = ap (λ (n : Moment w). n.loop.up) r.becomes;
  }

  hooked_anchor : (b : Named B) (left : Hooked H) (old new : Tables B C I R U) (before later : List (Mark B)) (front : Option (Front B R U H))
      (live : Bool) → HooksOn w b left old new before later front live → new.anchor ≡ old.anchor
  hooked_anchor b hooked.Done old new before later front live k = ap (λ (v : Tables B C I R U). v.anchor) k.0
  hooked_anchor b (hooked.Pending left) old new before later front live k = ap (λ (v : Tables B C I R U). v.anchor) k.0

  still_does : (stored : ℕ → Option (Named B)) (x : Message B C I) (m now : Moment w) → DoesMessage w stored m now x → IsStill m now
  still_does stored x m now (schedules {request = request} r) = still_schedules stored request m now r
  still_does stored x m now (answers e) = record {
    members = ap (λ (n : Moment w). n.members) e;
    anchor = ap (λ (n : Moment w). n.execution.state.anchor) e;
    up = ap (λ (n : Moment w). n.loop.up) e;
  }
  still_does stored x m now (acknowledges again far e) = record {
    members = ap (λ (n : Moment w). n.members) e;
    anchor = ap (λ (n : Moment w). n.execution.state.anchor) e;
    up = ap (λ (n : Moment w). n.loop.up) e;
  }
  still_does stored x m now (holds again above e) = record {
    members = ap (λ (n : Moment w). n.members) e;
    anchor = ap (λ (n : Moment w). n.execution.state.anchor) e;
    up = ap (λ (n : Moment w). n.loop.up) e;
  }
  still_does stored x m now (begins {t = t} {b = b} above r) = still_begins t b m now r

  still_takes : (x : Message B C I) (m mid : Moment w) → Takes w x m mid → IsStill m mid
  still_takes x m mid (of_action is e) = record {
    members = ap (λ (n : Moment w). n.members) e;
    anchor = ap (λ (n : Moment w). n.execution.state.anchor) e;
    up = ap (λ (n : Moment w). n.loop.up) e;
  }
  still_takes x m mid (of_message none is e) = record {
    members = ap (λ (n : Moment w). n.members) e;
    anchor = ap (λ (n : Moment w). n.execution.state.anchor) e;
    up = ap (λ (n : Moment w). n.loop.up) e;
  }

  module _ (stored : ℕ → Option (Named B)) (provider : P) (m now : Moment w) where
    -- what a rule changes
    pub rule-changes : Rule w stored provider m now → RuleChanges m now
    rule-changes (collects up r) = still (record {
      members = ap (λ (n : Moment w). n.members) r.becomes;
      anchor = ap (λ (n : Moment w). n.execution.state.anchor) r.becomes;
      up = ap (λ (n : Moment w). n.loop.up) r.becomes;
    })
    rule-changes (Rule.schedules {request = request} {rest = rest} calm building is verifies r) =
        let s = still_schedules stored request _ now r in still (record { members = s.members; anchor = s.anchor; up = s.up })
    rule-changes (puts_off calm building is other e) = still (record {
      members = ap (λ (n : Moment w). n.members) e;
      anchor = ap (λ (n : Moment w). n.execution.state.anchor) e;
      up = ap (λ (n : Moment w). n.loop.up) e;
    })
    rule-changes (runs fin begun awaits unknown r) = still (record {
      members = ap (λ (n : Moment w). n.members) r.becomes;
      anchor = ap (λ (n : Moment w). n.execution.state.anchor) r.becomes ∙ ap (λ (v : Tables B C I R U). v.anchor) r.runs.state;
      up = ap (λ (n : Moment w). n.loop.up) r.becomes;
    })
    rule-changes (applies fin captured states r) = applied_one fin states r
    rule-changes (covers fin advanced captured needed r) = barrier (ap (λ (n : Moment w). n.members) r.becomes)
        (ap (λ (n : Moment w). n.execution.state.anchor) r.becomes) (ap (λ (n : Moment w). n.loop.up) r.becomes)
    rule-changes (observes {f = f} fin advanced is covered r) = still (record {
      members = ap (λ (n : Moment w). n.members) r.becomes;
      anchor = ap (λ (n : Moment w). n.execution.state.anchor) r.becomes
          ∙ hooked_anchor f.block r.observes.hook m.execution.state r.state m.marks r.marks r.front r.live r.observes.hooks_on;
      up = ap (λ (n : Moment w). n.loop.up) r.becomes;
    })
    rule-changes (ends fin advanced captured r) =
        let s : Stays w (inner w m) r.then = Resumes-stays w stored (inner w m) r.then r.resumes in
        still (record {
          members = ap (λ (n : Moment w). n.members) r.becomes ∙ s.members;
          anchor = ap (λ (n : Moment w). n.execution.state.anchor) r.becomes ∙ s.anchor;
          up = ap (λ (n : Moment w). n.loop.up) r.becomes;
        })
    rule-changes (breaks {active = active} idle is e) = broke_one active e
    rule-changes (completes idle unbroken done r) = still (record {
      members = ap (λ (n : Moment w). n.members) r.becomes;
      anchor = ap (λ (n : Moment w). n.execution.state.anchor) r.becomes;
      up = ap (λ (n : Moment w). n.loop.up) r.becomes;
    })
    rule-changes (Rule.begins idle unbroken undone needed r) = barrier (ap (λ (n : Moment w). n.members) r.becomes)
        (ap (λ (n : Moment w). n.execution.state.anchor) r.becomes) (ap (λ (n : Moment w). n.loop.up) r.becomes)
    rule-changes (builds {t = t} {rest = rest} calm is r) =
        let s = still_builds provider t _ now r in still (record { members = s.members; anchor = s.anchor; up = s.up })
    rule-changes (takes {x = x} {mid = mid} calm take does) =
        still (still_then m mid now (still_takes x m mid take) (still_does stored x mid now does))

  -- the anchor and the heights are as they were
  pub record HasSameHeights (m now : Moment w) : Type 0 where
    pub anchor : now.execution.state.anchor ≡ m.execution.state.anchor
    pub durability : now.loop.durability ≡ m.loop.durability

  -- nothing; or a database was flushed
  pub data TakenChanges (m now : Moment w) : Type 0 where
    same : HasSameHeights m now → now.members ≡ m.members → TakenChanges m now
    flushed_one : HasSameHeights m now → (i place : ℕ) → now.members ≡ w.kind.flushed m.members i place → TakenChanges m now

  job_changes : (counts : Counts R D H) (j : ℕ) (m now : Moment w) → TurnsJob w counts j m now → TakenChanges m now
  job_changes counts j m now (build {then = then} {after = after} live turned e) =
      let s : Stays w (inner w m) then = builds_stays w counts.build (inner w m) m.execution.build j then after turned in
      same (record {
        anchor = ap (λ (n : Moment w). n.execution.state.anchor) e ∙ s.anchor;
        durability = ap (λ (n : Moment w). n.loop.durability) e;
      }) (ap (λ (n : Moment w). n.members) e ∙ s.members)
  job_changes counts j m now (hook none live turned e) =
      same (record { anchor = ap (λ (n : Moment w). n.execution.state.anchor) e; durability = ap (λ (n : Moment w). n.loop.durability) e })
      (ap (λ (n : Moment w). n.members) e)
  job_changes counts j m now (run {then = then} {after = after} none unhooked turned e) =
      let s : Stays w (inner w m) then = (run_marks w counts.run (inner w m) m.execution.front j then after turned).1 in
      same (record {
        anchor = ap (λ (n : Moment w). n.execution.state.anchor) e ∙ s.anchor;
        durability = ap (λ (n : Moment w). n.loop.durability) e;
      }) (ap (λ (n : Moment w). n.members) e ∙ s.members)

  -- an equation of moments, read
  same_heights : (m mid now : Moment w) → now ≡ mid → mid.execution.state.anchor ≡ m.execution.state.anchor
      → mid.loop.durability ≡ m.loop.durability → HasSameHeights m now
  same_heights m mid now e anchor durability = record {
    anchor = ap (λ (n : Moment w). n.execution.state.anchor) e ∙ anchor;
    durability = ap (λ (n : Moment w). n.loop.durability) e ∙ durability;
  }

  -- what an event that is taken in changes
  pub taken-changes : (stored : ℕ → Option (Named B)) (counts : Counts R D H) (m now : Moment w) (e : Event B C I)
      → TakesIn w stored counts m now e → TakenChanges m now
  taken-changes stored counts m now e (enters x becomes) =
      same (same_heights m _ now becomes refl refl) (ap (λ (n : Moment w). n.members) becomes)
  taken-changes stored counts m now e (cancels {t = t} c) =
      same (same_heights m _ now c.becomes (gives_up_anchor m.execution.state c.state m.execution.build c.build t c.marks c.gives_up) refl)
      (ap (λ (n : Moment w). n.members) c.becomes)
  taken-changes stored counts m now e (fetched {f = f} {answer = answer} {then = then} is becomes) =
      let s : Stays w (inner w m) then = fetched_stays w stored (inner w m) f answer then is in
      same (same_heights m (with_inner w m then) now becomes s.anchor refl) (ap (λ (n : Moment w). n.members) becomes ∙ s.members)
  taken-changes stored counts m now e (turns {j = j} t) = job_changes counts j m now t
  taken-changes stored counts m now e (flushes {i = i} {answer = Good} f) =
      flushed_one (same_heights m _ now f.becomes refl refl) i f.token.place (ap (λ (n : Moment w). n.members) f.becomes)
  taken-changes stored counts m now e (flushes {i = i} {answer = Interrupted} f) =
      same (same_heights m _ now f.becomes refl refl) (ap (λ (n : Moment w). n.members) f.becomes)
  taken-changes stored counts m now e (stops becomes) = same (same_heights m _ now becomes refl refl) (ap (λ (n : Moment w). n.members) becomes)
  taken-changes stored counts m now e (progresses becomes) = same (same_heights m m now becomes refl refl) (ap (λ (n : Moment w). n.members) becomes)
  taken-changes stored counts m now e (restarts becomes) = same (same_heights m m now becomes refl refl) (ap (λ (n : Moment w). n.members) becomes)
