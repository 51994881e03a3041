-- What the rules of requests leave as it is: the anchor and the databases.
use Rattle.std.proofs.Common.{◌≡◌, ℕ, Option, List, refl, ap, ◌∙◌}
use Rattle.stateful_base.specs.Names.{Named}
use Rattle.stateful_exec_model.specs.Ending.{InTurn, none, next}
use Rattle.stateful_exec_model.specs.Moments as exec
use Rattle.stateful_exec_walk.specs.Path.{Path}
use Rattle.stateful_exec_model.specs.Pausing.{GoesAlong, AcquiresAnew, unparked, unsettled, Resumes}
use Rattle.stateful_exec_tables.specs.Phase.{parked_in, unacquired_in}
use Rattle.stateful_exec_tables.specs.Tables.{ended, requested}
use Rattle.stateful_exec_model.specs.Rules.{Concludes, Advances, Acquires, arrives, leaves, joins, starts, misses, valid, invalid, asks, waits, runs}
use Rattle.stateful_exec_model.specs.Workings.{Workings}
use Rattle.stateful_exec_walk.specs.declared.request.Request.{Request}
use Rattle.stateful_exec_walk.specs.declared.request.Request.TheVariants.{Verify, Recover}
use Rattle.stateful_exec_walk.specs.declared.request.Verdict.{Verdict}
use Rattle.stateful_exec_walk.specs.declared.request.Verdict.TheVariants.{Valid, Invalid}
use Rattle.stateful_exec_tables.specs.declared.state.Tables.{Tables}
use Rattle.stateful_exec_tables.specs.declared.tables.Requested.{Requested}

ended_anchor : {B C I R U : Type 0} (v : Tables B C I R U) (t : ℕ) (r : Request B C I) (verdict : Verdict) → (ended v t r verdict).anchor ≡ v.anchor
ended_anchor v t (Verify u a) Valid = refl
ended_anchor v t (Verify u a) Invalid = refl
ended_anchor v t (Recover u c a i k) Valid = refl
ended_anchor v t (Recover u c a i k) Invalid = refl

module _ {B C I P R D H G U : Type 0} (w : Workings B C I P R D H G U) where
  -- the anchor and the databases are as they were
  pub record Stays (m now : exec.Moment w) : Type 0 where
    pub anchor : now.state.anchor ≡ m.state.anchor
    pub members : now.members ≡ m.members

  pub Stays-same : (m : exec.Moment w) → Stays m m
  Stays-same m = record { anchor = refl; members = refl }

  pub Stays-then : {m mid now : exec.Moment w} → Stays m mid → Stays mid now → Stays m now
  Stays-then s u = record { anchor = u.anchor ∙ s.anchor; members = u.members ∙ s.members }

  -- an equation of moments, read
  pub becomes : (m : exec.Moment w) (state : Tables B C I R U) (ids : w.Ids) (marks : _) (now : exec.Moment w) → now ≡ exec.moment w state m.members ids marks → state.anchor ≡ m.state.anchor → Stays m now
  becomes m state ids marks now e h = record { anchor = ap (λ n. n.state.anchor) e ∙ h; members = ap (λ n. n.members) e }

  pub concluded : (m : exec.Moment w) (t : ℕ) (r : Requested B C I) (verdict : Verdict) (now : exec.Moment w) → Concludes w m t r verdict now → Stays m now
  concluded m t r verdict now e = becomes m (ended m.state t r.request verdict) m.next _ now e (ended_anchor m.state t r.request verdict)

  pub Advances-stays : (m : exec.Moment w) (t : ℕ) (r : Requested B C I) (path : Path B) (now : exec.Moment w) → Advances w m t r path now → Stays m now
  Advances-stays m t r path now (arrives passed ends) = concluded m t r Valid now ends
  Advances-stays m t r path now (leaves reach left ends) = concluded m t r Invalid now ends
  Advances-stays m t r path now (joins j reach goes unknown run e) = becomes m _ m.next _ now e refl
  Advances-stays m t r path now (starts reach goes unknown unrun known l) =
      record { anchor = ap (λ s. s.anchor) l.state ∙ ap (λ s. s.anchor) l.starts.state; members = l.members }
  Advances-stays m t r path now (misses reach goes unknown unrun orphan ends) = concluded m t r Invalid now ends

  module _ (stored : ℕ → Option (Named B)) where
    pub Acquires-stays : (m : exec.Moment w) (t : ℕ) (r : Requested B C I) (now : exec.Moment w) → Acquires w stored m t r now → Stays m now
    Acquires-stays m t r now (valid needs ends) = concluded m t r Valid now ends
    Acquires-stays m t r now (invalid needs ends) = concluded m t r Invalid now ends
    Acquires-stays m t r now (asks digest needs left e) = becomes m _ m.next _ now e refl
    Acquires-stays m t r now (waits needs e) = becomes m _ m.next _ now e refl
    Acquires-stays m t r now (runs {path = path} needs a) = Advances-stays m t (requested r.request) path now a

    pub along-stays : (xs : List _) (m now : exec.Moment w) → InTurn (GoesAlong w) xs m now → Stays m now
    along-stays xs m now none = Stays-same m
    along-stays xs m now (next {x = x} {n = n} a rest) = Stays-then (Advances-stays m x.ticket (requested x.request) x.path n a) (along-stays _ n now rest)

    pub anew-stays : (xs : List _) (m now : exec.Moment w) → InTurn (AcquiresAnew w stored) xs m now → Stays m now
    anew-stays xs m now none = Stays-same m
    anew-stays xs m now (next {x = x} {n = n} a rest) = Stays-then (Acquires-stays m x.0 (requested x.1.request) n a) (anew-stays _ n now rest)

    pub Resumes-stays : (m now : exec.Moment w) → Resumes w stored m now → Stays m now
    Resumes-stays m now r =
        let one : Stays (unparked w m) r.mid = along-stays (parked_in m.state.requests) (unparked w m) r.mid r.along in
        let two : Stays (unsettled w r.mid) now = anew-stays (unacquired_in r.mid.state.requests) (unsettled w r.mid) now r.anew in
        record { anchor = two.anchor ∙ one.anchor; members = two.members ∙ one.members }
