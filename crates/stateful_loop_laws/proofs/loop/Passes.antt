-- What the loop keeps stands after the rules of execution, which say nothing of it, and where receipts are held.
use Rattle.std.proofs.Common.{◌≡◌, ℕ, Option, refl}
use Rattle.stateful_base.specs.Names.{Named}
use Rattle.stateful_durability.specs.Durability.{with_duplicate}
use Rattle.stateful_history.specs.Past.{Past}
use Rattle.stateful_history.specs.declared.mark.Mark.{Mark}
use Rattle.stateful_history.specs.declared.mark.Mark.TheVariants.{Opened, Converged, Applied, BarrierBegun, BarrierDone, Acknowledged, Stopped}
use Rattle.stateful_exec_model.specs.Moments as exec
use Rattle.stateful_exec_walk.specs.Request.{ticket_by}
use Rattle.stateful_exec_tables.specs.Tables.{requested}
use Rattle.stateful_exec_model.specs.Workings.{Workings}
use Rattle.stateful_exec_walk.specs.declared.request.Request.{Request}
use Rattle.stateful_exec_laws.proofs.pauses.Passing.{IsBeside, PassesBy, PassesBy-acquires}
use Rattle.stateful_exec_laws.proofs.pauses.PassingRules.{PassesBy-resumes}
use Rattle.stateful_loop_laws.specs.Durability.{LoopBehind}
use Rattle.stateful_loop_laws.specs.Stands.{LoopStands}
use Rattle.stateful_loop_laws.proofs.loop.CalmItems.{IsCalmMark}
use Rattle.stateful_loop_laws.proofs.loop.Calm.{LoopBehind-calm, LoopBehind-same, LoopBehind-is}
use Rattle.stateful_loop_model.proofs.Staying.{Stays, Acquires-stays, Resumes-stays}
use Rattle.stateful_loop_model.specs.Moments.{Moment, inner, with_inner, with_loop}
use Rattle.stateful_loop_model.specs.Rules.{Schedules, EndsFinalization}
use Rattle.stateful_loop_model.specs.declared.tables.Finalizing.{Finalizing}

-- marks of requests and candidate runs are calm
pub IsCalmMark-beside : {B : Type 0} (Job Ticket : ℕ → Type 0) (mark : Mark B) → IsBeside Job Ticket mark → IsCalmMark mark
IsCalmMark-beside Job Ticket (Opened anchor) b = absurd b
IsCalmMark-beside Job Ticket (Converged anchor) b = absurd b
IsCalmMark-beside Job Ticket (Applied block) b = absurd b
IsCalmMark-beside Job Ticket (BarrierBegun k height) b = absurd b
IsCalmMark-beside Job Ticket (BarrierDone k height good) b = absurd b
IsCalmMark-beside Job Ticket (Acknowledged t height) b = absurd b
IsCalmMark-beside Job Ticket Stopped b = absurd b
IsCalmMark-beside Job Ticket mark b = tt

-- no job and no ticket
abbrev pub NoneOf : ℕ → Type 0
NoneOf n = ⊥

module _ {B C I P R D H G U : Type 0} (w : Workings B C I P R D H G U) (stored : ℕ → Option (Named B)) (base : w.States) (p : Past B C I)
    (m : Moment w) (h : LoopStands w stored base p m) where
  -- the tables of execution go on by such marks
  pub LoopBehind-inner : (then : exec.Moment w) → PassesBy w NoneOf NoneOf (inner w m) then → Stays w (inner w m) then
      → LoopBehind w stored base p m (with_inner w m then)
  LoopBehind-inner then passes stays =
      LoopBehind-calm w stored base p m (with_inner w m then) passes.more passes.marks_are
      (λ k d l. IsCalmMark-beside NoneOf NoneOf _ (passes.beside k d l))
      (record { members = stays.members; anchor = stays.anchor; durable = refl; barriers = refl; next_barrier = refl }) h

  -- a request is scheduled
  pub LoopBehind-schedules : (stored_now : ℕ → Option (Named B)) (request : Request B C I) (now : Moment w) → Schedules w stored_now request m now
      → LoopBehind w stored base p m now
  LoopBehind-schedules stored_now request now r =
      LoopBehind-is w stored base p m now (with_inner w m r.then) r.becomes (LoopBehind-inner r.then
      (PassesBy-acquires w NoneOf NoneOf stored_now (inner w m) r.then (ticket_by request) (requested request) (λ k own. absurd own)
      (λ own. own) r.acquires)
      (Acquires-stays w stored_now (inner w m) (ticket_by request) (requested request) r.then r.acquires))

  -- a finalization ends, and its receipt is held
  pub LoopBehind-ends : (stored_now : ℕ → Option (Named B)) (f : Finalizing B G) (now : Moment w) → EndsFinalization w stored_now f m now
      → LoopBehind w stored base p m now
  LoopBehind-ends stored_now f now r =
      let passes : PassesBy w NoneOf NoneOf (inner w m) r.then =
      PassesBy-resumes w NoneOf NoneOf stored_now (inner w m) r.then (λ k own. absurd own) (λ t own. absurd own) r.resumes in
      let stays : Stays w (inner w m) r.then = Resumes-stays w stored_now (inner w m) r.then r.resumes in
      LoopBehind-is w stored base p m now _ r.becomes
      (LoopBehind-calm w stored base p m _ passes.more passes.marks_are (λ k d l. IsCalmMark-beside NoneOf NoneOf _ (passes.beside k d l))
      (record { members = stays.members; anchor = stays.anchor; durable = refl; barriers = refl; next_barrier = refl }) h)

  -- the receipt of a redelivered block is held
  pub LoopBehind-holds : (t height : ℕ) (now : Moment w)
      → now ≡ with_loop w m (record m.loop { durability = record m.loop.durability { held = with_duplicate m.loop.durability.held height t } })
      → LoopBehind w stored base p m now
  LoopBehind-holds t height now e =
      LoopBehind-is w stored base p m now _ e (LoopBehind-same w stored base p m _ refl
      (record { members = refl; anchor = refl; durable = refl; barriers = refl; next_barrier = refl }) h)
