-- Where a barrier is done the receipts of durable heights are acknowledged, and what waits stands.
use Rattle.std.proofs.Common.{◌≡◌, ◌<◌, ◌+◌, ◌++◌, nat_le, nat_lt, true, ℕ, List, [], ◌∷◌, map, drop, All, Option, Some, get_or, refl, sym, subst, arith}
use Rattle.std.proofs.lemmas.Bool.{eq-eqb}
use Rattle.std.proofs.lemmas.Bool.Decides.{nat_tests}
use Rattle.std.proofs.lemmas.List.Elements.{All-nil, All-cons, All-map, All-weaker, All-filter}
use Rattle.stateful_base.specs.Names.{Named}
use Rattle.stateful_durability.specs.Durability.{after_completion, receipts_up_to, receipts_above}
use Rattle.stateful_history.specs.Past.{Past, after}
use Rattle.stateful_history.specs.declared.mark.Mark.{Mark}
use Rattle.stateful_history.specs.declared.mark.Mark.TheVariants as mark
use Rattle.stateful_exec_model.specs.Workings.{Workings}
use Rattle.stateful_exec_laws.specs.Setting.{setting}
use Rattle.stateful_loop_model.specs.Moments.{Moment}
use Rattle.stateful_loop_model.specs.Rules.{acknowledged, CompletesBarrier}
use Rattle.stateful_loop_model.specs.declared.barriers.Active.{Active}
use Rattle.stateful_loop_laws.specs.Tickets.{IsReceiptAt, TicketsStand, TicketsBehind}
use Rattle.stateful_loop_laws.proofs.tickets.Carrying.{spares_marks}
use Rattle.stateful_loop_laws.proofs.tickets.Grounded.{IsGrounded}
use Rattle.stateful_loop_laws.proofs.tickets.Saying.{IsAside, SaysSame-same}
use Rattle.stateful_loop_laws.proofs.tickets.Times.{times, times_below, times-parts, apart_fewer}
use Rattle.stateful_loop_laws.proofs.tickets.Waiting.{Other, WaitsAt, waiting, waiting_at, times-waiting, All-unmap, waits_still, TicketsStand-by}

-- what is in a list stands in it
pub times_self : (us : List ℕ) → All (λ u. 0 < times u us) us
times_self [] = All-nil (λ u. 0 < times u [])
times_self (u ∷ us) = All-cons (λ v. 0 < times v (u ∷ us)) u us (rw (eq-eqb u u refl) (omega arith))
    (All-weaker (λ v. 0 < times v us) (λ v. 0 < times v (u ∷ us)) (λ v l. omega (arith, l)) us (times_self us))

module _ {B C I P R D H G U : Type 0} (w : Workings B C I P R D H G U) (stored : ℕ → Option (Named B)) (p : Past B C I) (m : Moment w)
    (g : IsGrounded w stored p m.execution.state m.execution.build)
    (s : TicketsStand w stored p m) where
  abbrev ticket : ℕ × ℕ → ℕ
  ticket receipt = receipt.1

  module _ (active : Active) where
    abbrev height : ℕ
    height = active.height.0

    abbrev held : List (ℕ × ℕ)
    held = m.loop.durability.held

    -- the receipts that are acknowledged, and those that are held still
    abbrev done : List (ℕ × ℕ)
    done = receipts_up_to height held

    abbrev left : List (ℕ × ℕ)
    left = receipts_above height held

    abbrev Own : ℕ → Type 0
    Own u = times u (map ticket done) ≡ 0 → ⊥

    abbrev Waits_for : ℕ → Type 0
    Waits_for = Other w stored m.execution.state m.execution.build Own

    parts : (u : ℕ) → times u (map ticket done) + times u (map ticket left) ≡ times u (map ticket held)
    parts u = times-parts ticket (λ r. nat_le r.0 height) (λ r. nat_lt height r.0) (λ r. grind (arith, nat_tests)) held u

    others : All (λ u. Own u → ⊥) (waiting m.loop.queue m.loop.actions m.loop.front left)
    others = All-weaker (λ u. 0 < times u (waiting m.loop.queue m.loop.actions m.loop.front left)) (λ u. Own u → ⊥)
        (λ u there own. own (
        let below = times_below (waiting_at w stored m) s.apart u in
        let before = times-waiting u m.loop.queue m.loop.actions m.loop.front held in
        let behind = times-waiting u m.loop.queue m.loop.actions m.loop.front left in
        let split = parts u in
        omega (arith, there, below, before, behind, split)))
        (waiting m.loop.queue m.loop.actions m.loop.front left) (times_self (waiting m.loop.queue m.loop.actions m.loop.front left))

    each_aside : All (IsAside {B = B} Waits_for) (map acknowledged done)
    each_aside = All-map (IsAside {B = B} Waits_for) acknowledged done (λ k d l o. o.2 (λ none.
        let r = get_or done k d in
        let there : 0 < times r.1 (map ticket done) = All-unmap (λ u. 0 < times u (map ticket done)) ticket done
        (times_self (map ticket done)) k d l in
        omega (arith, there, none)))

    abbrev marks : List (Mark B)
    marks = mark.BarrierDone active.number active.height true ∷ map acknowledged done

    abbrev behind_it : Moment w
    behind_it = record m {
      loop = record m.loop {
        durability = record (after_completion m.loop.durability (Some active.height)) { held = left };
        barriers = drop 1 m.loop.barriers;
      };
      marks = m.marks ++ marks;
    }

    still : WaitsAt w stored (after p marks) behind_it
    still = waits_still w stored Own p (after p marks) m.execution.state m.execution.state m.execution.build m.execution.build
        (spares_marks w stored Own p p marks m.execution.state m.execution.state m.execution.build m.execution.build g
        (SaysSame-same (setting w stored) Waits_for p)
        (All-cons (IsAside Waits_for) (mark.BarrierDone active.number active.height true) (map acknowledged done) tt each_aside) refl refl refl
        (λ u off h. h))
        m.loop.queue m.loop.actions m.loop.front left others
        (record {
          queue = s.queue;
          actions = s.actions;
          front = s.front;
          held = All-filter (λ (r : ℕ × ℕ). nat_lt height r.0)
              (λ (r : ℕ × ℕ). IsReceiptAt w.header p r.1 r.0) held s.held;
        })

    -- the oldest barrier is done
    pub completes-tickets : (now : Moment w) → CompletesBarrier w active m now → TicketsBehind w stored p m now
    completes-tickets now c = subst (λ (n : Moment w). TicketsBehind w stored p m n) (sym c.becomes) (record {
      more = marks;
      marks_are = refl;
      tickets = TicketsStand-by w stored (after p marks) behind_it still
          (apart_fewer (waiting_at w stored m) (waiting m.loop.queue m.loop.actions m.loop.front left) s.apart (λ u.
          let before = times-waiting u m.loop.queue m.loop.actions m.loop.front held in
          let behind = times-waiting u m.loop.queue m.loop.actions m.loop.front left in
          let split = parts u in
          omega (arith, before, behind, split)))
          s.once;
    })
