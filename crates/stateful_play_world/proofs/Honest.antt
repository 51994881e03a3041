-- The ancestries of a script's requests: a block, and its parent if it has one.
use Rattle.std.proofs.Common.{ℕ, Bool, true, false, List, [], ◌∷◌, Option, None, Some, All, map, get_or, zero, suc, refl}
use Rattle.std.proofs.lemmas.List.Elements.{All-nil, All-cons, All-head, All-tail, All-push, All-take, All-map}
use Rattle.stateful_base.specs.Names.{Named}
use Rattle.stateful_base.specs.declared.round.Round.{Round}
use Rattle.stateful_base.specs.declared.target.Target.{Target}
use Rattle.stateful_bank.specs.declared.ask.Ask.{Ask}
use Rattle.stateful_bank.specs.declared.block.BankBlock.{BankBlock}
use Rattle.stateful_history.specs.Past.{Past, Came, Made, after, after_all}
use Rattle.stateful_history.specs.Honest.{IsHonest, IsLinked}
use Rattle.stateful_history.specs.declared.entry.Entry.{Entry}
use Rattle.stateful_history.specs.declared.mark.Mark.{Mark}
use Rattle.stateful_history.specs.declared.event.Event.TheVariants.{Verify, Prepare, Propose, Finalized, Subscribe, Cancel, Fetched, Turn, Flushed, Progress, Stop, Restart}
use Rattle.stateful_script.specs.declared.script.PlannedBlock.{PlannedBlock}
use Rattle.stateful_script.specs.declared.script.PlannedEvent.{PlannedEvent}
use Rattle.stateful_script.specs.declared.script.PlannedEvent.TheVariants as line
use Rattle.stateful_exec_laws.specs.Setting.{setting}
use Rattle.stateful_actor.specs.declared.driving.Halted.{Halted}
use Rattle.stateful_script_plan.specs.declared.plan.Planned.{Planned}
use Rattle.stateful_script_plan.specs.Plan.{Outlined, ArePlanned, first, next, genesis, child, block_on, blocks_of, targets_after, states_after, first_outlined, next_outlined}
use Rattle.stateful_script_plan.specs.Events.{BankEvent, restart, planned_at, ancestry_of, ticket_after, event_of, events_from, events_of}
use Rattle.stateful_actor_step.specs.Reading.{Node}
use Rattle.stateful_play_world.specs.Grounds.{Grounds, bank, bank_counts}
use Rattle.stateful_play_world.specs.Driven.{CameOf}

all_or : {X : Type 0} (P : X → Type 0) (xs : List X) (i : ℕ) (d : X) → All P xs → P d → P (get_or xs i d)
all_or P [] i d all none = none
all_or P (x ∷ xs) zero d all none = All-head P x xs all
all_or P (x ∷ xs) (suc i) d all none = all_or P xs i d (All-tail P x xs all) none

all_front : {X Y : Type 0} (P : Y → Type 0) (f : X → Y) (xs : List X) → All P (map f xs) → All (λ x. P (f x)) xs
all_front P f [] all = All-nil (λ x. P (f x))
all_front P f (x ∷ xs) all = All-cons (λ x. P (f x)) x xs (All-head P (f x) (map f xs) all) (all_front P f xs (All-tail P (f x) (map f xs) all))

module _ {Drafts Sealed Sets : Type 0} (g : Grounds Drafts Sealed Sets) (stored : ℕ → Option (Named BankBlock)) where
  abbrev IsBesideParent : Planned → Type 0
  IsBesideParent p = IsLinked (setting (bank g) stored) (ancestry_of false p)

  genesis_linked : (targets : List Target) → IsBesideParent (genesis targets)
  unfolding genesis
  genesis_linked targets = tt

  child_linked : (parent : Planned) (b : PlannedBlock) (targets : List Target) → IsBesideParent (child parent b targets)
  unfolding child block_on
  child_linked parent b targets = (refl, tt)

  all_linked : (lines : List PlannedBlock) (outline : List (Outlined g.States)) → ArePlanned g.rules g.kind.target_of g.kind.initial lines outline → All (λ (o : Outlined g.States). IsBesideParent o.planned) outline
  all_linked lines outline first = All-cons (λ (o : Outlined g.States). IsBesideParent o.planned) (first_outlined g.rules g.kind.target_of g.kind.initial) [] (genesis_linked (targets_after g.rules g.kind.target_of g.kind.initial (Some g.kind.initial))) (All-nil (λ (o : Outlined g.States). IsBesideParent o.planned))
  all_linked lines outline (next before above b parent h there) = All-push (λ (o : Outlined g.States). IsBesideParent o.planned) above (next_outlined g.rules g.kind.target_of g.kind.initial parent b) (all_linked before above h)
      (child_linked parent.planned b (targets_after g.rules g.kind.target_of g.kind.initial (states_after g.rules g.kind.target_of g.kind.initial parent b)))

  blocks_linked : (lines : List PlannedBlock) (outline : List (Outlined g.States)) → ArePlanned g.rules g.kind.target_of g.kind.initial lines outline → All IsBesideParent (blocks_of outline)
  blocks_linked lines outline planned = All-map IsBesideParent (λ (o : Outlined g.States). o.planned) outline (all_linked lines outline planned)

  -- the event brings an honest ancestry, or none
  abbrev IsHonestEvent : BankEvent → Type 0
  IsHonestEvent e = IsHonest (setting (bank g) stored) (Came e ∷ [])

  verify_honest : (ticket : ℕ) (alone : Bool) (p : Planned) → IsBesideParent p → IsHonestEvent (Verify ticket (ancestry_of alone p))
  verify_honest ticket true p linked = (tt, tt)
  verify_honest ticket false p linked = (linked, tt)

  line_honest : (made : List Planned) (ticket : ℕ) (l : PlannedEvent) → All IsBesideParent made → IsHonestEvent (event_of made ticket l)
  line_honest made ticket (line.Verify block alone) all = verify_honest ticket alone (planned_at made block) (all_or IsBesideParent made block (genesis []) all (genesis_linked []))
  line_honest made ticket (line.Prepare parent block decision) all = (tt, tt)
  line_honest made ticket (line.Propose parent block) all = (tt, tt)
  line_honest made ticket (line.Finalize block) all = tt
  line_honest made ticket line.Subscribe all = tt
  line_honest made ticket (line.Cancel given_up) all = tt
  line_honest made ticket (line.Fetched fetch None) all = tt
  line_honest made ticket (line.Fetched fetch (Some block)) all = tt
  line_honest made ticket (line.Turn job) all = tt
  line_honest made ticket (line.Flushed barrier database stopped) all = tt
  line_honest made ticket line.Stop all = tt
  line_honest made ticket (line.Restart processed keep) all = tt

  lines_honest : (made : List Planned) (ticket : ℕ) (ls : List PlannedEvent) → All IsBesideParent made → All IsHonestEvent (events_from made ticket ls)
  lines_honest made ticket [] all = All-nil IsHonestEvent
  lines_honest made ticket (l ∷ ls) all = All-cons IsHonestEvent (event_of made ticket l) (events_from made (ticket_after ticket l) ls) (line_honest made ticket l all) (lines_honest made (ticket_after ticket l) ls all)

  events_honest : (made : List Planned) (ls : List PlannedEvent) → All IsBesideParent made → All IsHonestEvent (events_of made ls)
  unfolding events_of
  events_honest made ls all = All-cons IsHonestEvent (restart None []) (events_from made 0 ls) tt (lines_honest made 0 ls all)

  came_honest : (e : BankEvent) (p : Past BankBlock Round Ask) → IsHonestEvent e → IsHonest (setting (bank g) stored) p → IsHonest (setting (bank g) stored) (Came e ∷ p)
  came_honest (Verify ticket ancestry) p h q = (h.0, q)
  came_honest (Prepare ticket context ancestry input) p h q = (h.0, q)
  came_honest (Propose ticket context ancestry input) p h q = (h.0, q)
  came_honest (Finalized ticket block) p h q = q
  came_honest (Subscribe ticket) p h q = q
  came_honest (Cancel ticket) p h q = q
  came_honest (Fetched fetch answer) p h q = q
  came_honest (Turn job) p h q = q
  came_honest (Flushed barrier database answer) p h q = q
  came_honest (Progress database) p h q = q
  came_honest Stop p h q = q
  came_honest (Restart floor keep) p h q = q

  after_honest : (p : Past BankBlock Round Ask) (marks : List (Mark BankBlock)) → IsHonest (setting (bank g) stored) p → IsHonest (setting (bank g) stored) (after p marks)
  after_honest p [] q = q
  after_honest p (mark ∷ marks) q = after_honest (Made mark ∷ p) marks q

  entries_honest : (p : Past BankBlock Round Ask) (entries : List (Entry BankBlock Round Ask)) → IsHonest (setting (bank g) stored) p → All (λ entry. IsHonestEvent entry.event) entries → IsHonest (setting (bank g) stored) (after_all p entries)
  entries_honest p [] q all = q
  entries_honest p (entry ∷ entries) q all =
      entries_honest (after (Came entry.event ∷ p) entry.marks) entries (after_honest (Came entry.event ∷ p) entry.marks (came_honest entry.event p (All-head (λ entry. IsHonestEvent entry.event) entry entries all) q)) (All-tail (λ entry. IsHonestEvent entry.event) entry entries all)

  taken_honest : («end» : Option Halted) (events : List BankEvent) (start last : Node (bank g)) (entries : List (Entry BankBlock Round Ask))
      → CameOf (bank g) stored tt bank_counts events start entries last «end» → All IsHonestEvent events
      → All IsHonestEvent (map (λ entry. entry.event) entries)
  taken_honest None events start last entries came all = rw came.0 all
  taken_honest (Some halted) events start last entries came all = rw came.0.taken (All-take IsHonestEvent halted.at events all)

  -- where all events of the script, or some of the first, were taken in, their ancestries are honest
  pub honest_play : (lines : List PlannedBlock) (outline : List (Outlined g.States)) (ls : List PlannedEvent) («end» : Option Halted)
      (start last : Node (bank g)) (entries : List (Entry BankBlock Round Ask))
      → ArePlanned g.rules g.kind.target_of g.kind.initial lines outline
      → CameOf (bank g) stored tt bank_counts (events_of (blocks_of outline) ls) start entries last «end»
      → IsHonest (setting (bank g) stored) (after_all [] entries)
  honest_play lines outline ls «end» start last entries planned came =
      let all = events_honest (blocks_of outline) ls (blocks_linked lines outline planned) in
      let taken = taken_honest «end» (events_of (blocks_of outline) ls) start last entries came all in
      entries_honest [] entries tt (all_front IsHonestEvent (λ entry. entry.event) entries taken)
