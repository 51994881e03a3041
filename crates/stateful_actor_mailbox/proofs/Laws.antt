-- That a new mailbox keeps the laws, whatever calls come.
use Rattle.std.proofs.Common.{◌≡◌, ◌≢◌, ℕ, ◌+◌, ◌≤◌, ◌<◌, ◌==◌, Bool, true, false, cond, Option, Some, None, List, [], ◌∷◌, ◌++◌, length, All, refl, sym, ap, subst, ◌∙◌, arith, length-append}
use Rattle.std.specs.Prelude.{nat_lt}
use Rattle.std.specs.List.{filter_map, flat_map}
use Rattle.std.proofs.lemmas.Bool.{eq-eqb}
use Rattle.std.proofs.lemmas.Bool.Decides.{nat_tests}
use Rattle.std.proofs.lemmas.List.Elements.{All-nil, All-cons, All-head, All-tail}
use Rattle.std.proofs.lemmas.Option.{none-some, same_Some}
use Rattle.stateful_history.specs.declared.event.Event.{Event}
use Rattle.stateful_history.specs.declared.event.Event.TheVariants as events
use Rattle.stateful_actor_mailbox.specs.Replies.{is_request, note_of}
use Rattle.stateful_actor_mailbox.specs.Messages.{kind_of}
use Rattle.stateful_actor_mailbox.specs.Tickets.{empty_book, ticket_of, stands_due, stands_queued, handing, cancelling, cancelling_from, telling, first_due}
use Rattle.stateful_actor_mailbox.specs.Mail.{Mail, empty_mail, Takes, polled_as}
use Rattle.stateful_actor_mailbox.specs.Mail as mailbox
use Rattle.stateful_actor_mailbox.specs.Laws.{Call, Steps, asks, cancels, takes, hears, polls, Runs, asks_of, marks_of, ticket_in, ended_in, TakesOut, HandsReply, KeepsLaws}
use Rattle.stateful_actor_mailbox.specs.Laws as calls
use Rattle.stateful_actor_mailbox.specs.declared.message.Ask.{Ask}
use Rattle.stateful_actor_mailbox.specs.declared.reply.Kind.{Kind}
use Rattle.stateful_actor_mailbox.specs.declared.tickets.Ticket.{Ticket}
use Rattle.stateful_actor_mailbox.specs.declared.tickets.Standing.{Standing}
use Rattle.stateful_actor_mailbox.specs.declared.tickets.Standing.TheVariants.{Queued, Handed, Due, Cancelled, Ended}
use Rattle.stateful_actor_mailbox.proofs.Books.{or_same}
use Rattle.stateful_actor_mailbox.proofs.Seeing.{seen, end_seen, changed, seen_fresh}
use Rattle.stateful_actor_mailbox.proofs.Moving.{AreSound, StandsAs, due_least}
use Rattle.stateful_actor_mailbox.proofs.Stepping.{event_as, stepped, hands_tickets, answered_number}
use Rattle.stateful_actor_mailbox.proofs.Fates.{or_else, end_told, EndsAs}
use Rattle.stateful_actor_mailbox.proofs.Following.{is_cancel, Means, cancel, hands, other, meaning, Fits, taken_fits, fits, Keeps, one_kept, all_kept, ended_more}
use Rattle.stateful_actor_mailbox.proofs.Replying.{calls_end}
use Rattle.stateful_actor_mailbox.proofs.Staying.{is_early, is_settled, isnt_queued, is_queued_or_cancelled, is_handed_or_due, Passing, early_kept, settled_kept, not_queued_kept, call_passes, IsThere, queued_stable, handed_stable, due_stable, IsQuiet, call_stays}

all_of : {X : Type 0} (P : X → Type 0) → ((x : X) → P x) → (xs : List X) → All P xs
all_of P every [] = All-nil P
all_of P every (x ∷ xs) = All-cons P x xs (every x) (all_of P every xs)

all_parts : {X : Type 0} (P : X → Type 0) (xs ys : List X) → All P (xs ++ ys) → All P xs × All P ys
all_parts P [] ys all = (All-nil P, all)
all_parts P (x ∷ xs) ys all =
    let rest = all_parts P xs ys (All-tail P x (xs ++ ys) all) in
    (All-cons P x xs (All-head P x (xs ++ ys) all) rest.0, rest.1)

neither : {X : Type 0} (a b : Option X) → or_else a b ≡ None → (a ≡ None) × (b ≡ None)
neither None b none = (refl, none)
neither (Some x) b none = absurd (none-some x (sym none))

-- ---- what a standing rules out

module _ {B : Type 0} where
  pub settled_never : (kind : Kind) (b : Bool) (s : Option (Ticket B)) → StandsAs (cond b stands_due stands_queued) s → Passing kind is_settled s → ⊥
  settled_never kind b None stands passes = stands
  settled_never kind b (Some ticket) stands passes = go b ticket.standing stands passes.1
    where
      go : (b : Bool) (standing : Standing B) → cond b stands_due stands_queued standing ≡ true → is_settled standing ≡ true → ⊥
      go true Cancelled is settled = cc
      go true (Ended o) is settled = cc
      go true Queued is settled = cc
      go true Handed is settled = cc
      go true Due is settled = cc
      go false Cancelled is settled = cc
      go false (Ended o) is settled = cc
      go false Queued is settled = cc
      go false Handed is settled = cc
      go false Due is settled = cc

  pub queued_never : (kind : Kind) (s : Option (Ticket B)) → StandsAs stands_queued s → Passing kind isnt_queued s → ⊥
  queued_never kind None stands passes = stands
  queued_never kind (Some ticket) stands passes = go ticket.standing stands passes.1
    where
      go : (standing : Standing B) → stands_queued standing ≡ true → isnt_queued standing ≡ true → ⊥
      go Cancelled is passes = cc
      go (Ended o) is passes = cc
      go Queued is passes = cc
      go Handed is passes = cc
      go Due is passes = cc

  -- a request that is cancelled early is settled
  pub cancel_settles : (kind : Kind) (b : Bool) (s : Option (Ticket B)) → is_request kind ≡ true → b ≡ true → Passing kind is_early s → Passing kind is_settled (changed cancelling b s)
  cancel_settles kind false s request is passes = absurd (cc)
  cancel_settles kind true None request is passes = tt
  cancel_settles kind true (Some ticket) request is passes = go (is_request ticket.kind) (ap is_request passes.0 ∙ request) ticket.standing passes.1
    where
      go : (r : Bool) → r ≡ true → (standing : Standing B) → is_early standing ≡ true → Passing kind is_settled (or_same (cond r (cancelling_from ticket.kind standing) None) (Some (ticket_of ticket.kind standing)))
      go false no_request standing early = absurd (cc)
      go true yes_request Queued early = (passes.0, refl)
      go true yes_request Cancelled early = (passes.0, refl)
      go true yes_request (Ended o) early = (passes.0, refl)
      go true yes_request Handed early = absurd (cc)
      go true yes_request Due early = absurd (cc)

  -- a request that is cancelled once it was handed out is due
  pub cancel_due : (kind : Kind) (b : Bool) (s : Option (Ticket B)) → is_request kind ≡ true → b ≡ true → IsThere kind is_handed_or_due s → IsThere kind stands_due (changed cancelling b s)
  cancel_due kind false s request is there = absurd (cc)
  cancel_due kind true s request is (standing, at, passes) = subst (λ (w : Option (Ticket B)). IsThere kind stands_due (or_same (cancelling w) w)) (sym at) (go (is_request kind) request standing passes)
    where
      go : (r : Bool) → r ≡ true → (standing : Standing B) → is_handed_or_due standing ≡ true → IsThere kind stands_due (or_same (cond r (cancelling_from kind standing) None) (Some (ticket_of kind standing)))
      go false no_request standing passes = absurd (cc)
      go true yes_request Handed passes = (Due, refl, refl)
      go true yes_request Due passes = (Due, refl, refl)
      go true yes_request Queued passes = absurd (cc)
      go true yes_request Cancelled passes = absurd (cc)
      go true yes_request (Ended o) passes = absurd (cc)

  pub handed_there : (kind : Kind) (b : Bool) (s : Option (Ticket B)) → b ≡ true → IsThere kind is_queued_or_cancelled s → IsThere kind is_handed_or_due (changed handing b s)
  handed_there kind false s is there = absurd (cc)
  handed_there kind true s is (standing, at, passes) = subst (λ (w : Option (Ticket B)). IsThere kind is_handed_or_due (or_same (handing w) w)) (sym at) (Handed, refl, refl)

  pub not_due_yet : (kind : Kind) (s : Option (Ticket B)) → StandsAs stands_due s → IsThere kind is_queued_or_cancelled s → ⊥
  not_due_yet kind s stands (standing, at, passes) = go standing (subst (StandsAs stands_due) at stands) passes
    where
      go : (standing : Standing B) → stands_due standing ≡ true → is_queued_or_cancelled standing ≡ true → ⊥
      go Cancelled is passes = cc
      go (Ended o) is passes = cc
      go Queued is passes = cc
      go Handed is passes = cc
      go Due is passes = cc

-- ---- runs

module _ {B : Type 0} where
  first_sound : AreSound {B = B} 0 empty_book
  first_sound = record { below = record { fresh = λ t above. refl; stopped = omega arith }; ascend = tt }

module _ {B C I : Type 0} where
  pub run_split : (list more : List (Call B C I)) (m last : Mail B C I) → Runs m (list ++ more) last → (mid : Mail B C I) × Runs m list mid × Runs mid more last
  run_split [] more m last runs = (m, refl, runs)
  run_split (call ∷ list) more m last runs =
      let rest = run_split list more runs.0 last runs.2 in
      (rest.0, (runs.0, runs.1, rest.1), rest.2)

  run_sound : (list : List (Call B C I)) (m last : Mail B C I) → AreSound m.next_ticket m.tickets → Runs m list last → AreSound last.next_ticket last.tickets
  run_sound [] m last sound runs = subst (λ (w : Mail B C I). AreSound w.next_ticket w.tickets) (sym runs) sound
  run_sound (call ∷ list) m last sound runs = run_sound list runs.0 last (stepped 0 m runs.0 call sound runs.1).sound runs.2

  step_number : (m after : Mail B C I) (call : Call B C I) → Steps m call after → after.next_ticket ≡ m.next_ticket + length (asks_of call)
  step_number m after call (asks {ask = ask} {ticket = u} feedback does) = let e = ap (λ (w : Mail B C I). w.next_ticket) does.others in let d = does.drawn in omega arith
  step_number m after call cancels = omega arith
  step_number m after call (hears {marks = marks}) = let e = answered_number (filter_map note_of marks) m in omega arith
  step_number m after call polls = omega arith
  step_number m after call (takes {found = found} does) = go does
    where
      go : {found : Option (Event B C I)} {after : Mail B C I} → Takes m found after → after.next_ticket ≡ m.next_ticket + 0
      go (mailbox.cancel due) = omega arith
      go (mailbox.event {message = message} {next = next} none gives) = let e = (hands_tickets m next (Some message) gives).1 in omega arith
      go (mailbox.nothing {next = next} none gives) = let e = (hands_tickets m next None gives).1 in omega arith

  run_number : (list : List (Call B C I)) (m last : Mail B C I) → Runs m list last → last.next_ticket ≡ m.next_ticket + length (flat_map asks_of list)
  run_number [] m last runs = let e = ap (λ (w : Mail B C I). w.next_ticket) runs in omega arith
  run_number (call ∷ list) m last runs =
      let rest = run_number list runs.0 last runs.2 in
      let one = step_number m runs.0 call runs.1 in
      let both = length-append (asks_of call) (flat_map asks_of list) in
      omega arith

  -- a ticket that is drawn is queued
  asked_kept : (m after : Mail B C I) (ask : Ask B C I) (t : ℕ) → AreSound m.next_ticket m.tickets → Steps m (calls.asked ask t) after
      → Keeps t (λ s. s ≡ Some (ticket_of (kind_of ask) Queued)) after
  asked_kept m after ask t sound step =
      let does = stepped t m after (calls.asked ask t) sound step in
      record {
        sound = does.sound;
        drawn = drawn step;
        holds = does.stands ∙ ap (λ b. cond b (Some (ticket_of (kind_of ask) Queued)) (seen m.tickets t)) (eq-eqb t t refl);
      }
    where
      drawn : Steps m (calls.asked ask t) after → t < after.next_ticket
      drawn (asks feedback does) = let e = ap (λ (w : Mail B C I). w.next_ticket) does.others in omega arith

  drawn_as : (m after : Mail B C I) (ask : Ask B C I) (t : ℕ) → Steps m (calls.asked ask t) after → t ≡ m.next_ticket
  drawn_as m after ask t (asks feedback does) = does.drawn

  still_settled : (t : ℕ) (kind : Kind) (list : List (Call B C I)) (m last : Mail B C I) → Runs m list last → Keeps t (Passing kind is_settled) m → Keeps t (Passing kind is_settled) last
  still_settled t kind list m last runs keeps =
      all_kept t (Passing {B = B} kind is_settled) (λ call. Unit {0}) (λ call s fine fit passes. call_passes t kind is_settled settled_kept call s (λ lets. absurd (cc)) fit passes)
      list m last (all_of (λ call. Unit {0}) (λ call. tt) list) runs keeps

  keeps_so : (t : ℕ) (P Q : Option (Ticket B) → Type 0) (m : Mail B C I) → ((s : Option (Ticket B)) → P s → Q s) → Keeps t P m → Keeps t Q m
  keeps_so t P Q m so keeps = record { sound = keeps.sound; drawn = keeps.drawn; holds = so (seen m.tickets t) keeps.holds }

  taken_step_of : (m after : Mail B C I) (found : Option (Event B C I)) → Steps m (calls.taken found) after → Takes m found after
  taken_step_of m after found (takes does) = does

  -- a ticket of which something is taken out was drawn
  taken_keeps : (t : ℕ) (m after : Mail B C I) (event : Event B C I) → AreSound m.next_ticket m.tickets → Steps m (calls.taken (Some event)) after → ticket_in event ≡ Some t
      → Keeps t (StandsAs (cond (is_cancel event) stands_due stands_queued)) m
  taken_keeps t m after event sound step of =
      let stands = taken_fits t m (Some event) after sound (taken_step_of m after (Some event) step) of in
      record { sound = sound; drawn = drawn stands; holds = stands }
    where
      drawn : StandsAs (cond (is_cancel event) stands_due stands_queued) (seen m.tickets t) → t < m.next_ticket
      drawn stands = go (nat_lt t m.next_ticket) refl
        where
          go : (b : Bool) → nat_lt t m.next_ticket ≡ b → t < m.next_ticket
          go true less = grind (arith, nat_tests)
          go false more =
              let above : m.next_ticket ≤ t = grind (arith, nat_tests) in
              absurd (subst (StandsAs (cond (is_cancel event) stands_due stands_queued)) (seen_fresh m.next_ticket m.tickets t sound.below above) stands)

  quiet_all : (t : ℕ) (kind : Kind) (list : List (Call B C I)) → All (λ call. TakesOut t call → ⊥) list → ended_in t kind list ≡ None → All (IsQuiet t kind) list
  quiet_all t kind [] silent none = All-nil (IsQuiet t kind)
  quiet_all t kind (call ∷ list) silent none =
      let both = neither (end_told t kind (marks_of call)) (ended_in t kind list) (sym (ended_more t kind call list) ∙ none) in
      All-cons (IsQuiet t kind) call list (All-head (λ call. TakesOut t call → ⊥) call list silent, both.0)
      (quiet_all t kind list (All-tail (λ call. TakesOut t call → ⊥) call list silent) both.1)

  -- ---- the laws

  replies_law : (t : ℕ) (ask : Ask B C I) (m after last : Mail B C I) (between behind : List (Call B C I)) (answer : _) → AreSound m.next_ticket m.tickets
      → Steps m (calls.asked ask t) after → Runs after (between ++ calls.polled_for t answer ∷ behind) last → All (λ call. HandsReply t call → ⊥) between
      → answer ≡ polled_as (ended_in t (kind_of ask) between)
  replies_law t ask m after last between behind answer sound step runs silent =
      let kind = kind_of ask in
      let q = run_split between (calls.polled_for t answer ∷ behind) after last runs in
      let drawn = keeps_so t (λ s. s ≡ Some (ticket_of kind Queued)) (λ s. EndsAs t kind s None) after (λ s is. (Queued, is, refl)) (asked_kept m after ask t sound step) in
      let keeps = calls_end t kind between after q.0 None silent q.1 drawn in
      fits t q.0 q.2.0 (calls.polled_for t answer) keeps.sound keeps.drawn q.2.1 refl ∙ ap polled_as (ap end_seen keeps.holds.1 ∙ keeps.holds.2)

  withdrawn_law : (t : ℕ) (ask : Ask B C I) (m after last : Mail B C I) (between later behind : List (Call B C I)) (event : Event B C I) → AreSound m.next_ticket m.tickets
      → Steps m (calls.asked ask t) after → Runs after (between ++ calls.cancelled t ∷ (later ++ calls.taken (Some event) ∷ behind)) last
      → is_request (kind_of ask) ≡ true → All (λ call. TakesOut t call → ⊥) between → ticket_in event ≢ Some t
  withdrawn_law t ask m after last between later behind event sound step runs request silent of =
      let kind = kind_of ask in
      let Early = Passing {B = B} kind is_early in
      let Settled = Passing {B = B} kind is_settled in
      let q = run_split between (calls.cancelled t ∷ (later ++ calls.taken (Some event) ∷ behind)) after last runs in
      let drawn = keeps_so t (λ s. s ≡ Some (ticket_of kind Queued)) Early after (λ s is. subst Early (sym is) (refl, refl)) (asked_kept m after ask t sound step) in
      let early = all_kept t Early (λ call. TakesOut t call → ⊥) (λ call s fine fit passes. call_passes t kind is_early early_kept call s (λ lets. fine) fit passes) between after q.0 silent q.1 drawn in
      let settled = one_kept t Early Settled q.0 q.2.0 (calls.cancelled t) (λ s fit passes. cancel_settles kind (t == t) s request (eq-eqb t t refl) passes) q.2.1 early in
      let r = run_split later (calls.taken (Some event) ∷ behind) q.2.0 last q.2.2 in
      let still = still_settled t kind later q.2.0 r.0 r.1 settled in
      settled_never kind (is_cancel event) (seen r.0.tickets t) (taken_fits t r.0 (Some event) r.2.0 still.sound (taken_step_of r.0 r.2.0 (Some event) r.2.1) of) still.holds

  once_law : (t : ℕ) (m after last : Mail B C I) (between behind : List (Call B C I)) (first second : Event B C I) → AreSound m.next_ticket m.tickets
      → Steps m (calls.taken (Some first)) after → Runs after (between ++ calls.taken (Some second) ∷ behind) last → ticket_in first ≡ Some t → ticket_in second ≡ Some t
      → (first ≢ events.Cancel t) × (second ≡ events.Cancel t)
  once_law t m after last between behind first second sound step runs of of_second = go (seen m.tickets t) refl had.holds (meaning t first)
    where
      had : Keeps t (StandsAs (cond (is_cancel first) stands_due stands_queued)) m
      had = taken_keeps t m after first sound step of

      q : (mid : Mail B C I) × Runs after between mid × Runs mid (calls.taken (Some second) ∷ behind) last
      q = run_split between (calls.taken (Some second) ∷ behind) after last runs

      again : AreSound q.0.next_ticket q.0.tickets → StandsAs (cond (is_cancel second) stands_due stands_queued) (seen q.0.tickets t)
      again sound = taken_fits t q.0 (Some second) q.2.0 sound (taken_step_of q.0 q.2.0 (Some second) q.2.1) of_second

      told : (kind : Kind) (b : Bool) (s : Option (Ticket B)) → b ≡ true → (ticket : Ticket B) → s ≡ Some ticket → ticket.kind ≡ kind → Passing kind is_settled (changed telling b s)
      told kind false s is ticket at same = absurd (cc)
      told kind true s is ticket at same = subst (λ (w : Option (Ticket B)). Passing kind is_settled (or_same (telling w) w)) (sym at) (same, refl)

      handed : (kind : Kind) (b : Bool) (s : Option (Ticket B)) → b ≡ true → (ticket : Ticket B) → s ≡ Some ticket → ticket.kind ≡ kind → Passing kind isnt_queued (changed handing b s)
      handed kind false s is ticket at same = absurd (cc)
      handed kind true s is ticket at same = subst (λ (w : Option (Ticket B)). Passing kind isnt_queued (or_same (handing w) w)) (sym at) (same, refl)

      cancels_it : (kind : Kind) → Keeps t (Passing kind isnt_queued) q.0 → second ≡ events.Cancel t
      cancels_it kind keeps = cases (meaning t second)
        where
          cases : Means t second → second ≡ events.Cancel t
          cases (cancel u is) = is ∙ ap events.Cancel (same_Some u t (sym (ap ticket_in is) ∙ of_second))
          cases (hands u of plain gives) = absurd (queued_never kind (seen q.0.tickets t) (subst (λ (b : Bool). StandsAs (cond b stands_due stands_queued) (seen q.0.tickets t)) plain (again keeps.sound)) keeps.holds)
          cases (other none gives) = absurd (none-some t (sym none ∙ of_second))

      go : (s : Option (Ticket B)) → seen m.tickets t ≡ s → StandsAs (cond (is_cancel first) stands_due stands_queued) (seen m.tickets t) → Means t first → (first ≢ events.Cancel t) × (second ≡ events.Cancel t)
      go None at stands meant = absurd (subst (StandsAs (cond (is_cancel first) stands_due stands_queued)) at stands)
      go (Some ticket) at stands (cancel u is) =
          let here : (u == t) ≡ true = eq-eqb u t (same_Some u t (sym (ap ticket_in is) ∙ of)) in
          let P = λ (s : Option (Ticket B)). s ≡ Some ticket in
          let start : Keeps t P m = record { sound = had.sound; drawn = had.drawn; holds = at } in
          let behind_it = one_kept t P (Passing ticket.kind is_settled) m after (calls.taken (Some first))
          (λ s fit at. subst (λ (e : Event B C I). Passing ticket.kind is_settled (event_as t e s)) (sym is) (told ticket.kind (u == t) s here ticket at refl)) step start in
          let still = still_settled t ticket.kind between after q.0 q.1 behind_it in
          absurd (settled_never ticket.kind (is_cancel second) (seen q.0.tickets t) (again still.sound) still.holds)
      go (Some ticket) at stands (hands u of_first plain gives) =
          let here : (u == t) ≡ true = eq-eqb u t (same_Some u t (sym of_first ∙ of)) in
          let P = λ (s : Option (Ticket B)). s ≡ Some ticket in
          let start : Keeps t P m = record { sound = had.sound; drawn = had.drawn; holds = at } in
          let behind_it = one_kept t P (Passing ticket.kind isnt_queued) m after (calls.taken (Some first))
          (λ s fit at. subst (Passing ticket.kind isnt_queued) (sym (gives s)) (handed ticket.kind (u == t) s here ticket at refl)) step start in
          let still = all_kept t (Passing {B = B} ticket.kind isnt_queued) (λ call. Unit {0}) (λ call s fine fit passes. call_passes t ticket.kind isnt_queued not_queued_kept call s (λ lets. absurd (cc)) fit passes)
          between after q.0 (all_of (λ call. Unit {0}) (λ call. tt) between) q.1 behind_it in
          (λ is. absurd (let e = sym plain ∙ ap is_cancel is in cc), cancels_it ticket.kind still)
      go (Some ticket) at stands (other none gives) = absurd (none-some t (sym none ∙ of))

  told_law : (t : ℕ) (ask : Ask B C I) (m after last : Mail B C I) (one two three behind : List (Call B C I)) (event : Event B C I) (found : Option (Event B C I)) → AreSound m.next_ticket m.tickets
      → Steps m (calls.asked ask t) after → Runs after (one ++ calls.taken (Some event) ∷ (two ++ calls.cancelled t ∷ (three ++ calls.taken found ∷ behind))) last
      → is_request (kind_of ask) ≡ true → ticket_in event ≡ Some t → All (λ call. TakesOut t call → ⊥) (one ++ two ++ three) → ended_in t (kind_of ask) (one ++ two ++ three) ≡ None
      → (u : ℕ) × (found ≡ Some (events.Cancel u)) × (u ≤ t)
  told_law t ask m after last one two three behind event found sound step runs request of silent live =
      let kind = kind_of ask in
      let InQueue = IsThere {B = B} kind is_queued_or_cancelled in
      let HandedOut = IsThere {B = B} kind is_handed_or_due in
      let ToTell = IsThere {B = B} kind stands_due in
      let quiet = all_parts (IsQuiet t kind) (one ++ two) three (quiet_all t kind (one ++ two ++ three) silent live) in
      let earlier = all_parts (IsQuiet t kind) one two quiet.0 in
      let q = run_split one (calls.taken (Some event) ∷ (two ++ calls.cancelled t ∷ (three ++ calls.taken found ∷ behind))) after last runs in
      let drawn = keeps_so t (λ s. s ≡ Some (ticket_of kind Queued)) InQueue after (λ s is. (Queued, is, refl)) (asked_kept m after ask t sound step) in
      let queued = all_kept t InQueue (IsQuiet t kind) (λ call s fine fit there. call_stays t kind is_queued_or_cancelled queued_stable call s fine fit there) one after q.0 earlier.0 q.1 drawn in
      let handed = one_kept t InQueue HandedOut q.0 q.2.0 (calls.taken (Some event)) (λ s fit there. hand s fit there) q.2.1 queued in
      let r = run_split two (calls.cancelled t ∷ (three ++ calls.taken found ∷ behind)) q.2.0 last q.2.2 in
      let still = all_kept t HandedOut (IsQuiet t kind) (λ call s fine fit there. call_stays t kind is_handed_or_due handed_stable call s fine fit there) two q.2.0 r.0 earlier.1 r.1 handed in
      let due = one_kept t HandedOut ToTell r.0 r.2.0 (calls.cancelled t) (λ s fit there. cancel_due kind (t == t) s request (eq-eqb t t refl) there) r.2.1 still in
      let p = run_split three (calls.taken found ∷ behind) r.2.0 last r.2.2 in
      let last_due = all_kept t ToTell (IsQuiet t kind) (λ call s fine fit there. call_stays t kind stands_due due_stable call s fine fit there) three r.2.0 p.0 quiet.1 p.1 due in
      let least = due_least p.0.next_ticket p.0.tickets t last_due.sound (subst (StandsAs stands_due) (sym last_due.holds.1) last_due.holds.2) in
      (least.0, takes_due least.0 p.0 p.2.0 found (taken_step_of p.0 p.2.0 found p.2.1) least.1, least.2)
    where
      hand : (s : Option (Ticket B)) → Fits t (calls.taken (Some event)) s → IsThere (kind_of ask) is_queued_or_cancelled s → IsThere (kind_of ask) is_handed_or_due (event_as t event s)
      hand s fit there = go (meaning t event)
        where
          go : Means t event → IsThere (kind_of ask) is_handed_or_due (event_as t event s)
          go (cancel u is) = absurd (not_due_yet (kind_of ask) s (subst (λ (e : Event B C I). Fits t (calls.taken (Some e)) s) is fit (sym (ap ticket_in is) ∙ of)) there)
          go (hands u of_it plain gives) = subst (IsThere (kind_of ask) is_handed_or_due) (sym (gives s)) (handed_there (kind_of ask) (u == t) s (eq-eqb u t (same_Some u t (sym of_it ∙ of))) there)
          go (other none gives) = absurd (none-some t (sym none ∙ of))

      takes_due : (u : ℕ) (m after : Mail B C I) (found : Option (Event B C I)) → Takes m found after → first_due m.tickets ≡ Some u → found ≡ Some (events.Cancel u)
      takes_due u m after found (mailbox.cancel {t = v} due) is = ap (λ w. Some (events.Cancel w)) (same_Some v u (sym due ∙ is))
      takes_due u m after found (mailbox.event none gives) is = absurd (none-some u (sym none ∙ is))
      takes_due u m after found (mailbox.nothing none gives) is = absurd (none-some u (sym none ∙ is))

  pub KeepsLaws-new : (capacity : ℕ) → KeepsLaws {B = B} {C = C} {I = I} (empty_mail capacity)
  KeepsLaws-new capacity list last runs =
      let first : Mail B C I = empty_mail capacity in
      let at : (before behind : List (Call B C I)) → list ≡ before ++ behind → (mid : Mail B C I) × Runs first before mid × Runs mid behind last =
      λ before behind place. run_split before behind first last (subst (λ w. Runs first w last) place runs) in
      let sound_at : (before : List (Call B C I)) (mid : Mail B C I) → Runs first before mid → AreSound mid.next_ticket mid.tickets =
      λ before mid r. run_sound before first mid first_sound r in
      record {
        numbers = λ before behind ask t place.
            let r = at before (calls.asked ask t ∷ behind) place in
            drawn_as r.0 r.2.0 ask t r.2.1 ∙ (let e = run_number before first r.0 r.1 in omega arith);
        replies = λ before between behind ask t answer place silent.
            let r = at before (calls.asked ask t ∷ (between ++ calls.polled_for t answer ∷ behind)) place in
            replies_law t ask r.0 r.2.0 last between behind answer (sound_at before r.0 r.1) r.2.1 r.2.2 silent;
        withdrawn = λ before between later behind ask t event place request silent.
            let r = at before (calls.asked ask t ∷ (between ++ calls.cancelled t ∷ (later ++ calls.taken (Some event) ∷ behind))) place in
            withdrawn_law t ask r.0 r.2.0 last between later behind event (sound_at before r.0 r.1) r.2.1 r.2.2 request silent;
        once = λ before between behind one_event second t place of of_second.
            let r = at before (calls.taken (Some one_event) ∷ (between ++ calls.taken (Some second) ∷ behind)) place in
            once_law t r.0 r.2.0 last between behind one_event second (sound_at before r.0 r.1) r.2.1 r.2.2 of of_second;
        told_of = λ before one two three behind ask t event found place request of silent live.
            let r = at before (calls.asked ask t ∷ (one ++ calls.taken (Some event) ∷ (two ++ calls.cancelled t ∷ (three ++ calls.taken found ∷ behind)))) place in
            told_law t ask r.0 r.2.0 last one two three behind event found (sound_at before r.0 r.1) r.2.1 r.2.2 request of silent live;
      }
