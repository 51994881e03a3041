-- Behind the marks by which all live work ends nothing is live.
use Rattle.std.proofs.Common.{◌≡◌, ℕ, ◌==◌, Bool, true, false, not, cond, ◌&&◌, ◌||◌, ◌++◌, Option, Some, None, List, [], ◌∷◌, map, refl, sym, ap, ◌∙◌, append_assoc, Result, Ok, Err}
use Rattle.std.specs.Option.{is_some}
use Rattle.std.specs.Result.{OnOk}
use Rattle.std.specs.List.{list_any, Contains}
use Rattle.std.proofs.lemmas.Cmp.{nat_eq_equiv}
use Rattle.std.proofs.lemmas.Map.Views.{list_any-from_Contains}
use Rattle.stateful_history.specs.Past.{Past, Made, after}
use Rattle.stateful_history.specs.Live.{live_ticket, live_job, live_fetch}
use Rattle.stateful_history.specs.Barriers.{live_barrier}
use Rattle.stateful_history.specs.declared.ticket.Ticket.{Ticket}
use Rattle.stateful_history.specs.declared.mark.Mark.{Mark}
use Rattle.stateful_history.specs.declared.mark.Mark.TheVariants.{Withdrawn, Ended, Declined, Dropped}
use Rattle.stateful_history.specs.declared.mark.How.TheVariants.{Cancelled}
use Rattle.stateful_history.proofs.Marks.{after-append}
use Rattle.stateful_history.specs.Requests.{Proposal, IsLiveProposal}
use Rattle.stateful_actor_register.specs.Proposals.{live_proposal, TicketsCameNew}
use Rattle.stateful_actor_register.proofs.Proposals.{IsLiveProposal-found, live_proposal-new}
use Rattle.stateful_actor_register.specs.Live.{entry, IsListOf}
use Rattle.stateful_actor_register.specs.Register.{RegisterStands}
use Rattle.stateful_actor_register.specs.declared.register.Register.{Register}
use Rattle.stateful_actor_register.proofs.Listed.{IsListOf-same}
use Rattle.stateful_actor_register.specs.Ends.{EndsAll, LeavesNothing, withdrawn, cancelled, declined, dropped}

-- a number that is the first one, or among the others
later : (same among was : Bool) → not among && (not same && was) ≡ not (same || among) && was
later true true was = refl
later true false was = refl
later false among was = refl

later_ticket : (same among : Bool) (was : Option Ticket) → cond among None (cond same None was) ≡ cond (same || among) None was
later_ticket true true was = refl
later_ticket true false was = refl
later_ticket false among was = refl

-- nothing is left of what ended
none_and : (b : Bool) → not b && b ≡ false
none_and true = refl
none_and false = refl

-- a ticket that asks to build or not, closed among its kind
both_closed : (was : Option Ticket) (builds : Bool) → cond (is_some was && not builds) None (cond builds None was) ≡ None
both_closed None true = refl
both_closed None false = refl
both_closed (Some kind) true = refl
both_closed (Some kind) false = refl

-- a ticket can't be of both kinds
not_both : (live builds : Bool) → live && not builds ≡ true → builds ≡ true → ⊥
not_both true true other is = cc
not_both true false other is = cc
not_both false builds other is = cc

module _ {B C I : Type 0} where
  -- what each mark leaves as it is, all of them do
  kept : {X : Type 0} (view : Past B C I → X) (mark : ℕ → Mark B) → ((p : Past B C I) (n : ℕ) → view (Made (mark n) ∷ p) ≡ view p) → (p : Past B C I) (ns : List ℕ) → view (after p (map mark ns)) ≡ view p
  kept view mark keeps p [] = refl
  kept view mark keeps p (n ∷ ns) = kept view mark keeps (Made (mark n) ∷ p) ns ∙ keeps p n

  -- what each mark ends under its number, all of them end under theirs
  ended : (view : ℕ → Past B C I → Bool) (mark : ℕ → Mark B) → ((p : Past B C I) (n k : ℕ) → view k (Made (mark n) ∷ p) ≡ not (k == n) && view k p)
      → (p : Past B C I) (ns : List ℕ) (k : ℕ) → view k (after p (map mark ns)) ≡ not (list_any (λ n. k == n) ns) && view k p
  ended view mark ends p [] k = refl
  ended view mark ends p (n ∷ ns) k =
      ended view mark ends (Made (mark n) ∷ p) ns k
      ∙ ap (λ was. not (list_any (λ n. k == n) ns) && was) (ends p n k)
      ∙ later (k == n) (list_any (λ n. k == n) ns) (view k p)

  -- the tickets that each mark closes, all of them close
  closed : (mark : ℕ → Mark B) → ((p : Past B C I) (n t : ℕ) → live_ticket t (Made (mark n) ∷ p) ≡ cond (t == n) None (live_ticket t p))
      → (p : Past B C I) (ns : List ℕ) (t : ℕ) → live_ticket t (after p (map mark ns)) ≡ cond (list_any (λ n. t == n) ns) None (live_ticket t p)
  closed mark closes p [] t = refl
  closed mark closes p (n ∷ ns) t =
      closed mark closes (Made (mark n) ∷ p) ns t
      ∙ ap (λ was. cond (list_any (λ n. t == n) ns) None was) (closes p n t)
      ∙ later_ticket (t == n) (list_any (λ n. t == n) ns) (live_ticket t p)

  module _ (p : Past B C I) (marks : List (Mark B)) (all : EndsAll p marks) where
    -- behind the fetches, then the jobs, then the proposals
    abbrev qf : Past B C I
    qf = after p (withdrawn all.fetches)

    abbrev qj : Past B C I
    qj = after qf (cancelled all.jobs)

    abbrev qp : Past B C I
    qp = after qj (declined all.proposals)

    in_turn : after p marks ≡ after qp (dropped all.others)
    in_turn =
        ap (λ (ms : List (Mark B)). after p ms) all.are
        ∙ after-append p (withdrawn all.fetches ++ cancelled all.jobs ++ declined all.proposals) (dropped all.others)
        ∙ ap (λ (q : Past B C I). after q (dropped all.others))
        (after-append p (withdrawn all.fetches ++ cancelled all.jobs) (declined all.proposals)
        ∙ ap (λ (q : Past B C I). after q (declined all.proposals)) (after-append p (withdrawn all.fetches) (cancelled all.jobs)))

    -- what only a fetch's end or a job's changes stays from there on
    kept_by_tickets : {X : Type 0} (view : Past B C I → X)
        → ((q : Past B C I) (t : ℕ) → view (Made (Declined t) ∷ q) ≡ view q)
        → ((q : Past B C I) (t : ℕ) → view (Made (Dropped t) ∷ q) ≡ view q)
        → view (after p marks) ≡ view qj
    kept_by_tickets view declines drops =
        ap view in_turn ∙ kept view (λ t. Dropped t) drops qp all.others ∙ kept view (λ t. Declined t) declines qj all.proposals

    -- of each kind nothing is live behind all of them, but for barriers
    no_fetch : (f : ℕ) → live_fetch f (after p marks) ≡ false
    no_fetch f =
        kept_by_tickets (λ q. live_fetch f q) (λ q t. refl) (λ q t. refl)
        ∙ kept (λ q. live_fetch f q) (λ j. Ended j Cancelled) (λ q j. refl) qf all.jobs
        ∙ ended (λ k q. live_fetch k q) (λ g. Withdrawn g) (λ q n k. refl) p all.fetches f
        ∙ ap (λ among. not among && live_fetch f p) (all.all_fetches.each f)
        ∙ none_and (live_fetch f p)

    no_job : (j : ℕ) → live_job j (after p marks) ≡ false
    no_job j =
        kept_by_tickets (λ q. live_job j q) (λ q t. refl) (λ q t. refl)
        ∙ ended (λ k q. live_job k q) (λ k. Ended k Cancelled) (λ q n k. refl) qf all.jobs j
        ∙ ap (λ among. not among && live_job j qf) (all.all_jobs.each j)
        ∙ ap (λ was. not (live_job j p) && was) (kept (λ q. live_job j q) (λ f. Withdrawn f) (λ q f. refl) p all.fetches)
        ∙ none_and (live_job j p)

    kept_ticket : (t : ℕ) → live_ticket t qj ≡ live_ticket t p
    kept_ticket t = kept (λ q. live_ticket t q) (λ j. Ended j Cancelled) (λ q j. refl) qf all.jobs ∙ kept (λ q. live_ticket t q) (λ f. Withdrawn f) (λ q f. refl) p all.fetches

    no_ticket : (t : ℕ) → live_ticket t (after p marks) ≡ None
    no_ticket t =
        ap (λ q. live_ticket t q) in_turn
        ∙ closed (λ u. Dropped u) (λ q n u. refl) qp all.others t
        ∙ ap (λ among. cond among None (live_ticket t qp)) (all.all_others.each t)
        ∙ ap (λ was. cond (is_some (live_ticket t p) && not (live_proposal t p)) None was)
        (closed (λ u. Declined u) (λ q n u. refl) qj all.proposals t
        ∙ ap (λ among. cond among None (live_ticket t qj)) (all.all_proposals.each t)
        ∙ ap (λ was. cond (live_proposal t p) None was) (kept_ticket t))
        ∙ both_closed (live_ticket t p) (live_proposal t p)

    kept_barrier : (k : ℕ) → live_barrier k (after p marks) ≡ live_barrier k p
    kept_barrier k =
        kept_by_tickets (λ q. live_barrier k q) (λ q t. refl) (λ q t. refl)
        ∙ kept (λ q. live_barrier k q) (λ j. Ended j Cancelled) (λ q j. refl) qf all.jobs
        ∙ kept (λ q. live_barrier k q) (λ f. Withdrawn f) (λ q f. refl) p all.fetches

    pub LeavesNothing-all : LeavesNothing p marks
    LeavesNothing-all = record {
      stopped = record { tickets = no_ticket; fetches = no_fetch; jobs = no_job; barriers = λ k. refl };
      without_barriers = λ none. record { tickets = no_ticket; fetches = no_fetch; jobs = no_job; barriers = λ k. kept_barrier k ∙ none k };
    }

  -- what is declined asks to build, and what is dropped doesn't
  each_declined_builds : (p : Past B C I) (proposals : List ℕ) → IsListOf (λ t. live_proposal t p) proposals → (t : ℕ) → Contains proposals t → (r : Proposal B C I) × IsLiveProposal t p r
  each_declined_builds p proposals all t within = IsLiveProposal-found t p (sym (all.each t) ∙ list_any-from_Contains nat_eq_equiv t proposals within)

  no_dropped_builds : (p : Past B C I) (others : List ℕ) → IsListOf (λ t. is_some (live_ticket t p) && not (live_proposal t p)) others
      → TicketsCameNew p → (t : ℕ) → Contains others t → (r : Proposal B C I) → IsLiveProposal t p r → ⊥
  no_dropped_builds p others all new t within r asks =
      not_both (is_some (live_ticket t p)) (live_proposal t p) (sym (all.each t) ∙ list_any-from_Contains nat_eq_equiv t others within) (live_proposal-new t p r new asks)

  others_are : (count : ℕ) (p : Past B C I) (r : Register) → RegisterStands count p r
      → (t : ℕ) → is_some (entry r.tickets t) && not (is_some (entry r.proposals t)) ≡ is_some (live_ticket t p) && not (live_proposal t p)
  others_are count p r stands t =
      ap (λ (live : Option Ticket). is_some live && not (is_some (entry r.proposals t))) (stands.tickets t)
      ∙ ap (λ builds. is_some (live_ticket t p) && not builds) (stands.proposals t)

  -- the numbers that a register has as live are those that are live
  pub EndsAll-register : (count : ℕ) (p : Past B C I) (r : Register) (fetches jobs proposals others : List ℕ) → RegisterStands count p r
      → IsListOf (λ f. is_some (entry r.fetches f)) fetches
      → IsListOf (λ j. is_some (entry r.jobs j)) jobs
      → IsListOf (λ t. is_some (entry r.proposals t)) proposals
      → IsListOf (λ t. is_some (entry r.tickets t) && not (is_some (entry r.proposals t))) others
      → EndsAll p (withdrawn fetches ++ cancelled jobs ++ declined proposals ++ dropped others)
  EndsAll-register count p r fetches jobs proposals others stands fs js ps os = record {
    fetches = fetches;
    jobs = jobs;
    proposals = proposals;
    others = others;
    all_fetches = IsListOf-same _ _ fetches stands.fetches fs;
    all_jobs = IsListOf-same _ _ jobs stands.jobs js;
    all_proposals = IsListOf-same _ _ proposals stands.proposals ps;
    all_others = IsListOf-same _ _ others (others_are count p r stands) os;
    are = refl;
    each_builds = each_declined_builds p proposals (IsListOf-same _ _ proposals stands.proposals ps);
    no_other_builds = no_dropped_builds p others (IsListOf-same _ _ others (others_are count p r stands) os);
  }

-- what a call has appended that may be refused in its last step
pub appended_all : (B C I : Type 0) {T E : Type 0} (result : Result T E) (r : Register) (was first second third last : List (Mark B)) (fetches jobs proposals others : List ℕ)
    → IsListOf (λ f. is_some (entry r.fetches f)) fetches
    → IsListOf (λ j. is_some (entry r.jobs j)) jobs
    → IsListOf (λ t. is_some (entry r.proposals t)) proposals
    → IsListOf (λ t. is_some (entry r.tickets t) && not (is_some (entry r.proposals t))) others
    → first ≡ was ++ withdrawn fetches → second ≡ first ++ cancelled jobs → third ≡ second ++ declined proposals
    → OnOk result (last ≡ third ++ dropped others)
    → OnOk result ((count : ℕ) (p : Past B C I) → RegisterStands count p r → (ends : List (Mark B)) × (last ≡ was ++ ends) × EndsAll p ends × LeavesNothing p ends)
appended_all B C I (Err e) r was first second third last fetches jobs proposals others fs js ps os one two three four = tt
appended_all B C I (Ok x) r was first second third last fetches jobs proposals others fs js ps os one two three four = λ count p stands.
    let all = EndsAll-register count p r fetches jobs proposals others stands fs js ps os in
    (withdrawn fetches ++ cancelled jobs ++ declined proposals ++ dropped others, rw (four, three, two, one) (simp append_assoc), all, LeavesNothing-all p _ all)
