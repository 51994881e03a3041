-- Each mark by which all live work ends names live work at its place.
use Rattle.std.proofs.Common.{◌≡◌, ◌≢◌, ◌<◌, ◌==◌, ◌&&◌, ◌++◌, ◌∷◌, [], if◌then◌else◌, not, ℕ, Bool, suc, true, false, None, Some, Option, List, All, AllPairs, map, get_or, is_some, refl, sym, ap, ◌∙◌, subst, arith}
use Rattle.std.specs.List.{Contains}
use Rattle.std.specs.List.Sorted.{IsStrictlyIncreasing}
use Rattle.std.proofs.lemmas.Bool.{eqb-true, eq-eqb}
use Rattle.std.proofs.lemmas.Cmp.{nat_eq_equiv}
use Rattle.std.proofs.lemmas.List.Elements.{All-head, All-tail, All-weaker, All-contains_itself}
use Rattle.std.proofs.lemmas.List.Kept.{AllPairs-from_increasing}
use Rattle.std.proofs.lemmas.Map.Views.{list_any-from_Contains}
use Rattle.stateful_history.specs.Live.{live_ticket, live_job, live_fetch}
use Rattle.stateful_history.specs.Past.{Past, Made, EachMark, after}
use Rattle.stateful_history.specs.Requests.{Proposal, IsLiveProposal}
use Rattle.stateful_history.specs.declared.mark.How.TheVariants.{Cancelled}
use Rattle.stateful_history.specs.declared.mark.Mark.{Mark}
use Rattle.stateful_history.specs.declared.mark.Mark.TheVariants.{Withdrawn, Ended, Declined, Dropped}
use Rattle.stateful_history.specs.declared.ticket.Ticket.{Ticket}
use Rattle.stateful_history.proofs.Marks.{after-append, EachMark-append}
use Rattle.stateful_actor_register.specs.Ends.{EndsAll, withdrawn, cancelled, declined, dropped}
use Rattle.stateful_actor_register.specs.Live.{IsListOf}
use Rattle.stateful_actor_register.specs.Proposals.{live_proposal}
use Rattle.stateful_exec_laws.proofs.runs.Removing.{differ}
use Rattle.stateful_exec_laws.proofs.requests.ServedMarks.{proposed-after}

-- the mark names a live fetch that is withdrawn, a live job that is cancelled, a live request to build that is declined, or a live
-- ticket that is dropped
abbrev pub NamesWork : {B C I : Type 0} → Past B C I → Mark B → Type 0
NamesWork p (Withdrawn f) = live_fetch f p ≡ true
NamesWork p (Ended j how) = (how ≡ Cancelled) × (live_job j p ≡ true)
NamesWork {B} {C} {I} p (Declined t) = (r : Proposal B C I) × IsLiveProposal t p r
NamesWork p (Dropped t) = live_ticket t p ≢ None
NamesWork p mark = ⊥

-- what is in a list passes its test
passes : (test : ℕ → Bool) (ns : List ℕ) → IsListOf test ns → (n : ℕ) → Contains ns n → test n ≡ true
passes test ns are n among = sym (are.each n) ∙ list_any-from_Contains nat_eq_equiv n ns among

not_both : (live builds : Bool) → (live && not builds) ≡ true → builds ≡ true → ⊥
not_both true true other is = cc
not_both true false other is = cc
not_both false builds other is = cc

module _ {B C I : Type 0} where
  -- what each of these marks leaves as it is, all of them do
  left : {X : Type 0} (view : Past B C I → X) (make : ℕ → Mark B) → ((q : Past B C I) (n : ℕ) → view (Made (make n) ∷ q) ≡ view q)
      → (q : Past B C I) (ns : List ℕ) → view (after q (map make ns)) ≡ view q
  left view make keeps q [] = refl
  left view make keeps q (n ∷ ns) = left view make keeps (Made (make n) ∷ q) ns ∙ keeps q n

  module _ (make : ℕ → Mark B) (Live : ℕ → Past B C I → Type 0) (names : (q : Past B C I) (n : ℕ) → Live n q → NamesWork q (make n))
      (stays : (q : Past B C I) (n k : ℕ) → (k == n) ≡ false → Live k q → Live k (Made (make n) ∷ q)) where
    -- what is live is so after the marks of others
    live_each : (q : Past B C I) (ns : List ℕ) → AllPairs (λ x y. x < y) ns → All (λ n. Live n q) ns → EachMark NamesWork q (map make ns)
    live_each q [] apart live = tt
    live_each q (n ∷ ns) apart live = (
      names q n (All-head (λ k. Live k q) n ns live),
      live_each (Made (make n) ∷ q) ns (λ i k d lt within. apart (suc i) (suc k) d (omega (arith, lt)) (omega (arith, within)))
          (λ k d within.
          let above : n < get_or ns k d = apart 0 (suc k) d (omega arith) (omega (arith, within)) in
          stays q n (get_or ns k d) (differ (get_or ns k d) n (λ same. omega (arith, above, same)))
          (All-tail (λ x. Live x q) n ns live k d within)),
    )

  -- a ticket that none of these names is as live as before
  other_tickets : (t : ℕ) (q : Past B C I) (ns : List ℕ) → All (λ n. (t == n) ≡ false) ns → live_ticket t (after q (declined ns)) ≡ live_ticket t q
  other_tickets t q [] off = refl
  other_tickets t q (n ∷ ns) off =
      let other : (t == n) ≡ false = All-head (λ k. (t == k) ≡ false) n ns off in
      other_tickets t (Made (Declined n) ∷ q) ns (All-tail (λ k. (t == k) ≡ false) n ns off) ∙ rw other refl

  module _ (p : Past B C I) (marks : List (Mark B)) (e : EndsAll p marks) where
    abbrev qf : Past B C I
    qf = after p (withdrawn e.fetches)

    abbrev qj : Past B C I
    qj = after qf (cancelled e.jobs)

    abbrev qp : Past B C I
    qp = after qj (declined e.proposals)

    rising : (ns : List ℕ) → IsStrictlyIncreasing ns → AllPairs (λ x y. x < y) ns
    rising ns up = AllPairs-from_increasing ns up

    among : (P : ℕ → Type 0) (ns : List ℕ) → ((n : ℕ) → Contains ns n → P n) → All P ns
    among P ns each = All-weaker (λ n. Contains ns n) P each ns (All-contains_itself ns)

    job_still : (j : ℕ) → live_job j qf ≡ live_job j p
    job_still j = left (λ q. live_job j q) (λ f. Withdrawn f) (λ q n. refl) p e.fetches

    ticket_still : (t : ℕ) → live_ticket t qj ≡ live_ticket t p
    ticket_still t = left (λ q. live_ticket t q) (λ j. Ended j Cancelled) (λ q n. refl) qf e.jobs
        ∙ left (λ q. live_ticket t q) (λ f. Withdrawn f) (λ q n. refl) p e.fetches

    fetches_named : EachMark NamesWork p (withdrawn e.fetches)
    fetches_named = live_each (λ f. Withdrawn f) (λ f q. live_fetch f q ≡ true) (λ q n live. live) (λ q n k other live. rw other live) p e.fetches
        (rising e.fetches e.all_fetches.ascending)
        (among (λ f. live_fetch f p ≡ true) e.fetches (passes (λ f. live_fetch f p) e.fetches e.all_fetches))

    jobs_named : EachMark NamesWork qf (cancelled e.jobs)
    jobs_named = live_each (λ j. Ended j Cancelled) (λ j q. live_job j q ≡ true) (λ q n live. (refl, live)) (λ q n k other live. rw other live) qf e.jobs
        (rising e.jobs e.all_jobs.ascending)
        (among (λ j. live_job j qf ≡ true) e.jobs (λ j has. job_still j ∙ passes (λ k. live_job k p) e.jobs e.all_jobs j has))

    abbrev Asks : ℕ → Past B C I → Type 0
    Asks t q = (r : Proposal B C I) × IsLiveProposal t q r

    proposals_named : EachMark NamesWork qj (declined e.proposals)
    proposals_named = live_each (λ t. Declined t) Asks (λ q n live. live)
        (λ q n k other live. (live.0, record { live = rw other live.1.live; proposes = live.1.proposes })) qj e.proposals
        (rising e.proposals e.all_proposals.ascending)
        (among (λ t. Asks t qj) e.proposals (λ t has. let h = e.each_builds t has in (
          h.0,
          record {
            live = ticket_still t ∙ h.1.live;
            proposes = proposed-after qf (cancelled e.jobs) t ∙ proposed-after p (withdrawn e.fetches) t ∙ h.1.proposes;
          },
        )))

    some_of : (t : ℕ) (o : Option Ticket) (b : Bool) → (is_some o && b) ≡ true → o ≢ None
    some_of t None b some none = cc
    some_of t (Some x) b some none = cc

    others_named : EachMark NamesWork qp (dropped e.others)
    others_named = live_each (λ t. Dropped t) (λ t q. live_ticket t q ≢ None) (λ q n live. live) (λ q n k other live none. live (rw other at none)) qp
        e.others
        (rising e.others e.all_others.ascending)
        (among (λ t. live_ticket t qp ≢ None) e.others (λ t has none.
        let own = passes (λ u. is_some (live_ticket u p) && not (live_proposal u p)) e.others e.all_others t has in
        some_of t (live_ticket t p) (not (live_proposal t p)) own
        (sym (other_tickets t qj e.proposals (among (λ n. (t == n) ≡ false) e.proposals (λ n declines. differ t n (λ same. not_both (is_some (live_ticket t p)) (live_proposal t p) own
        (subst (λ k. live_proposal k p ≡ true) same (passes (λ u. live_proposal u p) e.proposals e.all_proposals n declines)))))
        ∙ ticket_still t) ∙ none)))

    -- Each of them names live work.
    pub EndsAll-named : EachMark NamesWork p marks
    EndsAll-named =
        let two : EachMark NamesWork p (withdrawn e.fetches ++ cancelled e.jobs) =
        EachMark-append NamesWork p (withdrawn e.fetches) (cancelled e.jobs) fetches_named jobs_named in
        let jobs_are : after p (withdrawn e.fetches ++ cancelled e.jobs) ≡ qj = after-append p (withdrawn e.fetches) (cancelled e.jobs) in
        let three : EachMark NamesWork p (withdrawn e.fetches ++ cancelled e.jobs ++ declined e.proposals) =
        EachMark-append NamesWork p (withdrawn e.fetches ++ cancelled e.jobs) (declined e.proposals) two
        (subst (λ (q : Past B C I). EachMark NamesWork q (declined e.proposals)) (sym jobs_are) proposals_named) in
        let proposals_are : after p (withdrawn e.fetches ++ cancelled e.jobs ++ declined e.proposals) ≡ qp =
        after-append p (withdrawn e.fetches ++ cancelled e.jobs) (declined e.proposals)
        ∙ ap (λ (q : Past B C I). after q (declined e.proposals)) jobs_are in
        subst (λ (ms : List (Mark B)). EachMark NamesWork p ms) (sym e.are)
        (EachMark-append NamesWork p (withdrawn e.fetches ++ cancelled e.jobs ++ declined e.proposals) (dropped e.others) three
        (subst (λ (q : Past B C I). EachMark NamesWork q (dropped e.others)) (sym proposals_are) others_named))
