-- Marks that end receipts and subscriptions name live ones, and the begin of a finalization names its block.
use Rattle.std.proofs.Common.{◌≡◌, ◌≢◌, ◌⊎◌, inl, inr, AllPairs, ◌==◌, if◌then◌else◌, nat_le, true, ℕ, Bool, false, List, [], ◌∷◌, map, All, Option, Some, MatchOption, get_or, refl, sym, ◌∙◌, subst, arith}
use Rattle.std.proofs.lemmas.List.Elements.{All-head, All-tail, All-filter}
use Rattle.stateful_base.specs.Names.{Named}
use Rattle.stateful_durability.specs.Durability.{receipts_up_to}
use Rattle.stateful_history.specs.Answers.{EndsLive}
use Rattle.stateful_history.specs.Asked.{finalized}
use Rattle.stateful_history.specs.Finalizations.{finalized_since}
use Rattle.stateful_history.specs.Met.{Met}
use Rattle.stateful_history.specs.Past.{Past, Came, Made, EachMark}
use Rattle.stateful_history.specs.Requests.{IsLiveReceipt, IsLiveSubscription}
use Rattle.stateful_history.specs.Setting.{Setting}
use Rattle.stateful_history.specs.declared.event.Event.TheVariants.{Finalized, Restart}
use Rattle.stateful_history.specs.declared.mark.Mark.TheVariants as mark
use Rattle.stateful_exec_model.specs.Workings.{Workings}
use Rattle.stateful_exec_laws.specs.Setting.{setting}
use Rattle.stateful_loop_model.specs.Moments.{Moment}
use Rattle.stateful_loop_model.specs.Rules.{acknowledged, Takes}
use Rattle.stateful_loop_model.specs.declared.barriers.Active.{Active}
use Rattle.stateful_loop_model.specs.declared.message.Message.TheVariants as message
use Rattle.stateful_loop_laws.specs.Tickets.{IsReceiptAt, TicketsStand}
use Rattle.stateful_loop_laws.proofs.tickets.Saying.{SaysSame-mark}
use Rattle.stateful_loop_laws.proofs.tickets.Taken.{takes-taken}
use Rattle.stateful_loop_laws.proofs.tickets.Times.{AreApart, apart_others, apart_rest, apart_fewer, times-filter}
use Rattle.stateful_loop_laws.proofs.tickets.Waiting.{apart-unmap, waiting_at, times-waiting, All-unmap}

module _ {B C I : Type 0} where
  -- what was finalized since the last restart was finalized
  pub finalized-since : (t : ℕ) (b : Named B) (p : Past B C I) → finalized_since t p ≡ Some b → finalized t p ≡ Some b
  finalized-since t b [] is = is
  finalized-since t b (Came (Restart floor keep) ∷ p) is = let never : ⊥ = cc in absurd never
  finalized-since t b (Came (Finalized u c) ∷ p) is = go (t == u) refl (finalized-since t b p)
    where
      go : (o : Bool) → (t == u) ≡ o → (finalized_since t p ≡ Some b → finalized t p ≡ Some b) → (if t == u then Some c else finalized t p) ≡ Some b
      go true same rest = rw same (rw same at is)
      go false other rest = rw other (rest (rw other at is))
  finalized-since t b (item ∷ p) is = finalized-since t b p is

  module _ {S T : Type 0} (s : Setting B S T) where
    -- the mark of a receipt that stands
    pub receipt-EndsLive : (p : Past B C I) (t height : ℕ) → IsReceiptAt s.header p t height → EndsLive s p (acknowledged (height, t))
    receipt-EndsLive p t height h = (
      h.live,
      subst (λ (o : Option (Named B)). MatchOption o ⊥ (λ b. height ≡ s.header.height b.block))
          (sym (finalized-since t h.block p h.finalized)) h.height_is,
    )

    -- the marks of receipts of different tickets, one after another
    pub receipts-EndsLive : (p : Past B C I) (receipts : List (ℕ × ℕ)) → All (λ receipt. IsReceiptAt s.header p receipt.1 receipt.0) receipts
        → AreApart (map (λ receipt. receipt.1) receipts)
        → EachMark (EndsLive s) p (map acknowledged receipts)
    receipts-EndsLive p [] all apart = tt
    receipts-EndsLive p (r ∷ receipts) all apart = (
      receipt-EndsLive p r.1 r.0 (All-head (λ (receipt : ℕ × ℕ). IsReceiptAt s.header p receipt.1 receipt.0) r receipts all),
      receipts-EndsLive
          (Made (acknowledged r) ∷ p) receipts later (apart_rest r.1 (map (λ receipt. receipt.1) receipts) apart),
    )
      where
        later : All (λ receipt. IsReceiptAt s.header (Made (acknowledged r) ∷ p) receipt.1 receipt.0) receipts
        later k d l =
            let e = get_or receipts k d in
            let h = All-tail (λ (receipt : ℕ × ℕ). IsReceiptAt s.header p receipt.1 receipt.0) r receipts all k d l in
            let other : r.1 ≢ e.1 = All-unmap (λ u. r.1 ≢ u) (λ receipt. receipt.1) receipts
            (apart_others r.1 (map (λ receipt. receipt.1) receipts) apart) k d l in
            let same = SaysSame-mark s (λ u. r.1 ≢ u) p (acknowledged r) (λ off. off refl) in
            record {
              live = same.live e.1 other ∙ h.live;
              block = h.block;
              finalized = same.finalized e.1 other
                  ∙ h.finalized;
              height_is = h.height_is;
            }

module _ {B C I S T : Type 0} (s : Setting B S T) where
  -- a block that was finalized is one of the history
  pub finalized-Met : (t : ℕ) (b : Named B) (p : Past B C I) → finalized_since t p ≡ Some b → Met s p b
  finalized-Met t b [] is = let never : ⊥ = cc in absurd never
  finalized-Met t b (Came (Restart floor keep) ∷ p) is = let never : ⊥ = cc in absurd never
  finalized-Met t b (Came (Finalized u c) ∷ p) is = go (t == u) refl (finalized-Met t b p)
    where
      go : (o : Bool) → (t == u) ≡ o → (finalized_since t p ≡ Some b → Met s p b) → (b ≡ c) ⊎ Met s p b
      go true same rest = let found : Some c ≡ Some b = rw same at is in inl (cc)
      go false other rest = inr (rest (rw other at is))
  finalized-Met t b (item ∷ p) is = inr (finalized-Met t b p is)

module _ {B C I P R D H G U : Type 0} (w : Workings B C I P R D H G U) (stored : ℕ → Option (Named B)) (p : Past B C I) (m : Moment w)
    (s : TicketsStand w stored p m) where
  -- a subscription that is taken is live
  pub answers-live : (t : ℕ) (mid : Moment w) → Takes w (message.Subscribe t) m mid → IsLiveSubscription t p
  answers-live t mid takes = (takes-taken w stored p (message.Subscribe t) m mid takes s).stands.0

  -- the finalization that is taken is of its ticket's block, and its receipt is live
  pub taken-finalized : (t : ℕ) (b : Named B) (mid : Moment w) → Takes w (message.Finalized t b) m mid → IsLiveReceipt t p
      × (finalized_since t p ≡ Some b)
  taken-finalized t b mid takes = (takes-taken w stored p (message.Finalized t b) m mid takes s).stands

  -- where it is acknowledged at once it is so rightly
  pub acknowledges-EndsLive : (t : ℕ) (b : Named B) (mid : Moment w) → Takes w (message.Finalized t b) m mid
      → EndsLive (setting w stored) p (acknowledged (w.header.height b.block, t))
  acknowledges-EndsLive t b mid takes =
      let h = taken-finalized t b mid takes in
      receipt-EndsLive (setting w stored) p t (w.header.height b.block) (record { live = h.0; block = b; finalized = h.1; height_is = refl })

  -- the receipts that are held are live, each of a ticket of its own
  pub held-live : All (λ receipt. IsLiveReceipt receipt.1 p) m.loop.durability.held
  held-live k d l = (s.held k d l).live

  tickets_apart : AreApart (map (λ receipt. receipt.1) m.loop.durability.held)
  tickets_apart = apart_fewer (waiting_at w stored m) (map (λ receipt. receipt.1) m.loop.durability.held) s.apart (λ u.
      let all = times-waiting u m.loop.queue m.loop.actions m.loop.front m.loop.durability.held in
      omega (arith, all))

  -- each is of a ticket of its own
  pub held-apart : AllPairs (λ r s. r.1 ≢ s.1) m.loop.durability.held
  held-apart = apart-unmap (λ (r : ℕ × ℕ). r.1) m.loop.durability.held tickets_apart

  -- the receipts that are acknowledged where a barrier is done are so rightly
  pub completes-EndsLive : (active : Active) → EachMark (EndsLive (setting w stored)) p
      (mark.BarrierDone active.number active.height true ∷ map acknowledged (receipts_up_to active.height.0 m.loop.durability.held))
  completes-EndsLive active = (
    tt,
    receipts-EndsLive (setting w stored)
        (Made (mark.BarrierDone active.number active.height true) ∷ p) done stand apart,
  )
    where
      done : List (ℕ × ℕ)
      done = receipts_up_to active.height.0 m.loop.durability.held

      stand : All (λ receipt. IsReceiptAt w.header (Made (mark.BarrierDone active.number active.height true) ∷ p) receipt.1 receipt.0) done
      stand k d l =
          let h = All-filter (λ (r : ℕ × ℕ). nat_le r.0 active.height.0)
          (λ (r : ℕ × ℕ). IsReceiptAt w.header p r.1 r.0) m.loop.durability.held s.held k d l in
          record { live = h.live; block = h.block; finalized = h.finalized; height_is = h.height_is }

      apart : AreApart (map (λ receipt. receipt.1) done)
      apart = apart_fewer (map (λ receipt. receipt.1) m.loop.durability.held) (map (λ receipt. receipt.1) done) tickets_apart
          (times-filter (λ (r : ℕ × ℕ). r.1) (λ r. nat_le r.0 active.height.0) m.loop.durability.held)
