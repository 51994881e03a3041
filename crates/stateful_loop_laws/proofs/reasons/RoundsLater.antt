-- A finalized block on the anchor is of a later round than the anchor, where rounds rise; and the block of the finalization that goes on
-- came as finalized.
use Rattle.std.proofs.Common.{◌≡◌, ◌==◌, if◌then◌else◌, ℕ, Bool, true, false, [], ◌∷◌, Contains, Option, Some, None, IfSome, refl, sym, ap, ◌∙◌, subst}
use Rattle.std.proofs.lemmas.Bool.{eqb-true}
use Rattle.std.proofs.lemmas.List.Elements.{Contains-append_left, Contains-append_right, Contains-push}
use Rattle.stateful_base.specs.Names.{Named}
use Rattle.stateful_base.specs.Round.{IsLater}
use Rattle.stateful_base.specs.declared.anchor.Anchor.{Anchor}
use Rattle.stateful_base.specs.declared.round.Round.{Round}
use Rattle.stateful_history.specs.Finalizations.{finalized_since}
use Rattle.stateful_history.specs.Past.{Past, Item, Came}
use Rattle.stateful_history.specs.Requests.{IsLiveReceipt}
use Rattle.stateful_history.specs.declared.event.Event.TheVariants.{Finalized, Restart}
use Rattle.stateful_exec_model.specs.Finalizing.{front_at}
use Rattle.stateful_exec_model.specs.Workings.{Workings}
use Rattle.stateful_exec_model.specs.declared.front.Front.{Front}
use Rattle.stateful_exec_model.specs.declared.front.Stage.{Stage}
use Rattle.stateful_exec_laws.specs.Ground.{IsOfBlock}
use Rattle.stateful_exec_laws.specs.Setting.{setting}
use Rattle.stateful_loop_model.specs.Moments.{Moment}
use Rattle.stateful_loop_model.specs.Sound.{FrontAgrees}
use Rattle.stateful_loop_model.specs.declared.tables.Finalizing.{Finalizing}
use Rattle.stateful_loop_laws.specs.Rounds.{RoundsRise}
use Rattle.stateful_loop_laws.specs.Stands.{IsUpAt}

-- the block of a finalization that goes on
abbrev block_in : {B R U H : Type 0} → Named B → Option (Front B R U H) → Named B
block_in b None = b
block_in b (Some f) = f.block

module _ {B C I : Type 0} where
  -- what a shorter past has a longer one has
  pub has_more : (x y : Item B C I) (p : Past B C I) → Contains p y → Contains (x ∷ p) y
  has_more x y p has = Contains-append_right (x ∷ []) p y has

  -- a block that was finalized under a ticket came so
  pub came-finalized : (t : ℕ) (b : Named B) (p : Past B C I) → finalized_since t p ≡ Some b → Contains p (Came (Finalized t b))
  came-finalized t b [] is = cc
  came-finalized t b (Came (Restart floor keep) ∷ p) is = cc
  came-finalized t b (Came (Finalized u c) ∷ p) is = go (t == u) refl is (λ before. came-finalized t b p before)
    where
      go : (x : Bool) → (t == u) ≡ x → (if x then Some c else finalized_since t p) ≡ Some b
          → (finalized_since t p ≡ Some b → Contains p (Came (Finalized t b))) → Contains (Came (Finalized u c) ∷ p) (Came (Finalized t b))
      go true own same rest =
          let block : c ≡ b = cc in
          subst (λ (x : Item B C I). Contains (Came (Finalized u c) ∷ p) x)
          (ap (λ (n : ℕ). Came (Finalized n c)) (sym (eqb-true t u own)) ∙ ap (λ (x : Named B). Came (Finalized t x)) block)
          (Contains-append_left (Came (Finalized u c) ∷ []) p (Came (Finalized u c)) (Contains-push [] (Came (Finalized u c))))
      go false other before rest = has_more (Came (Finalized u c)) (Came (Finalized t b)) p (rest before)
  came-finalized t b (item ∷ p) is = has_more item (Came (Finalized t b)) p (came-finalized t b p is)

module _ {B C I P R D H G U : Type 0} (w : Workings B C I P R D H G U) (stored : ℕ → Option (Named B)) (p : Past B C I) where
  -- so it is where the anchor is of a block of the history
  pub later-finalized : RoundsRise (setting w stored) p → (anchor : Anchor) → IsOfBlock w stored p anchor → (t : ℕ) (b : Named B)
      → finalized_since t p ≡ Some b → w.header.parent b.block ≡ anchor.digest → IsLater anchor.round (w.header.round b.block)
  later-finalized rise anchor top t b came on_anchor =
      subst (λ (r : Round). IsLater r (w.header.round b.block)) (sym (ap (λ (a : Anchor). a.round) top.is))
      (rise t top.block b (came-finalized t b p came) top.met (sym (ap (λ (a : Anchor). a.digest) top.is) ∙ sym on_anchor))

module _ {B C I P R D H G U : Type 0} (w : Workings B C I P R D H G U) (stored : ℕ → Option (Named B)) (base : w.States) (p : Past B C I)
    (m : Moment w) (h : IsUpAt w stored base p m) (up : m.loop.up ≡ true) where
  -- the block of the finalization that goes on came as finalized
  pub front-finalized : (b : Named B) (stage : Stage R U H) → m.execution.front ≡ front_at b stage → (t : ℕ) × (finalized_since t p ≡ Some b)
  front-finalized b stage is = go m.loop.front (h.sound.up up).front h.tickets.front
    where
      go : (o : Option (Finalizing B G)) → FrontAgrees w m.loop.durability o m.execution.front
          → IfSome o (λ f. IsLiveReceipt f.ticket p × (finalized_since f.ticket p ≡ Some f.block)) → (t : ℕ) × (finalized_since t p ≡ Some b)
      go None agrees tickets = let no : front_at b stage ≡ None = sym is ∙ agrees in cc
      go (Some f) agrees tickets =
          let same : front_at b stage ≡ front_at f.block agrees.0 = sym is ∙ agrees.1 in
          let one : f.block ≡ b = sym (ap (λ (o : Option (Front B R U H)). block_in b o) same) in
          (f.ticket, subst (λ (x : Named B). finalized_since f.ticket p ≡ Some x) one tickets.1)
