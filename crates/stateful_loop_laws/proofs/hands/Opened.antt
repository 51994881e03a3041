-- Where nothing is live all is in hand; and marks that were made are those of another part too.
use Rattle.std.proofs.Common.{refl, ◌∷◌, ◌≡◌, ◌<◌, ◌++◌, ℕ, List, [], None, sym, ◌∙◌, subst}
use Rattle.std.proofs.lemmas.List.{append_cancel_left}
use Rattle.std.proofs.lemmas.List.Elements.{All-nil}
use Rattle.stateful_history.specs.Live.{live_ticket}
use Rattle.stateful_history.specs.Past.{Past, Made, after}
use Rattle.stateful_history.specs.declared.mark.Mark.{Mark}
use Rattle.stateful_exec_model.specs.Workings.{Workings}
use Rattle.stateful_loop_model.specs.Moments.{Moment}
use Rattle.stateful_loop_laws.specs.InHand.{IsPutOff, VerifiedApart, AllInHand, InHandBehind}

module _ {B C I P R D H G U : Type 0} (w : Workings B C I P R D H G U) (p : Past B C I) where
  -- where nothing is live, put off, held or finalized, as after an opening
  pub in_hand-none : (m : Moment w) → ((t : ℕ) → live_ticket t p ≡ None) → m.loop.actions ≡ [] → m.loop.durability.held ≡ [] → m.loop.front ≡ None
      → AllInHand w p m
  in_hand-none m dead actions held front = record {
    hand = λ t live. absurd (live (dead t));
    put_off = rw actions (All-nil IsPutOff);
    above = rw held (All-nil (λ (receipt : ℕ × ℕ). m.loop.durability.durable < receipt.0));
    finalizing = rw front tt;
  }

  -- all is in hand behind whatever marks were made
  pub in_hand_at : (m now : Moment w) (more : List (Mark B)) → now.marks ≡ m.marks ++ more → InHandBehind w p m now → AllInHand w (after p more) now
  in_hand_at m now more is b = subst (λ (marks : List (Mark B)). AllInHand w (after p marks) now)
      (append_cancel_left m.marks b.more more (sym b.marks_are ∙ is)) b.hands

module _ {B C I : Type 0} where
  -- before anything came, and after marks, tickets are apart where they were
  pub VerifiedApart-none : VerifiedApart {B = B} {C = C} {I = I} []
  VerifiedApart-none = record { unproposed = λ t is. refl; unsubscribed = λ t is. refl; unfinalized = λ t is. refl }

  pub VerifiedApart-marks : (p : Past B C I) (marks : List (Mark B)) → VerifiedApart p → VerifiedApart (after p marks)
  VerifiedApart-marks p [] h = h
  VerifiedApart-marks p (mark ∷ marks) h = VerifiedApart-marks (Made mark ∷ p) marks
      (record { unproposed = h.unproposed; unsubscribed = h.unsubscribed; unfinalized = h.unfinalized })
