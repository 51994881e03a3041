-- Where the finalized blocks that wait begin, as the finalization in front goes on.
use Rattle.std.proofs.Common.{◌≡◌, ◌⊎◌, inl, inr, ◌++◌, ◌∷◌, [], ℕ, Option, Some, None, List, refl, sym, ap, ◌∙◌, subst}
use Rattle.stateful_base.specs.Names.{Named}
use Rattle.stateful_base.specs.Anchor.{anchor_by}
use Rattle.stateful_base.specs.declared.anchor.Anchor.{Anchor}
use Rattle.stateful_exec_model.specs.Finalizing.{front_at}
use Rattle.stateful_exec_model.specs.Workings.{Workings}
use Rattle.stateful_exec_model.specs.declared.front.Front.{Front}
use Rattle.stateful_exec_laws.specs.Setting.{setting}
use Rattle.stateful_loop_model.specs.Moments.{Moment}
use Rattle.stateful_actor_laws.specs.Ahead.{finals_at, HeadIs, LeadsUp, LeadsAt}

module _ {B C I P R D H G U : Type 0} (w : Workings B C I P R D H G U) (stored : ℕ → Option (Named B)) (anchor : Anchor) (now : w.States)
    (top : Anchor) (last : w.States) where
  -- the front goes on, and as many wait
  pub LeadsAt-on : (m n : Moment w)
      → ((head : Anchor) (before : w.States) → HeadIs (setting w stored) anchor now m.execution.front head before
      → HeadIs (setting w stored) anchor now n.execution.front head before)
      → finals_at w n ≡ finals_at w m → LeadsAt w stored anchor now top last m → LeadsAt w stored anchor now top last n
  LeadsAt-on m n front same h = record {
    head = h.head;
    before = h.before;
    front = front h.head h.before h.front;
    leads = subst (λ (bs : List (Named B)). LeadsUp (setting w stored) top last h.head h.before bs) (sym same) h.leads;
  }

  -- the front is as it was
  pub LeadsAt-same : (m n : Moment w) → n.execution.front ≡ m.execution.front → finals_at w n ≡ finals_at w m
      → LeadsAt w stored anchor now top last m → LeadsAt w stored anchor now top last n
  LeadsAt-same m n front same = LeadsAt-on m n
      (λ head before h. subst (λ (f : Option (Front B R U H)). HeadIs (setting w stored) anchor now f head before) (sym front) h) same

  -- the front was this, and is that
  pub LeadsAt-turned : (m n : Moment w) (old new : Option (Front B R U H)) → m.execution.front ≡ old → n.execution.front ≡ new
      → ((head : Anchor) (before : w.States) → HeadIs (setting w stored) anchor now old head before
      → HeadIs (setting w stored) anchor now new head before)
      → finals_at w n ≡ finals_at w m → LeadsAt w stored anchor now top last m → LeadsAt w stored anchor now top last n
  LeadsAt-turned m n old new was is on same = LeadsAt-on m n
      (λ head before h. subst (λ (f : Option (Front B R U H)). HeadIs (setting w stored) anchor now f head before) (sym is)
      (on head before (subst (λ (f : Option (Front B R U H)). HeadIs (setting w stored) anchor now f head before) was h))) same
