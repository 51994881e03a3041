-- Rules of the loop: the finalized blocks that wait lead up to the top behind each of them, too.
use Rattle.std.proofs.Common.{◌≡◌, ◌≤◌, ◌<◌, ◌++◌, ◌∷◌, [], ℕ, true, Option, Some, None, List, refl, sym, ap, ◌∙◌, subst, append_assoc}
use Rattle.stateful_base.specs.Names.{Named}
use Rattle.stateful_base.specs.Anchor.{anchor_by}
use Rattle.stateful_base.specs.declared.anchor.Anchor.{Anchor}
use Rattle.stateful_db.specs.declared.application.Hooked.{Hooked}
use Rattle.stateful_db.specs.declared.application.Hooked.TheVariants as hooked
use Rattle.stateful_history.specs.Finalizations.{IsChildOf}
use Rattle.stateful_history.specs.Joined.{Matches}
use Rattle.stateful_history.specs.declared.mark.Mark.{Mark}
use Rattle.stateful_exec_model.specs.Finalizing.{front_at, HooksOn}
use Rattle.stateful_exec_model.specs.Workings.{Workings}
use Rattle.stateful_exec_model.specs.declared.front.Front.{Front}
use Rattle.stateful_exec_model.specs.declared.front.Stage.TheVariants.{Begun, Running, Advanced, Hooking}
use Rattle.stateful_exec_tables.specs.declared.state.Tables.{Tables}
use Rattle.stateful_exec_laws.specs.Setting.{setting}
use Rattle.stateful_loop_model.specs.Moments.{Moment}
use Rattle.stateful_loop_model.specs.Rules.{Builds, starts, declines, DoesMessage, schedules, answers, acknowledges, holds, begins, Takes, of_action, of_message, Rule, AppliesBlock, IsFinalizing, HasStates}
use Rattle.stateful_loop_model.specs.Rules as rule
use Rattle.stateful_loop_model.specs.declared.message.Action.{Action}
use Rattle.stateful_loop_model.specs.declared.message.Message.{Message}
use Rattle.stateful_loop_model.specs.declared.message.Message.TheVariants as message
use Rattle.stateful_loop_model.specs.declared.tables.Finalizing.{Finalizing}
use Rattle.stateful_actor_laws.specs.Ahead.{final_in, finals_in, finals_under, finals_at, HeadIs, IsAtAnchor, LeadsUp, LeadsAt}
use Rattle.stateful_actor_laws.proofs.ahead.Finals.{finals-built, finals-put_off}
use Rattle.stateful_actor_laws.proofs.ahead.Heads.{LeadsAt-same, LeadsAt-turned}
use Rattle.stateful_actor_laws.proofs.ahead.LeadsUp.{LeadsUp-taken, LeadsUp-begun, IsNextUp}

module _ {B C I P R D H G U : Type 0} (w : Workings B C I P R D H G U) where
  -- a message that is taken was the first that waits
  pub takes-finals : (x : Message B C I) (m mid : Moment w) → Takes w x m mid → finals_at w m ≡ final_in x ++ finals_at w mid
  takes-finals x m mid (of_action {rest = rest} is e) =
      ap (λ (actions : List (Action B C I)). finals_under actions ++ finals_in m.loop.queue) is
      ∙ append_assoc (final_in x) (finals_under rest) (finals_in m.loop.queue)
      ∙ ap (λ (n : Moment w). final_in x ++ finals_at w n) (sym e)
  takes-finals x m mid (of_message {rest = rest} none is e) =
      ap (λ (actions : List (Action B C I)). finals_under actions ++ finals_in m.loop.queue) none
      ∙ ap (λ (queue : List (Message B C I)). finals_in queue) is
      ∙ ap (λ (bs : List (Named B)). final_in x ++ bs)
      (ap (λ (actions : List (Action B C I)). finals_under actions ++ finals_in rest) (sym none) ∙ ap (λ (n : Moment w). finals_at w n) (sym e))

  -- execution is as it was
  pub takes-same : (x : Message B C I) (m mid : Moment w) → Takes w x m mid → mid.execution ≡ m.execution
  takes-same x m mid (of_action is e) = ap (λ (n : Moment w). n.execution) e
  takes-same x m mid (of_message none is e) = ap (λ (n : Moment w). n.execution) e

module _ {B C I P R D H G U : Type 0} (w : Workings B C I P R D H G U) (stored : ℕ → Option (Named B)) (anchor : Anchor) (at : w.States)
    (top : Anchor) (last : w.States) where
  -- the finalized blocks that wait lead up to the top
  abbrev Leads : Moment w → Type 0
  Leads m = LeadsAt w stored anchor at top last m

  -- after a rule they do; or it has applied the block in front
  pub data RuleLeads (m now : Moment w) : Type 0 where
    leads : Leads now → RuleLeads m now
    applied : {f : Finalizing B G} → IsFinalizing w m f → HasStates w m f.block → AppliesBlock w f m now → RuleLeads m now

  -- nothing is in front, and this block is the first that waits
  module _ (m : Moment w) (h : Leads m) (idle : m.execution.front ≡ None) (b : Named B) (bs : List (Named B)) (first : finals_at w m ≡ b ∷ bs) where
    at_anchor : IsAtAnchor (setting w stored) anchor at h.head h.before
    at_anchor = subst (λ (f : Option (Front B R U H)). HeadIs (setting w stored) anchor at f h.head h.before) idle h.front

    here : LeadsUp (setting w stored) top last h.head h.before (b ∷ bs)
    here = subst (λ (cs : List (Named B)). LeadsUp (setting w stored) top last h.head h.before cs) first h.leads

    -- it isn't higher than the anchor
    leads-again : (now : Moment w) → w.header.height b.block ≤ anchor.height.0 → now.execution.front ≡ None → finals_at w now ≡ bs → Leads now
    leads-again now low none is = record {
      head = h.head;
      before = h.before;
      front = subst (λ (f : Option (Front B R U H)). HeadIs (setting w stored) anchor at f h.head h.before) (sym none) at_anchor;
      leads = subst (λ (cs : List (Named B)). LeadsUp (setting w stored) top last h.head h.before cs) (sym is)
          (LeadsUp-taken (setting w stored) top last h.head h.before b bs
          (subst (λ (a : Anchor). w.header.height b.block ≤ a.height.0) (sym at_anchor.head_is) low) here);
    }

    -- it is higher than the anchor, and its finalization begins
    leads-begun : (now : Moment w) → anchor.height.0 < w.header.height b.block → now.execution.front ≡ front_at b Begun → finals_at w now ≡ bs
        → Leads now
    leads-begun now high is same = of (LeadsUp-begun (setting w stored) top last h.head h.before b bs
        (subst (λ (a : Anchor). a.height.0 < w.header.height b.block) (sym at_anchor.head_is) high) here)
      where
        of : IsNextUp (setting w stored) top last h.head h.before b bs → Leads now
        of n = record {
          head = anchor_by w.header b;
          before = n.after;
          front = subst (λ (f : Option (Front B R U H)). HeadIs (setting w stored) anchor at f (anchor_by w.header b) n.after) (sym is) (record {
            head_is = refl;
            child = subst (λ (a : Anchor). IsChildOf w.header a b) at_anchor.head_is n.child;
            matches = subst (λ (s : w.States). Matches (setting w stored) s b n.after) at_anchor.before_is n.matches;
          });
          leads = subst (λ (cs : List (Named B)). LeadsUp (setting w stored) top last (anchor_by w.header b) n.after cs) (sym same) n.rest;
        }

  module _ (stored_now : ℕ → Option (Named B)) (provider : P) where
    -- a message that is taken does what it does
    does-leads : (x : Message B C I) (m mid now : Moment w) → Leads m → m.execution.front ≡ None → m.execution.state.anchor ≡ anchor
        → Takes w x m mid → DoesMessage w stored_now mid now x → Leads now
    does-leads _ m mid now h idle is takes (schedules {request = request} r) =
        LeadsAt-same w stored anchor at top last m now
        (ap (λ (n : Moment w). n.execution.front) r.becomes ∙ ap (λ e. e.front) (takes-same w (message.Request request) m mid takes))
        (ap (λ (n : Moment w). finals_at w n) r.becomes ∙ sym (takes-finals w (message.Request request) m mid takes)) h
    does-leads _ m mid now h idle is takes (answers {t = t} e) =
        LeadsAt-same w stored anchor at top last m now
        (ap (λ (n : Moment w). n.execution.front) e ∙ ap (λ e. e.front) (takes-same w (message.Subscribe t) m mid takes))
        (ap (λ (n : Moment w). finals_at w n) e ∙ sym (takes-finals w (message.Subscribe t) m mid takes)) h
    does-leads _ m mid now h idle is takes (acknowledges {t = t} {b = b} past durable e) =
        let same = takes-same w (message.Finalized t b) m mid takes in
        leads-again m h idle b (finals_at w mid) (takes-finals w (message.Finalized t b) m mid takes) now
        (subst (λ (a : Anchor). w.header.height b.block ≤ a.height.0) (ap (λ e. e.state.anchor) same ∙ is) past.low)
        (ap (λ (n : Moment w). n.execution.front) e ∙ ap (λ e. e.front) same ∙ idle)
        (ap (λ (n : Moment w). finals_at w n) e)
    does-leads _ m mid now h idle is takes (holds {t = t} {b = b} past later e) =
        let same = takes-same w (message.Finalized t b) m mid takes in
        leads-again m h idle b (finals_at w mid) (takes-finals w (message.Finalized t b) m mid takes) now
        (subst (λ (a : Anchor). w.header.height b.block ≤ a.height.0) (ap (λ e. e.state.anchor) same ∙ is) past.low)
        (ap (λ (n : Moment w). n.execution.front) e ∙ ap (λ e. e.front) same ∙ idle)
        (ap (λ (n : Moment w). finals_at w n) e)
    does-leads _ m mid now h idle is takes (begins {t = t} {b = b} higher r) =
        let same = takes-same w (message.Finalized t b) m mid takes in
        leads-begun m h idle b (finals_at w mid) (takes-finals w (message.Finalized t b) m mid takes) now
        (subst (λ (a : Anchor). a.height.0 < w.header.height b.block) (ap (λ e. e.state.anchor) same ∙ is) higher)
        (ap (λ (n : Moment w). n.execution.front) r.becomes)
        (ap (λ (n : Moment w). finals_at w n) r.becomes)

    hooks-lead : (b : Named B) (hook : Hooked H) (old new : Tables B C I R U) (before now : List (Mark B)) (after : Option (Front B R U H))
        (live : _) → HooksOn w b hook old new before now after live
        → (head : Anchor) (before : w.States) → IsAtAnchor (setting w stored) anchor at head before → HeadIs (setting w stored) anchor at after head before
    hooks-lead b hooked.Done old new before now after live on head states h =
        subst (λ (f : Option (Front B R U H)). HeadIs (setting w stored) anchor at f head states) (sym on.2) h
    hooks-lead b (hooked.Pending hook) old new before now after live on head states h =
        subst (λ (f : Option (Front B R U H)). HeadIs (setting w stored) anchor at f head states) (sym on.3) h

    builds-lead : (t : ℕ) (m mid now : Moment w) → mid.execution.front ≡ m.execution.front → finals_at w mid ≡ finals_at w m
        → Builds w provider t mid now → Leads m → Leads now
    builds-lead t m mid now front same (starts s e) h =
        LeadsAt-same w stored anchor at top last m now (ap (λ (n : Moment w). n.execution.front) e ∙ front)
        (ap (λ (n : Moment w). finals_at w n) e ∙ same) h
    builds-lead t m mid now front same (declines none e) h =
        LeadsAt-same w stored anchor at top last m now (ap (λ (n : Moment w). n.execution.front) e ∙ front)
        (ap (λ (n : Moment w). finals_at w n) e ∙ same) h

    -- a rule of a machine at which nothing is in front of execution where nothing is in front of the loop
    pub rule-leads : (m now : Moment w) → Leads m → (m.loop.front ≡ None → m.execution.front ≡ None) → m.execution.state.anchor ≡ anchor
        → Rule w stored_now provider m now → RuleLeads m now
    rule-leads m now h idle is (rule.collects {t = t} up r) =
        leads (LeadsAt-same w stored anchor at top last m now (ap (λ (n : Moment w). n.execution.front) r.becomes)
        (ap (λ (n : Moment w). finals_at w n) r.becomes ∙ ap (λ (bs : List (Named B)). bs ++ finals_in m.loop.queue) (finals-built m.loop.actions t)) h)
    rule-leads m now h idle is (rule.schedules {rest = rest} collected building queue verifies r) =
        leads (LeadsAt-same w stored anchor at top last m now (ap (λ (n : Moment w). n.execution.front) r.becomes)
        (ap (λ (n : Moment w). finals_at w n) r.becomes
        ∙ ap (λ (xs : List (Message B C I)). finals_under m.loop.actions ++ finals_in xs) (sym queue)) h)
    rule-leads m now h idle is (rule.puts_off {x = x} {rest = rest} collected building queue other e) =
        leads (LeadsAt-same w stored anchor at top last m now (ap (λ (n : Moment w). n.execution.front) e)
        (ap (λ (n : Moment w). finals_at w n) e ∙ finals-put_off m.loop.actions x rest
        ∙ ap (λ (xs : List (Message B C I)). finals_under m.loop.actions ++ finals_in xs) (sym queue)) h)
    rule-leads m now h idle is (rule.runs {f = f} fin begun awaits uncached r) =
        leads (LeadsAt-turned w stored anchor at top last m now (front_at f.block Begun) (front_at f.block (Running m.execution.state.next_job r.runs.run))
        begun (ap (λ (n : Moment w). n.execution.front) r.becomes ∙ r.runs.front_is) (λ head before k. k)
        (ap (λ (n : Moment w). finals_at w n) r.becomes) h)
    rule-leads m now h idle is (rule.applies fin none states r) = applied fin states r
    rule-leads m now h idle is (rule.covers fin front captured needed r) =
        leads (LeadsAt-same w stored anchor at top last m now (ap (λ (n : Moment w). n.execution.front) r.becomes)
        (ap (λ (n : Moment w). finals_at w n) r.becomes) h)
    rule-leads m now h idle is (rule.observes {f = f} fin front captured covered r) =
        leads (LeadsAt-turned w stored anchor at top last m now (front_at f.block Advanced) r.front front
        (ap (λ (n : Moment w). n.execution.front) r.becomes)
        (hooks-lead f.block r.observes.hook m.execution.state r.state m.marks r.marks r.front r.live r.observes.hooks_on)
        (ap (λ (n : Moment w). finals_at w n) r.becomes) h)
    rule-leads m now h idle is (rule.ends {f = f} fin front none r) =
        leads (LeadsAt-turned w stored anchor at top last m now (front_at f.block Advanced) None front
        (ap (λ (n : Moment w). n.execution.front) r.becomes) (λ head before k. k)
        (ap (λ (n : Moment w). finals_at w n) r.becomes) h)
    rule-leads m now h idle is (rule.breaks idles broken e) =
        leads (LeadsAt-same w stored anchor at top last m now (ap (λ (n : Moment w). n.execution.front) e) (ap (λ (n : Moment w). finals_at w n) e) h)
    rule-leads m now h idle is (rule.completes idles whole flushed r) =
        leads (LeadsAt-same w stored anchor at top last m now (ap (λ (n : Moment w). n.execution.front) r.becomes)
        (ap (λ (n : Moment w). finals_at w n) r.becomes) h)
    rule-leads m now h idle is (rule.begins idles whole unflushed needed r) =
        leads (LeadsAt-same w stored anchor at top last m now (ap (λ (n : Moment w). n.execution.front) r.becomes)
        (ap (λ (n : Moment w). finals_at w n) r.becomes) h)
    rule-leads m now h idle is (rule.builds {t = t} {rest = rest} calm actions r) =
        leads (builds-lead t m _ now refl (ap (λ (xs : List (Action B C I)). finals_under xs ++ finals_in m.loop.queue) (sym actions)) r h)
    rule-leads m now h idle is (rule.takes {x = x} {mid = mid} calm takes does) =
        leads (does-leads x m mid now h (idle calm.0.2) is takes does)
