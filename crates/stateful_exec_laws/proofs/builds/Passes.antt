-- The live build stands after the rules that say nothing of it.
use Rattle.std.proofs.Common.{◌≡◌, ◌++◌, inl, inr, ℕ, List, [], ◌∷◌, All, Option, None, Some, IfSome, MatchOption, refl, sym, ◌∙◌, subst}
use Rattle.std.proofs.lemmas.List.{append_cancel_left}
use Rattle.std.proofs.lemmas.List.Elements.{All-head, All-tail}
use Rattle.stateful_base.specs.Names.{Named}
use Rattle.stateful_base.specs.declared.digest.Digest.{Digest}
use Rattle.stateful_history.specs.Past.{Past, Came, Made, after}
use Rattle.stateful_history.specs.Jobs.{job_of}
use Rattle.stateful_history.specs.declared.event.Event.TheVariants.{Turn}
use Rattle.stateful_history.specs.declared.mark.How.{How}
use Rattle.stateful_history.specs.declared.mark.JobKind.TheVariants.{Candidate, Build}
use Rattle.stateful_history.specs.declared.mark.Mark.{Mark}
use Rattle.stateful_history.specs.declared.mark.Mark.TheVariants.{Asked, Withdrawn, Started, Ended, Verdict, Declined}
use Rattle.stateful_exec_cache.specs.Cache.{IsAtHand}
use Rattle.stateful_exec_model.specs.Moments.{Moment}
use Rattle.stateful_exec_model.specs.Workings.{Workings, Point}
use Rattle.stateful_exec_model.specs.declared.building.Building.{Building}
use Rattle.stateful_exec_tables.specs.declared.state.Tables.{Tables}
use Rattle.stateful_exec_laws.specs.Setting.{setting}
use Rattle.stateful_exec_laws.specs.Building.{IsElsewhere, BuildStands}
use Rattle.stateful_exec_laws.specs.Standing.{TablesStand}
use Rattle.stateful_exec_laws.proofs.ended.ConcludeStands.{verdict-TellsOf, declined-TellsOf}
use Rattle.stateful_exec_laws.proofs.runs.Drawn.{started_below}
use Rattle.stateful_exec_laws.proofs.runs.Removing.{differ}
use Rattle.stateful_exec_laws.proofs.ended.FollowStands.{IsSettled}
use Rattle.stateful_exec_laws.proofs.pauses.Passing.{IsBeside, PassesBy, AreDrawn}
use Rattle.stateful_exec_laws.proofs.pauses.PassingRules.{AreElsewhere}
use Rattle.stateful_exec_laws.proofs.runs.Sparing.{started-LeavesJob, ended-LeavesJob, live-started_other, live-ended_other}
use Rattle.stateful_exec_laws.proofs.builds.Left.{IsBuilding-moved, SparesBuild, BuildStands-spared, BuildStands-tables}

-- the job of the live build, and the ticket of its request
abbrev pub IsItsJob : {B C D : Type 0} → Option (Building B C D) → ℕ → Type 0
IsItsJob build k = MatchOption build ⊥ (λ b. k ≡ b.job)

abbrev pub IsItsTicket : {B C D : Type 0} → Option (Building B C D) → ℕ → Type 0
IsItsTicket build t = MatchOption build ⊥ (λ b. t ≡ b.ticket)

module _ {B C I P R D H G U : Type 0} (w : Workings B C I P R D H G U) (stored : ℕ → Option (Named B)) where
  -- a mark that names neither of the two says nothing of the build
  spares : (p : Past B C I) (mark : Mark B) (build : Option (Building B C D)) → IsBeside (IsItsJob build) (IsItsTicket build) mark → SparesBuild w stored p (Made mark) build
  spares p (Asked f ticket d) None off = record { built = λ e was. was; job = tt; ticket = tt; builds = λ j e live. record { live = live.live; is = live.is } }
  spares p (Asked f ticket d) (Some b) off = record {
    built = λ e was. was;
    job = record { live = refl; started = refl; turns = refl };
    ticket = record { live = refl; verified = refl; proposed = refl };
    builds = λ j e live. record { live = live.live; is = live.is };
  }
  spares p (Withdrawn f) None off = record { built = λ e was. was; job = tt; ticket = tt; builds = λ j e live. record { live = live.live; is = live.is } }
  spares p (Withdrawn f) (Some b) off = record {
    built = λ e was. was;
    job = record { live = refl; started = refl; turns = refl };
    ticket = record { live = refl; verified = refl; proposed = refl };
    builds = λ j e live. record { live = live.live; is = live.is };
  }
  spares p (Started k Candidate d) None off = record { built = λ e was. was; job = tt; ticket = tt; builds = λ j e live. live-started_other p k Candidate d Build (λ is. cc) j e live }
  spares p (Started k Candidate d) (Some b) off = record {
    built = λ e was. was;
    job = started-LeavesJob p k Candidate d b.job (λ e. off (sym e));
    ticket = record { live = refl; verified = refl; proposed = refl };
    builds = λ j e live. live-started_other p k Candidate d Build (λ is. cc) j e live;
  }
  spares p (Ended k how) None off = record { built = λ e was. was; job = tt; ticket = tt; builds = λ j e live. (live-ended_other p k how Build j e live).1 }
  spares p (Ended k how) (Some b) off = record {
    built = λ e was. was;
    job = ended-LeavesJob p k how b.job (λ e. off (sym e));
    ticket = record { live = refl; verified = refl; proposed = refl };
    builds = λ j e live. (live-ended_other p k how Build j e live).1;
  }
  spares p (Verdict t answer) None off = record { built = λ e was. was; job = tt; ticket = tt; builds = λ j e live. record { live = live.live; is = live.is } }
  spares p (Verdict t answer) (Some b) off = record {
    built = λ e was. was;
    job = record { live = refl; started = refl; turns = refl };
    ticket = (verdict-TellsOf (setting w stored) p t answer).tickets b.ticket (λ e. off (sym e));
    builds = λ j e live. record { live = live.live; is = live.is };
  }
  spares p (Declined t) None off = record { built = λ e was. was; job = tt; ticket = tt; builds = λ j e live. record { live = live.live; is = live.is } }
  spares p (Declined t) (Some b) off = record {
    built = λ e was. was;
    job = record { live = refl; started = refl; turns = refl };
    ticket = (declined-TellsOf (setting w stored) p t).tickets b.ticket (λ e. off (sym e));
    builds = λ j e live. record { live = live.live; is = live.is };
  }
  spares p mark build off = absurd off

  module _ (points : Digest → Point w) (build : Option (Building B C D)) where
    marks_beside : (next : w.Ids) (v : Tables B C I R U) (p : Past B C I) (marks : List (Mark B)) → All (IsBeside (IsItsJob build) (IsItsTicket build)) marks → BuildStands w stored p points next v build → BuildStands w stored (after p marks) points next v build
    marks_beside next v p [] beside h = h
    marks_beside next v p (mark ∷ marks) beside h =
        marks_beside next v (Made mark ∷ p) marks (All-tail (λ x. IsBeside (IsItsJob build) (IsItsTicket build) x) mark marks beside)
        (BuildStands-spared w stored p points next v (Made mark) build (spares p mark build (All-head (λ x. IsBeside (IsItsJob build) (IsItsTicket build) x) mark marks beside)) h)

    -- with what is known of the tables the build stands beside the later ones
    later_tables : (p : Past B C I) (m now : Moment w) → PassesBy w (IsItsJob build) (IsItsTicket build) m now → BuildStands w stored p points m.next m.state build → BuildStands w stored p points now.next now.state build
    later_tables p m now f h = BuildStands-tables w stored p points m.next m.state now.next f.ids now.state f.anchor grows build (its build f h.elsewhere) h
      where
        grows : (d : Digest) → IsAtHand m.state.anchor m.state.cache d → IsAtHand m.state.anchor now.state.cache d
        grows d (inl is) = inl is
        grows d (inr any) = inr (f.grows d any)

        its : (o : Option (Building B C D)) → PassesBy w (IsItsJob o) (IsItsTicket o) m now → IfSome o (λ b. IsElsewhere m.state b.ticket) → IfSome o (λ b. IsElsewhere now.state b.ticket)
        its None g e = tt
        its (Some b) g e = g.elsewhere b.ticket refl e

    -- after rules that say nothing of it the live build stands
    pub BuildStands-passes : (p : Past B C I) (m now : Moment w) (more : List (Mark B)) → now.marks ≡ m.marks ++ more → PassesBy w (IsItsJob build) (IsItsTicket build) m now
        → BuildStands w stored p points m.next m.state build → BuildStands w stored (after p more) points now.next now.state build
    BuildStands-passes p m now more is f h =
        let same : f.more ≡ more = append_cancel_left m.marks f.more more (sym f.marks_are ∙ is) in
        marks_beside now.next now.state p more (subst (λ l. All (λ x. IsBeside (IsItsJob build) (IsItsTicket build) x) l) same f.beside) (later_tables p m now f h)

  -- after the last turn of a run it stands over the points to which what was at hand has gone over
  pub BuildStands-settled : (point : Point w) (other_states : (n i : w.Ids) (x y : w.States) (c : List (Point w)) → w.kind.issued n ((i, x) ∷ c) → w.kind.issued n ((i, y) ∷ c)) (p : Past B C I) (points : Digest → Point w) (m last : Moment w) (j : ℕ) (how : How)
      (s : IsSettled w stored point other_states p points m last j how) (build : Option (Building B C D)) → (IsItsJob build j → ⊥) → PassesBy w (IsItsJob build) (IsItsTicket build) m last → BuildStands w stored p points m.next m.state build
      → BuildStands w stored (after (Made (Ended j how) ∷ Came (Turn j) ∷ p) s.more) s.points last.next last.state build
  BuildStands-settled point other_states p points m last j how s build other f h =
      let same : f.more ≡ Ended j how ∷ s.more = append_cancel_left m.marks f.more (Ended j how ∷ s.more) (sym f.marks_are ∙ s.marks_are) in
      let beside : All (IsBeside (IsItsJob build) (IsItsTicket build)) (Ended j how ∷ s.more) = subst (λ l. All (λ x. IsBeside (IsItsJob build) (IsItsTicket build) x) l) same f.beside in
      marks_beside s.points build last.next last.state q s.more (All-tail (λ x. IsBeside (IsItsJob build) (IsItsTicket build) x) (Ended j how) s.more beside) (later_tables s.points build q m last f (turned build other h))
    where
      q : Past B C I
      q = Made (Ended j how) ∷ Came (Turn j) ∷ p

      turned : (o : Option (Building B C D)) → (IsItsJob o j → ⊥) → BuildStands w stored p points m.next m.state o → BuildStands w stored (Made (Ended j how) ∷ Came (Turn j) ∷ p) s.points m.next m.state o
      turned None off b = record { each = tt; elsewhere = tt; complete = λ k d live. let before = live-ended_other (Came (Turn j) ∷ p) j how Build k d live in b.complete k d (record { live = before.1.live; is = before.1.is }) }
      turned (Some b) off g = record {
        each = IsBuilding-moved w stored p (Made (Ended j how) ∷ Came (Turn j) ∷ p) points s.points m.state.anchor m.state.cache s.moves m.next m.next (λ c x. x) m.state.cache (λ d x. x) b
            (rw (differ b.job j off) refl) refl (rw (differ b.job j off) refl) refl refl g.each;
        elsewhere = g.elsewhere;
        complete = λ k d live. let before = live-ended_other (Came (Turn j) ∷ p) j how Build k d live in g.complete k d (record { live = before.1.live; is = before.1.is });
      }

  -- the job of the live build was drawn, and its request is in no table
  pub build_drawn : (p : Past B C I) (points : Digest → Point w) (point : Point w) (m : Moment w) (build : Option (Building B C D)) → TablesStand w stored p points point m.next m.state → BuildStands w stored p points m.next m.state build
      → AreDrawn w (IsItsJob build) (IsItsTicket build) m
  build_drawn p points point m None s h k own = absurd own
  build_drawn p points point m (Some b) s h k own = started_below p m.state.next_job m.state.next_fetch k (job_of Build b.parent.digest) s.numbers (rw own h.each.job.is)

  pub build_elsewhere : (p : Past B C I) (points : Digest → Point w) (m : Moment w) (build : Option (Building B C D)) → BuildStands w stored p points m.next m.state build → AreElsewhere w (IsItsJob build) (IsItsTicket build) m
  build_elsewhere p points m None h t own = absurd own
  build_elsewhere p points m (Some b) h t own = subst (λ u. IsElsewhere m.state u) (sym own) h.elsewhere
