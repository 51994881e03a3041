-- How the notes of an application follow what was applied over an event.
use Rattle.std.proofs.Common.{◌≡◌, inl, inr, ◌++◌, ◌∷◌, [], ℕ, false, List, Option, All, map, refl, sym, ap, ◌∙◌, subst, append-nil, append_assoc, true≢false}
use Rattle.std.proofs.lemmas.List.Elements.{All-head, All-tail}
use Rattle.stateful_base.specs.Names.{Named}
use Rattle.stateful_base.specs.declared.floor.Floor.{Floor}
use Rattle.stateful_history.specs.Finalizations.{applied_in}
use Rattle.stateful_history.specs.Past.{Past}
use Rattle.stateful_history.specs.declared.event.Event.{Event}
use Rattle.stateful_history.specs.declared.event.Event.TheVariants as event
use Rattle.stateful_history.specs.declared.mark.How.TheVariants.{Cancelled}
use Rattle.stateful_history.specs.declared.mark.Mark.{Mark}
use Rattle.stateful_history.specs.declared.mark.Mark.TheVariants.{Applied, Ended, Declined, Dropped}
use Rattle.stateful_exec_model.specs.Workings.{Workings}
use Rattle.stateful_actor_register.specs.Ends.{withdrawn, cancelled, declined, dropped}
use Rattle.stateful_actor_register.specs.Register.{RegisterStands}
use Rattle.stateful_actor_register.specs.declared.register.Register.{Register}
use Rattle.stateful_loop_model.specs.Intake.{Counts, TakesIn, enters, cancels, fetched, turns, flushes, stops, progresses, restarts, TurnsJob, build, hook, run}
use Rattle.stateful_loop_model.specs.Moments.{Moment}
use Rattle.stateful_loop_model.specs.Noted.{noted_all, unobserved, NotesFollow, NotesMayFollow}
use Rattle.stateful_loop_model.specs.Sound.{Sound}
use Rattle.stateful_loop_model.specs.declared.tables.Finalizing.{Finalizing}
use Rattle.stateful_loop_model.proofs.AppliedMarks.{applied_in-append, AppliesNone, AppliesNone-made, withdrawn_none}
use Rattle.stateful_loop_model.proofs.NotesFollowing.{noted_all-append, leaves_follow}
use Rattle.stateful_loop_model.proofs.Observing.{leaves_front, settled_observed}
use Rattle.stateful_loop_laws.proofs.duly.PlainMarks.{IsPlain, taken_in_plain}
use Rattle.stateful_actor_laws.specs.Machine.{numbered, is_restart}
use Rattle.stateful_actor_laws.specs.Steps.{EndsWork, Settles}
use Rattle.stateful_actor_step.specs.Notes.{NotesAlong, NotesReached, NotesSettling, NotesPlay, going, NotesRefused}

module _ {B : Type 0} where
  joined_none : (first then : List (Mark B)) → applied_in first ≡ [] → applied_in then ≡ [] → applied_in (first ++ then) ≡ []
  joined_none first then a b = applied_in-append first then ∙ ap (λ (l : List (Named B)). l ++ applied_in then) a ∙ b

  cancelled_none : (jobs : List ℕ) → applied_in {B = B} (map (λ j. Ended j Cancelled) jobs) ≡ []
  cancelled_none [] = refl
  cancelled_none (j ∷ jobs) = cancelled_none jobs

  declined_none : (tickets : List ℕ) → applied_in {B = B} (map (λ t. Declined t) tickets) ≡ []
  declined_none [] = refl
  declined_none (t ∷ tickets) = declined_none tickets

  dropped_none : (tickets : List ℕ) → applied_in {B = B} (map (λ t. Dropped t) tickets) ≡ []
  dropped_none [] = refl
  dropped_none (t ∷ tickets) = dropped_none tickets

  -- live work ends by marks of which none says that a block was applied
  pub ends_none : {C I : Type 0} (count : ℕ) (register : Register) (event : Event B C I) (old new : List (Mark B)) (p : Past B C I)
      → RegisterStands (numbered count) p register → EndsWork count register event old new → AppliesNone old new
  ends_none count register event old new p stands work =
      let (ends, are, all, nothing) = work p stands in
      AppliesNone-made old new ends are
      (ap applied_in all.are
      ∙ joined_none (withdrawn all.fetches ++ cancelled all.jobs ++ declined all.proposals) (dropped all.others)
      (joined_none (withdrawn all.fetches ++ cancelled all.jobs) (declined all.proposals)
      (joined_none (withdrawn all.fetches) (cancelled all.jobs) (withdrawn_none all.fetches) (cancelled_none all.jobs)) (declined_none all.proposals))
      (dropped_none all.others))

  plain_none : (marks : List (Mark B)) → All IsPlain marks → applied_in marks ≡ []
  plain_none [] all = refl
  plain_none (Applied b ∷ marks) all = absurd (All-head IsPlain (Applied b) marks all)
  plain_none (mark ∷ marks) all = plain_none marks (All-tail IsPlain mark marks all)

module _ {N B : Type 0} (noted : N → B → N) where
  -- where nothing is left to be observed, before or after
  pub follow_along : {G : Type 0} (before now : N) (was is : Option (Finalizing B G)) (old new : List (Mark B))
      → NotesFollow noted before now was is old new → unobserved was ≡ [] → unobserved is ≡ [] → NotesAlong noted before now old new
  follow_along before now was is old new n none observed =
      let told : n.told ≡ applied_in n.added =
      sym (append-nil n.told) ∙ ap (λ (l : List (Named B)). n.told ++ l) (sym observed) ∙ n.told_are
      ∙ ap (λ (l : List (Named B)). l ++ applied_in n.added) none in
      record { made = n.added; marks_are = n.marks_are; notes_are = n.notes_are ∙ ap (λ (l : List (Named B)). noted_all noted before l) told }

  -- further marks, of which none says that a block was applied
  pub NotesAlong-further : (before now : N) (old mid new : List (Mark B)) → NotesAlong noted before now old mid → AppliesNone mid new
      → NotesAlong noted before now old new
  NotesAlong-further before now old mid new n a = record {
    made = n.made ++ a.added;
    marks_are = a.marks_are ∙ ap (λ (l : List (Mark B)). l ++ a.added) n.marks_are ∙ append_assoc old n.made a.added;
    notes_are = n.notes_are ∙ ap (λ (l : List (Named B)). noted_all noted before l)
        (sym (applied_in-append n.made a.added ∙ ap (λ (l : List (Named B)). applied_in n.made ++ l) a.none ∙ append-nil (applied_in n.made)));
  }

  -- no block was applied, and the notes stay
  pub NotesAlong-none : (before now : N) (old new : List (Mark B)) → AppliesNone old new → now ≡ before → NotesAlong noted before now old new
  NotesAlong-none before now old new a stay = record {
    made = a.added;
    marks_are = a.marks_are;
    notes_are = stay ∙ ap (λ (l : List (Named B)). noted_all noted before l) (sym a.none);
  }

  pub NotesAlong-same : {A : Type 0} (notes : A → N) (before : N) (mid now : A) (old new : List (Mark B)) → now ≡ mid
      → NotesAlong noted before (notes mid) old new → NotesAlong noted before (notes now) old new
  NotesAlong-same notes before mid now old new same n = subst (λ x. NotesAlong noted before (notes x) old new) (sym same) n

  -- where no mark was made before
  pub along_all : (before now : N) (marks : List (Mark B)) → NotesAlong noted before now [] marks → now ≡ noted_all noted before (applied_in marks)
  along_all before now marks n = n.notes_are ∙ ap (λ (l : List (Mark B)). noted_all noted before (applied_in l)) (sym n.marks_are)

module _ {B C I P R D H G U : Type 0} (w : Workings B C I P R D H G U) where
  -- up to the moment at which a rule didn't go
  pub follow_reached : {N : Type 0} (noted : N → B → N) (before mid now : N) (m reached : Moment w)
      → NotesFollow noted before mid m.loop.front reached.loop.front m.marks reached.marks → NotesMayFollow noted mid now reached.loop.front
      → NotesReached w noted before now m reached
  follow_reached noted before mid now m reached n (inl stay) = record {
    made = n.added;
    marks_are = n.marks_are;
    up_to = record { told = n.told; untold = unobserved reached.loop.front; parts = sym n.told_are; notes_are = stay ∙ n.notes_are };
  }
  follow_reached noted before mid now m reached n (inr told) = record {
    made = n.added;
    marks_are = n.marks_are;
    up_to = record {
      told = n.told ++ unobserved reached.loop.front;
      untold = [];
      parts = sym n.told_are ∙ sym (append-nil (n.told ++ unobserved reached.loop.front));
      notes_are = told ∙ ap (λ x. noted_all noted x (unobserved reached.loop.front)) n.notes_are
          ∙ sym (noted_all-append noted before n.told (unobserved reached.loop.front));
    };
  }

module _ {B C I P R D H G U : Type 0} (w : Workings B C I P R D H G U) (stored : ℕ → Option (Named B)) where
  turned_front : (counts : Counts R D H) (j : ℕ) (m now : Moment w) → TurnsJob w counts j m now → now.loop.front ≡ m.loop.front
  turned_front counts j m now (build live turns_it e) = ap (λ n. n.loop.front) e
  turned_front counts j m now (hook unbuilt live turns_it e) = ap (λ n. n.loop.front) e
  turned_front counts j m now (run unbuilt unhooked turns_it e) = ap (λ n. n.loop.front) e

  -- an event that is taken in leaves the finalization in front
  taken_front : (counts : Counts R D H) (e : Event B C I) (m now : Moment w) → TakesIn w stored counts m now e → now.loop.front ≡ m.loop.front
  taken_front counts e m now (enters message is) = ap (λ n. n.loop.front) is
  taken_front counts e m now (cancels c) = ap (λ n. n.loop.front) c.becomes
  taken_front counts e m now (fetched f is) = ap (λ n. n.loop.front) is
  taken_front counts e m now (turns {j = j} t) = turned_front counts j m now t
  taken_front counts e m now (flushes f) = ap (λ n. n.loop.front) f.becomes
  taken_front counts e m now (stops is) = ap (λ n. n.loop.front) is
  taken_front counts e m now (progresses is) = ap (λ n. n.loop.front) is
  taken_front counts e m now (restarts is) = ap (λ n. n.loop.front) is

  -- and makes no mark that a block was applied
  taken_none : (counts : Counts R D H) (e : Event B C I) (m now : Moment w) → TakesIn w stored counts m now e → AppliesNone m.marks now.marks
  taken_none counts e m now t =
      let plain = taken_in_plain w stored counts m now e t in
      AppliesNone-made m.marks now.marks plain.more plain.marks_are (plain_none plain.more plain.each)

  pub taken_follow : {N : Type 0} (noted : N → B → N) (counts : Counts R D H) (e : Event B C I) (m now : Moment w) (before after : N)
      → TakesIn w stored counts m now e → after ≡ before → NotesFollow noted before after m.loop.front now.loop.front m.marks now.marks
  taken_follow noted counts e m now before after t stay =
      leaves_follow noted w m now before after (leaves_front w m now (taken_none counts e m now t) (taken_front counts e m now t)) stay

  pub taken_observed : (provider : P) (counts : Counts R D H) (e : Event B C I) (m taken now : Moment w) → TakesIn w stored counts m taken e
      → Settles w stored provider taken now → Sound w now → unobserved m.loop.front ≡ [] → unobserved now.loop.front ≡ []
  taken_observed provider counts e m taken now t settles sound is =
      settled_observed w stored provider taken now settles.along settles.quiet sound (ap unobserved (taken_front counts e m taken t) ∙ is)

  module _ (provider : P) {N : Type 0} (noted : N → B → N) where
    -- an event was taken in, and then a rule didn't go
    pub taken_reached : (counts : Counts R D H) (e : Event B C I) (before mid now : N) (m taken : Moment w) → TakesIn w stored counts m taken e
        → mid ≡ before → NotesSettling w stored provider noted mid now taken → NotesPlay w stored provider noted before now counts e m
    taken_reached counts e before mid now m taken t stay s =
        let a = taken_none counts e m taken t in
        let n = s.notes in
        let blocks : unobserved taken.loop.front ++ applied_in n.made ≡ unobserved m.loop.front ++ applied_in (a.added ++ n.made) =
        ap (λ (f : Option (Finalizing B G)). unobserved f ++ applied_in n.made) (taken_front counts e m taken t)
        ∙ ap (λ (l : List (Named B)). unobserved m.loop.front ++ l)
        (sym (applied_in-append a.added n.made ∙ ap (λ (l : List (Named B)). l ++ applied_in n.made) a.none)) in
        going t s.along (record {
          made = a.added ++ n.made;
          marks_are = n.marks_are ∙ ap (λ (l : List (Mark B)). l ++ n.made) a.marks_are ∙ append_assoc m.marks a.added n.made;
          up_to = record {
            told = n.up_to.told;
            untold = n.up_to.untold;
            parts = sym blocks ∙ n.up_to.parts;
            notes_are = n.up_to.notes_are ∙ ap (λ (x : N). noted_all noted x n.up_to.told) stay;
          };
        })

    -- an event other than a restart, and any event that changed nothing
    pub play_refused : (before now : N) (counts : Counts R D H) (e : Event B C I) (m : Moment w) → is_restart e ≡ false
        → NotesPlay w stored provider noted before now counts e m → NotesRefused w stored provider noted before now counts e m
    play_refused before now counts (event.Verify t ancestry) m other n = n
    play_refused before now counts (event.Prepare t context ancestry input) m other n = n
    play_refused before now counts (event.Propose t context ancestry input) m other n = n
    play_refused before now counts (event.Finalized t b) m other n = n
    play_refused before now counts (event.Subscribe t) m other n = n
    play_refused before now counts (event.Cancel t) m other n = n
    play_refused before now counts (event.Fetched f answer) m other n = n
    play_refused before now counts (event.Turn j) m other n = n
    play_refused before now counts (event.Flushed k i answer) m other n = n
    play_refused before now counts (event.Progress i) m other n = n
    play_refused before now counts event.Stop m other n = n
    play_refused before now counts (event.Restart floor keep) m other n = absurd (true≢false other)

    pub restart_refused : (before now : N) (counts : Counts R D H) (e : Event B C I) (floor : Floor) (keep : List ℕ) (m : Moment w)
        → e ≡ event.Restart floor keep → now ≡ before → NotesRefused w stored provider noted before now counts e m
    restart_refused before now counts e floor keep m is stay =
        subst (λ (x : Event B C I). NotesRefused w stored provider noted before now counts x m) (sym is) stay
