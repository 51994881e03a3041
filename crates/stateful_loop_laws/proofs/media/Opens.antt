-- What the media keep is kept where the databases are opened, and where they aren't; and what keeps them from being opened.
use Rattle.std.proofs.Common.{◌≡◌, ◌≤◌, ◌<◌, ◌^◌, ◌⊎◌, ◌∷◌, inl, inr, ℕ, List, All, Option, Some, None, refl, sym, ap, ◌∙◌, subst, arith}
use Rattle.stateful_base.specs.Anchor.{anchor_by}
use Rattle.stateful_base.specs.Causes.{Rose}
use Rattle.stateful_base.specs.Names.{Named}
use Rattle.stateful_base.specs.declared.anchor.Anchor.{Anchor}
use Rattle.stateful_base.specs.declared.floor.Floor.{Floor}
use Rattle.stateful_db.specs.Databases.{Databases, EndsWithin}
use Rattle.stateful_db.specs.Laws.{Laws, KeepsUpTo}
use Rattle.stateful_db.specs.declared.database.InitError.{InitError}
use Rattle.stateful_db.specs.declared.database.InitError.TheVariants as init
use Rattle.stateful_history.specs.Past.{Past, Came, Made, Tried, after}
use Rattle.stateful_history.specs.Restarts.{reopened_height, WasReached, CanReopen}
use Rattle.stateful_history.specs.Honest.{StoresHeights}
use Rattle.stateful_history.specs.declared.event.Event.TheVariants.{Restart}
use Rattle.stateful_history.specs.declared.mark.Mark.{Mark}
use Rattle.stateful_history.specs.declared.mark.Mark.TheVariants.{Opened}
use Rattle.stateful_exec_model.specs.Workings.{Workings}
use Rattle.stateful_exec_laws.specs.Storing.{IsStoredNow}
use Rattle.stateful_loop_model.specs.Left.{IsTried, LeavesOpening, closed, not_opened, opened}
use Rattle.stateful_loop_model.specs.Moments.{Moment}
use Rattle.stateful_loop_model.specs.Opening.{Opens, FailsToOpen, FaultsOpening}
use Rattle.stateful_loop_model.specs.declared.error.StepError.{StepError}
use Rattle.stateful_loop_model.specs.declared.error.StepError.TheVariants.{Database, TargetMismatch, MissingBlock, OutOfMemory}
use Rattle.stateful_loop_laws.specs.Down.{IsEnding}
use Rattle.stateful_loop_laws.specs.Media.{KeepsSome, KeepsDurably, targets_of, TargetsRise, KeepsReopenable, MediaKept}
use Rattle.stateful_loop_laws.proofs.execution.Opens.{handed}
use Rattle.stateful_loop_laws.proofs.media.Kept.{KeepsHeights-opened}
use Rattle.stateful_loop_laws.proofs.media.Reaching.{reached-ends}

module _ {Ids S T : Type 0} (d : Databases Ids S T) (laws : Laws d) (t : T) (i : ℕ) (within : i < d.count) where
  -- a crash leaves what is durable
  pub KeepsDurably-crashed : (old new : d.Members) (keep : List ℕ) → d.Crashed old keep new → KeepsDurably d old t i → KeepsDurably d new t i
  KeepsDurably-crashed old new keep is k = record {
    place = k.place;
    at = record {
      state = k.at.state;
      has = laws.opening.kept_crashed old new keep i k.place k.at.state within is k.durable k.at.has;
      targets = k.at.targets;
    };
    durable = omega (arith, laws.opening.durable_crashed old new keep i within is, k.durable);
  }

  -- and so does an opening at further targets
  pub KeepsDurably-up_to : (u : T) (old new : d.Members) → KeepsUpTo d u old new → (d.target_at t i).end.0 ≤ (d.target_at u i).end.0
      → KeepsDurably d old t i → KeepsDurably d new t i
  KeepsDurably-up_to u old new up_to near k =
      let ends : EndsWithin d u i k.at.state = subst (λ (v : T). (d.target_at v i).end.0 ≤ (d.target_at u i).end.0) (sym k.at.targets) near in
      record {
        place = k.place;
        at = record {
          state = k.at.state;
          has = up_to.kept i k.place k.at.state within k.at.has ends;
          targets = k.at.targets;
        };
        durable = up_to.durable i k.place k.at.state within k.at.has ends k.durable;
      }

module _ {B C I P R D H G U : Type 0} (w : Workings B C I P R D H G U) (laws : Laws w.kind) (stored stored_now : ℕ → Option (Named B))
    (p : Past B C I) (stored_is : IsStoredNow stored p stored_now) (rise : TargetsRise w stored) (floor : Floor) (keep : List ℕ)
    (old : w.kind.Members) (sound : w.kind.Sound old) (k : KeepsReopenable w stored p old) where
  abbrev r : ℕ
  r = reopened_height floor

  was_stored : (b : Named B) → stored_now r ≡ Some b → stored r ≡ Some b
  was_stored b is = handed stored stored_now p stored_is r b is

  -- what was kept of a height that isn't above the restart's is kept behind it
  module _ (q i : ℕ) (b : Named B) (can : CanReopen q p) (low : q ≤ r) (is : stored q ≡ Some b) (within : i < w.kind.count) where
    abbrev own : w.Targets
    own = targets_of w stored b

    crashed_keeps : (new : w.kind.Members) → w.kind.Crashed old keep new → KeepsDurably w.kind new own i
    crashed_keeps new crash = KeepsDurably-crashed w.kind laws own i within old new keep crash (k q i b can is within)

    tried_keeps : (crashed new : w.kind.Members) (block : Named B) → IsTried w stored_now floor keep old crashed block
        → KeepsUpTo w.kind (targets_of w stored block) crashed new → KeepsDurably w.kind new own i
    tried_keeps crashed new block tried up_to =
        KeepsDurably-up_to w.kind laws own i within (targets_of w stored block) crashed new up_to
        (rise q r i b block low is (was_stored block tried.is_stored) within) (crashed_keeps crashed tried.is_crashed)

    left_keeps : (new : w.kind.Members) → w.kind.count < 2 ^ 64 → LeavesOpening w stored_now floor keep old new → KeepsDurably w.kind new own i
    left_keeps new few (closed crash) = crashed_keeps new crash
    left_keeps new few (not_opened {crashed = crashed} {block = block} {i = n} {before = before} {now = now} {why = why} tried fails) =
        tried_keeps crashed new block tried (laws.opening.kept_not_opened crashed new (targets_of w stored block) n why before now
        (laws.opening.sound_crashed old crashed keep sound tried.is_crashed) (fails few))
    left_keeps new few (opened {crashed = crashed} {block = block} tried reopened) =
        tried_keeps crashed new block tried (laws.opening.kept_reopened crashed new (targets_of w stored block)
        (laws.opening.sound_crashed old crashed keep sound tried.is_crashed) reopened)

  -- The databases weren't opened: they keep what can be opened again after a restart that was tried.
  pub tried-media : (new : w.kind.Members) → w.kind.count < 2 ^ 64 → LeavesOpening w stored_now floor keep old new
      → KeepsReopenable w stored (Tried (record { 0 = reopened_height floor }) ∷ p) new
  tried-media new few left q i b (inl reached) is within = left_keeps q i b (inl reached.1) reached.0 is within new few left
  tried-media new few left q i b (inr none) is within = left_keeps q i b (inr none) (omega (arith, none.1)) is within new few left

  module _ (heights : StoresHeights w.header stored) (m now : Moment w) (same : m.members ≡ old) (o : Opens w stored_now floor keep m now)
      (over : List (Mark B)) (ending : All IsEnding over) where
    abbrev anchor : Anchor
    anchor = anchor_by w.header o.block

    abbrev behind : Past B C I
    behind = Made (Opened (anchor_by w.header o.block)) ∷ after (Came (Restart floor keep) ∷ p) over

    is_tried : IsTried w stored_now floor keep old o.crashed o.block
    is_tried = record {
      is_crashed = subst (λ (x : w.kind.Members). w.kind.Crashed x keep o.crashed) same o.is_crashed;
      is_stored = o.is_stored;
    }

    height : w.header.height o.block.block ≡ r
    height = heights r o.block (was_stored o.block o.is_stored)

    -- the store has one block at its height
    one : (c : Named B) → stored (w.header.height o.block.block) ≡ Some c → c ≡ o.block
    one c is =
        let there : stored r ≡ Some c = subst (λ (n : ℕ). stored n ≡ Some c) height is in
        let here : stored r ≡ Some o.block = was_stored o.block o.is_stored in search

    opens_keeps : KeepsReopenable w stored behind now.members
    opens_keeps q i b (inl (inl at)) is within =
        let block : b ≡ o.block = one b (subst (λ (n : ℕ). stored n ≡ Some b) (sym at) is) in
        record {
          place = w.kind.place now.members i;
          at = record {
            state = o.opening.at.1;
            has = laws.places.has_newest now.members o.opening.at i within o.opening.here;
            targets = o.opening.targets_are ∙ ap (λ (x : Named B). targets_of w stored x) (sym block);
          };
          durable = omega (arith, o.opening.durable i within);
        }
    opens_keeps q i b (inl (inr reached)) is within =
        let before : WasReached q (Came (Restart floor keep) ∷ p) = reached-ends q (Came (Restart floor keep) ∷ p) over ending reached in
        tried_keeps q i b (inl before.1) before.0 is within o.crashed now.members o.block is_tried
        (laws.opening.kept_reopened o.crashed now.members (targets_of w stored o.block)
        (laws.opening.sound_crashed old o.crashed keep sound is_tried.is_crashed) o.reopened)
    opens_keeps q i b (inr none) is within = absurd none.0

    -- The databases were opened, after marks by which live work ends.
    pub opens-media : MediaKept w stored behind anchor now.members
    opens-media = record {
      reopenable = opens_keeps;
      heights = KeepsHeights-opened w stored laws now.next now.members o.block o.opening one;
    }

-- the store has one block at a height
one_stored : {X : Type 0} (o : Option X) (x y : X) → o ≡ Some x → o ≡ Some y → x ≡ y
one_stored o x y one two = cc

module _ {B C I P R D H G U : Type 0} (w : Workings B C I P R D H G U) (laws : Laws w.kind) (stored_now : ℕ → Option (Named B)) (floor : Floor)
    (keep : List ℕ) (old new : w.kind.Members) (sound : w.kind.Sound old) (block : Named B)
    (is_stored : stored_now (reopened_height floor) ≡ Some block) (few : w.kind.count < 2 ^ 64) (before now : ℕ → ℕ)
    (still : (i : ℕ) → i < w.kind.count → Rose (before i) (now i) → ⊥)
    (k : (crashed : w.kind.Members) → w.kind.Crashed old keep crashed → (i : ℕ) → i < w.kind.count
    → KeepsSome w.kind crashed (w.works.meaning.targets block.block) i) where
  abbrev targets : w.Targets
  targets = w.works.meaning.targets block.block

  -- databases that keep the block's checkpoints after the crash aren't refused
  unrefused : (i : ℕ) (why : InitError) (f : FailsToOpen w stored_now floor keep before now old new i why)
      → w.kind.Refuses f.crashed (Some (w.works.meaning.targets f.block.block)) i why → ⊥
  unrefused i why f refuses =
      let at : KeepsSome w.kind f.crashed targets i = k f.crashed f.is_crashed i f.within in
      let same : f.block ≡ block = one_stored (stored_now (reopened_height floor)) f.block block f.is_stored is_stored in
      laws.opening.not_refused f.crashed targets i at.place at.at.state why (laws.opening.sound_crashed old f.crashed keep sound f.is_crashed)
      f.within at.at.has (subst (λ (t : w.Targets). w.kind.Agrees t targets i) (sym at.at.targets) (laws.targets.agrees_same targets i))
      (subst (λ (b : Named B). w.kind.Refuses f.crashed (Some (w.works.meaning.targets b.block)) i why) same refuses)

  fails_for : (i : ℕ) (why : InitError) → (why ≡ init.OutOfMemory → ⊥) → FailsToOpen w stored_now floor keep before now old new i why → ⊥
  fails_for i why other f =
      go (laws.opening.cause f.crashed new (Some (w.works.meaning.targets f.block.block)) i why (before i) (now i) (f.not_opened few))
    where
      go : (why ≡ init.OutOfMemory)
          ⊎ (((why ≡ init.Database) × Rose (before i) (now i)) ⊎ w.kind.Refuses f.crashed (Some (w.works.meaning.targets f.block.block)) i why) → ⊥
      go (inl memory) = other memory
      go (inr (inl rose)) = still i f.within rose.1
      go (inr (inr refuses)) = unrefused i why f refuses

  -- Where each database keeps after the crash a checkpoint of the block at the height that is to be opened, and no count of faults
  -- rises, nothing but memory keeps them from being opened.
  pub refused-memory : (e : StepError) → FaultsOpening w stored_now floor keep before now old new e → e ≡ OutOfMemory
  refused-memory OutOfMemory fault = refl
  refused-memory (MissingBlock height) fault =
      let none : stored_now (reopened_height floor) ≡ None = subst (λ (n : ℕ). stored_now n ≡ None) fault.0 fault.1 in cc
  refused-memory (Database i) fault = absurd (fails_for i init.Database (λ no. cc) fault)
  refused-memory (TargetMismatch i expected recovered) fault = absurd (fails_for i (init.TargetMismatch expected recovered) (λ no. cc) fault)
  refused-memory e fault = absurd fault
