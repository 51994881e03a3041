-- After an opening execution stands, and nothing goes on.
use Rattle.std.proofs.Common.{◌≡◌, inl, inr, ℕ, Bool, true, false, nat_lt, if◌then◌else◌, List, [], ◌∷◌, Option, Some, None, refl, sym, ap, ◌∙◌, subst}
use Rattle.std.proofs.lemmas.List.Elements.{All-nil}
use Rattle.stateful_base.specs.Names.{Named}
use Rattle.stateful_base.specs.Anchor.{anchor_by}
use Rattle.stateful_base.specs.declared.anchor.Anchor.{Anchor}
use Rattle.stateful_base.specs.declared.digest.Digest.{Digest}
use Rattle.stateful_base.specs.declared.floor.Floor.{Floor}
use Rattle.stateful_history.specs.Canonical.{pruned_below}
use Rattle.stateful_history.specs.Met.{Met, TrueNames}
use Rattle.stateful_history.specs.Past.{Past, Made}
use Rattle.stateful_history.specs.Setting.{Setting}
use Rattle.stateful_history.specs.Stops.{NothingLive}
use Rattle.stateful_history.specs.declared.mark.Mark.TheVariants.{Opened}
use Rattle.stateful_exec_walk.specs.Path.{Path}
use Rattle.stateful_exec_model.specs.Workings.{Workings, Point}
use Rattle.stateful_exec_model.specs.declared.building.Building.{Building}
use Rattle.stateful_exec_model.specs.declared.front.Front.{Front}
use Rattle.stateful_exec_pause.specs.declared.pause.Pause.{Pause}
use Rattle.stateful_exec_pause.specs.declared.pause.Pause.TheVariants.{Free}
use Rattle.stateful_exec_tables.specs.declared.state.Tables.{Tables}
use Rattle.stateful_exec_tables.specs.declared.tables.Phase.TheVariants.{Parked}
use Rattle.stateful_exec_tables.specs.declared.tables.Requested.{Requested}
use Rattle.stateful_exec_laws.specs.Building.{BuildStands}
use Rattle.stateful_exec_laws.specs.Fronting.{FrontStands}
use Rattle.stateful_exec_laws.specs.Ground.{IsGround}
use Rattle.stateful_exec_laws.specs.Requesting.{AllAbstain}
use Rattle.stateful_exec_laws.specs.Setting.{setting}
use Rattle.stateful_exec_laws.specs.Standing.{NumbersStand, TablesStand}
use Rattle.stateful_exec_laws.specs.Ways.{WaysStand}
use Rattle.stateful_exec_laws.specs.Storing.{IsStoredNow}
use Rattle.stateful_exec_laws.proofs.front.GroundOpened.{IsGround-opened, WaysStand-opened}
use Rattle.stateful_exec_laws.proofs.requests.OpenedStands.{IsOpenedAt, IsIdle, IsOpening, TablesStand-opened, BuildStands-opened, FrontStands-opened, AllAbstain-opened}
use Rattle.stateful_loop_model.specs.Moments.{Moment}
use Rattle.stateful_loop_model.specs.Opening.{Opens}
use Rattle.stateful_loop_laws.specs.Execution.{IsPlaced, Executes}
use Rattle.stateful_loop_laws.specs.Ways.{ParksNone}

-- a block that the store was handed is one of the history
pub stored-Met : {B C I S T : Type 0} (s : Setting B S T) (p : Past B C I) (h : ℕ) (b : Named B) → s.stored h ≡ Some b → Met s p b
stored-Met s [] h b is = (h, is)
stored-Met s (x ∷ p) h b is = inr (stored-Met s p h b is)

-- what the store has now it was handed
pub handed : {B C I : Type 0} (stored stored_now : ℕ → Option (Named B)) (p : Past B C I) → IsStoredNow stored p stored_now → (h : ℕ) (b : Named B)
    → stored_now h ≡ Some b → stored h ≡ Some b
handed {B = B} stored stored_now p now_is h b is = go (nat_lt h (pruned_below p)) (sym (now_is h) ∙ is)
  where
    go : (x : Bool) → (if x then None else stored h) ≡ Some b → stored h ≡ Some b
    go true e = let no : ◌≡◌ {A = Option (Named B)} None (Some b) = e in cc
    go false e = e

module _ {B C I P R D H G U : Type 0} (w : Workings B C I P R D H G U) (stored stored_now : ℕ → Option (Named B)) (floor : Floor) (keep : List ℕ)
    (p : Past B C I) (m now : Moment w)
    (nothing : NothingLive p) (numbers : NumbersStand p m.execution.state.next_job m.execution.state.next_fetch)
    (names : TrueNames (setting w stored) p) (stored_is : IsStoredNow stored p stored_now) (o : Opens w stored_now floor keep m now) where
  abbrev anchor : Anchor
  anchor = anchor_by w.header o.block

  abbrev q : Past B C I
  q = Made (Opened anchor) ∷ p

  abbrev v : Tables B C I R U
  v = now.execution.state

  abbrev point : Point w
  point = o.opening.at

  abbrev points : Digest → Point w
  points d = point

  idle : IsIdle q
  idle = record {
    jobs = λ j kind d live. let no : true ≡ false = sym live.live ∙ nothing.jobs j in cc;
    fetches = λ f t live asked. let no : true ≡ false = sym live ∙ nothing.fetches f in cc;
  }

  opening : IsOpening (setting w stored) p (Made (Opened anchor)) anchor
  opening = record { tip = refl; starts = λ none. none; kept = refl }

  opened : IsOpenedAt anchor v
  opened = record {
    anchor_is = o.anchor;
    cache = o.cache;
    runs = o.runs;
    requests = o.requests.0;
    queued = o.requests.1;
    recovered = o.requests.2;
    pause = o.free;
  }

  tables : TablesStand w stored q points point now.next v
  tables = TablesStand-opened w stored p (Made (Opened anchor)) anchor opening idle point now.next v opened
      (rw (o.numbers.0, o.numbers.1) (record { jobs = numbers.jobs; unturned = numbers.unturned; fetches = numbers.fetches }))

  before : (b : Named B) → Met (setting w stored) q b → Met (setting w stored) p b
  before b (inl brought) = absurd brought
  before b (inr met) = met

  ground : IsGround w stored point.1 q points point now.next v.anchor Free v.anchor v.cache
  ground = subst (λ (x : Pause). IsGround w stored point.1 q points point now.next v.anchor x v.anchor v.cache) o.free
      (IsGround-opened w stored point.1 q points point now.next v tables o.free (ap (λ (a : Anchor). Some a) (sym o.anchor))
      (ap (λ (a : Anchor). Some a) (sym o.anchor)) refl refl
      (record {
        block = o.block;
        met = inr
            (stored-Met (setting w stored) p _ o.block (handed stored stored_now p stored_is _ o.block o.is_stored));
        is = o.anchor;
      })
      (λ x y has_x has_y. names x y (before x has_x) (before y has_y)))

  -- Where nothing was live, execution stands after an opening, over the states that the databases hold.
  pub Executes-opens : Executes w stored o.opening.at.1 (Made (Opened (anchor_by w.header o.block)) ∷ p) now
  Executes-opens = record {
    points = points;
    point = point;
    located = o.opening.here;
    drawn = o.opening.drawn;
    tables = tables;
    builds = subst (λ (b : Option (Building B C D)). BuildStands w stored q points now.next v b) (sym o.nothing.0)
        (BuildStands-opened w stored p (Made (Opened anchor)) anchor opening idle point now.next v opened);
    fronts = subst (λ (f : Option (Front B R U H)). FrontStands w stored q point now.next v.anchor f) (sym o.nothing.1)
        (FrontStands-opened w stored p (Made (Opened anchor)) anchor opening idle point now.next v opened);
    placed = subst (λ (f : Option (Front B R U H)). IsPlaced w stored point.1 q points point now.next v f) (sym o.nothing.1)
        (record { pause_is = o.free; ground = ground });
    alone = λ some. o.nothing.1;
  }

  -- no request is on its way, and none is parked
  pub WaysStand-opens : (tip : Anchor) → WaysStand w stored (Made (Opened (anchor_by w.header o.block)) ∷ p) tip now.execution.state
  WaysStand-opens tip = WaysStand-opened w stored o.opening.at.1 q points point now.next v tip o.requests.0

  pub ParksNone-opens : ParksNone now.execution.state.requests
  ParksNone-opens = subst (λ (es : List (ℕ × Requested B C I)). ParksNone es) (sym o.requests.0)
      (All-nil (λ (e : ℕ × Requested B C I). (path : Path B) → e.1.phase ≡ Parked path → ⊥))

  -- nor does one wait
  pub AllAbstain-opens : AllAbstain w stored (Made (Opened (anchor_by w.header o.block)) ∷ p) now.execution.state.requests
  AllAbstain-opens = AllAbstain-opened w stored p (Made (Opened anchor)) anchor opening idle point now.next v opened
