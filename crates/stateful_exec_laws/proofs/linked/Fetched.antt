-- What was gathered stays linked, and the parents of queued proposals known or lost, behind the answer of a fetch, after a cancel
-- and where a pause begins.
use Rattle.std.proofs.Common.{◌≡◌, ◌⊎◌, inl, inr, ℕ, List, [], ◌∷◌, All, Option, get_or, refl, sym, subst}
use Rattle.std.proofs.lemmas.List.{append-nil}
use Rattle.std.proofs.lemmas.List.Elements.{All-push, All-map, All-nil, All-cons}
use Rattle.stateful_base.specs.Names.{Named}
use Rattle.stateful_base.specs.declared.anchor.Anchor.{Anchor}
use Rattle.stateful_base.specs.declared.digest.Digest.{Digest}
use Rattle.stateful_history.specs.Honest.{IsHonest, IsAnswered}
use Rattle.stateful_history.specs.Known.{Known}
use Rattle.stateful_history.specs.Met.{Met, TrueNames}
use Rattle.stateful_history.specs.Past.{Past, Came, Made, after}
use Rattle.stateful_history.specs.declared.event.Event.TheVariants.{Fetched, Cancel}
use Rattle.stateful_history.specs.declared.mark.How.TheVariants.{Cancelled}
use Rattle.stateful_history.specs.declared.mark.Mark.{Mark}
use Rattle.stateful_history.specs.declared.mark.Mark.TheVariants.{Withdrawn, Ended}
use Rattle.stateful_table.specs.Table.{without}
use Rattle.stateful_exec_pause.specs.Boundary.{Boundary}
use Rattle.stateful_exec_tables.specs.Fetching.{Fetches, with_block}
use Rattle.stateful_exec_model.specs.Fetching.{serving, IsFetched, found, waits, declines, dead}
use Rattle.stateful_exec_tables.specs.Cancelling.{Cancels}
use Rattle.stateful_exec_tables.specs.Cancelling.{idle, withdraws, leaves, ends, unqueued}
use Rattle.stateful_exec_model.specs.Moments.{Moment}
use Rattle.stateful_exec_tables.specs.Pausing.{Pauses}
use Rattle.stateful_exec_tables.specs.Phase.{unfetched, dropped}
use Rattle.stateful_exec_tables.specs.Tables.{taken}
use Rattle.stateful_exec_model.specs.Workings.{Workings, Point}
use Rattle.stateful_exec_pause.specs.declared.pause.Pause.TheVariants.{Free}
use Rattle.stateful_exec_walk.specs.declared.request.Proposal.{Proposal}
use Rattle.stateful_exec_walk.specs.declared.request.Verdict.TheVariants as verdict
use Rattle.stateful_exec_tables.specs.declared.state.Tables.{Tables}
use Rattle.stateful_exec_tables.specs.declared.tables.Phase.{Phase}
use Rattle.stateful_exec_tables.specs.declared.tables.Phase.TheVariants.{Open, Fetching, Waiting, Executing, Parked}
use Rattle.stateful_exec_tables.specs.declared.tables.Requested.{Requested}
use Rattle.stateful_exec_laws.specs.Setting.{setting}
use Rattle.stateful_exec_laws.specs.Gathering.{IsGathered}
use Rattle.stateful_exec_laws.specs.Reaching.{IsLost}
use Rattle.stateful_exec_laws.specs.Standing.{TablesStand}
use Rattle.stateful_exec_laws.proofs.requests.FetchStands.{TablesStand-fetched, IsInHand-fetched, acquired-fetched}
use Rattle.stateful_exec_laws.proofs.linked.Gathered.{AreLinked-fetched}
use Rattle.stateful_exec_laws.proofs.linked.On.{IsStill, StaysLinked, met_on, StaysLinked-on, StaysLinked-marks, QueueIsMet}
use Rattle.stateful_exec_laws.proofs.linked.Served.{names-served, StaysLinked-acquires, StaysLinked-concludes}
use Rattle.stateful_exec_laws.proofs.linked.Turned.{LinkedBehind}
use Rattle.stateful_exec_laws.proofs.requests.Putting.{All-put}
use Rattle.stateful_exec_laws.proofs.linked.QueueServed.{queue-met}
use Rattle.stateful_exec_laws.proofs.reasons.Fetched.{IsGround-fetched}
use Rattle.stateful_exec_laws.proofs.reasons.Ground.{IsGround}
use Rattle.stateful_exec_laws.proofs.runs.Removing.{All-at, All-without}
use Rattle.stateful_exec_laws.proofs.requests.ServedMarks.{acquires-marks, concludes-marks}

module _ {B C I P R D H G U : Type 0} (w : Workings B C I P R D H G U) (stored : ℕ → Option (Named B)) (base : w.States) where
  -- of the tables without the request of a ticket it is so too
  pub StaysLinked-taken : (p : Past B C I) (v : Tables B C I R U) (t : ℕ) → StaysLinked w stored base p v → StaysLinked w stored base p (taken v t)
  StaysLinked-taken p v t h = record {
    gatherings = All-without (λ (e : ℕ × Requested B C I). IsGathered (setting w stored) p e.1) v.requests t (λ k d l other. h.gatherings k d l);
    reaches = h.reaches;
  }

  -- and of those without its proposal
  pub StaysLinked-unqueued : (p : Past B C I) (v new : Tables B C I R U) (t : ℕ) → new.requests ≡ v.requests → new.queued ≡ without v.queued t
      → StaysLinked w stored base p v → StaysLinked w stored base p new
  StaysLinked-unqueued p v new t requests queued h = record {
    gatherings = rw requests h.gatherings;
    reaches = rw queued
        (All-without (λ (e : ℕ × Proposal B C I). Known (setting w stored) p e.1.ancestry.first.digest ⊎ IsLost w stored base p e.1.ancestry.first)
        v.queued t (λ k d l other. h.reaches k d l));
  }

  still_one : (mark : Mark B) → IsStill {C = C} {I = I} (Made mark) → All (λ m. IsStill {C = C} {I = I} (Made m)) (mark ∷ [])
  still_one mark still = All-cons (λ m. IsStill {C = C} {I = I} (Made m)) mark [] still (All-nil (λ m. IsStill {C = C} {I = I} (Made m)))

  module _ (p : Past B C I) (points : Digest → Point w) (point : Point w) (tip : Anchor) (m : Moment w)
      (s : TablesStand w stored p points point m.next m.state)
      (g : IsGround w stored base p points point m.next tip m.state.pause m.state.anchor m.state.cache) (free : m.state.pause ≡ Free)
      (f : ℕ) (answer : Option (Named B)) (names : TrueNames (setting w stored) (Came (Fetched f answer) ∷ p))
      (honest : IsHonest (setting w stored) (Came (Fetched f answer) ∷ p)) (answered : IsAnswered (Came (Fetched f answer) ∷ p))
      (h : StaysLinked w stored base p m.state) where
    abbrev given : Past B C I
    given = Came (Fetched f answer) ∷ p

    came : StaysLinked w stored base given m.state
    came = StaysLinked-on w stored base p (Came (Fetched f answer)) tt names m.state (queue-met w stored p m.state.queued m.state.recovered s.queue) h

    gathered_for : (t : ℕ) (r : Requested B C I) → Fetches m.state f t r → IsGathered (setting w stored) given r
    gathered_for t r fetches = All-at (λ (x : ℕ × Requested B C I). IsGathered (setting w stored) given x.1) m.state.requests t r fetches.there came.gatherings

    abbrev Behind : Moment w → Moment w → Type 0
    Behind = LinkedBehind w stored base given

    from_serving : (now : Moment w) (t : ℕ) → Behind (serving w m t) now → Behind m now
    from_serving now t b = record { more = b.more; marks_are = b.marks_are; stays = b.stays }

    -- It stays so behind the answer of a fetch.
    pub StaysLinked-fetched : (held : ℕ → Option (Named B)) (now : Moment w) → IsFetched w held m f answer now → LinkedBehind w stored base given m now
    StaysLinked-fetched held now (found t r b fetches is rule) =
        let k = acquires-marks w given (serving w m t) now t held (with_block r b) rule in
        from_serving now t (record {
          more = k.more;
          marks_are = k.marks_are;
          stays = StaysLinked-acquires w stored base given points point (serving w m t) now
              (TablesStand-fetched w stored p points point m.next m.state s f answer t r fetches) (StaysLinked-taken given m.state t came) k.more k.marks_are
              (names-served (setting w stored) k.more given t k.each names) t (with_block r b) tip
              (IsGround-fetched w stored base p points point tip m s g free f answer [] names t r fetches) free
              (IsInHand-fetched w stored p points point m.next m.state s f answer t r fetches)
              (All-push (Met (setting w stored) given) r.acquired b
              (acquired-fetched w stored p points point m.next m.state s f answer t r fetches) (inl is))
              (AreLinked-fetched (setting w stored) p f b r fetches.fetching
              (All-at (λ (x : ℕ × Requested B C I). IsGathered (setting w stored) p x.1) m.state.requests t r fetches.there h.gatherings)
              (subst (λ (o : Option (Named B)). IsHonest (setting w stored) (Came (Fetched f o) ∷ p)) is honest)
              (subst (λ (o : Option (Named B)). IsAnswered (Came (Fetched f o) ∷ p)) is answered)) held rule;
        })
    StaysLinked-fetched held now (waits t r fetches is verification becomes) = rw becomes (record {
      more = [];
      marks_are = refl;
      stays = record {
        gatherings = All-put (λ (e : ℕ × Requested B C I). IsGathered (setting w stored) given e.1) (taken m.state t).requests t
            (record r { phase = Waiting }) (StaysLinked-taken given m.state t came).gatherings
            (record { linked = (gathered_for t r fetches).linked; fetched = λ g waits. cc });
        reaches = came.reaches;
      };
    })
    StaysLinked-fetched held now (declines t r fetches is proposal rule) =
        let k = concludes-marks w given (serving w m t) now t r verdict.Invalid rule in
        from_serving now t (record {
          more = k.more;
          marks_are = k.marks_are;
          stays = StaysLinked-concludes w stored base given points point (serving w m t) now
              (TablesStand-fetched w stored p points point m.next m.state s f answer t r fetches) (StaysLinked-taken given m.state t came) k.more k.marks_are
              (names-served (setting w stored) k.more given t k.each names) t r ((gathered_for t r fetches).linked honest answered) rule;
        })
    StaysLinked-fetched held now (dead none is) = rw is (record { more = []; marks_are = sym (append-nil m.marks); stays = came })

  module _ (p : Past B C I) (points : Digest → Point w) (point : Point w) (next : w.Ids) (old new : Tables B C I R U)
      (s : TablesStand w stored p points point next old) (t : ℕ) (names : TrueNames (setting w stored) (Came (Cancel t) ∷ p))
      (h : StaysLinked w stored base p old) where
    abbrev gone : Past B C I
    gone = Came (Cancel t) ∷ p

    met_gone : QueueIsMet w stored base gone old.queued
    met_gone = met_on w stored base p (Came (Cancel t)) old.queued (queue-met w stored p old.queued old.recovered s.queue)

    left_gone : StaysLinked w stored base gone (taken old t)
    left_gone = StaysLinked-taken gone old t
        (StaysLinked-on w stored base p (Came (Cancel t)) tt names old (queue-met w stored p old.queued old.recovered s.queue) h)

    names_with : (mark : Mark B) → ((b : Named B) → Met (setting w stored) (Made mark ∷ gone) b → Met (setting w stored) gone b)
        → TrueNames (setting w stored) (Made mark ∷ gone)
    names_with mark back x y has_x has_y = names x y (back x has_x) (back y has_y)

    -- It stays so after a cancel and its marks.
    pub StaysLinked-cancelled : (marks : List (Mark B)) → Cancels old new t marks → StaysLinked w stored base (after gone marks) new
    StaysLinked-cancelled marks (idle r there is_idle new_is marks_is) = rw (new_is, marks_is) left_gone
    StaysLinked-cancelled marks (withdraws r f fetches new_is marks_is) = rw (new_is, marks_is)
        (StaysLinked-on w stored base gone (Made (Withdrawn f)) tt
        (names_with (Withdrawn f) (λ b m. elim m [ inl none ↦ absurd none | inr one ↦ one ])) (taken old t) met_gone left_gone)
    StaysLinked-cancelled marks (leaves r j path there executing others new_is marks_is) = rw (new_is, marks_is) left_gone
    StaysLinked-cancelled marks (ends r j path there executing last new_is marks_is) = rw (new_is, marks_is)
        (as_left (Made (Ended j Cancelled) ∷ gone) (StaysLinked-on w stored base gone (Made (Ended j Cancelled)) tt
        (names_with (Ended j Cancelled) (λ b m. elim m [ inl none ↦ absurd none | inr one ↦ one ])) (taken old t) met_gone left_gone))
      where
        as_left : (q : Past B C I) → StaysLinked w stored base q (taken old t) → StaysLinked w stored base q (record (taken old t) { runs = without old.runs j })
        as_left q k = record { gatherings = k.gatherings; reaches = k.reaches }
    StaysLinked-cancelled marks (unqueued none new_is marks_is) = rw (new_is, marks_is)
        (StaysLinked-unqueued gone (taken old t) _ t refl refl left_gone)

  -- a request whose fetch is given up
  unfetched_none : (phase : Phase B) (f : ℕ) → unfetched phase ≡ Fetching f → ⊥
  unfetched_none Open f is = cc
  unfetched_none (Fetching g) f is = cc
  unfetched_none Waiting f is = cc
  unfetched_none (Executing j path) f is = cc
  unfetched_none (Parked path) f is = cc

  -- It stays so where a pause begins, after the marks by which fetches are withdrawn.
  pub StaysLinked-paused : (o : Option Boundary) (p : Past B C I) (old new : Tables B C I R U) (marks : List (Mark B)) → TrueNames (setting w stored) (after p marks)
      → QueueIsMet w stored base p old.queued → Pauses o old new marks → StaysLinked w stored base p old → StaysLinked w stored base (after p marks) new
  StaysLinked-paused o p old new marks names met pauses h =
      let on : StaysLinked w stored base (after p marks) old = StaysLinked-marks w stored base marks p
      (rw (pauses.marks_are) (All-map (λ (m : Mark B). IsStill {C = C} {I = I} (Made m)) (λ f. Withdrawn f) pauses.fetches (λ k d l. tt))) names old met h in
      rw (pauses.state) (record {
        gatherings = All-map (λ (e : ℕ × Requested B C I). IsGathered (setting w stored) (after p marks) e.1) dropped old.requests (λ k d l.
            let e = get_or old.requests k d in
            record { linked = (on.gatherings k d l).linked; fetched = λ f is. absurd (unfetched_none e.1.phase f is) });
        reaches = on.reaches;
      })
