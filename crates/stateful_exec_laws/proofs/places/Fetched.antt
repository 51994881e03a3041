-- Marks stand in their places: those behind the answer of a fetch.
use Rattle.std.proofs.Common.{◌≡◌, ◌++◌, inl, ℕ, List, [], ◌∷◌, Any, Option, None, Some, refl, sym, ap, ◌∙◌, subst, take}
use Rattle.std.proofs.lemmas.List.{append_assoc}
use Rattle.std.proofs.lemmas.List.Elements.{All-push}
use Rattle.stateful_base.specs.Names.{Named}
use Rattle.stateful_base.specs.declared.anchor.Anchor.{Anchor}
use Rattle.stateful_base.specs.declared.digest.Digest.{Digest}
use Rattle.stateful_history.specs.Fetches.{WasAsked}
use Rattle.stateful_history.specs.Met.{Met, TrueNames}
use Rattle.stateful_history.specs.Past.{Past, Came}
use Rattle.stateful_history.specs.Setting.{parent_of}
use Rattle.stateful_history.specs.declared.event.Event.TheVariants.{Fetched}
use Rattle.stateful_exec_tables.specs.Fetching.{Fetches, with_block}
use Rattle.stateful_exec_model.specs.Fetching.{serving, IsFetched, found, waits, declines, dead}
use Rattle.stateful_exec_model.specs.Moments.{Moment}
use Rattle.stateful_exec_model.specs.Workings.{Workings, Point}
use Rattle.stateful_exec_pause.specs.declared.pause.Pause.TheVariants.{Free}
use Rattle.stateful_exec_walk.specs.declared.request.Request.{Request}
use Rattle.stateful_exec_walk.specs.declared.request.Request.TheVariants.{Verify, Recover}
use Rattle.stateful_exec_walk.specs.declared.request.Verdict.TheVariants as verdict
use Rattle.stateful_exec_tables.specs.declared.tables.Requested.{Requested}
use Rattle.stateful_exec_laws.specs.Setting.{setting}
use Rattle.stateful_exec_laws.specs.Gathering.{gathered, but_last, AsksParents}
use Rattle.stateful_exec_laws.specs.Standing.{TablesStand}
use Rattle.stateful_exec_laws.proofs.linked.Circular.{but_last-push}
use Rattle.stateful_exec_laws.proofs.requests.FetchStands.{TablesStand-fetched, IsInHand-fetched, acquired-fetched}
use Rattle.stateful_exec_laws.proofs.requests.KeptMarks.{KeepsBehind, KeepsBehind-same}
use Rattle.stateful_exec_laws.proofs.places.Asks.{acquires-in_place}
use Rattle.stateful_exec_laws.proofs.places.Followed.{IsOrderly}
use Rattle.stateful_exec_laws.proofs.places.Marks.{IsInPlace, concludes-in_place}
use Rattle.stateful_exec_laws.proofs.places.Starts.{live-request}
use Rattle.stateful_exec_laws.proofs.reasons.Fetched.{IsGround-fetched}
use Rattle.stateful_exec_laws.proofs.reasons.Ground.{IsGround}

-- what is gathered with one block more
pub gathered-push : {B C I : Type 0} (request : Request B C I) (acquired : List (Named B)) (b : Named B) → gathered request (acquired ++ b ∷ []) ≡ gathered request acquired ++ b ∷ []
gathered-push (Verify t ancestry) acquired b = ap (λ l. ancestry.first ∷ l) (sym (append_assoc (take 1 ancestry.rest) acquired (b ∷ [])))
gathered-push (Recover t context ancestry input kind) acquired b = refl

module _ {B C I P R D H G U : Type 0} (w : Workings B C I P R D H G U) (stored : ℕ → Option (Named B)) (base : w.States) (p : Past B C I) (points : Digest → Point w) (point : Point w) (tip : Anchor) (m : Moment w)
    (s : TablesStand w stored p points point m.next m.state) (g : IsGround w stored base p points point m.next tip m.state.pause m.state.anchor m.state.cache) (free : m.state.pause ≡ Free)
    (f : ℕ) (answer : Option (Named B)) (names : TrueNames (setting w stored) (Came (Fetched f answer) ∷ p)) (stored_now : ℕ → Option (Named B)) where
  abbrev given : Past B C I
  given = Came (Fetched f answer) ∷ p

  -- what was asked for the ticket is the parent of a block that another one stands behind
  asked_before : (t : ℕ) (r : Requested B C I) (b : Named B) → ((d : Digest) → WasAsked t d given → WasAsked t d p) → AsksParents (setting w stored) p t (gathered r.request r.acquired) → AsksParents (setting w stored) given t (but_last (gathered r.request (r.acquired ++ b ∷ [])))
  asked_before t r b before asked d was =
      subst (λ (l : List (Named B)). Any (λ x. d ≡ parent_of (setting w stored) x) l) (sym (ap but_last (gathered-push r.request r.acquired b) ∙ but_last-push (gathered r.request r.acquired) b)) (asked d (before d was))

  -- Each mark behind the answer of a fetch stands in its place, where what was asked for its request is the parent of what was
  -- gathered.
  pub fetched-in_place : IsOrderly w stored given → ((t : ℕ) (r : Requested B C I) → Fetches m.state f t r → AsksParents (setting w stored) p t (gathered r.request r.acquired)) → (now : Moment w) → IsFetched w stored_now m f answer now → KeepsBehind w (IsInPlace w stored base) given m now
  fetched-in_place orderly asked now (found t r b fetches is acquires) =
      let k : KeepsBehind w (IsInPlace w stored base) given (serving w m t) now =
      acquires-in_place w stored base given points point tip (serving w m t) (IsGround-fetched w stored base p points point tip m s g free f answer [] names t r fetches) free stored_now
      (TablesStand-fetched w stored p points point m.next m.state s f answer t r fetches) orderly.apart orderly.again t (with_block r b)
      (IsInHand-fetched w stored p points point m.next m.state s f answer t r fetches)
      (All-push (Met (setting w stored) given) r.acquired b (acquired-fetched w stored p points point m.next m.state s f answer t r fetches) (inl is))
      (asked_before t r b (λ d was. asked_given d answer was) (asked t r fetches)) (orderly.live t (live-request w stored given t r.request (IsInHand-fetched w stored p points point m.next m.state s f answer t r fetches).asked)) now acquires in
      record { more = k.more; marks_are = k.marks_are; each = k.each }
    where
      asked_given : (d : Digest) (o : Option (Named B)) → WasAsked t d (Came (Fetched f o) ∷ p) → WasAsked t d p
      asked_given d None was = was
      asked_given d (Some c) was = was
  fetched-in_place orderly asked now (waits t r fetches is verification becomes) = rw becomes (record { more = []; marks_are = refl; each = tt })
  fetched-in_place orderly asked now (declines t r fetches is proposal concludes) =
      let k : KeepsBehind w (IsInPlace w stored base) given (serving w m t) now =
      concludes-in_place w stored base given (serving w m t) t r verdict.Invalid now (IsInHand-fetched w stored p points point m.next m.state s f answer t r fetches).asked (orderly.live t (live-request w stored given t r.request (IsInHand-fetched w stored p points point m.next m.state s f answer t r fetches).asked)) concludes in
      record { more = k.more; marks_are = k.marks_are; each = k.each }
  fetched-in_place orderly asked now (dead none is) = KeepsBehind-same w (IsInPlace w stored base) given m now (ap (λ (n : Moment w). n.marks) is)
