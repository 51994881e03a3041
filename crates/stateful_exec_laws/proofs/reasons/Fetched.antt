-- False verdicts and declines have their reasons: those behind the answer of a fetch.
use Rattle.std.proofs.Common.{◌≡◌, ◌++◌, inl, inr, ℕ, List, [], ◌∷◌, Option, None, Some, refl, ap}
use Rattle.std.proofs.lemmas.List.Elements.{All-push}
use Rattle.stateful_base.specs.Names.{Named}
use Rattle.stateful_base.specs.declared.anchor.Anchor.{Anchor}
use Rattle.stateful_base.specs.declared.digest.Digest.{Digest}
use Rattle.stateful_history.specs.Met.{Met, TrueNames}
use Rattle.stateful_history.specs.Past.{Past, Came}
use Rattle.stateful_history.specs.declared.event.Event.TheVariants.{Fetched}
use Rattle.stateful_history.specs.declared.mark.Mark.{Mark}
use Rattle.stateful_exec_tables.specs.Fetching.{IsVerification, Fetches, with_block}
use Rattle.stateful_exec_model.specs.Fetching.{serving, IsFetched, found, waits, declines, dead}
use Rattle.stateful_exec_model.specs.Moments.{Moment}
use Rattle.stateful_exec_model.specs.Workings.{Workings, Point}
use Rattle.stateful_exec_pause.specs.declared.pause.Pause.TheVariants.{Free}
use Rattle.stateful_exec_walk.specs.declared.request.Request.{Request}
use Rattle.stateful_exec_walk.specs.declared.request.Request.TheVariants.{Verify, Recover}
use Rattle.stateful_exec_tables.specs.declared.tables.Requested.{Requested}
use Rattle.stateful_exec_laws.specs.Setting.{setting}
use Rattle.stateful_exec_laws.specs.Gathering.{gathered, AreLinked}
use Rattle.stateful_exec_laws.specs.Standing.{TablesStand}
use Rattle.stateful_exec_laws.proofs.requests.Cancelled.{own_fetch}
use Rattle.stateful_exec_laws.specs.Storing.{IsStoredNow}
use Rattle.stateful_exec_laws.proofs.requests.FetchStands.{TablesStand-fetched, IsInHand-fetched, acquired-fetched}
use Rattle.stateful_exec_laws.proofs.requests.KeptMarks.{KeepsBehind, KeepsBehind-same}
use Rattle.stateful_exec_laws.proofs.reasons.Acquired.{acquires-reason}
use Rattle.stateful_exec_laws.proofs.reasons.Ground.{IsGround, IsGround-longer}
use Rattle.stateful_exec_laws.proofs.reasons.Marks.{HasItsReason, MayEnd, concludes-ended}

module _ {B C I P R D H G U : Type 0} (w : Workings B C I P R D H G U) (stored : ℕ → Option (Named B)) (base : w.States) (p : Past B C I) (points : Digest → Point w) (point : Point w) (tip : Anchor) (m : Moment w)
    (s : TablesStand w stored p points point m.next m.state) (g : IsGround w stored base p points point m.next tip m.state.pause m.state.anchor m.state.cache) (free : m.state.pause ≡ Free)
    (f : ℕ) (answer : Option (Named B)) (marks : List (Mark B)) where
  abbrev given : Past B C I
  given = Came (Fetched f answer) ∷ p

  abbrev Rule : Past B C I → Mark B → Type 0
  Rule = HasItsReason w stored base (Fetched f answer) marks

  module _ (names : TrueNames (setting w stored) given) where
    -- the ground is there behind the answer, without the request that fetched
    pub IsGround-fetched : (t : ℕ) (r : Requested B C I) → Fetches m.state f t r → IsGround w stored base given points point m.next tip m.state.pause m.state.anchor m.state.cache
    IsGround-fetched t r fetches =
        IsGround-longer w stored base points point tip p given (λ b met. inr met) refl refl refl m.next m.next m.state.pause m.state.anchor m.state.cache
        (TablesStand-fetched w stored p points point m.next m.state s f answer t r fetches).cache names g

    declined-ended : (t : ℕ) (r : Requested B C I) → Fetches m.state f t r → answer ≡ None → (request : Request B C I) → (IsVerification request → ⊥) → MayEnd w stored base (Fetched f answer) marks given t request
    declined-ended t r fetches is (Verify u ancestry) not = absurd (not tt)
    declined-ended t r fetches is (Recover u context ancestry input kind) not =
        inr (inr (inl (f, ap (λ (o : Option (Named B)). Fetched f o) is, own_fetch w stored p points point m.next m.state t s r fetches.there f fetches.fetching)))

    -- Each mark behind the answer of a fetch keeps the rule, where what was gathered with the answered block is linked.
    pub fetched-reason : (held : ℕ → Option (Named B)) → IsStoredNow stored p held
        → ((t : ℕ) (r : Requested B C I) (b : Named B) → Fetches m.state f t r → answer ≡ Some b → AreLinked (setting w stored) (gathered r.request (r.acquired ++ b ∷ [])))
        → (now : Moment w) → IsFetched w held m f answer now → KeepsBehind w Rule given m now
    fetched-reason held stored_is linked now (found t r b fetches is acquires) =
        let k : KeepsBehind w Rule given (serving w m t) now =
        acquires-reason w stored base (Fetched f answer) marks given points point m.next tip (serving w m t) (IsGround-fetched t r fetches) free held stored_is t (with_block r b) now
        (IsInHand-fetched w stored p points point m.next m.state s f answer t r fetches)
        (All-push (Met (setting w stored) given) r.acquired b (acquired-fetched w stored p points point m.next m.state s f answer t r fetches) (inl is))
        (linked t r b fetches is) acquires in
        record { more = k.more; marks_are = k.marks_are; each = k.each }
    fetched-reason held stored_is linked now (waits t r fetches is verification becomes) = rw becomes (record { more = []; marks_are = refl; each = tt })
    fetched-reason held stored_is linked now (declines t r fetches is proposal concludes) =
        let k : KeepsBehind w Rule given (serving w m t) now =
        concludes-ended w stored base (Fetched f answer) marks given t (serving w m t) r now (IsInHand-fetched w stored p points point m.next m.state s f answer t r fetches).asked
        (declined-ended t r fetches is r.request proposal) concludes in
        record { more = k.more; marks_are = k.marks_are; each = k.each }
    fetched-reason held stored_is linked now (dead none is) = KeepsBehind-same w Rule given m now (ap (λ (n : Moment w). n.marks) is)
