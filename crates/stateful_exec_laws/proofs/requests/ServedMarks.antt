-- Which marks a request makes that is served, and what they leave of the past.
use Rattle.std.proofs.Common.{◌≡◌, ◌≢◌, ◌==◌, if◌then◌else◌, inl, inr, ℕ, Bool, true, false, List, [], ◌∷◌, Option, None, Some, refl, ◌∙◌}
use Rattle.stateful_base.specs.Names.{Named}
use Rattle.stateful_base.specs.declared.digest.Digest.{Digest}
use Rattle.stateful_history.specs.Asked.{verified}
use Rattle.stateful_history.specs.Fetches.{WasAsked}
use Rattle.stateful_history.specs.Known.{Known}
use Rattle.stateful_history.specs.Past.{Past, Made, EachMark, after}
use Rattle.stateful_history.specs.Requests.{proposed, IsLiveRequest}
use Rattle.stateful_history.specs.Live.{live_ticket}
use Rattle.stateful_history.specs.declared.ticket.Ticket.{Ticket}
use Rattle.stateful_history.specs.declared.ticket.Ticket.TheVariants as tickets
use Rattle.stateful_history.specs.Setting.{Setting}
use Rattle.stateful_history.specs.declared.mark.How.{How}
use Rattle.stateful_history.specs.declared.mark.JobKind.TheVariants.{Candidate}
use Rattle.stateful_history.specs.declared.mark.Mark.{Mark}
use Rattle.stateful_history.specs.declared.mark.Mark.TheVariants.{Asked, Started, Verdict, Declined}
use Rattle.stateful_exec_model.specs.Ending.{Follows, given_up, at_boundary, failed, parked, goes_on}
use Rattle.stateful_exec_model.specs.Moments.{Moment}
use Rattle.stateful_exec_walk.specs.Path.{Path}
use Rattle.stateful_exec_tables.specs.Tables.{told, requested}
use Rattle.stateful_exec_model.specs.Rules.{Concludes, Advances, arrives, leaves, joins, starts, misses, Acquires, valid, invalid, asks, waits, runs}
use Rattle.stateful_exec_model.specs.Workings.{Workings}
use Rattle.stateful_exec_walk.specs.declared.request.Request.{Request}
use Rattle.stateful_exec_walk.specs.declared.request.Request.TheVariants.{Verify, Recover}
use Rattle.stateful_exec_walk.specs.declared.request.Verdict as said
use Rattle.stateful_exec_walk.specs.declared.request.Verdict.TheVariants as verdict
use Rattle.stateful_exec_tables.specs.declared.tables.Released.{Released}
use Rattle.stateful_exec_tables.specs.declared.tables.Requested.{Requested}
use Rattle.stateful_exec_laws.specs.Outstanding.{TicketsApart}
use Rattle.stateful_exec_laws.proofs.requests.Calm.{IsCalm, Known-before}
use Rattle.stateful_exec_laws.proofs.requests.KeptMarks.{KeepsBehind}
pub use Rattle.stateful_exec_laws.specs.Orderly.{IsUncancelled}

-- a mark that a request of this ticket makes as it is served: its end, its fetch, or the run that is started for it
abbrev pub IsServedBy : {B : Type 0} → ℕ → Mark B → Type 0
IsServedBy t (Verdict u good) = u ≡ t
IsServedBy t (Declined u) = u ≡ t
IsServedBy t (Asked f (Some u) d) = u ≡ t
IsServedBy t (Started j Candidate d) = Unit {0}
IsServedBy t mark = ⊥

live_if : (b : Bool) (o : Option Ticket) → (if b then None else o) ≡ Some tickets.Request → o ≡ Some tickets.Request
live_if true o is = cc
live_if false o is = is

module _ {B C I : Type 0} where
  abbrev pub AreServedBy : ℕ → Past B C I → List (Mark B) → Type 0
  AreServedBy t p marks = EachMark (λ q mark. IsServedBy t mark) p marks

  -- marks leave what was asked for by requests
  pub verified-after : (p : Past B C I) (marks : List (Mark B)) (t : ℕ) → verified t (after p marks) ≡ verified t p
  verified-after p [] t = refl
  verified-after p (mark ∷ marks) t = verified-after (Made mark ∷ p) marks t

  pub proposed-after : (p : Past B C I) (marks : List (Mark B)) (t : ℕ) → proposed t (after p marks) ≡ proposed t p
  proposed-after p [] t = refl
  proposed-after p (mark ∷ marks) t = proposed-after (Made mark ∷ p) marks t

  pub TicketsApart-after : (p : Past B C I) (marks : List (Mark B)) → TicketsApart p → TicketsApart (after p marks)
  TicketsApart-after p marks apart t some = verified-after p marks t ∙ apart t (λ none. some (proposed-after p marks t ∙ none))

  -- what is asked for another ticket was asked before
  asked_one : (t u : ℕ) (d : Digest) (p : Past B C I) (mark : Mark B) → IsServedBy t mark → u ≢ t → WasAsked u d (Made mark ∷ p) → WasAsked u d p
  asked_one t u d p (Verdict v good) is ne was = was
  asked_one t u d p (Declined v) is ne was = was
  asked_one t u d p (Asked f (Some v) e) is ne (inl own) = absurd (ne (own.0 ∙ is))
  asked_one t u d p (Asked f (Some v) e) is ne (inr was) = was
  asked_one t u d p (Started j Candidate e) is ne was = was
  asked_one t u d p mark is ne was = absurd is

  pub WasAsked-before : (t u : ℕ) (d : Digest) (p : Past B C I) (marks : List (Mark B)) → AreServedBy t p marks → u ≢ t → WasAsked u d (after p marks) → WasAsked u d p
  WasAsked-before t u d p [] are ne was = was
  WasAsked-before t u d p (mark ∷ marks) are ne was = asked_one t u d p mark are.0 ne (WasAsked-before t u d (Made mark ∷ p) marks are.1 ne was)

  live_one : (t u : ℕ) (p : Past B C I) (mark : Mark B) → IsServedBy t mark → IsLiveRequest u (Made mark ∷ p) → IsLiveRequest u p
  live_one t u p (Verdict v good) is live = live_if (u == v) (live_ticket u p) live
  live_one t u p (Declined v) is live = live_if (u == v) (live_ticket u p) live
  live_one t u p (Asked f (Some v) e) is live = live
  live_one t u p (Started j Candidate e) is live = live
  live_one t u p mark is live = absurd is

  pub IsUncancelled-served : (p : Past B C I) (t : ℕ) (marks : List (Mark B)) → AreServedBy t p marks → IsUncancelled p → IsUncancelled (after p marks)
  IsUncancelled-served p t [] are h = h
  IsUncancelled-served p t (mark ∷ marks) are h = IsUncancelled-served (Made mark ∷ p) t marks are.1 (λ u live. h u (live_one t u p mark are.0 live))

  pub calm_one : {S T : Type 0} (s : Setting B S T) (p : Past B C I) (t : ℕ) (mark : Mark B) → IsServedBy t mark → IsCalm s p (Made mark)
  calm_one s p t (Verdict v good) is = record { tip = refl; starts_none = tt; built = λ d h. h; kept = refl }
  calm_one s p t (Declined v) is = record { tip = refl; starts_none = tt; built = λ d h. h; kept = refl }
  calm_one s p t (Asked f (Some v) e) is = record { tip = refl; starts_none = tt; built = λ d h. h; kept = refl }
  calm_one s p t (Started j Candidate e) is = record { tip = refl; starts_none = tt; built = λ d h. h; kept = refl }
  calm_one s p t mark is = absurd is

  -- what is known was known before
  pub Known-before_served : {S T : Type 0} (s : Setting B S T) (p : Past B C I) (t : ℕ) (marks : List (Mark B)) → AreServedBy t p marks → (d : Digest) → Known s (after p marks) d → Known s p d
  Known-before_served s p t [] are d known = known
  Known-before_served s p t (mark ∷ marks) are d known = Known-before s (Known-before_served s (Made mark ∷ p) t marks are.1 d known) (calm_one s p t mark are.0)

module _ {B C I P R D H G U : Type 0} (w : Workings B C I P R D H G U) (p : Past B C I) (m now : Moment w) (t : ℕ) where
  -- the marks between the moments are such
  abbrev pub ServesMarks : Type 0
  ServesMarks = KeepsBehind w (λ q mark. IsServedBy t mark) p m now

  told-served : (request : Request B C I) (v : said.Verdict) → AreServedBy t p (told t request v)
  told-served (Verify u ancestry) verdict.Valid = (refl, tt)
  told-served (Verify u ancestry) verdict.Invalid = (refl, tt)
  told-served (Recover u context ancestry input kind) verdict.Valid = tt
  told-served (Recover u context ancestry input kind) verdict.Invalid = (refl, tt)

  pub concludes-marks : (r : Requested B C I) (v : said.Verdict) → Concludes w m t r v now → ServesMarks
  concludes-marks r v is = rw is (record { more = _; marks_are = refl; each = told-served r.request v })

  -- so they are where a request goes along its path
  pub advances-marks : (r : Requested B C I) (path : Path B) → Advances w m t r path now → ServesMarks
  advances-marks r path (arrives all concludes) = concludes-marks r verdict.Valid concludes
  advances-marks r path (leaves reaches out concludes) = concludes-marks r verdict.Invalid concludes
  advances-marks r path (joins j reaches on unknown has becomes) = rw becomes (record { more = []; marks_are = refl; each = tt })
  advances-marks r path (starts reaches on unknown unrun known launches) = record { more = _; marks_are = launches.marks; each = (tt, tt) }
  advances-marks r path (misses reaches on unknown unrun out concludes) = concludes-marks r verdict.Invalid concludes

  -- where it acquires what it needs
  pub acquires-marks : (stored_now : ℕ → Option (Named B)) (r : Requested B C I) → Acquires w stored_now m t r now → ServesMarks
  acquires-marks stored_now r (valid needs concludes) = concludes-marks r verdict.Valid concludes
  acquires-marks stored_now r (invalid needs concludes) = concludes-marks r verdict.Invalid concludes
  acquires-marks stored_now r (asks d needs left becomes) = rw becomes (record { more = _; marks_are = refl; each = (refl, tt) })
  acquires-marks stored_now r (waits needs becomes) = rw becomes (record { more = []; marks_are = refl; each = tt })
  acquires-marks stored_now r (runs {path = path} needs advances) = advances-marks (requested r.request) path advances

-- and where it follows the end of the run that it waited for
pub follows-marks : {B C I P R D H G U : Type 0} (w : Workings B C I P R D H G U) (p : Past B C I) (m now : Moment w) (b : Named B) (how : How) (r : Released B C I) → Follows w b how r m now → ServesMarks w p m now r.ticket
follows-marks w p m now b how r (given_up out concludes) = concludes-marks w p m now r.ticket (requested r.request) verdict.Invalid concludes
follows-marks w p m now b how r (at_boundary is becomes) = rw becomes (record { more = []; marks_are = refl; each = tt })
follows-marks w p m now b how r (failed not_held out concludes) = concludes-marks w p m now r.ticket (requested r.request) verdict.Invalid concludes
follows-marks w p m now b how r (parked pruning any becomes) = rw becomes (record { more = []; marks_are = refl; each = tt })
follows-marks w p m now b how r (goes_on kept not_held other any advances) = advances-marks w p m now r.ticket (requested r.request) r.path advances
