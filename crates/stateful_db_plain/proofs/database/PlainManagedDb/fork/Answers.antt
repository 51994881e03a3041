use Rattle.std.proofs.Common.{◌≡◌, ℕ, ◌<◌, false, [], ◌∷◌, ◌++◌, sym, subst}
use Rattle.stateful_db.specs.Chain.{has_id}
use Rattle.stateful_db.specs.Disk.{point}
use Rattle.stateful_db_plain.specs.Whole.{begun}
use Rattle.stateful_db_plain.specs.Stored.{standing_of}
use Rattle.stateful_db_plain.specs.Shown.{DraftShows, SealShows}
use Rattle.stateful_db_plain.specs.declared.database.Plain.{Plain}
use Rattle.stateful_db_plain.proofs.database.PlainManagedDb.fork.Goals as goal

pub returns-clause-chain : goal.returns-clause-chain
returns-clause-chain c = λ q above older shown less.
    let is_db = c.into_parts-id.ensures.database in
    let is_id = c.into_parts-id.ensures.id in
    let here = point (standing_of c.into_parts-id.result.0.now) in
    let Less : ℕ → Type 0 = λ n. q.0 < n in
    let Over : Plain → Type 0 = λ d. SealShows c.args.parent.now (q ∷ above ++ point (standing_of d) ∷ older) in
    let drafted = c.in_ok-batch.ensures q (above ++ here ∷ older) (subst Over (sym is_db) shown) (subst Less (sym is_id) less) in
    let cut = c.in_ok-rebase.ensures.chain _ q above older drafted in
    let At : ℕ → Type 0 = λ n. DraftShows c.rebase.new.self ((n, begun q.1) ∷ q ∷ above ++ here ∷ []) in
    let On : Plain → Type 0 = λ d. DraftShows c.rebase.new.self ((c.args.database.id, begun q.1) ∷ q ∷ above ++ point (standing_of d) ∷ []) in
    subst On is_db (subst At is_id cut)

pub returns-clause-apart : goal.returns-clause-apart
returns-clause-apart c = λ q chain shown less none.
    let is_id = c.into_parts-id.ensures.id in
    let Less : ℕ → Type 0 = λ n. q.0 < n in
    let Misses : Plain → Type 0 = λ d. has_id (q ∷ chain) (standing_of d).id ≡ false in
    let drafted = c.in_ok-batch.ensures q chain shown (subst Less (sym is_id) less) in
    let left = c.in_ok-rebase.ensures.apart _ q chain drafted (subst Misses (sym c.into_parts-id.ensures.database) none) in
    let At : ℕ → Type 0 = λ n. DraftShows c.rebase.new.self ((n, begun q.1) ∷ q ∷ chain) in
    subst At is_id left
