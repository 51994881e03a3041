-- What one call of a mailbox does, from what is read.
use Rattle.std.proofs.Common.{◌≡◌, ℕ, ◌<◌, length, get_or, set, ap}
use Rattle.std.proofs.lemmas.Option.{slice_get-get_or}
use Rattle.stateful_sync.specs.Mailbox.{Mail, ChangesAt}
use Rattle.stateful_sync.specs.declared.mailbox.Update.{Update}

module _ {T : Type 0} where
  pub changes_at : (s : Mail T) (n : ℕ) (change : Update T → Update T) (d result : Update T)
      → n < length s.updates → result ≡ change (get_or s.updates n d)
      → ChangesAt s n change (record s { updates = set s.updates n result })
  changes_at s n change d result lt is = record {
    before = get_or s.updates n d;
    was = slice_get-get_or s.updates n d lt;
    is = ap (λ u. record s { updates = set s.updates n u }) is;
  }
