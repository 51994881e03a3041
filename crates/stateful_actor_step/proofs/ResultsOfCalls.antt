-- What holds after calls by their results.
use Rattle.std.proofs.Common.{◌≡◌, Result, Ok, Err, OnOk, OnErr, IfErr, IsErrAnd, MatchResult, sym, subst}

-- what holds anyway
pub on_err : {T E P : Type 0} (r : Result T E) → P → OnErr r P
on_err (Ok x) p = tt
on_err (Err e) p = p

-- what holds of every error
pub if_err : {T E : Type 0} (r : Result T E) (P : E → Type 0) → ((e : E) → P e) → IfErr r P
if_err (Ok x) P p = tt
if_err (Err e) P p = p e

-- what holds of a call that went well
pub in_ok : {T E P : Type 0} (r : Result T E) (x : T) → r ≡ Ok x → OnOk r P → P
in_ok {P = P} r x is p = subst (λ r. OnOk r P) is p

-- and of one that was refused
pub in_err : {T E P : Type 0} (r : Result T E) (e : E) → r ≡ Err e → OnErr r P → P
in_err {P = P} r e is p = subst (λ r. OnErr r P) is p

-- what holds of the error of a call that was refused
pub of_err : {T E : Type 0} (r : Result T E) (P : E → Type 0) (e : E) → r ≡ Err e → IfErr r P → P e
of_err r P e is p = subst (λ r. IfErr r P) is p

-- what holds of the error that was made
pub match_err : {T E : Type 0} (r : Result T E) (P : T → Type 0) (Q : E → Type 0) (e : E) → IsErrAnd r (λ y. y ≡ e) → Q e → MatchResult r P Q
match_err (Ok x) P Q e made q = absurd made
match_err (Err y) P Q e made q = subst Q (sym made) q
