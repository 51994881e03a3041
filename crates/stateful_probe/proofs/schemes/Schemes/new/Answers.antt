-- The participants of the lowest epoch can be looked up.
use Rattle.stateful_probe.specs.Setup.{setup}
use Rattle.stateful_probe.proofs.Members.{members, no_members}
use Rattle.stateful_probe.proofs.schemes.Schemes.new.Goals as goal
use Rattle.stateful_probe.proofs.schemes.Schemes.new.Goals.{in-Some+in_ok-set_of-in-Some, in-None}

pub invariant_of-result : goal.invariant_of-result
invariant_of-result g c =
    let u = setup g.S.Key.Ord.cmp g.S.Key.PartialEq.eq g.S.Scheme.certificates g.S.Scheme.keys g.S.Scheme.certifies c.args.config in (
      c.requires,
      elim c.match-scheme_in.branch [
        | in-Some+in_ok-set_of-in-Some w ↦
            rw w.members-is
            (members u (record { same = g.met.S.Key.Eq.laws; agrees = g.met.S.Key.Ord.matches_eq }) _ _
            (rw c.as_slice.ensures at w.in-Some.ensures.found)
            (rw w.participants.ensures at w.in_ok-set_of-in-Some.ensures))
        | in-None w ↦ rw w.members-is (no_members u (rw c.as_slice.ensures at w.in-None.ensures.found))
      ],
    )
