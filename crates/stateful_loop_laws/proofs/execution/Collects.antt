-- Execution stands behind a recovered proposal that is collected.
use Rattle.std.proofs.Common.{◌≡◌, ℕ, List, [], ◌∷◌, All, Option, None, Some, IsSome, IfSome, refl, sym, ◌∙◌, subst}
use Rattle.std.proofs.lemmas.List.{append-nil}
use Rattle.std.proofs.lemmas.List.Elements.{All-tail}
use Rattle.stateful_base.specs.Names.{Named}
use Rattle.stateful_base.specs.declared.digest.Digest.{Digest}
use Rattle.stateful_history.specs.Past.{Past}
use Rattle.stateful_table.specs.Table.{at}
use Rattle.stateful_exec_model.specs.Workings.{Workings, Point}
use Rattle.stateful_exec_model.specs.declared.building.Building.{Building}
use Rattle.stateful_exec_tables.specs.declared.state.Tables.{Tables}
use Rattle.stateful_exec_laws.specs.Building.{IsElsewhere}
use Rattle.stateful_exec_laws.specs.Standing.{TablesStand}
use Rattle.stateful_exec_laws.proofs.builds.Left.{BuildStands-tables}
use Rattle.stateful_loop_model.specs.Moments.{Moment}
use Rattle.stateful_loop_model.specs.Rules.{Collects}
use Rattle.stateful_loop_laws.specs.Execution.{Executes, ExecutesBehind}
use Rattle.stateful_loop_laws.proofs.execution.Kept.{Executes-names}
use Rattle.stateful_loop_laws.proofs.places.Places.{IsPlaced-left}

module _ {B C I P R D H G U : Type 0} (w : Workings B C I P R D H G U) (stored : ℕ → Option (Named B)) (base : w.States) where
  -- the tables stand without the first of the recovered proposals
  TablesStand-collects : (p : Past B C I) (points : Digest → Point w) (point : Point w) (next : w.Ids) (v : Tables B C I R U) (t : ℕ) (more : List ℕ)
      → v.recovered ≡ t ∷ more → TablesStand w stored p points point next v
      → TablesStand w stored p points point next (record v { recovered = more })
  TablesStand-collects p points point next v t more first s = record {
    at_anchor = s.at_anchor;
    cache = s.cache;
    runs = s.runs;
    requests = s.requests;
    once = s.once;
    queue = record {
      each = s.queue.each;
      ready = All-tail (λ (u : ℕ). IsSome (at v.queued u)) t more
          (subst (λ (us : List ℕ). All (λ u. IsSome (at v.queued u)) us) first s.queue.ready);
    };
    numbers = s.numbers;
  }

  module _ (p : Past B C I) (m : Moment w) (h : Executes w stored base p m) (t : ℕ) (more : List ℕ)
      (first : m.execution.state.recovered ≡ t ∷ more) where
    abbrev v : Tables B C I R U
    v = m.execution.state

    abbrev left : Tables B C I R U
    left = record v { recovered = more }

    elsewhere : (o : Option (Building B C D)) → IfSome o (λ b. IsElsewhere v b.ticket) → IfSome o (λ b. IsElsewhere left b.ticket)
    elsewhere None e = tt
    elsewhere (Some b) e = record { absent = e.absent; not_queued = e.not_queued }

    collected : (now : Moment w) → now.execution ≡ record m.execution { state = left } → now.members ≡ m.members → now.next ≡ m.next
        → now.marks ≡ m.marks → ExecutesBehind w stored base p m now
    collected now execution members next marks = record {
      more = [];
      marks_are = marks ∙ sym (append-nil m.marks);
      executes = record {
        points = h.points;
        point = h.point;
        located = rw members h.located;
        drawn = rw next h.drawn;
        tables = rw (execution, next) (TablesStand-collects p h.points h.point m.next v t more first h.tables);
        builds = rw (execution, next) (BuildStands-tables w stored p h.points m.next v m.next (λ c d. d) left refl
            (λ d at_hand. at_hand) m.execution.build (elsewhere m.execution.build h.builds.elsewhere) h.builds);
        fronts = rw (execution, next) h.fronts;
        placed = rw (execution, next) (IsPlaced-left w stored base p p h.points h.point m.next m.next v left
            (record { anchor = refl; cache = refl; pause = refl }) refl refl refl (λ b met. met) (Executes-names w stored base p m h)
            (λ pause s. s) (λ s. s) (λ s. s) m.execution.front h.placed);
        alone = rw execution h.alone;
      };
      earned = tt;
    }

  -- execution stands without the first of the recovered proposals
  pub Executes-collects : (p : Past B C I) (t : ℕ) (m now : Moment w) → Executes w stored base p m → Collects w t m now
      → ExecutesBehind w stored base p m now
  Executes-collects p t m now h collects =
      subst (λ (n : Moment w). ExecutesBehind w stored base p m n) (sym collects.becomes)
      (collected p m h t collects.more collects.first _ refl refl refl refl)
