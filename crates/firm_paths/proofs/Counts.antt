-- Counts of searches.
use Rattle.std.proofs.Common.{◌≡◌, ◌+◌, ◌-◌, ◌*◌, ◌^◌, ◌<◌, ◌≤◌, ◌∙◌, ⊎_elim, arith, refl}
use Rattle.std.proofs.lemmas.Bool.{cases_lt}
use Rattle.std.proofs.Math.Nat.{add-mul}
use Rattle.firm_paths.specs.Laws.{NoneCountsNothing, SearchesAddUp}

pub none_counts_nothing : NoneCountsNothing
none_counts_nothing scratch arcs = record {
  limits = refl;
  begins = refl;
  searches =
      record {
        exact = λ _. omega arith;
        full = λ small past. omega (arith, small, past);
        kept = omega arith;
        no_more =
            omega arith;
      };
  looks_kept = omega arith;
  looks = omega arith;
}

pub searches_add_up : SearchesAddUp
searches_add_up old now new made more arcs first then = record {
  limits = then.limits ∙ first.limits;
  begins = then.begins ∙ first.begins;
  searches = record {
    exact = λ room.
        let now_is : now.searches ≡ old.searches + made = first.searches.exact (omega (arith, room)) in
        omega (arith, now_is, then.searches.exact (omega (arith, room, now_is)));
    full = λ small past.
        ⊎_elim
        (λ (below : old.searches + made < 2 ^ 64).
        let now_is : now.searches ≡ old.searches + made = first.searches.exact below in
        then.searches.full (omega (arith, now_is, below)) (omega (arith, now_is, past)))
        (λ (above : 2 ^ 64 ≤ old.searches + made).
        let now_is : now.searches ≡ 2 ^ 64 - 1 = first.searches.full small above in
        ⊎_elim
        (λ (some : 0 < more). then.searches.full (omega (arith, now_is)) (omega (arith, now_is, some)))
        (λ (none : more ≤ 0). omega (arith, now_is, none, then.searches.exact (omega (arith, now_is, none))))
        (cases_lt 0 more))
        (cases_lt (old.searches + made) (2 ^ 64));
    kept = omega (arith, first.searches.kept, then.searches.kept);
    no_more = omega (arith, first.searches.no_more, then.searches.no_more);
  };
  looks_kept = omega (arith, first.looks_kept, then.looks_kept);
  looks = omega (arith, first.looks, then.looks, add-mul made more (2 * arcs));
}
