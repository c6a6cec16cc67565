-- Searches made one after another add up.
use Rattle.std.proofs.Common.{◌≡◌, ℕ, ◌+◌, ◌-◌, ◌*◌, ◌^◌, ◌<◌, ◌≤◌, refl, arith, subst, ◌∙◌, ⊎_elim}
use Rattle.std.proofs.lemmas.Bool.{cases_lt}
use Rattle.std.proofs.Math.Nat.{mul-add}
use Rattle.std.proofs.lemmas.Nat.{mul-le}
use Rattle.firm_rules.specs.ArenaUse.{arena_arcs}
use Rattle.firm_rules.specs.Book.{TenantRows}
use Rattle.firm_paths.specs.Workspace.{Workspace, HasSearched}
use Rattle.firm_graph.specs.Graph.{Graph}
use Rattle.firm_canon.specs.Counts.{HasLookedUpTo, HasMadeUpTo}

-- no search was made
pub same_counts : (old new : Workspace) (arcs : ℕ) → new.limits ≡ old.limits → new.begins ≡ old.begins
    → new.searches ≡ old.searches → new.looks ≡ old.looks → HasSearched old new 0 arcs
same_counts old new arcs limits begins searches looks = record {
  limits = limits;
  begins = begins;
  searches = record {
    exact = λ l. omega (arith, searches);
    full = λ small past. omega (arith, small, past);
    kept = omega (arith, searches);
    no_more = omega (arith, searches);
  };
  looks_kept = omega (arith, looks);
  looks = omega (arith, looks);
}

pub nothing_made : (s : Workspace) (arcs : ℕ) → HasSearched s s 0 arcs
nothing_made s arcs = same_counts s s arcs refl refl refl refl

pub none_made : (s : Workspace) (most arcs : ℕ) → HasMadeUpTo s s most arcs
none_made s most arcs = record { made = 0; few = omega arith; searched = nothing_made s arcs }

-- searches one after another
pub made_both : (old now new : Workspace) (first then arcs : ℕ) → HasSearched old now first arcs
    → HasSearched now new then arcs → HasSearched old new (first + then) arcs
made_both old now new first then arcs one two = record {
  limits = two.limits ∙ one.limits;
  begins = two.begins ∙ one.begins;
  searches = record {
    exact = λ l.
        let half : now.searches ≡ old.searches + first = one.searches.exact (omega (arith, l)) in
        omega (arith, half, two.searches.exact (omega (arith, l, half)));
    full = λ small past.
        ⊎_elim
        (λ (below : old.searches + first < 2 ^ 64).
        let half : now.searches ≡ old.searches + first = one.searches.exact below in
        two.searches.full (omega (arith, half, below)) (omega (arith, half, past)))
        (λ (above : 2 ^ 64 ≤ old.searches + first).
        let half : now.searches ≡ 2 ^ 64 - 1 = one.searches.full small above in
        ⊎_elim
        (λ (some : 0 < then). two.searches.full (omega (arith, half)) (omega (arith, half, some)))
        (λ (none : then ≤ 0). omega (arith, half, none, two.searches.exact (omega (arith, half, none))))
        (cases_lt 0 then))
        (cases_lt (old.searches + first) (2 ^ 64));
    kept = omega (arith, one.searches.kept, two.searches.kept);
    no_more = omega (arith, one.searches.no_more, two.searches.no_more);
  };
  looks_kept = omega (arith, one.looks_kept, two.looks_kept);
  looks = omega (arith, one.looks, two.looks, add-mul first then (2 * arcs));
}
  where
    add-mul : (a b c : ℕ) → (a + b) * c ≡ a * c + b * c
    add-mul a b c = omega (arith, mul-add c a b)

pub more_made : (old now new : Workspace) (first then most arcs : ℕ) → HasMadeUpTo old now first arcs
    → HasMadeUpTo now new then arcs → first + then ≤ most → HasMadeUpTo old new most arcs
more_made old now new first then most arcs one two fits = record {
  made = one.made + two.made;
  few = omega (arith, one.few, two.few, fits);
  searched = made_both old now new one.made two.made arcs one.searched two.searched;
}

pub at_most : (old new : Workspace) (few most arcs : ℕ) → HasMadeUpTo old new few arcs → few ≤ most
    → HasMadeUpTo old new most arcs
at_most old new few most arcs searched fits = record {
  made = searched.made;
  few = omega (arith, searched.few, fits);
  searched = searched.searched;
}

-- the same, of graphs with the same rows
pub more_since : (one two : Graph) → two.rows ≡ one.rows → (old now new : Workspace) (first then most : ℕ)
    → HasMadeUpTo old now first (arena_arcs one.rows) → HasMadeUpTo now new then (arena_arcs two.rows)
    → first + then ≤ most → HasMadeUpTo old new most (arena_arcs one.rows)
more_since one two same old now new first then most before after =
    more_made old now new first then most (arena_arcs one.rows) before
    (subst (λ (rows : TenantRows). HasMadeUpTo now new then (arena_arcs rows)) same after)

-- as many looks as all searches can take
pub looked_in_all : (old new : Workspace) (most arcs : ℕ) → HasMadeUpTo old new most arcs
    → HasLookedUpTo old new most arcs
looked_in_all old new most arcs up_to = record {
  few = λ digits fits. omega (
    arith,
    mul-le up_to.made (2 * arcs) (most + digits + 2) (2 * arcs) (omega (arith, up_to.few)) (omega arith),
  );
}
