use Rattle.std.proofs.Common.{◌≡◌, ◌<◌, ◌≤◌, ◌+◌, ◌++◌, ◌∷◌, ℕ, true, List, [], length, get_or, take, bytes_eq, is_some}
use Rattle.std.proofs.Common.{refl, sym, ap, subst, ◌∙◌, arith}
use mir.Syntax.{w32}
use mir.Val.{Fits}
use Rattle.std.specs.List.{All}
use Rattle.std.proofs.lemmas.List.{take_all, take_more}
use Rattle.std.proofs.lemmas.List.Sums.{list_all-from_AllPass}
use Rattle.std.proofs.lemmas.List.Folds.{list_all_at}
use Rattle.std.proofs.lemmas.List.Elements.{All-nil, All-push}
use Rattle.std.proofs.lemmas.Option.{slice_get_read}
use borrow.Author.Count.{falls}
use Rattle.firm_rules.specs.Book.{machine_names}
use Rattle.firm_rules.specs.Names.{is_among}
use Rattle.firm_rules.specs.Round.{place_of}
use Rattle.firm_rules.proofs.CaseLists.{all-pushed, first_found, grown_all, grown_by, one-more, room-for_fourth}
use Rattle.firm_rules.proofs.CaseLists.{word-small}
use Rattle.firm_rules.proofs.tables.Rows.machine_places.Goals as goal

-- one more of a list
grown : {X : Type 0} (P : X → Type 0) (xs : List X) (i : ℕ) (x : X) → i < length xs → x ≡ get_or xs i x
    → All P (take i xs) → P x → All P (take (i + 1) xs)
grown {X} P xs i x below is before here =
    let more : take (i + 1) xs ≡ take i xs ++ x ∷ [] =
    take_more xs i x below ∙ ap (λ (y : X). take i xs ++ y ∷ []) (sym is) in
    subst (All P) (sym more) (All-push P (take i xs) x before here)

pub returns-clause-found : goal.returns-clause-found
returns-clause-found g c =
    let names : List (List ℕ) = machine_names c.args.self.now in
    sym (list_all-from_AllPass (is_among names) c.args.names.now
    (subst (λ (l : List (List ℕ)). All (λ name. is_among names name ≡ true) l)
    (take_all c.loop-name.name-index c.args.names.now c.loop-name-test.false) c.loop-name.invariant.there))

pub loop-name-init : goal.loop-name-init
loop-name-init g c = record {
  count = ap (λ (l : List ℕ). length l) c.new-places.ensures;
  items = c.new-places.ensures;
  below = subst (λ (l : List ℕ). All (λ place. place < length c.args.self.now.machines) l) (sym c.new-places.ensures)
      (All-nil (λ place. place < length c.args.self.now.machines));
  there = All-nil (λ (name : List ℕ). is_among (machine_names c.args.self.now) name ≡ true);
}

pub push-requires : goal.push-requires
push-requires g c = (
  word-small,
  room-for_fourth (length c.loop-name.places.items) c.loop-name.name-index (length c.args.names.now)
      c.loop-name.invariant.count c.loop-name-test.true c.requires.few,
)

pub loop-name-preserved : goal.loop-name-preserved
loop-name-preserved g c =
    let rows = c.args.self.now in
    let names : List (List ℕ) = c.args.names.now in
    let i : ℕ = c.loop-name.name-index in
    let name : List ℕ = c.name-item.result in
    let place : ℕ = c.in_ok-place.place in
    record {
      count = one-more (length c.push.new.self.items) (length c.loop-name.places.items) i c.push.ensures.len
          c.loop-name.invariant.count;
      items = grown_by (place_of rows) names i name c.loop-name.places.items c.push.new.self.items place
          (slice_get_read names (length names) i name refl c.loop-name-test.true c.name-item.is)
          c.loop-name.invariant.items c.push.ensures.items
          (first_found (bytes_eq name) (machine_names rows) place (sym c.in_ok-place.ensures.place));
      below = all-pushed (λ place. place < length rows.machines) c.loop-name.places.items c.push.new.self.items place
          c.push.ensures.items c.loop-name.invariant.below c.in_ok-place.ensures.below;
      there = grown (λ name. is_among (machine_names rows) name ≡ true) names i name c.loop-name-test.true
          c.name-item.is c.loop-name.invariant.there (sym c.in_ok-place.ensures.found);
    }

pub returns-in_err-place-clause-found : goal.returns-in_err-place-clause-found
returns-in_err-place-clause-found g c =
    let names : List (List ℕ) = machine_names c.args.self.now in
    ap is_some c.from_residual.ensures
    ∙ sym (list_all_at (is_among names) c.args.names.now c.loop-name.name-index c.name-item.result
    c.loop-name-test.true (ap (is_among names) (sym c.name-item.is) ∙ sym c.in_err-place.ensures.found))

pub returns-clause-places : goal.returns-clause-places
returns-clause-places g c =
    grown_all (place_of c.args.self.now) c.args.names.now c.loop-name.places.items c.loop-name.name-index
    (length c.args.names.now) c.loop-name.invariant.items refl c.loop-name-test.false

pub returns-clause-below : goal.returns-clause-below
returns-clause-below g c = c.loop-name.invariant.below

pub returns-clause-there : goal.returns-clause-there
returns-clause-there g c =
    subst (λ (l : List (List ℕ)). All (λ name. is_among (machine_names c.args.self.now) name ≡ true) l)
    (take_all c.loop-name.name-index c.args.names.now c.loop-name-test.false) c.loop-name.invariant.there

small : (place machines jobs tasks most : ℕ) → place < machines → 2 + machines + jobs + tasks ≤ most → most ≤ 4096
    → Fits w32 place
small place machines jobs tasks most there fits few = omega (arith, there, fits, few)

pub overflow_cast-place : goal.overflow_cast-place
overflow_cast-place g c =
    let rows = c.args.self.now in
    small c.in_ok-place.place (length rows.machines) (length rows.jobs) (length rows.tasks) rows.limits.nodes
    c.in_ok-place.ensures.below c.limits.ensures.fit.nodes c.limits.ensures.sound.most_nodes

pub loop-name-smaller : goal.loop-name-smaller
loop-name-smaller g c = falls (length c.args.names.now) c.loop-name.name-index c.loop-name-test.true
