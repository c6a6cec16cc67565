use Rattle.std.proofs.Common.{◌≡◌, ◌<◌, ℕ, true, List, length, refl, sym, ap, subst}
use Rattle.std.specs.List.{All}
use Rattle.std.proofs.lemmas.List.Elements.{All-nil}
use Rattle.std.proofs.lemmas.Option.{slice_get_read}
use Rattle.firm_rules.specs.Book.{machine_names}
use Rattle.firm_rules.specs.Names.{is_among}
use Rattle.firm_rules.specs.Round.{place_of}
use Rattle.firm_rules.proofs.CaseLists.{all-pushed, grown_all, grown_by, one-more, room-for_fourth, word-small}
use Rattle.firm_rules.proofs.demands.places_of.Goals as goal

pub loop-name-init : goal.loop-name-init
loop-name-init g c = record {
  count = ap (λ (l : List ℕ). length l) c.new-places.ensures;
  items = c.new-places.ensures;
  below = subst (λ (l : List ℕ). All (λ place. place < length c.args.rows.now.machines) l) (sym c.new-places.ensures)
      (All-nil (λ place. place < length c.args.rows.now.machines));
}

pub push-requires : goal.push-requires
push-requires g c = (
  word-small,
  room-for_fourth (length c.loop-name.places.items) c.loop-name.name-index (length c.args.names.now)
      c.loop-name.invariant.count c.loop-name-test.true c.requires.few,
)

pub loop-name-preserved : goal.loop-name-preserved
loop-name-preserved g c =
    let rows = c.args.rows.now in
    let names : List (List ℕ) = c.args.names.now in
    let i : ℕ = c.loop-name.name-index in
    let name : List ℕ = c.name-item.result in
    record {
      count = one-more (length c.push.new.self.items) (length c.loop-name.places.items) i c.push.ensures.len
          c.loop-name.invariant.count;
      items = grown_by (place_of rows) names i name c.loop-name.places.items c.push.new.self.items c.place_of.result
          (slice_get_read names (length names) i name refl c.loop-name-test.true c.name-item.is)
          c.loop-name.invariant.items c.push.ensures.items c.place_of.ensures.place;
      below = all-pushed (λ place. place < length rows.machines) c.loop-name.places.items c.push.new.self.items
          c.place_of.result c.push.ensures.items c.loop-name.invariant.below
          (c.place_of.ensures.below (subst (λ n. is_among (machine_names rows) n ≡ true) (sym c.name-item.is)
          (c.requires.there i name c.loop-name-test.true)));
    }

pub returns-clause-places : goal.returns-clause-places
returns-clause-places g c =
    grown_all (place_of c.args.rows.now) c.args.names.now c.loop-name.places.items c.loop-name.name-index
    (length c.args.names.now) c.loop-name.invariant.items refl c.loop-name-test.false

pub returns-clause-below : goal.returns-clause-below
returns-clause-below g c = c.loop-name.invariant.below
