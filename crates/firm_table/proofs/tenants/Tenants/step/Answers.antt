use Rattle.std.proofs.Common.{◌≡◌, ◌∙◌, ℕ, List, Some, None, sym, ap, arith}
use Rattle.std.specs.Prelude.{Option, true, false, slice_index_or}
use Rattle.std.specs.Option.{is_some}
use Rattle.firm_rules.specs.Book.{Book}
use Rattle.firm_text.specs.Registers.{place_in}
use Rattle.firm_table.specs.Tenants.{tenants_are}
use Rattle.firm_table.proofs.Books.{strangers_are_answered, tenants_are_answered}
use Rattle.firm_table.proofs.Seated.{seated_within, seated_here, seated_still, seat_is}
use Rattle.firm_table.proofs.tenants.Tenants.step.Goals as goal

pub returns-in_default : goal.returns-in_default
returns-in_default c =
    let none : place_in c.self.inside.register c.args.name ≡ None = sym c.place_of.ensures.place
    ∙ c.in_default.is in
    rw (← c.self.view_is)
    (strangers_are_answered (tenants_are c.self.inside.register c.self.inside.places.items) c.args.name
    c.args.command none)

pub index_mut-requires : goal.index_mut-requires
index_mut-requires c =
    let low =
    seated_within c.self.inside.register c.self.inside.places.items c.self.invariant.books c.place_of.ensures.sound
    c.in-Some.place c.in-Some.ensures.within in
    omega (arith, low, c.self.inside.places.ok.0)

pub unreachable-requires : goal.unreachable-requires
unreachable-requires c =
    let books : List (Option Book) = c.self.inside.places.items in
    let at : ℕ = c.in-Some.place in
    let found : place_in c.self.inside.register c.args.name ≡ Some at = sym c.place_of.ensures.place
    ∙ c.in-Some.is in
    let low =
    seated_within c.self.inside.register books c.self.invariant.books c.place_of.ensures.sound at
    c.in-Some.ensures.within in
    let here = seat_is books at c.index_mut.result.now low c.index_mut.ensures.value in
    let some : is_some (slice_index_or books at None) ≡ true =
    seated_here c.self.inside.register books c.self.invariant.books c.args.name at found in
    let wrong : false ≡ true = sym (ap is_some (here ∙ c.in_default-index_mut.is)) ∙ some in
    cc

pub invariant_of-self : goal.invariant_of-self
invariant_of-self c =
    let found : place_in c.self.inside.register c.args.name ≡ Some c.in-Some.place = sym c.place_of.ensures.place
    ∙ c.in-Some.is in
    record {
      books = seated_still c.self.inside.register c.self.inside.places.items c.self.invariant.books c.in-Some.place
          c.step.new.self
          (seated_here c.self.inside.register c.self.inside.places.items c.self.invariant.books c.args.name
          c.in-Some.place found);
      in_order = c.self.invariant.in_order;
    }

pub returns : goal.returns
returns c =
    let books : List (Option Book) = c.self.inside.places.items in
    let at : ℕ = c.in-Some.place in
    let found : place_in c.self.inside.register c.args.name ≡ Some at = sym c.place_of.ensures.place
    ∙ c.in-Some.is in
    let low =
    seated_within c.self.inside.register books c.self.invariant.books c.place_of.ensures.sound at
    c.in-Some.ensures.within in
    let here = seat_is books at c.index_mut.result.now low c.index_mut.ensures.value in
    rw (← c.self.view_is)
    (tenants_are_answered (tenants_are c.self.inside.register books) c.args.name c.args.command at
    c.in-Some-index_mut.tenant c.step.new.self c.step.result
    c.place_of.ensures.sound found (here ∙ c.in-Some-index_mut.is) c.step.ensures)
