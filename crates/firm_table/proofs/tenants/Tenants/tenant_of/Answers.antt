use Rattle.std.proofs.Common.{◌≡◌, ◌∙◌, ℕ, List, Some, None, sym, ap, arith}
use Rattle.std.specs.Prelude.{Option, true, false, get_or}
use Rattle.std.specs.Option.{is_some}
use Rattle.std.proofs.lemmas.List.{get_or_default}
use Rattle.firm_rules.specs.Book.{Book}
use Rattle.firm_text.specs.Registers.{place_in}
use Rattle.firm_table.specs.inner.Books.{book_at}
use Rattle.firm_table.proofs.Seated.{seated_within, seated_here}
use Rattle.firm_table.proofs.tenants.Tenants.tenant_of.Goals as goal

pub index-requires : goal.index-requires
index-requires c =
    let low =
    seated_within c.self.inside.register c.self.inside.places.items c.self.invariant.books c.in_ok-place.ensures.sound
    c.in_ok-place.place c.in_ok-place.ensures.within in
    omega (arith, low, c.self.inside.places.ok.0)

pub unreachable-requires : goal.unreachable-requires
unreachable-requires c =
    let books : List (Option Book) = c.self.inside.places.items in
    let at : ℕ = c.in_ok-place.place in
    let found : place_in c.self.inside.register c.args.name ≡ Some at = sym c.in_ok-place.ensures.place in
    let low =
    seated_within c.self.inside.register books c.self.invariant.books c.in_ok-place.ensures.sound at
    c.in_ok-place.ensures.within in
    let here : c.index.result.now ≡ get_or books at None = c.index.ensures ∙ get_or_default books at _ None low in
    let some : is_some (get_or books at None) ≡ true =
    seated_here c.self.inside.register books c.self.invariant.books c.args.name at found in
    let wrong : false ≡ true = sym (ap is_some (sym here ∙ c.in_default.is)) ∙ some in
    cc

pub returns : goal.returns
returns c =
    let books : List (Option Book) = c.self.inside.places.items in
    let at : ℕ = c.in_ok-place.place in
    let found : place_in c.self.inside.register c.args.name ≡ Some at = sym c.in_ok-place.ensures.place in
    let low =
    seated_within c.self.inside.register books c.self.invariant.books c.in_ok-place.ensures.sound at
    c.in_ok-place.ensures.within in
    let here : c.index.result.now ≡ get_or books at None = c.index.ensures ∙ get_or_default books at _ None low in
    let book : book_at books (place_in c.self.inside.register c.args.name) ≡ Some c.in-Some.tenant =
    ap (book_at books) found ∙ (sym here ∙ c.in-Some.is) in
    rw (← c.self.view_is) (sym book)
