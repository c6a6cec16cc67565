use Rattle.std.proofs.Common.{◌≡◌, ◌<◌, ◌∙◌, ◌++◌, ◌∷◌, [], List, length, rules, sym, ap, take, arith}
use Rattle.std.specs.Prelude.{Option, None, option_map}
use Rattle.std.proofs.lemmas.List.{length-map, take_all, take_more}
use Rattle.firm_rules.specs.Book.{Book}
use Rattle.firm_table.specs.Places.{Place, book_of}
use Rattle.firm_table.specs.Openings.{places_opened}
use Rattle.firm_table.specs.Progress.{books_of}
use Rattle.firm_table.proofs.Books.{books_at}
use Rattle.firm_table.proofs.tenants.open_places.Goals as goal

pub loop-place-preserved : goal.loop-place-preserved
loop-place-preserved c =
    let places : List Place = places_opened c.args.opening in
    let all : List (Option Book) = books_of places in
    let at = c.loop-place.place in
    let book : Option Book = c.in_ok-tenant_at.field-0 in
    let wide = length-map places (λ (place : Place). option_map book_of place.stay) in
    let within : at < length all = omega (arith, wide, c.places-count.ensures.all, c.loop-place-test.true) in
    let added : c.push.new.self.items ≡ c.loop-place.places.items ++ book ∷ [] = search rules in
    added ∙ ap (λ (books : List (Option Book)). books ++ book ∷ []) c.loop-place.invariant
    ∙ ap (λ (b : Option Book). take at all ++ b ∷ []) (c.in_ok-tenant_at.ensures ∙ sym (books_at places at))
    ∙ sym (take_more all at None within)

pub returns : goal.returns
returns c =
    let places : List Place = places_opened c.args.opening in
    let wide = length-map places (λ (place : Place). option_map book_of place.stay) in
    c.loop-place.invariant
    ∙ take_all c.loop-place.place (books_of places)
    (omega (arith, wide, c.places-count.ensures.all, c.loop-place.auto.place-end, c.loop-place-test.false))
