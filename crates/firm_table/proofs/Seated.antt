-- Books stand at the places that the register gives to tenants.
use Rattle.std.proofs.Common.{◌≡◌, ℕ, ◌<◌, List, [], ◌∷◌, refl, sym, ap, ◌∙◌, length, get_or}
use Rattle.std.proofs.Common.{arith}
use Rattle.std.specs.Prelude.{Bool, true, false, Option, Some, None, map, option_map, set, slice_index_or}
use Rattle.std.specs.Option.{is_some}
use Rattle.std.proofs.Math.ListN.{get_or-map}
use Rattle.std.proofs.Math.Seq.{map-set_same}
use Rattle.std.proofs.lemmas.List.{length-map, map-set}
use Rattle.std.proofs.lemmas.List.Quantifiers.{position-Some}
use Rattle.std.proofs.lemmas.Option.{get_or_from_slice_get, slice_get-get_or}
use Rattle.firm_rules.specs.Book.{Book}
use Rattle.firm_text.specs.Registers.{IsRegister, is_named, place_in, vacant}
use Rattle.firm_text.specs.Rosters.{most_places}
use Rattle.firm_text.specs.declared.registers.Entry.{Entry}
use Rattle.firm_table.specs.Places.{Stay, Place, book_of, register_of}
use Rattle.firm_table.specs.Tenants.{tenants_are, BooksFit}
use Rattle.firm_table.specs.Progress.{tenants_at}

module _ (register : List Entry) (books : List (Option Book)) (fits : BooksFit (tenants_are register books)) where
  -- as many books as places
  pub seated_within : IsRegister register → (at : ℕ) → at < most_places → at < length books
  seated_within sound at low =
      let same = sym (length-map register (λ (place : Entry). is_some place.tenant)) ∙ ap length fits
      ∙ length-map books is_some in
      omega (arith, same, low, sound.all)

  -- a tenant that has a place has a book there
  pub seated_here : (name : List ℕ) (at : ℕ) → place_in register name ≡ Some at → is_some (get_or books at None)
      ≡ true
  seated_here name at found =
      let first = (position-Some (λ (place : Entry). is_named name place.tenant) register at
      (vacant 0) found).1 in
      sym (get_or-map is_some books at None)
      ∙ ap (λ (tests : List Bool). get_or tests at false) (sym fits)
      ∙ get_or-map (λ (place : Entry). is_some place.tenant) register at (vacant 0)
      ∙ named name (get_or register at (vacant 0)).tenant first
    where
      named : (name : List ℕ) (tenant : Option (List ℕ)) → is_named name tenant ≡ true → is_some tenant ≡ true
      named name None e = cc
      named name (Some tenant) e = refl

  -- a place and its book change together
  pub seated_set : (at : ℕ) (place : Entry) (book : Option Book) → is_some place.tenant ≡ is_some book
      → BooksFit (tenants_are (set register at place) (set books at book))
  seated_set at place book same =
      map-set (λ (p : Entry). is_some p.tenant) register at place
      ∙ ap (λ (tests : List Bool). set tests at (is_some place.tenant)) fits
      ∙ ap (λ (test : Bool). set (map is_some books) at test) same
      ∙ sym (map-set is_some books at book)

  -- or another book stands at a place that has one
  pub seated_still : (at : ℕ) (book : Book) → is_some (get_or books at None) ≡ true
      → BooksFit (tenants_are register (set books at (Some book)))
  seated_still at book here = fits ∙ sym (map-set_same is_some books at (Some book) None (sym here))

-- what an index finds
pub seat_is : (books : List (Option Book)) (at : ℕ) (found : Option Book) → at < length books → found
    ≡ slice_index_or books at found
    → slice_index_or books at None ≡ found
seat_is books at found low is =
    get_or_from_slice_get books at found None (slice_get-get_or books at found low
    ∙ ap (λ (f : Option Book). Some f) (sym is))

-- the tenants at these places
stays_seated : (stay : Option Stay) → is_some (option_map (λ s. s.name) stay) ≡ is_some (option_map book_of stay)
stays_seated None = refl
stays_seated (Some stay) = refl

pub places_seated : (places : List Place) → BooksFit (tenants_at places)
places_seated [] = refl
places_seated (place ∷ rest) =
    ap (λ (test : Bool). test ∷ map (λ (p : Entry). is_some p.tenant) (register_of rest)) (stays_seated place.stay)
    ∙ ap (λ (tests : List Bool). is_some (option_map book_of place.stay) ∷ tests) (places_seated rest)
