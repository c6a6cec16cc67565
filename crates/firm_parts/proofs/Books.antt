-- Books in a state to which tenants come.
use Rattle.std.proofs.Common.{◌≡◌, ◌∙◌, ◌<◌, ◌≤◌, ◌+◌, ◌∷◌, [], ℕ, zero, suc, Bool, true, false, List, arith, refl, sym}
use Rattle.std.proofs.Common.{ap}
use Rattle.std.proofs.Common.{subst, length, get_or, cond, bytes_eq, true≢false, Option, Some, None, Ok, Err, Result}
use Rattle.std.specs.Prelude.{option_map, set, position, if◌then◌else◌}
use Rattle.std.specs.Option.{is_none, is_some, ok_or}
use Rattle.std.specs.Prelude.{◌&&◌, nat_lt}
use Rattle.std.specs.List.{AllByRecursion, position_or_len}
use Rattle.std.proofs.Math.ListN.{get_or-map}
use Rattle.std.proofs.lemmas.Bool.Decides.{nat_tests}
use Rattle.std.proofs.lemmas.List.{length-map}
use Rattle.std.proofs.lemmas.List.Elements.{recursion_from_All}
use Rattle.std.proofs.lemmas.List.Quantifiers.{position-Some}
use Rattle.std.proofs.lemmas.List.Sums.{fails_before_first}
use Rattle.std.proofs.lemmas.Slice.Eq.{bytes_eq-Decides}
use Rattle.firm_rules.specs.Book.{Book}
use Rattle.firm_text.specs.Commands.{◌>>=◌}
use Rattle.firm_text.specs.Registers.{is_free, is_named, most_admissions, place_for, place_in}
use Rattle.firm_text.specs.declared.operator.OperatorRefusal.{OperatorRefusal}
use Rattle.firm_text.specs.declared.operator.OperatorRefusal.TheVariants.{TenantExists, Full}
use Rattle.firm_text.specs.declared.registers.Entry.{Entry}
use Rattle.firm_parts.specs.Parts.{book_in, either_book, joined, joined_by, settled, settled_at}
use Rattle.firm_parts.specs.Laws.{JoinsAreApart, JoinsKeepBooks}
use Rattle.firm_saved.specs.Saved.{entry_of, register_of, untouched}
use Rattle.firm_saved.specs.declared.saved.SavedPlace.{SavedPlace}
use Rattle.firm_parts.proofs.Parts.{book_behind, place_is}

-- what is known where a place is given
given_free : (held : Bool) (free : Option ℕ) (at : ℕ)
    → (if held then Err TenantExists else ok_or {E = OperatorRefusal} free Full) ≡ Ok at
    → (held ≡ false) × (free ≡ Some at)
given_free true free at e = absurd (cc)
given_free false None at e = absurd (cc)
given_free false (Some i) at e = (refl, cc)

none_of : {X : Type 0} (o : Option X) → is_some o ≡ false → o ≡ None
none_of None e = refl
none_of (Some x) e = absurd (cc)

-- a name that no place of the register has is that of no book
nowhere : (places : List SavedPlace) (name : List ℕ)
    → AllByRecursion (λ (entry : Entry). is_named name entry.tenant ≡ false) (register_of places)
    → book_in places name ≡ None
nowhere [] name none = refl
nowhere (place ∷ rest) name none =
    ap (λ (b : Bool). cond b (option_map (λ (t : List ℕ × Book). t.1) place.tenant) (book_in rest name)) none.0
    ∙ nowhere rest name none.1

unnamed : (places : List SavedPlace) (name : List ℕ) → place_in (register_of places) name ≡ None
    → book_in places name ≡ None
unnamed places name none =
    let p : Entry → Bool = λ (entry : Entry). is_named name entry.tenant in
    nowhere places name (recursion_from_All (λ (entry : Entry). is_named name entry.tenant ≡ false) (register_of places)
    (λ k d within.
    let late : length (register_of places) ≤ position_or_len p (register_of places) = grind (arith, nat_tests) in
    fails_before_first p (register_of places) k d (omega arith)))

-- a place that may be given has no tenant
free_tenant : (tenant : Option (List ℕ × Book)) (admissions : ℕ)
    → (is_none (option_map (λ (t : List ℕ × Book). t.0) tenant) && nat_lt admissions most_admissions) ≡ true
    → tenant ≡ None
free_tenant None admissions free = refl
free_tenant (Some tenant) admissions free = absurd (cc)

-- what is known of the place that the register gives
pub record IsGiven (places : List SavedPlace) (name : List ℕ) (at : ℕ) : Type 0 where
  pub within : at < length places
  pub vacant : (get_or places at untouched).tenant ≡ None
  pub new : book_in places name ≡ None

pub is_given : (places : List SavedPlace) (name : List ℕ) (at : ℕ) → place_for (register_of places) name ≡ Ok at
    → IsGiven places name at
is_given places name at given =
    let register : List Entry = register_of places in
    let both = given_free (is_some (place_in register name)) (position is_free register) at given in
    let first = position-Some is_free register at (entry_of untouched) both.1 in
    record {
      within = omega (arith, first.0, length-map places entry_of);
      vacant = free_tenant (get_or places at untouched).tenant (get_or places at untouched).admissions
          (subst (λ (entry : Entry). is_free entry ≡ true) (get_or-map entry_of places at untouched) first.1);
      new = unnamed places name (none_of (place_in register name) both.0);
    }

-- a name that no place has is not the first's, nor that of any after it
none_behind : (tenant : Option (List ℕ × Book)) (rest : List SavedPlace) (name : List ℕ)
    → book_behind tenant rest name ≡ None → book_in rest name ≡ None
none_behind None rest name none = none
none_behind (Some tenant) rest name none = elim (bytes_eq tenant.0 name) as
    (λ b. cond b (Some tenant.1) (book_in rest name) ≡ None → book_in rest name ≡ None)
    [ true ↦ λ some. absurd (cc) | false ↦ λ e. e ] none

differs : (tenant : List ℕ × Book) (rest : List SavedPlace) (name : List ℕ)
    → book_behind (Some tenant) rest name ≡ None → bytes_eq tenant.0 name ≡ false
differs tenant rest name none = elim (bytes_eq tenant.0 name) as
    (λ b. cond b (Some tenant.1) (book_in rest name) ≡ None → b ≡ false)
    [ true ↦ λ some. absurd (cc) | false ↦ λ e. refl ] none

-- once a tenant has come to an empty place, its book is there, and each other as before
pub settled_book : (places : List SavedPlace) (at admissions : ℕ) (tenant : List ℕ × Book) (name : List ℕ)
    → at < length places → (get_or places at untouched).tenant ≡ None → book_in places tenant.0 ≡ None
    → book_in (set places at (place_is admissions (Some tenant))) name
    ≡ cond (bytes_eq tenant.0 name) (Some tenant.1) (book_in places name)
settled_book [] at admissions tenant name within vacant new = absurd (omega arith)
settled_book (place ∷ rest) zero admissions tenant name within vacant new =
    ap (λ (t : Option (List ℕ × Book)). cond (bytes_eq tenant.0 name) (Some tenant.1) (book_behind t rest name))
    (sym vacant)
settled_book (place ∷ rest) (suc at) admissions tenant name within vacant new =
    by place.tenant new
    (settled_book rest at admissions tenant name (omega arith) vacant (none_behind place.tenant rest tenant.0 new))
  where
    by : (t : Option (List ℕ × Book)) → book_behind t rest tenant.0 ≡ None
        → book_in (set rest at (place_is admissions (Some tenant))) name
        ≡ cond (bytes_eq tenant.0 name) (Some tenant.1) (book_in rest name)
        → book_behind t (set rest at (place_is admissions (Some tenant))) name
        ≡ cond (bytes_eq tenant.0 name) (Some tenant.1) (book_behind t rest name)
    by None here more = more
    by (Some t) here more = elim (bytes_eq t.0 name) as
        (λ b. bytes_eq t.0 name ≡ b → cond b (Some t.1) (book_in (set rest at (place_is admissions (Some tenant))) name)
        ≡ cond (bytes_eq tenant.0 name) (Some tenant.1) (cond b (Some t.1) (book_in rest name))) [
          | true ↦ λ same. ap (λ (b : Bool). cond b (Some tenant.1) (Some t.1)) (sym (apart same))
          | false ↦ λ differ. more
        ] refl
      where
        -- else the tenant that comes would have the name of this one
        apart : bytes_eq t.0 name ≡ true → bytes_eq tenant.0 name ≡ false
        apart same = elim (bytes_eq tenant.0 name) as (λ b. bytes_eq tenant.0 name ≡ b → b ≡ false) [
          | true ↦ λ both.
              let one : t.0 ≡ tenant.0 =
              (bytes_eq-Decides t.0 name).0 same ∙ sym ((bytes_eq-Decides tenant.0 name).0 both) in
              absurd (true≢false (sym ((bytes_eq-Decides t.0 tenant.0).1 one) ∙ differs t rest tenant.0 here))
          | false ↦ λ _. refl
        ] refl

-- a step of the joining
joined_on : (places others both : List SavedPlace) (name : List ℕ) (tenant : List ℕ × Book) (at : ℕ)
    → IsGiven places tenant.0 at
    → book_in both name ≡ either_book (book_in (settled_at places at tenant) name) (book_in others name)
    → book_in both name ≡ either_book (book_in places name) (book_behind (Some tenant) others name)
joined_on places others both name tenant at given is =
    is
    ∙ ap (λ (book : Option Book). either_book book (book_in others name))
    (settled_book places at ((get_or places at untouched).admissions + 1) tenant name given.within given.vacant
    given.new)
    ∙ elim (bytes_eq tenant.0 name) as
    (λ b. bytes_eq tenant.0 name ≡ b → either_book (cond b (Some tenant.1) (book_in places name)) (book_in others name)
    ≡ either_book (book_in places name) (cond b (Some tenant.1) (book_in others name))) [
      | true ↦ λ same. ap (λ (book : Option Book). either_book book (Some tenant.1))
          (sym (subst (λ n. book_in places n ≡ None) ((bytes_eq-Decides tenant.0 name).0 same) given.new))
      | false ↦ λ differ. refl
    ] refl

pub joins_keep_books : JoinsKeepBooks
joins_keep_books places [] both is name =
    let same : places ≡ both = cc in
    ap (λ (state : List SavedPlace). book_in state name) (sym same) ∙ last (book_in places name)
  where
    last : (book : Option Book) → book ≡ either_book book None
    last None = refl
    last (Some book) = refl
joins_keep_books places (other ∷ rest) both is name =
    by other.tenant is (λ more e. joins_keep_books more rest both e name)
  where
    by : (tenant : Option (List ℕ × Book))
        → (joined_by places tenant >>= λ more. joined more rest) ≡ Ok both
        → ((more : List SavedPlace) → joined more rest ≡ Ok both
        → book_in both name ≡ either_book (book_in more name) (book_in rest name))
        → book_in both name ≡ either_book (book_in places name) (book_behind tenant rest name)
    by None e on = on places e
    by (Some tenant) e on = go (place_for (register_of places) tenant.0) refl e
      where
        go : (given : Result ℕ OperatorRefusal) → place_for (register_of places) tenant.0 ≡ given
            → (settled places tenant given >>= λ more. joined more rest) ≡ Ok both
            → book_in both name ≡ either_book (book_in places name) (book_behind (Some tenant) rest name)
        go (Ok at) found e =
            joined_on places rest both name tenant at (is_given places tenant.0 at found)
            (on (settled_at places at tenant) e)
        go (Err refusal) found e = absurd (cc)

pub joins_are_apart : JoinsAreApart
joins_are_apart places [] both is name book has = absurd (cc)
joins_are_apart places (other ∷ rest) both is name book has =
    by other.tenant is has (λ more e h. joins_are_apart more rest both e name book h)
  where
    by : (tenant : Option (List ℕ × Book))
        → (joined_by places tenant >>= λ more. joined more rest) ≡ Ok both
        → book_behind tenant rest name ≡ Some book
        → ((more : List SavedPlace) → joined more rest ≡ Ok both → book_in rest name ≡ Some book
        → book_in more name ≡ None)
        → book_in places name ≡ None
    by None e has on = on places e has
    by (Some tenant) e has on = go (place_for (register_of places) tenant.0) refl e
      where
        go : (given : Result ℕ OperatorRefusal) → place_for (register_of places) tenant.0 ≡ given
            → (settled places tenant given >>= λ more. joined more rest) ≡ Ok both
            → book_in places name ≡ None
        go (Err refusal) found e = absurd (cc)
        go (Ok at) found e = elim (bytes_eq tenant.0 name) as
            (λ b. bytes_eq tenant.0 name ≡ b → cond b (Some tenant.1) (book_in rest name) ≡ Some book
            → book_in places name ≡ None) [
              | true ↦ λ same h. subst (λ n. book_in places n ≡ None) ((bytes_eq-Decides tenant.0 name).0 same)
                  (is_given places tenant.0 at found).new
              | false ↦ λ differ h.
                  let given = is_given places tenant.0 at found in
                  sym (ap (λ (b : Bool). cond b (Some tenant.1) (book_in places name)) differ)
                  ∙ sym (settled_book places at ((get_or places at untouched).admissions + 1) tenant name given.within
                  given.vacant given.new)
                  ∙ on (settled_at places at tenant) e h
            ] refl has
