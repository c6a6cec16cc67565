-- A hall before its first line, and its desks after the last.
use Rattle.std.proofs.Common.{◌≡◌, ℕ, zero, suc, ◌+◌, ◌<◌, List, [], ◌∷◌, ◌++◌, All, drop, length, get_or, refl}
use Rattle.std.proofs.Common.{add-one, append_assoc, sym, ap, ◌∙◌, subst, arith}
use Rattle.std.specs.Prelude.{Bool, map, Option, Some, None, IsSome, option_map}
use Rattle.std.specs.Option.{is_some}
use Rattle.std.proofs.lemmas.List.{drop_more}
use Rattle.firm_table.specs.Opened.{Opened}
use Rattle.firm_rules.specs.Book.{Book}
use Rattle.firm_text.specs.Rosters.{most_places}
use Rattle.firm_rounds.specs.Rounds.{weigh}
use Rattle.firm_rounds.specs.Passes.{QueueId, PutIs, new_puts}
use Rattle.firm_table.specs.Tenants.{tenants_are}
use Rattle.firm_table.specs.Progress.{state_is, tenants_at, books_of}
use Rattle.firm_table.specs.Adding.{NothingIsTold}
use Rattle.firm_table.specs.Places.{MarkedLine, Stay, Place, unused_place, book_of, register_of}
use Rattle.firm_table.specs.Output.{answers_from}
use Rattle.firm_hall.specs.Counts.{Counted}
use Rattle.firm_hall.specs.inner.DeskStates.{NoneIsAway}
use Rattle.firm_hall.specs.inner.Ending.{IsOf}
use Rattle.firm_hall.specs.inner.Serving.{book_at, opened_at, opening_state, opening_states, asked_at}
use Rattle.firm_hall.specs.inner.Serving.{desk_state_counts, place_counts, AreDeskStates, Fits, DeskStateIs, Tells}
use Rattle.firm_hall.specs.inner.Serving.{TellsParts}
use Rattle.firm_hall.specs.declared.desk_states.DeskState.{DeskState}
use Rattle.firm_hall.specs.declared.desk_states.DeskState.TheVariants.{Home, Away, Empty, Gone}
use Rattle.firm_held.specs.declared.held.HeldAnswer.{HeldAnswer}
use Rattle.firm_hall.proofs.Opening.{pass_at}

-- what stands at the places from one on begins with what stands there
states_from : (id : QueueId) (at : ℕ) (places : List Place) → at < length places
    → opening_states id at (drop at places)
    ≡ opening_state id at (get_or places at unused_place) ∷ opening_states id (at + 1) (drop (at + 1) places)
states_from id at places low =
    let behind = drop (at + 1) places in
    let place : Place = get_or places at unused_place in
    ap (opening_states id at) (drop_more places at unused_place low)
    ∙ ap (λ (j : ℕ). opening_state id at place ∷ opening_states id j behind) (sym (add-one at))

-- one place more is opened
pub opens_state : (id : QueueId) (at : ℕ) (places : List Place) (states grown all : List DeskState) (state : DeskState)
    → at < length places → grown ≡ states ++ state ∷ []
    → state ≡ opening_state id at (get_or places at unused_place)
    → states ++ opening_states id at (drop at places) ≡ all
    → grown ++ opening_states id (at + 1) (drop (at + 1) places) ≡ all
opens_state id at places states grown all state low pushed is before =
    let rest = opening_states id (at + 1) (drop (at + 1) places) in
    ap (λ (xs : List DeskState). xs ++ rest) pushed
    ∙ append_assoc states (state ∷ []) rest
    ∙ ap (λ (ys : List DeskState). states ++ ys)
    (ap (λ (s : DeskState). s ∷ rest) is ∙ sym (states_from id at places low))
    ∙ before

-- what holds of the next pass
pub next_state : (id : QueueId) (passes : List PutIs) (at : ℕ) (rest : List PutIs) (pass : PutIs) (state : DeskState)
    (place : Place)
    → passes ≡ new_puts id most_places → at < most_places → drop at passes ≡ pass ∷ rest
    → state ≡ opening_state pass.queue pass.place place → state ≡ opening_state id at place
next_state id passes at rest pass state place e low here is =
    is ∙ ap (λ (p : PutIs). opening_state p.queue p.place place) (pass_at id passes most_places at rest pass e low here)

-- a tenant with a book stays there
pub some_stay : (stay : Option Stay) (book : Book) → Some book ≡ option_map book_of stay → IsSome stay
some_stay None book e = cc
some_stay (Some stay) book e = refl

-- the claim about each place holds of its state
module _ {B : Type 0} (f : DeskState → B) (of_place : Place → B) where
  pub states_as : (id : QueueId) (at : ℕ) (places : List Place)
      → ((k : ℕ) (place : Place) → f (opening_state id k place) ≡ of_place place)
      → map f (opening_states id at places) ≡ map of_place places
  states_as id at [] same = refl
  states_as id at (place ∷ rest) same =
      ap (λ (b : B). b ∷ map f (opening_states id (suc at) rest)) (same at place)
      ∙ ap (λ (bs : List B). of_place place ∷ bs) (states_as id (suc at) rest same)

-- the register fits them
counts_open : (id : QueueId) (at admissions : ℕ) (stay : Option Stay)
    → desk_state_counts (opened_at id at admissions (option_map book_of stay))
    ≡ (is_some (option_map (λ s. s.name) stay), admissions)
counts_open id at admissions None = refl
counts_open id at admissions (Some stay) = refl

counts_of : (places : List Place)
    → map place_counts (register_of places)
    ≡ map (λ (place : Place). (is_some (option_map (λ s. s.name) place.stay), place.admissions)) places
counts_of [] = refl
counts_of (place ∷ rest) =
    ap (λ (cs : List (Bool × ℕ)). (is_some (option_map (λ s. s.name) place.stay), place.admissions) ∷ cs)
    (counts_of rest)

pub fits_open : (id : QueueId) (places : List Place) → Fits (register_of places) (opening_states id 0 places)
fits_open id places =
    states_as desk_state_counts
    (λ (place : Place). (is_some (option_map (λ s. s.name) place.stay), place.admissions)) id 0 places
    (λ k place. counts_open id k place.admissions place.stay)
    ∙ sym (counts_of places)

-- and so do the books
book_open : (id : QueueId) (at admissions : ℕ) (book : Option Book) → book_at (opened_at id at admissions book) ≡ book
book_open id at admissions None = refl
book_open id at admissions (Some book) = refl

books_open : (id : QueueId) (places : List Place) → map book_at (opening_states id 0 places) ≡ books_of places
books_open id places =
    states_as book_at (λ (place : Place). option_map book_of place.stay) id 0 places
    (λ k place. book_open id k place.admissions (option_map book_of place.stay))

-- nothing was requested yet
none_asked : (id : QueueId) (at admissions : ℕ) (book : Option Book) → asked_at (opened_at id at admissions book) ≡ 0
none_asked id at admissions None = refl
none_asked id at admissions (Some book) = refl

asked_open : (id : QueueId) (at : ℕ) (places : List Place) → weigh asked_at (opening_states id at places) ≡ 0
asked_open id at [] = refl
asked_open id at (place ∷ rest) =
    let here : asked_at (opening_state id at place) ≡ 0 =
    none_asked id at place.admissions (option_map book_of place.stay) in
    let behind : weigh asked_at (opening_states id (suc at) rest) ≡ 0 = asked_open id (suc at) rest in
    omega (arith, here, behind)

-- each desk state is one of its place
pub long_open : (id : QueueId) (at : ℕ) (places : List Place) → length (opening_states id at places) ≡ length places
long_open id at [] = refl
long_open id at (place ∷ rest) = ap suc (long_open id (suc at) rest)

state_is_open : (id : QueueId) (at admissions sum : ℕ) (book : Option Book) → at ≡ sum
    → DeskStateIs id sum [] (opened_at id at admissions book)
state_is_open id at admissions sum None same = (refl, same, tt)
state_is_open id at admissions sum (Some book) same = (refl, same, λ idle. tt)

desk_state_open : (id : QueueId) (at : ℕ) (places : List Place) (place sum : ℕ) (default : DeskState)
    → sum ≡ at + place → place < length places
    → DeskStateIs id sum [] (get_or (opening_states id at places) place default)
desk_state_open id at [] place sum default e low = absurd (omega arith)
desk_state_open id at (first ∷ rest) zero sum default e low =
    state_is_open id at first.admissions sum (option_map book_of first.stay) (omega arith)
desk_state_open id at (first ∷ rest) (suc place) sum default e low =
    desk_state_open id (suc at) rest place sum default (omega arith) (omega arith)

pub desk_states_open : (id : QueueId) (places : List Place) (desk_states : List DeskState) (answers : List HeldAnswer)
    → length places ≡ most_places → desk_states ≡ opening_states id 0 places → answers ≡ []
    → AreDeskStates id answers desk_states
desk_states_open id places desk_states answers all is none =
    rw (is, none)
    (record {
      long = long_open id 0 places ∙ all;
      each = λ place default low. desk_state_open id 0 places place place default (omega arith) (omega (arith, all));
    })

pub tells_open : NothingIsTold
    → (id : QueueId) (opening : Opened) (desk_states : List DeskState) (answers : List HeldAnswer)
    (output : List ℕ)
    → desk_states ≡ opening_states id 0 opening.places → answers ≡ [] → output ≡ []
    → (written : Option (List ℕ)) → TellsParts opening (register_of opening.places) desk_states answers output []
    written written
tells_open nothing id opening desk_states answers output is none empty written marks =
    let places : List Place = opening.places in
    let n = nothing opening written in
    let zero_lines : Counted 0 n.0.lines (answers_from places n.0.lines) =
    subst (λ (ls : List MarkedLine). Counted 0 ls (answers_from places ls)) (sym n.1)
    (record { least = omega arith; most = omega arith }) in
    let t : Tells (state_is opening (tenants_at places) []) 0 [] written written =
    record { told = n.0; counted = zero_lines } in
    rw (is, none, empty)
    (subst (λ (k : ℕ). Tells
    (state_is opening (tenants_are (register_of places) (map book_at (opening_states id 0 places))) []) k
    [] written written)
    (sym (asked_open id 0 places))
    (subst (λ (bs : List (Option Book)). Tells
    (state_is opening (tenants_are (register_of places) bs) []) 0 [] written written)
    (sym (books_open id places)) t))

-- where no answer is held, each desk of this hall is home
desk_state_of : (id : QueueId) (place : ℕ) (desk_state : DeskState) → DeskStateIs id place [] desk_state
    → IsOf id desk_state
desk_state_of id place (Home desk waits) is = is.0
desk_state_of id place (Away asked) is = absurd is.first
desk_state_of id place (Empty empty) is = is.0
desk_state_of id place Gone is = absurd is

pub all_of : (id : QueueId) (answers : List HeldAnswer) (desk_states : List DeskState) → answers ≡ []
    → AreDeskStates id answers desk_states → All (IsOf id) desk_states
all_of id answers desk_states none are place default low =
    desk_state_of id place (get_or desk_states place default)
    (subst (λ (held : List HeldAnswer). DeskStateIs id place held (get_or desk_states place default)) none
    (are.each place default (omega (arith, are.long))))

pub back_of : (id : QueueId) (desk_state : DeskState) → IsOf id desk_state → NoneIsAway desk_state
back_of id (Home desk waits) is = tt
back_of id (Away asked) is = absurd is
back_of id (Empty empty) is = tt
back_of id Gone is = absurd is

-- the desk of one more place is put away
pub asked_more : (all rest : List DeskState) (desk_state : DeskState) (rounds asked total : ℕ) → all ≡ desk_state ∷ rest
    → asked ≡ asked_at desk_state → rounds + weigh asked_at all ≡ total
    → (rounds + asked) + weigh asked_at rest ≡ total
asked_more all rest desk_state rounds asked total steps one sum =
    let before : weigh asked_at all ≡ asked_at desk_state + weigh asked_at rest = ap (weigh asked_at) steps in
    omega (arith, before, one, sum)
