-- The places of a service: which tenant stays at each, and what it was given since its stay began.
use Rattle.std.specs.Prelude.{ℕ, ◌+◌, ◌-◌, IfSome, Bool, true, false, List, [], ◌∷◌, ◌++◌, length, map, replicate}
use Rattle.std.specs.Prelude.{Option, Some, None, option_map, Result, Ok, Err, bytes_eq, slice_index_or, slice_set}
use Rattle.std.specs.Prelude.{if◌then◌else◌}
use Rattle.firm_rules.specs.Book.{Book, opening_book}
use Rattle.firm_rules.specs.Limits.{TenantLimits}
use Rattle.firm_rules.specs.declared.commands.Command.{Command}
use Rattle.firm_tenant.specs.Alone.{book_after}
use Rattle.firm_text.specs.Registers.{place_for}
use Rattle.firm_text.specs.Rosters.{FitsHeading, RosterRow, most_places}
use Rattle.firm_text.specs.declared.headings.Heading.{Heading}
use Rattle.firm_text.specs.declared.inputs.Line.{Line}
use Rattle.firm_text.specs.declared.inputs.Line.TheVariants.{Nothing, Long, Nameless, For, Operator}
use Rattle.firm_text.specs.declared.operator.OperatorLine.{OperatorLine}
use Rattle.firm_text.specs.declared.operator.OperatorLine.TheVariants.{Admit, Retire, Faulty}
use Rattle.firm_text.specs.declared.operator.OperatorRefusal.{OperatorRefusal}
use Rattle.firm_text.specs.declared.operator.OperatorRefusal.TheVariants.{NoSuchTenant, Memory}
use Rattle.firm_text.specs.declared.operator.OperatorReply.{OperatorReply}
use Rattle.firm_text.specs.declared.operator.OperatorReply.TheVariants.{Admitted, Retired, Refused}
use Rattle.firm_text.specs.declared.registers.Entry.{Entry}
use Rattle.firm_saved.specs.declared.saved.SavedPlace.{SavedPlace}

-- a command, and whether memory was refused to it
abbrev pub Given : Type 0
Given = Command × Bool

-- a line, and whether memory was refused to it
abbrev pub MarkedLine : Type 0
MarkedLine = Line × Bool

-- a tenant's stay: its name, the book that it began with, and the commands that it was given since
pub record Stay : Type 0 where
  pub name : List ℕ
  pub opening : Book
  pub commands : List Given

-- a stay that begins with this book
abbrev pub opened_stay : List ℕ → Book → Stay
opened_stay name book = record { name = name; opening = book; commands = [] }

-- a stay that begins with the tenant's admission
abbrev pub new_stay : List ℕ → TenantLimits → Stay
new_stay name limits = opened_stay name (opening_book limits)

-- the limits of a stay
abbrev pub limits_of : Stay → TenantLimits
limits_of stay = stay.opening.rows.limits

-- the book of a stay, after its commands
abbrev pub book_of : Stay → Book
book_of stay = book_after stay.opening stay.commands

-- a place: how often it was given, and the stay there, if any
pub record Place : Type 0 where
  pub admissions : ℕ
  pub stay : Option Stay

-- the limits of a place's stay, if any, are such as a row under this heading can give
abbrev pub StayFits : Heading → Place → Type 0
StayFits heading place = IfSome place.stay (λ stay. FitsHeading heading (limits_of stay))

-- a place that was never given
abbrev pub unused_place : Place
unused_place = record { admissions = 0; stay = None }

-- the place of a row of the roster, which counts as an admission
abbrev pub place_of_row : RosterRow → Place
place_of_row row = record { admissions = 1; stay = Some (new_stay row.0 row.1) }

-- the places before the first line: those of the roster's rows, in their order, followed by those that were never given
abbrev pub opening_places : List RosterRow → List Place
opening_places roster = map place_of_row roster ++ replicate (most_places - length roster) unused_place

-- a place as a saved state has it: a tenant's stay begins with the saved book
abbrev pub restored_place : SavedPlace → Place
restored_place saved =
    record { admissions = saved.admissions; stay = option_map (λ tenant. opened_stay tenant.0 tenant.1) saved.tenant }

-- the places of a service that opens with a saved state
abbrev pub restored_places : List SavedPlace → List Place
restored_places saved = map restored_place saved

-- a place as it is saved: what a stay has become is its book
abbrev pub saved_place : Place → SavedPlace
saved_place place =
    record { admissions = place.admissions; tenant = option_map (λ stay. (stay.name, book_of stay)) place.stay }

-- the state of a service with these places
abbrev pub saved_after : List Place → List SavedPlace
saved_after places = map saved_place places

-- whether this is a stay of the tenant of this name
abbrev pub is_stay_of : List ℕ → Option Stay → Bool
is_stay_of name None = false
is_stay_of name (Some stay) = bytes_eq stay.name name

-- the stay of the tenant of this name
abbrev pub stay_of : List Place → List ℕ → Option Stay
stay_of [] name = None
stay_of (place ∷ rest) name = if is_stay_of name place.stay then place.stay else stay_of rest name

-- the stay, with one more command
abbrev pub with_command : Given → Stay → Stay
with_command given stay = record stay { commands = stay.commands ++ given ∷ [] }

-- the place after a command to the tenant of this name
abbrev pub commanded : List ℕ → Given → Place → Place
commanded name given place =
    if is_stay_of name place.stay then record place { stay = option_map (with_command given) place.stay } else place

-- the place once the tenant of this name has left
abbrev pub left_by : List ℕ → Place → Place
left_by name place = if is_stay_of name place.stay then record place { stay = None } else place

-- the places, this one given once more: a tenant of this name begins its stay there
abbrev pub entered_at : ℕ → List ℕ → TenantLimits → List Place → List Place
entered_at at name limits places =
    let admissions : ℕ = (slice_index_or places at unused_place).admissions in
    slice_set places at (record { admissions = admissions + 1; stay = Some (new_stay name limits) })

-- a place as the register knows it
abbrev pub registered : Place → Entry
registered place = record { tenant = option_map (λ stay. stay.name) place.stay; admissions = place.admissions }

-- which tenant has which of these places, and how often each was given
abbrev pub register_of : List Place → List Entry
register_of places = map registered places

-- the reply to an admission to the place that the register gives, if it gives one, and the places after it; if memory
-- is refused, the place stays empty and is not given
abbrev pub admission : List Place → List ℕ → TenantLimits → Result ℕ OperatorRefusal → Bool → OperatorReply
    × List Place
admission places name limits (Err refusal) mark = (Refused refusal, places)
admission places name limits (Ok at) true = (Refused Memory, places)
admission places name limits (Ok at) false = (Admitted name, entered_at at name limits places)

-- the reply to a retirement of the tenant that has this stay, if any, and the places after it
abbrev pub retirement : List Place → List ℕ → Option Stay → OperatorReply × List Place
retirement places name None = (Refused NoSuchTenant, places)
retirement places name (Some stay) = (Retired name, map (left_by name) places)

-- the reply to a line of the operator, and the places after it
abbrev pub obeyed : List Place → OperatorLine → Bool → OperatorReply × List Place
obeyed places (Admit name limits) mark =
    admission places name limits (place_for (register_of places) name) mark
obeyed places (Retire name) mark = retirement places name (stay_of places name)
obeyed places (Faulty refusal) mark = (Refused refusal, places)

-- the places after a line
abbrev pub after_line : List Place → MarkedLine → List Place
after_line places (Nothing, mark) = places
after_line places (Long, mark) = places
after_line places (Nameless, mark) = places
after_line places (For name command, mark) = map (commanded name (command, mark)) places
after_line places (Operator request, mark) = (obeyed places request mark).1

-- the places after these lines
abbrev pub after_lines : List Place → List MarkedLine → List Place
after_lines places [] = places
after_lines places (given ∷ rest) = after_lines (after_line places given) rest
