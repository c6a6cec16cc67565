-- Without admissions and retirements, the stays are those of the roster's rows.
use Rattle.std.proofs.Common.{◌≡◌, ℕ, List, [], ◌∷◌, ◌++◌, refl, ap, ◌∙◌}
use Rattle.std.specs.Prelude.{Bool, true, false, ◌||◌, Option, Some, None, option_map, slice_get, if◌then◌else◌}
use Rattle.std.specs.List.{list_any}
use Rattle.firm_rules.specs.Limits.{TenantLimits}
use Rattle.firm_rules.specs.declared.commands.Command.TheVariants.{Round}
use Rattle.firm_text.specs.Rosters.{RosterRow}
use Rattle.firm_table.specs.Interleaving.{TableState, MarkedEvent, opening_table, named_place, happens, event_answers}
use Rattle.firm_table.specs.Histories.{History, new_history, commanded_once, replied_once, history_here, ended_here}
use Rattle.firm_table.specs.Histories.{is_at, history_with, history_behind, ended_with, ended_behind}
use Rattle.firm_table.specs.Histories.{opening_history, comes_or_goes, RowsStay}
use Rattle.firm_table.specs.declared.events.Event.{Event}
use Rattle.firm_table.specs.declared.events.Event.TheVariants.{Post, Ask, Collect, Admit, Retire}
use Rattle.firm_table.specs.declared.events.Answer.{Answer as EventAnswer}
use Rattle.firm_table.specs.declared.events.Answer.TheVariants.{Replied, Queued}

-- the limits of the stay that stands
abbrev limits_in : Option History → Option TenantLimits
limits_in history = option_map (λ (stay : History). stay.limits) history

changed : (change : History → History) → ((stay : History) → (change stay).limits ≡ stay.limits)
    → (history : Option History)
    → limits_in (option_map change history) ≡ limits_in history
changed change same None = refl
changed change same (Some stay) = ap (λ (l : TenantLimits). Some l) (same stay)

here_same : (history : Option History) (event : Event) (answer : EventAnswer) → comes_or_goes event ≡ false
    → limits_in (history_here history event answer) ≡ limits_in history
here_same history (Post place command) (Replied reply) e =
    changed (λ stay. replied_once reply (commanded_once command stay)) (λ stay. refl) history
here_same history (Post place command) _ e = refl
here_same history (Ask place) (Replied reply) e =
    changed (λ stay. replied_once reply (commanded_once Round stay)) (λ stay. refl) history
here_same history (Ask place) (Queued ticket) e = changed (commanded_once Round) (λ stay. refl) history
here_same history (Ask place) _ e = refl
here_same history (Collect place) (Replied reply) e = changed (replied_once reply) (λ stay. refl) history
here_same history (Collect place) _ e = refl
here_same history (Admit place limits) answer e = cc
here_same history (Retire place) answer e = cc
here_same history _ answer e = refl

none_ended : (history : Option History) (event : Event) (answer : EventAnswer) → comes_or_goes event ≡ false
    → ended_here history event answer ≡ []
none_ended history (Admit place limits) answer e = cc
none_ended history (Retire place) answer e = cc
none_ended history _ answer e = refl

if_alike : {X Y : Type 0} (value : X → Y) (b : Bool) (x y : X) → value x ≡ value y
    → value (if b then x else y) ≡ value y
if_alike value true x y e = e
if_alike value false x y e = refl

neither : (b c : Bool) → (b || c) ≡ false → (b ≡ false) × (c ≡ false)
neither true c e = cc
neither false c e = (refl, e)

stays_behind : (place : ℕ) (history : Option History) (table : TableState) (events : List MarkedEvent)
    → list_any (λ (given : MarkedEvent). comes_or_goes given.0) events ≡ false
    → (ended_behind place history events (event_answers table events) ≡ [])
    × (limits_in (history_behind place history events (event_answers table events)) ≡ limits_in history)
stays_behind place history table [] none = (refl, refl)
stays_behind place history table (given ∷ rest) none =
    let here = neither (comes_or_goes given.0) (list_any (λ (g : MarkedEvent). comes_or_goes g.0) rest) none in
    let answer : EventAnswer = (happens table given).0 in
    let after : Option History = history_with place history given.0 answer in
    let behind = stays_behind place after (happens table given).1 rest here.1 in
    let first : ended_with place history given.0 answer ≡ [] =
    if_alike (λ (stays : List History). stays) (is_at place (named_place given.0))
    (ended_here history given.0 answer) [] (none_ended history given.0 answer here.0) in
    let same : limits_in after ≡ limits_in history =
    if_alike limits_in (is_at place (named_place given.0)) (history_here history given.0 answer) history
    (here_same history given.0 answer here.0) in (
      ap (λ (stays : List History). stays ++ ended_behind place after rest (event_answers (happens table given).1 rest))
          first ∙ behind.0,
      behind.1 ∙ same,
    )

row_limits : (found : Option RosterRow) → limits_in (option_map (λ (row : RosterRow). new_history row.1) found)
    ≡ option_map (λ (row : RosterRow). row.1) found
row_limits None = refl
row_limits (Some row) = refl

pub rows_stay : RowsStay
rows_stay roster workers place events none =
    let stays = stays_behind place (opening_history roster place) (opening_table roster workers) events none in
    (stays.0, stays.1 ∙ row_limits (slice_get roster place))
