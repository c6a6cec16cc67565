-- The answers to events, computed at a worked example.
use Rattle.std.proofs.Common.{◌≡◌, ℕ, List, [], ◌∷◌, ◌++◌, refl, codes}
use Rattle.std.specs.Prelude.{false, true, map, pos}
use Rattle.firm_rules.specs.Limits.{TenantLimits}
use Rattle.firm_rules.specs.declared.commands.Command.TheVariants.{Show, Round}
use Rattle.firm_rules.specs.declared.replies.Outcome.{Outcome}
use Rattle.firm_rules.specs.declared.replies.Outcome.TheVariants.{Shown, Round as Placed}
use Rattle.firm_text.specs.Rosters.{RosterRow}
use Rattle.firm_table.specs.Histories.{stays_at}
use Rattle.firm_table.specs.Interleaving.{MarkedEvent, opening_table, event_answers}
use Rattle.firm_table.specs.declared.events.Event.{Event}
use Rattle.firm_table.specs.declared.events.Event.TheVariants.{Post, Ask, Take, Answer, Collect, Admit, Retire}
use Rattle.firm_table.specs.declared.events.Answer.{Answer as EventAnswer}
use Rattle.firm_table.specs.declared.events.Answer.TheVariants.{Replied, Queued, Took, Solved, Admitted, NoMemory}
use Rattle.firm_table.specs.declared.events.Answer.TheVariants.{Retired, NotNow}
use Rattle.firm_rules.specs.declared.tickets.Ticket.{Ticket}

abbrev row : List ℕ → ℕ → ℕ → RosterRow
row name nodes arcs =
    (name, record { nodes = nodes; arcs = arcs; life = 100; spread = 1; churn = 2; remote = 0; patience = 1000000 })

abbrev ticket : ℕ → ℕ → Ticket
ticket place number = record { place = place; number = number }

abbrev says : ℕ → Outcome → EventAnswer
says number outcome = Replied (record { number = number; outcome = outcome })

-- every kind of event, where it fits and where it does not
one_worker : event_answers (opening_table (row (codes "alpha") 9 24 ∷ row (codes "beta") 8 30 ∷ []) 1)
    (map (λ (event : Event). (event, false)) (Post 0 Round ∷ Ask 0 ∷ Ask 0 ∷ Post 0 Show ∷ Answer 0 ∷ Collect 0
    ∷ Post 1 Show ∷ Ask 1 ∷ Ask 2 ∷ Take 1 ∷ Take 0 ∷ Take 0 ∷ Answer 0 ∷ Take 0 ∷ Collect 0 ∷ Collect 1 ∷ Answer 0
    ∷ Collect 1 ∷ []))
    ≡ NotNow ∷ Queued (ticket 0 1) ∷ NotNow ∷ NotNow ∷ NotNow ∷ NotNow ∷ says 1 (Shown 0 0 0 0 2 8 0 30)
    ∷ Queued (ticket 1 1) ∷ NotNow ∷ NotNow
    ∷ Took (ticket 0 1) ∷ NotNow ∷ Solved (ticket 0 1) ∷ Took (ticket 1 1) ∷ says 1 (Placed (pos 0) []) ∷ NotNow
    ∷ Solved (ticket 1 1) ∷ says 2 (Placed (pos 0) []) ∷ []
one_worker = refl

-- a place that goes from tenant to tenant
abbrev small : TenantLimits
small = record { nodes = 2; arcs = 0; life = 5; spread = 0; churn = 0; remote = 0; patience = 1000000 }

abbrev coming_and_going : List MarkedEvent
coming_and_going =
    map (λ (event : Event). (event, false)) (Ask 0 ∷ Retire 0 ∷ Take 0 ∷ Answer 0 ∷ Collect 0 ∷ Retire 0 ∷ Ask 0 ∷ [])
    ++ (Admit 0 small, true) ∷ map (λ (event : Event). (event, false))
    (Admit 0 small ∷ Admit 0 small ∷ Post 0 Show ∷ Ask 0 ∷ Retire 1 ∷ [])

-- a retirement waits for the tenant's return, and an admission for memory; then numbers of replies begin anew, and
-- those of tickets go on
two_tenants_in_turn : event_answers (opening_table (row (codes "alpha") 9 24 ∷ []) 1) coming_and_going
    ≡ Queued (ticket 0 1) ∷ NotNow ∷ Took (ticket 0 1) ∷ Solved (ticket 0 1) ∷ says 1 (Placed (pos 0) [])
    ∷ Retired ∷ NotNow
    ∷ NoMemory ∷ Admitted ∷ NotNow ∷ says 1 (Shown 0 0 0 0 2 2 0 0) ∷ Queued (ticket 0 2) ∷ NotNow ∷ []
two_tenants_in_turn = refl

-- the two stays
one_after_the_other : stays_at (row (codes "alpha") 9 24 ∷ []) 1 0 coming_and_going
    ≡ record {
      limits = (row (codes "alpha") 9 24).1;
      commands = Round ∷ [];
      replies = record { number = 1; outcome = Placed (pos 0) [] } ∷ [];
    }
    ∷ record {
      limits = small;
      commands = Show ∷ Round ∷ [];
      replies = record { number = 1; outcome = Shown 0 0 0 0 2 2 0 0 } ∷ [];
    } ∷ []
one_after_the_other = refl
