-- The flow of a placement, arc by arc.
use Rattle.std.specs.Prelude.{ℕ, zero, suc, cond, eqb, ltb, ◌==◌, List, [], ◌∷◌, length, Option, Some, None}
use Rattle.std.specs.List.{position_or_len}
use Rattle.firm_rules.specs.declared.rounds.Choice.{Choice}
use Rattle.firm_rules.specs.declared.rounds.Choice.TheVariants.{On, Wait}
use Rattle.firm_rules.specs.Placement.{Case, Demand, total, load, runs_at, prefers}
use Rattle.firm_graph.specs.declared.network.Key.{Key}
use Rattle.firm_graph.specs.declared.network.Key.TheVariants.{Through, Slot, Exit, Wide, Stay, Wait as WaitArc, Prefer}
use Rattle.firm_graph.specs.Network.{demand}

-- the choice at a place, if the placement goes that far
abbrev pub pick : List Choice → ℕ → Option Choice
pick [] i = None
pick (o ∷ p) zero = Some o
pick (o ∷ p) (suc i) = pick p i

-- what one task puts on its arc to the hub: it comes there to go to a machine that is neither its own nor preferred
abbrev pub wide : Demand → Option Choice → ℕ
wide task None = 0
wide task (Some Wait) = 0
wide task (Some (On j)) = cond (runs_at task.home j) 0 (cond (prefers task j) 0 1)

-- on its arc to the place that it runs at
abbrev pub stay : Option ℕ → Option Choice → ℕ
stay home None = 0
stay home (Some Wait) = 0
stay None (Some (On j)) = 0
stay (Some h) (Some (On j)) = cond (eqb h j) 1 0

-- on its arc to its job
abbrev pub waits : Option Choice → ℕ
waits None = 0
waits (Some Wait) = 1
waits (Some (On j)) = 0

-- on its arcs to the machines that it prefers, taken together: its own machine it reaches otherwise
abbrev pub near : Demand → Option Choice → ℕ
near task None = 0
near task (Some Wait) = 0
near task (Some (On j)) = cond (runs_at task.home j) 0 (cond (prefers task j) 1 0)

abbrev pub spot : Option Choice → ℕ
spot None = 0
spot (Some Wait) = 0
spot (Some (On j)) = j

-- which of its preferences is for the machine of the choice
abbrev pub number : Demand → Option Choice → ℕ
number task None = 0
number task (Some Wait) = 0
number task (Some (On j)) = position_or_len (λ place. place == j) task.preferred

-- on the arc of one of its preferences
abbrev pub prefer : Demand → ℕ → Option Choice → ℕ
prefer task k o = cond (eqb (number task o) k) (near task o) 0

abbrev pub wide_at : Case → List Choice → ℕ → ℕ
wide_at c q i = wide (demand c i) (pick q i)

abbrev pub stay_at : Case → List Choice → ℕ → ℕ
stay_at c q i = stay (demand c i).home (pick q i)

abbrev pub near_at : Case → List Choice → ℕ → ℕ
near_at c q i = near (demand c i) (pick q i)

abbrev pub prefer_at : Case → List Choice → ℕ → ℕ → ℕ
prefer_at c q i k = prefer (demand c i) k (pick q i)

-- the tasks that come to machine `j` by the hub
abbrev pub guests : Case → List Choice → ℕ → ℕ
guests c q j = total (λ i. cond (eqb (spot (pick q i)) j) (wide_at c q i) 0) (length c.tasks)

-- those that stay there
abbrev pub stayers : Case → List Choice → ℕ → ℕ
stayers c q j = total (λ i. cond (eqb (spot (pick q i)) j) (stay_at c q i) 0) (length c.tasks)

-- and those that come as they prefer it
abbrev pub comers : Case → List Choice → ℕ → ℕ
comers c q j = total (λ i. cond (eqb (spot (pick q i)) j) (near_at c q i) 0) (length c.tasks)

abbrev pub placed : Case → List Choice → Key → ℕ
placed c q (Through j) = guests c q j
placed c q (Slot j k) = cond (ltb k (load q j)) 1 0
placed c q (Exit k) = total (λ i. cond (eqb (demand c i).job k) (waits (pick q i)) 0) (length c.tasks)
placed c q (Wide i) = wide_at c q i
placed c q (Stay i) = stay_at c q i
placed c q (WaitArc i) = waits (pick q i)
placed c q (Prefer i k) = prefer_at c q i k

-- what flows on the arcs of a task's preferences, taken together
abbrev pub aside : Case → (Key → ℕ) → ℕ → ℕ
aside c x i = total (λ k. x (Prefer i k)) (length (demand c i).preferred)
