-- The visits of a search, and the steps from one of them back to where it began.
use Rattle.std.specs.Prelude.{ℕ, zero, suc, ◌==◌, List, [], ◌∷◌, Option, Some, None, slice_index_or}
use Rattle.std.specs.List.{position}
use Rattle.firm_paths.specs.declared.search.Predecessor.{Predecessor}
use Rattle.firm_paths.specs.declared.search.Step.{Step}
use Rattle.firm_paths.specs.declared.search.Visit.{Visit}

-- the visit of a number
abbrev pub visit : List Visit → ℕ → Visit
visit vs i =
    slice_index_or vs i
    (record { node = record { id = record { place = 0; stamp = 0 } }; place = 0; predecessor = None })

-- a step, and then those from the visit to which it is linked
abbrev pub step_on : (ℕ → List Step) → Option Predecessor → List Step
step_on rest None = []
step_on rest (Some h) = h.step ∷ rest h.after

-- the steps of the visit of a number, of that to which it is linked, and so on, at most `n` of them
abbrev pub steps_up_to : List Visit → ℕ → ℕ → List Step
steps_up_to vs zero number = []
steps_up_to vs (suc n) number = step_on (steps_up_to vs n) (visit vs number).predecessor

-- all of them, since each visit is linked to an earlier one
abbrev pub steps_on : List Visit → ℕ → List Step
steps_on vs number = steps_up_to vs number number

-- the number as which the node at a place was visited
abbrev pub number_of : List Visit → ℕ → Option ℕ
number_of vs v = position (λ (x : Visit). x.place == v) vs

abbrev pub steps_of : List Visit → Option ℕ → Option (List Step)
steps_of vs None = None
steps_of vs (Some number) = Some (steps_on vs number)

-- the steps from the node at a place
abbrev pub paths_of : List Visit → ℕ → Option (List Step)
paths_of vs v = steps_of vs (number_of vs v)
