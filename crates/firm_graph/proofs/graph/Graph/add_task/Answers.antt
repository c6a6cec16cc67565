use Rattle.std.proofs.Common.{◌≡◌, ℕ, false, List, sym, ap₂, ◌∙◌}
use Rattle.std.proofs.lemmas.Bool.{both_ways}
use Rattle.std.proofs.lemmas.List.Sums.{list_all-from_AllPass}
use Rattle.firm_rules.specs.Book.{machine_names, are_machines}
use Rattle.firm_rules.specs.Names.{is_among}
use Rattle.firm_graph.specs.Graph.{Graph}
use Rattle.firm_graph.proofs.graph.Graph.add_task.Goals as goal

pub unreachable-requires-in_default-machine_places :
    goal.unreachable-requires-in_default-machine_places
unreachable-requires-in_default-machine_places c =
    let seen : Graph = c.args.self.now in
    let none : are_machines seen.rows c.args.preferred ≡ false =
    sym (ap₂ (λ (h : Graph) (names : List (List ℕ)). are_machines h.rows names) c.self.view_is c.as_slice.ensures.names)
    ∙ sym c.in_default-machine_places.ensures.found in
    both_ways (are_machines seen.rows c.args.preferred) none
    (list_all-from_AllPass (is_among (machine_names seen.rows)) c.args.preferred c.requires.machines_there)
