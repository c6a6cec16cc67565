use Rattle.std.proofs.Common.{true≢false, bytes_eq, is_some, sym, ap, ◌∙◌}
use Rattle.std.proofs.lemmas.List.{length-map}
use Rattle.firm_rules.specs.Book.{machine_names}
use Rattle.firm_rules.specs.declared.book.Machine.{Machine}
use Rattle.firm_rules.proofs.CaseLists.{first_found, none_found}
use Rattle.firm_rules.proofs.demands.place_of.Goals as goal

pub returns-in-None : goal.returns-in-None
returns-in-None g c = record {
  place = c.machine_count.ensures ∙ (sym (length-map c.args.rows.now.machines (λ (machine : Machine). machine.name))
      ∙ none_found (bytes_eq c.args.name) (machine_names c.args.rows.now)
      (sym c.machine_place.ensures.place ∙ c.in-None.is));
  below = λ among. absurd (true≢false (sym among ∙ (sym c.machine_place.ensures.found ∙ ap is_some c.in-None.is)));
}

pub returns-in-Some-clause-place : goal.returns-in-Some-clause-place
returns-in-Some-clause-place g c =
    first_found (bytes_eq c.args.name) (machine_names c.args.rows.now) c.in-Some.place
    (sym c.machine_place.ensures.place ∙ c.in-Some.is)
