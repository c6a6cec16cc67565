use Rattle.std.proofs.Common.{ap, ◌∙◌, length}
use Rattle.std.specs.Map.{keys_of}
use Rattle.firm_rules.specs.Book.{TenantRows, machine_names}
use Rattle.firm_rules.specs.Names.{is_among}
use Rattle.firm_rules.proofs.TableLemmas.{is_some-lookup-by_name}
use Rattle.firm_rules.proofs.NamedRows.{place-below, place-named}
use Rattle.firm_rules.proofs.tables.Rows.machine_place.Goals as goal

pub returns-clause-found : goal.returns-clause-found
returns-clause-found g c =
    c.get_index_of.ensures.found
    ∙ is_some-lookup-by_name _ _ c.self.invariant.tables.machines_by_name c.args.name
    ∙ ap (λ rows. is_among (machine_names rows) c.args.name) c.self.view_is

pub returns-clause-below : goal.returns-clause-below
returns-clause-below g c =
    place-below c.self.inside.machines.entries c.get_index_of.result (length c.args.self.now.machines)
    c.get_index_of.ensures.within
    (ap (λ (rows : TenantRows). length rows.machines) c.self.view_is)

pub returns-clause-named : goal.returns-clause-named
returns-clause-named g c =
    place-named (keys_of c.self.inside.machines.entries) (machine_names c.args.self.now) c.args.name
    c.get_index_of.result c.get_index_of.ensures.index
    (c.self.invariant.tables.machines_by_name ∙ ap machine_names c.self.view_is)
