use Rattle.std.proofs.Common.{ap, ◌∙◌}
use Rattle.firm_rules.specs.Book.{TenantRows, task_named}
use Rattle.firm_rules.specs.declared.book.Task.{Task}
use Rattle.firm_rules.proofs.NamedRows.{lookup-find}
use Rattle.firm_rules.proofs.tables.Rows.task_named.Goals as goal

pub returns : goal.returns
returns g c =
    c.copied.ensures
    ∙ c.get.ensures.value
    ∙ lookup-find (λ (task : Task). task.name) c.self.inside.tasks.entries c.args.name
    c.self.invariant.tables.tasks_by_name
    ∙ ap (λ (rows : TenantRows). task_named rows c.args.name) c.self.view_is
