use Rattle.std.proofs.Common.{ℕ, ◌<◌, List, length, sym, ap, subst, ◌∙◌}
use Rattle.std.specs.Prelude.{slice_get}
use Rattle.std.proofs.lemmas.List.{length-map}
use Rattle.std.proofs.lemmas.Option.{get_or_from_slice_get}
use Rattle.firm_rules.specs.Book.{TenantRows}
use Rattle.firm_rules.specs.declared.book.Task.{Task}
use Rattle.firm_rules.proofs.tables.Rows.task_row.Goals as goal

pub index-requires : goal.index-requires
index-requires g c =
    subst (λ n. c.args.place < n)
    (sym (ap (λ (rows : TenantRows). length rows.tasks) c.self.view_is)
    ∙ length-map c.self.inside.tasks.entries (λ (e : List ℕ × Task). e.1)) c.requires

pub returns : goal.returns
returns g c = λ d.
    sym (get_or_from_slice_get c.args.self.now.tasks c.args.place c.index.result.now d
    (ap (λ (rows : TenantRows). slice_get rows.tasks c.args.place) (sym c.self.view_is) ∙ c.index.ensures))
