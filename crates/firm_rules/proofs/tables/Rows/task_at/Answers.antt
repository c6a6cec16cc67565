use Rattle.std.proofs.Common.{ℕ, ◌<◌, ◌≤◌, List, length, sym, ap, subst, ◌∙◌}
use Rattle.std.specs.Prelude.{slice_get}
use Rattle.std.proofs.lemmas.List.{length-map}
use Rattle.std.proofs.lemmas.Option.{slice_get_past}
use Rattle.firm_rules.specs.Book.{TenantRows}
use Rattle.firm_rules.specs.declared.book.Task.{Task}
use Rattle.firm_rules.proofs.tables.Rows.task_at.Goals as goal

pub index-requires : goal.index-requires
index-requires g c = subst (λ n. c.args.place < n) c.len.ensures.len c.if-len-place.false

pub returns-then-len-place : goal.returns-then-len-place
returns-then-len-place g c =
    sym (slice_get_past c.args.self.now.tasks c.args.place
    (subst (λ n. n ≤ c.args.place)
    (c.len.ensures.len ∙ sym (length-map c.self.inside.tasks.entries (λ (e : List ℕ × Task). e.1))
    ∙ ap (λ (rows : TenantRows). length rows.tasks) c.self.view_is) c.if-len-place.true))

pub returns : goal.returns
returns g c =
    sym (ap (λ (rows : TenantRows). slice_get rows.tasks c.args.place) (sym c.self.view_is) ∙ c.index.ensures)
