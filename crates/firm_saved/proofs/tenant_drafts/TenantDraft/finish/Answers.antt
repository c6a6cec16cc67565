use Rattle.std.proofs.Common.{◌≡◌, ◌∙◌, ℕ, List, Option, Some, Result, Ok, refl, sym, ap}
use Rattle.std.specs.Prelude.{ℤ, option_map}
use Rattle.firm_rules.specs.Book.{Book}
use Rattle.firm_rules.specs.SoundBook.{book_fault}
use Rattle.firm_saved.specs.declared.faults.FaultKind.{FaultKind}
use Rattle.firm_saved.specs.Drafts.{booked, kind_of}
use Rattle.firm_saved.specs.inner.Loads.{view}
use Rattle.firm_saved.proofs.Complete.{book_free, unless_none}
use Rattle.firm_saved.proofs.tenant_drafts.TenantDraft.finish.Goals as goal

pub returns-in-Ok-clause-value : goal.returns-in-Ok-clause-value
returns-in-Ok-clause-value c =
    let book : Book = record { rows = c.args.self.rows; costs = c.in-Some.costs; given = c.args.self.given } in
    let costs : c.args.self.costs ≡ Some c.in-Some.costs = c.in-Some.is in
    ap (λ (b : Book). let r : Result (List ℕ × Book) FaultKind = Ok (c.args.self.name, b) in r) c.in-Ok.ensures.ok
    ∙ sym (ap (λ (o : Option (List ℤ)). booked (view c.args.self) o) costs
    ∙ unless_none (option_map kind_of (book_fault book)) (c.args.self.name, book)
    (book_free book (c.in-Ok.ensures.exact.0 refl)))
