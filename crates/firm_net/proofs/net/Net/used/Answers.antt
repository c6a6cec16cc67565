-- No link stands from there on, so no row does.
use Rattle.std.proofs.Common.{◌≡◌, ◌<◌, ◌≤◌, inl, inr, sym, subst, Some, None}
use Rattle.std.proofs.lemmas.Bool.{cases_lt}
use Rattle.firm_arena.specs.Laws.{held_of_found}
use Rattle.firm_net.specs.Net.{Net, IsArc}
use Rattle.firm_net.proofs.Shown.{link-there}
use Rattle.firm_net.proofs.net.Net.used.Goals as goal

pub returns-clause-below : goal.returns-clause-below
returns-clause-below c a there =
    let own = link-there c.self.inside.links a.id (subst (λ (n : Net). IsArc n a) (sym c.self.view_is) there) in
    let held = held_of_found c.self.inside.links a.id own.0 own.1 in
    elim (cases_lt a.id.place c.used.result) [
      | inl below ↦ below
      | inr above ↦ (let nothing = c.used.ensures.nothing a.id.place above in cc)
    ]
