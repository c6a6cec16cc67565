use Rattle.firm_state.proofs.GoingOn.{coming_go_on, cut_go_on, joined_go_on}
use Rattle.firm_state.proofs.laws.tenants_go_on.Goals as goal

pub returns-clause-cut : goal.returns-clause-cut
returns-clause-cut c = cut_go_on c.saved_isolation.ensures.tenants c.books_are_kept.ensures.cuts

pub returns-clause-joined : goal.returns-clause-joined
returns-clause-joined c = joined_go_on c.saved_isolation.ensures.tenants c.books_are_kept.ensures.joins

pub returns-clause-coming : goal.returns-clause-coming
returns-clause-coming c =
    coming_go_on c.saved_isolation.ensures.tenants c.books_are_kept.ensures.joins c.books_are_kept.ensures.apart
