use Rattle.std.proofs.lemmas.Result.{on_ok_weaker}
use Rattle.firm_table.specs.Openings.{opened}
use Rattle.firm_hall.proofs.Coming.{stays_open}
use Rattle.firm_hall.proofs.Telling.{begun_answers}
use Rattle.firm_hall.proofs.clerk.HallClerkClerk.write_out.Goals as goal

pub returns-clause-told : goal.returns-clause-told
returns-clause-told g c =
    let all = rw c.ring.ensures at c.wait.ensures.told in
    on_ok_weaker c.wait.result (λ told. told (opened c.args.self.now.opening)) all

pub returns-clause-begins : goal.returns-clause-begins
returns-clause-begins g c text written told =
    let opening = opened c.args.self.now.opening in
    let begins = rw c.ring.ensures at c.wait.ensures.begins in
    begun_answers opening text written _ (begins opening text written told)

pub returns-clause-open : goal.returns-clause-open
returns-clause-open g c =
    let follows = rw c.ring.ensures at c.wait.ensures.follows in
    stays_open follows c.requires.open
