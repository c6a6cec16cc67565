use Rattle.std.proofs.lemmas.Result.{on_ok_weaker}
use Rattle.firm_table.specs.Openings.{opened}
use Rattle.firm_hall.proofs.Coming.{stays_open}
use Rattle.firm_hall.proofs.Giving.{both_ok, answers_all, on_err_always}
use Rattle.firm_hall.proofs.Telling.{begun_answers}
use Rattle.firm_hall.proofs.clerk.HallClerkClerk.finish.Goals as goal

pub returns-clause-told : goal.returns-clause-told
returns-clause-told g c =
    on_ok_weaker c.wait.result (λ told. told (opened c.args.self.now.opening)) c.wait.ensures.told

pub returns-clause-answers : goal.returns-clause-answers
returns-clause-answers g c =
    let s = c.wait.new.self in
    let opening = opened c.args.self.now.opening in
    on_ok_weaker c.wait.result
    (λ both text written told. answers_all opening s.register s.desk_states s.answers s.output text written _
    both.1.answered both.1.none (both.0 opening text written told))
    (both_ok c.wait.result _ _ c.wait.ensures.told c.wait.ensures.come)

pub returns-clause-begins : goal.returns-clause-begins
returns-clause-begins g c =
    on_err_always c.wait.result
    (λ text written told.
    begun_answers (opened c.args.self.now.opening) text written _
    (c.wait.ensures.begins (opened c.args.self.now.opening) text written told))

pub returns-clause-open : goal.returns-clause-open
returns-clause-open g c = stays_open c.wait.ensures.follows c.requires.open
