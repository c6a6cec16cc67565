use Rattle.firm_rules.proofs.StandingTasks.{stay_standing}
use Rattle.firm_rules.proofs.laws.tasks_stay_where_they_may_stand.Goals as goal

pub returns : goal.returns
returns c = stay_standing
