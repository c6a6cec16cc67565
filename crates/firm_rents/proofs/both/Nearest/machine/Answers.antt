use Rattle.std.proofs.Common.{length, subst}
use Rattle.firm_rules.specs.declared.rounds.Choice.TheVariants.{On}
use Rattle.firm_rents.specs.Rents.{paid}
use Rattle.firm_rules.specs.Placement.{task_at, home_choice}
use Rattle.firm_rents.specs.Lowest.{IsLowest}
use Rattle.firm_rents.proofs.NearestByBoth.{nearest}
use Rattle.firm_rents.proofs.both.Nearest.machine.Goals as goal

pub returns : goal.returns
returns c =
    let case = c.args.case.now in
    let self = c.args.self.now in
    let task = task_at case c.args.task in
    let found : IsLowest (λ j. paid case self.greater task (On j)) (length case.slots) c.args.chosen
    (home_choice task.home) c.cheapest_other.result =
    subst (λ home. IsLowest (λ j. paid case self.greater task (On j)) (length case.slots) c.args.chosen home
    c.cheapest_other.result) c.home.ensures.home c.cheapest_other.ensures in
    record {
      nearest = λ apart. nearest case self.low.now self.high.now self.greater self.gap task c.args.chosen
          (home_choice task.home) c.cheapest_other.result (length case.slots) self.at_gap apart found;
    }
