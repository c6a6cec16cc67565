use Rattle.firm_tenant.proofs.Starvation.{none_starves}
use Rattle.firm_tenant.proofs.laws.no_task_starves.Goals as goal

pub returns : goal.returns
returns c =
    none_starves c.the_round_is_the_first.ensures c.long_waits_yield_to_long_waits.ensures
    c.sound_rows_stay_sound.ensures
