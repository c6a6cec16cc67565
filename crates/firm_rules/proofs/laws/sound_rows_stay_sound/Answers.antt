use Rattle.firm_rules.proofs.Keeping.{stay_well}
use Rattle.firm_rules.proofs.laws.sound_rows_stay_sound.Goals as goal

pub returns : goal.returns
returns c = stay_well
