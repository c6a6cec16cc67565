use Rattle.std.proofs.Common.{◌∙◌, ap}
use Rattle.firm_saved.specs.Reading.{state_of}
use Rattle.firm_saved.proofs.Answered.{first_of, found_of, only_of, refused_of}
use Rattle.firm_saved.proofs.States.{state_back}
use Rattle.firm_saved.proofs.saved.Saved.read.Goals as goal

pub returns-clause-found : goal.returns-clause-found
returns-clause-found c =
    found_of c.read_text.result c.args.text.now c.read_text.ensures.read c.read_text.ensures.sound

pub returns-clause-only : goal.returns-clause-only
returns-clause-only c places sound is =
    only_of c.read_text.result c.args.text.now c.read_text.ensures.read places sound
    (ap state_of is ∙ state_back c.loads_are_sums_of_slots.ensures.rises places sound)

pub returns-clause-first : goal.returns-clause-first
returns-clause-first c =
    first_of c.loads_are_sums_of_slots.ensures.rises c.read_text.result c.args.text.now c.read_text.ensures.read

pub returns-clause-refused : goal.returns-clause-refused
returns-clause-refused c = refused_of c.read_text.result c.args.text.now c.read_text.ensures.read
