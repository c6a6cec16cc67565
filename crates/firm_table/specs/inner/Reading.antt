-- How far an input was read, piece by piece.
use Rattle.std.specs.Prelude.{◌≡◌, ℕ, List, ◌++◌, Option}
use Rattle.std.specs.Io.{IsEmptyOrEndsWith}
use Rattle.firm_text.specs.Cutters.{CutterIs, StandsFor}
use Rattle.firm_text.specs.Inputs.{input_lines}
use Rattle.firm_text.specs.declared.headings.Heading.{Heading}
use Rattle.firm_table.specs.Opened.{Opened}
use Rattle.firm_table.specs.Service.{BeginsAnswersFrom}
use Rattle.firm_table.specs.Telling.{Telling}

-- lines that have all ended: what follows them begins a line
pub record HasEnded (text : List ℕ) : Type 0 where
  pub ends : IsEmptyOrEndsWith text 10
  pub parts : (heading : Heading) (more : List ℕ)
      → input_lines heading (text ++ more) ≡ input_lines heading text ++ input_lines heading more

-- this was read: lines that have ended, of which the claim holds, and a rest for which the cutter stands
pub record Heard (IsTold : Telling) (cut : CutterIs) (heard : List ℕ) (written now : Option (List ℕ)) : Type 0 where
  pub text : List ℕ
  pub rest : List ℕ
  pub both : heard ≡ text ++ rest
  pub ended : HasEnded text
  pub stands : StandsFor cut rest
  pub told : IsTold text written now

-- this was read: lines that have ended, and a rest; what was written is a prefix of the output for the lines
pub record Halted (opened : Opened) (heard : List ℕ) (written now : Option (List ℕ)) : Type 0 where
  pub answered : List ℕ
  pub rest : List ℕ
  pub both : heard ≡ answered ++ rest
  pub ends : IsEmptyOrEndsWith answered 10
  pub begins : BeginsAnswersFrom opened answered written now
