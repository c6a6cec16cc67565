-- Lines of the operator, computed at worked examples.
use Rattle.std.proofs.Common.{◌≡◌, ◌++◌, refl, codes}
use Rattle.std.specs.Prelude.{replicate}
use Rattle.firm_rules.specs.Limits.{TenantLimits}
use Rattle.firm_text.specs.Inputs.{line_of, line_under}
use Rattle.firm_text.specs.declared.headings.Heading.TheVariants.{Plain, Extended}
use Rattle.firm_text.specs.declared.inputs.Line.TheVariants.{Nothing, Long, Nameless, Operator}
use Rattle.firm_text.specs.declared.operator.OperatorLine.TheVariants.{Admit, Retire, Faulty}
use Rattle.firm_text.specs.declared.operator.OperatorRefusal.TheVariants.{BadCommand, BadRow, BadName, BadNumber}

abbrev small : TenantLimits
small = record { nodes = 2; arcs = 0; life = 5; spread = 0; churn = 0; remote = 0; patience = 1000000 }

an_admission : line_of (codes "+ admit b,2,0,5,0,0") ≡ Operator (Admit (codes "b") small)
an_admission = refl

seven_fields : line_of (codes "+ admit b,2,0,5,0,0,0") ≡ Operator (Admit (codes "b") small)
seven_fields = refl

-- an eighth field is read under an extended heading alone, where it may be left out
eight_fields : line_under Extended (codes "+ admit b,2,0,5,0,0,0,3")
    ≡ Operator (Admit (codes "b") (record small { patience = 3 }))
eight_fields = refl

seven_of_eight : line_under Extended (codes "+ admit b,2,0,5,0,0,0") ≡ Operator (Admit (codes "b") small)
seven_of_eight = refl

six_of_eight : line_under Extended (codes "+ admit b,2,0,5,0,0") ≡ Operator (Admit (codes "b") small)
six_of_eight = refl

plain_eight_fields : line_of (codes "+ admit b,2,0,5,0,0,0,3") ≡ Operator (Faulty BadRow)
plain_eight_fields = refl

-- under a plain one it is too many, whatever the fields are
plain_longest : line_under Plain (codes "+ admit b,2,0,5,0,0,0,1000000") ≡ Operator (Faulty BadRow)
plain_longest = refl

plain_wrong_name : line_of (codes "+ admit B,2,0,5,0,0,0,3") ≡ Operator (Faulty BadRow)
plain_wrong_name = refl

plain_wrong_number : line_of (codes "+ admit b,x,0,5,0,0,0,y") ≡ Operator (Faulty BadRow)
plain_wrong_number = refl

extended_wrong_name : line_under Extended (codes "+ admit B,2,0,5,0,0,0,x") ≡ Operator (Faulty BadName)
extended_wrong_name = refl

a_retirement : line_of (codes " + retire  b ") ≡ Operator (Retire (codes "b"))
a_retirement = refl

-- the words are judged first, then the count of fields, then the name, then the numbers
a_wrong_verb : line_of (codes "+ drop b") ≡ Operator (Faulty BadCommand)
a_wrong_verb = refl

no_verb : line_of (codes "+") ≡ Operator (Faulty BadCommand)
no_verb = refl

two_rows : line_of (codes "+ admit C, c,2") ≡ Operator (Faulty BadCommand)
two_rows = refl

five_fields : line_of (codes "+ admit C,2,0,1,x") ≡ Operator (Faulty BadRow)
five_fields = refl

nine_fields : line_of (codes "+ admit c,2,0,1,0,0,0,0,0") ≡ Operator (Faulty BadRow)
nine_fields = refl

nine_of_eight : line_under Extended (codes "+ admit c,2,0,1,0,0,0,0,0") ≡ Operator (Faulty BadRow)
nine_of_eight = refl

five_of_eight : line_under Extended (codes "+ admit c,2,0,1,0") ≡ Operator (Faulty BadRow)
five_of_eight = refl

a_wrong_name : line_of (codes "+ admit C,1,0,1,0,0") ≡ Operator (Faulty BadName)
a_wrong_name = refl

a_wrong_number : line_of (codes "+ admit c,1,0,1,0,0") ≡ Operator (Faulty BadNumber)
a_wrong_number = refl

a_longer_patience : line_under Extended (codes "+ admit c,2,0,1,0,0,0,1000001") ≡ Operator (Faulty BadNumber)
a_longer_patience = refl

-- quotes are no quotes
a_quoted_field : line_of (codes "+ admit c,\"2\",0,1,0,0") ≡ Operator (Faulty BadNumber)
a_quoted_field = refl

-- a word that only begins with `+` is not the operator's
no_operator : line_of (codes "+admit b,2,0,5,0,0") ≡ Nameless
no_operator = refl

-- comments and long lines come first
a_comment : line_of (codes "#+ retire b") ≡ Nothing
a_comment = refl

too_long : line_of (codes "+ retire b" ++ replicate 247 32) ≡ Long
too_long = refl
