-- The definitions, computed at worked examples.
use Rattle.std.proofs.Common.{◌≡◌, ℕ, List, [], ◌∷◌, ◌++◌, Some, None, refl, codes}
use Rattle.std.specs.Prelude.{replicate}
use Rattle.firm_rules.specs.declared.commands.Command.TheVariants.{AddMachine, AddTask, Drain, Show, Faulty}
use Rattle.firm_rules.specs.declared.commands.LineFault.TheVariants.{BadCommand, BadName, BadNumber}
use Rattle.firm_text.specs.Inputs.{line_of}
use Rattle.firm_text.specs.Lines.{lines, words}
use Rattle.firm_text.specs.Numbers.{number_of}
use Rattle.firm_text.specs.declared.inputs.Line.TheVariants.{Nothing, Long, Nameless, For}

abbrev line_feed : List ℕ
line_feed = 10 ∷ []

abbrev carriage_return : List ℕ
carriage_return = 13 ∷ []

-- a text is cut at each line feed; a rest that is not empty is a line too
no_line : lines [] ≡ []
no_line = refl

an_empty_line : lines line_feed ≡ [] ∷ []
an_empty_line = refl

a_rest : lines (codes "a" ++ line_feed ++ codes "b") ≡ codes "a" ∷ codes "b" ∷ []
a_rest = refl

-- each line loses one carriage return at its end, a rest too
carriage_returns : lines
    (codes "a" ++ carriage_return ++ carriage_return ++ line_feed ++ line_feed ++ codes "b" ++ carriage_return)
    ≡ (codes "a" ++ carriage_return) ∷ [] ∷ codes "b" ∷ []
carriage_returns = refl

-- words stand between spaces and tabs
two_words : words (9 ∷ codes "a  b " ++ 9 ∷ []) ≡ codes "a" ∷ codes "b" ∷ []
two_words = refl

-- the ends of a number's length
thirteen_digits : number_of (codes "0000000000002") ≡ Some 2
thirteen_digits = refl

fourteen_digits : number_of (codes "00000000000002") ≡ None
fourteen_digits = refl

-- what lines are
a_comment : line_of (codes "# a show") ≡ Nothing
a_comment = refl

no_tenant : line_of (codes " # a") ≡ Nameless
no_tenant = refl

the_longest : line_of (codes "a show" ++ replicate 250 32) ≡ For (codes "a") Show
the_longest = refl

too_long : line_of (codes "a show" ++ replicate 251 32) ≡ Long
too_long = refl

a_machine : line_of (codes "a machine m1 2") ≡ For (codes "a") (AddMachine (codes "m1") 2)
a_machine = refl

no_preference : line_of (codes "a task j x") ≡ For (codes "a") (AddTask (codes "j") (codes "x") [])
no_preference = refl

-- a machine that is named twice counts once
two_preferences : line_of (codes "a task j x m2 m1 m2")
    ≡ For (codes "a") (AddTask (codes "j") (codes "x") (codes "m2" ∷ codes "m1" ∷ []))
two_preferences = refl

-- and five names of machines are too many words, whatever they are
five_preferences : line_of (codes "a task j x m m m m M") ≡ For (codes "a") (Faulty BadCommand)
five_preferences = refl

a_preference_at_fault : line_of (codes "a task j x m M") ≡ For (codes "a") (Faulty BadName)
a_preference_at_fault = refl

a_drain : line_of (codes "a drain m1") ≡ For (codes "a") (Drain (codes "m1"))
a_drain = refl

a_name_too_many : line_of (codes "a done x y") ≡ For (codes "a") (Faulty BadCommand)
a_name_too_many = refl

a_name_at_fault : line_of (codes "a machine M1 0") ≡ For (codes "a") (Faulty BadName)
a_name_at_fault = refl

a_number_at_fault : line_of (codes "a machine m1 0") ≡ For (codes "a") (Faulty BadNumber)
a_number_at_fault = refl
