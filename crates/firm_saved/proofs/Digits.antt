-- Numbers in decimal, read again.
use Rattle.std.proofs.Common.{◌≡◌, ◌<◌, ◌^◌, ℕ, true, List, length, arith, rules, ap}
use Rattle.std.specs.Prelude.{Some}
use Rattle.std.specs.Char.{is_ascii_digit}
use Rattle.std.specs.Fmt.{decimal}
use Rattle.std.specs.List.{list_all}
use Rattle.std.specs.Str.Parse.{digits_value}
use Rattle.std.proofs.lemmas.Bool.{lt-ltb, le-leb}
use Rattle.std.proofs.lemmas.Fmt.{decimal_nonempty, digits_decimal, digits_value-decimal, length-decimal-le}
use Rattle.std.proofs.lemmas.Str.Parse.{IsNumeralModel, numerals_by_value}
use Rattle.firm_text.specs.Numbers.{number_of}

abbrev pub AreDigits : List ℕ → Type 0
AreDigits word = list_all is_ascii_digit word ≡ true

pub own : IsNumeralModel AreDigits (digits_value 10)
own = numerals_by_value AreDigits (search rules)

-- a number of at most 13 digits is read again
pub number_back : (n : ℕ) → n < 10 ^ 13 → number_of (decimal n) ≡ Some n
number_back n small =
    let fits : n < 2 ^ 64 = omega arith in
    let some = lt-ltb 0 (length (decimal n)) (decimal_nonempty n fits) in
    let short = le-leb (length (decimal n)) 13 (length-decimal-le 13 n (omega arith) small fits) in
    rw (some, short, digits_decimal own n fits) (ap Some (digits_value-decimal own n fits))
