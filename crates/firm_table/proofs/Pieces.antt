-- Lines that come in pieces.
use Rattle.std.proofs.Common.{◌≡◌, ℕ, ◌+◌, ◌<◌, ◌≤◌, List, [], ◌∷◌, ◌++◌, take, drop, length, refl, sym, ap, subst, ◌∙◌}
use Rattle.std.proofs.Common.{append_assoc, append-nil, arith, get_or}
use Rattle.std.proofs.lemmas.Grind.{common_steps}
use Rattle.std.specs.Prelude.{Bool, true, false, ◌||◌, Option, map, nat_lt, min}
use Rattle.std.specs.List.{list_any, slice_split, position_or_len}
use Rattle.std.specs.Io.{IsEmptyOrEndsWith}
use Rattle.std.specs.Str.Lines.{strip_carriage_return}
use Rattle.std.proofs.lemmas.List.Splits.{slice_split-cons_yes, slice_split-cons_no}
use Rattle.std.proofs.lemmas.List.{take_all, drop_all, append_cancel_right}
use Rattle.std.proofs.lemmas.List.Sums.{split_at_first, passes_at_first}
use Rattle.std.proofs.lemmas.Bool.Decides.{nat_tests}
use Rattle.firm_text.specs.Cutters.{CutterIs, StandsFor}
use Rattle.firm_text.specs.Inputs.{input_lines, line_under}
use Rattle.firm_text.specs.Lines.{is_filled, is_line_feed, lines, without_empty_last}
use Rattle.firm_text.specs.declared.headings.Heading.{Heading}
use Rattle.firm_text.specs.declared.inputs.Line.{Line}
use Rattle.firm_table.specs.Opened.{Opened}
use Rattle.firm_table.specs.Service.{BeginsAnswersFrom}
use Rattle.firm_table.specs.Telling.{Telling}
use Rattle.firm_table.specs.inner.Reading.{Heard, Halted, HasEnded}

both_false : (b c : Bool) → (b || c) ≡ false → (b ≡ false) × (c ≡ false)
both_false true c e = cc
both_false false c e = (refl, e)

-- some piece comes first
pub first_piece : (xs : List ℕ) → (first : List ℕ) × (others : List (List ℕ))
    × (slice_split is_line_feed xs ≡ first ∷ others)
first_piece [] = ([], [], refl)
first_piece (x ∷ xs) =
    let behind = first_piece xs in
    elim (is_line_feed x) as (λ b. is_line_feed x ≡ b → (first : List ℕ) × (others : List (List ℕ))
    × (slice_split is_line_feed (x ∷ xs) ≡ first ∷ others)) [
      | true ↦ λ e. ([], slice_split is_line_feed xs, slice_split-cons_yes is_line_feed x xs e)
      | false ↦ λ e. (x ∷ behind.0, behind.1, slice_split-cons_no is_line_feed x xs e ∙ rw behind.2 refl)
    ] refl

-- a piece behind which something stands is not the last
some_behind : (piece : List ℕ) (xs : List ℕ) → without_empty_last (piece ∷ slice_split is_line_feed xs) ≡ piece
    ∷ without_empty_last (slice_split is_line_feed xs)
some_behind piece xs = let first = first_piece xs in rw first.2 refl

-- the pieces of a line and what stands behind its line feed
split_ended : (xs more : List ℕ) → list_any is_line_feed xs ≡ false → slice_split is_line_feed (xs ++ 10 ∷ more) ≡ xs
    ∷ slice_split is_line_feed more
split_ended [] more none = slice_split-cons_yes is_line_feed 10 more refl
split_ended (x ∷ xs) more none =
    let parts = both_false (is_line_feed x) (list_any is_line_feed xs) none in
    slice_split-cons_no is_line_feed x (xs ++ 10 ∷ more) parts.0 ∙ rw (split_ended xs more parts.1) refl

-- a line with its line feed comes first
lines_ended : (xs more : List ℕ) → list_any is_line_feed xs ≡ false → lines (xs ++ 10 ∷ more) ≡ strip_carriage_return xs
    ∷ lines more
lines_ended xs more none = rw (split_ended xs more none, some_behind xs more) refl

split_alone : (xs : List ℕ) → list_any is_line_feed xs ≡ false → slice_split is_line_feed xs ≡ xs ∷ []
split_alone [] none = refl
split_alone (x ∷ xs) none =
    let parts = both_false (is_line_feed x) (list_any is_line_feed xs) none in
    slice_split-cons_no is_line_feed x xs parts.0 ∙ rw (split_alone xs parts.1) refl

-- a rest without a line feed is one line
lines_alone : (xs : List ℕ) → list_any is_line_feed xs ≡ false → is_filled xs ≡ true
    → lines xs ≡ strip_carriage_return xs ∷ []
lines_alone xs none filled = rw (split_alone xs none, filled) refl

-- nothing has ended yet
pub ended_none : HasEnded []
ended_none = record { ends = λ some. absurd (omega arith); parts = λ heading more. refl }

ends_behind : (xs : List ℕ) → IsEmptyOrEndsWith (xs ++ 10 ∷ []) 10
ends_behind xs some = grind (arith, common_steps)

-- one line more has ended
pub input_more : (heading : Heading) (text rest : List ℕ) → HasEnded text → list_any is_line_feed rest ≡ false
    → input_lines heading (text ++ (rest ++ 10 ∷ []))
    ≡ input_lines heading text ++ line_under heading (strip_carriage_return rest) ∷ []
input_more heading text rest ended none =
    ended.parts heading (rest ++ 10 ∷ [])
    ∙ ap (λ (ls : List (List ℕ)). input_lines heading text ++ map (line_under heading) ls) (lines_ended rest [] none)

pub ended_more : (text rest : List ℕ) → HasEnded text → list_any is_line_feed rest ≡ false
    → HasEnded (text ++ (rest ++ 10 ∷ []))
ended_more text rest ended none = record {
  ends = subst (λ (l : List ℕ). IsEmptyOrEndsWith l 10) (append_assoc text rest (10 ∷ [])) (ends_behind (text ++ rest));
  parts = λ heading more.
      ap (input_lines heading) (append_assoc text (rest ++ 10 ∷ []) more
      ∙ ap (λ (l : List ℕ). text ++ l) (append_assoc rest (10 ∷ []) more))
      ∙ ended.parts heading (rest ++ 10 ∷ more)
      ∙ ap (λ (ls : List (List ℕ)). input_lines heading text ++ map (line_under heading) ls)
      (lines_ended rest more none)
      ∙ sym (append_assoc (input_lines heading text) (line_under heading (strip_carriage_return rest) ∷ [])
      (input_lines heading more))
      ∙ ap (λ (ls : List Line). ls ++ input_lines heading more) (sym (input_more heading text rest ended none));
}

-- the rest of the input is a line too
pub input_last : (heading : Heading) (text rest : List ℕ) → HasEnded text → list_any is_line_feed rest ≡ false
    → is_filled rest ≡ true
    → input_lines heading (text ++ rest)
    ≡ input_lines heading text ++ line_under heading (strip_carriage_return rest) ∷ []
input_last heading text rest ended none filled =
    ended.parts heading rest ∙ ap (λ (ls : List (List ℕ)). input_lines heading text ++ map (line_under heading) ls)
    (lines_alone rest none filled)

-- so it is as a clerk's heading has it
pub taken_line : (heading told : Heading) (text rest : List ℕ) (line : Line) → told ≡ heading
    → line ≡ line_under told (strip_carriage_return rest)
    → input_lines heading text ++ line_under heading (strip_carriage_return rest) ∷ []
    ≡ input_lines heading text ++ line ∷ []
taken_line heading told text rest line same taken =
    ap (λ (l : Line). input_lines heading text ++ l ∷ [])
    (ap (λ (h : Heading). line_under h (strip_carriage_return rest)) (sym same) ∙ sym taken)

pub rest_none : (rest : List ℕ) → is_filled rest ≡ false → rest ≡ []
rest_none [] e = refl
rest_none (x ∷ xs) e = cc

-- the first line of a piece, its line feed, and what follows
pub cut_at : (xs : List ℕ) (used : ℕ) → nat_lt (position_or_len is_line_feed xs) (length xs) ≡ true
    → used ≡ min (1 + position_or_len is_line_feed xs) (length xs)
    → xs ≡ (take (position_or_len is_line_feed xs) xs ++ 10 ∷ []) ++ drop used xs
cut_at xs used e u =
    let l : position_or_len is_line_feed xs < length xs = grind (arith, nat_tests) in
    let mark : get_or xs (position_or_len is_line_feed xs) 0 ≡ 10 =
    (let passes = passes_at_first is_line_feed xs 0 l in grind (arith, nat_tests)) in
    let n : ℕ = position_or_len is_line_feed xs in
    let split : xs ≡ take n xs ++ (get_or xs n 0 ∷ drop (n + 1) xs) = split_at_first is_line_feed xs 0 l in
    let behind : drop (n + 1) xs ≡ drop used xs = ap (λ (k : ℕ). drop k xs) (let v : n + 1 ≡ used = omega arith in v) in
    split
    ∙ ap (λ (k : ℕ). take n xs ++ (k ∷ drop (n + 1) xs)) mark
    ∙ ap (λ (t : List ℕ). take n xs ++ (10 ∷ t)) behind
    ∙ sym (append_assoc (take n xs) (10 ∷ []) (drop used xs))

-- the bytes read so far, the line that they end, and its line feed
pub both_ended : (heard text rest bytes front : List ℕ) → heard ≡ text ++ rest → front ≡ bytes ++ 10 ∷ []
    → heard ++ front ≡ text ++ ((rest ++ bytes) ++ 10 ∷ [])
both_ended heard text rest bytes front both same =
    ap (λ (l : List ℕ). heard ++ l) same ∙ ap (λ (l : List ℕ). l ++ (bytes ++ 10 ∷ [])) both
    ∙ append_assoc text rest (bytes ++ 10 ∷ [])
    ∙ ap (λ (l : List ℕ). text ++ l) (sym (append_assoc rest bytes (10 ∷ [])))

-- what halts at a line's end has read what follows it too
pub halts_at : (opened : Opened) (heard text rest bytes piece behind : List ℕ) (written now : Option (List ℕ))
    → heard ≡ text ++ rest
    → piece ≡ (bytes ++ 10 ∷ []) ++ behind → IsEmptyOrEndsWith (text ++ ((rest ++ bytes) ++ 10 ∷ [])) 10
    → BeginsAnswersFrom opened (text ++ ((rest ++ bytes) ++ 10 ∷ [])) written now
    → Halted opened (heard ++ piece) written now
halts_at opened heard text rest bytes piece behind written now both cut ends begins = record {
  answered = text ++ ((rest ++ bytes) ++ 10 ∷ []);
  rest = behind;
  both =
      ap (λ (l : List ℕ). heard ++ l) cut
      ∙ sym (append_assoc heard (bytes ++ 10 ∷ []) behind)
      ∙ ap (λ (l : List ℕ). l ++ behind) (both_ended heard text rest bytes (bytes ++ 10 ∷ []) both refl);
  ends = ends;
  begins = begins;
}

-- what halts between two lines
pub halts_between : (opened : Opened) (heard text rest more : List ℕ) (written now : Option (List ℕ))
    → heard ≡ text ++ rest
    → HasEnded text → BeginsAnswersFrom opened text written now → Halted opened (heard ++ more) written now
halts_between opened heard text rest more written now both ended begins = record {
  answered = text;
  rest = rest ++ more;
  both = ap (λ (l : List ℕ). l ++ more) both ∙ append_assoc text rest more;
  ends = ended.ends;
  begins = begins;
}

-- nothing came yet
pub heard_none : (IsTold : Telling) (cut : CutterIs) (heard front piece : List ℕ) (written now : Option (List ℕ))
    → piece ≡ front ++ piece → Heard IsTold cut heard written now → Heard IsTold cut (heard ++ front) written now
heard_none IsTold cut heard front piece written now same h =
    let none : front ≡ [] = append_cancel_right front [] piece (sym same) in
    subst (λ (l : List ℕ). Heard IsTold cut l written now)
    (sym (ap (λ (l : List ℕ). heard ++ l) none ∙ append-nil heard)) h

-- the bytes read of a piece, and the rest of it
pub halted_on : (heard front rest piece : List ℕ) → piece ≡ front ++ rest → (heard ++ front) ++ rest ≡ heard ++ piece
halted_on heard front rest piece same = append_assoc heard front rest ∙ ap (λ (l : List ℕ). heard ++ l) (sym same)

-- a piece without a line feed
pub no_cut : (xs : List ℕ) (used : ℕ) → nat_lt (position_or_len is_line_feed xs) (length xs) ≡ false
    → position_or_len is_line_feed xs ≤ length xs
    → used ≡ min (1 + position_or_len is_line_feed xs) (length xs) → (take (position_or_len is_line_feed xs) xs ≡ xs)
    × (drop used xs ≡ [])
no_cut xs used e within u =
    let l : length xs ≤ position_or_len is_line_feed xs = grind (arith, nat_tests) in
    (take_all _ xs l, drop_all used xs (omega arith))

-- bytes came in which no line ends
pub heard_more : (IsTold : Telling) (cut later : CutterIs) (heard bytes front : List ℕ) (written now : Option (List ℕ))
    → front ≡ bytes
    → ((text : List ℕ) → StandsFor cut text → StandsFor later (text ++ bytes))
    → Heard IsTold cut heard written now → Heard IsTold later (heard ++ front) written now
heard_more IsTold cut later heard bytes front written now same fed h = record {
  text = h.text;
  rest = h.rest ++ bytes;
  both = ap (λ (l : List ℕ). heard ++ l) same ∙ ap (λ (l : List ℕ). l ++ bytes) h.both
      ∙ append_assoc h.text h.rest bytes;
  ended = h.ended;
  stands = fed h.rest h.stands;
  told = h.told;
}
