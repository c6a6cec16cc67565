-- Texts that are cut behind a line feed.
use Rattle.std.proofs.Common.{◌≡◌, ℕ, suc, ◌-◌, ◌<◌, List, [], ◌∷◌, ◌++◌, take, length, refl, sym, ap, ◌∙◌, arith}
use Rattle.std.proofs.Common.{append_assoc, append-nil}
use Rattle.std.specs.Prelude.{Bool, true, false, map}
use Rattle.std.specs.List.{flat_map, slice_split, onto_first}
use Rattle.std.specs.Io.{IsEmptyOrEndsWith}
use Rattle.std.specs.Str.Lines.{strip_carriage_return}
use Rattle.std.proofs.Math.Seq.{take-suc, take-length}
use Rattle.std.proofs.lemmas.Grind.{flat_map-append}
use Rattle.std.proofs.lemmas.List.{map-append}
use Rattle.std.proofs.lemmas.List.Splits.{slice_split-cons_yes, slice_split-cons_no}
use Rattle.firm_text.specs.Inputs.{input_lines, line_under}
use Rattle.firm_text.specs.Lines.{is_line_feed, lines, without_empty_last}
use Rattle.firm_text.specs.declared.headings.Heading.{Heading}
use Rattle.firm_text.specs.declared.inputs.Line.{Line}
use Rattle.firm_table.specs.Places.{MarkedLine, Place, after_line}
use Rattle.firm_table.specs.Answers.{tells_memory, text_of_answer}
use Rattle.firm_table.specs.Output.{answers_from, output_from, unmarked}
use Rattle.firm_table.specs.Cutting.{reopened, TextsAreCut, TextsAreJoined, OutputsGoOnFrom}
use Rattle.firm_table.proofs.Cuts.{answers_go_on_from}
use Rattle.firm_table.proofs.Pieces.{first_piece}

-- the pieces on both sides of a line feed
split_both : (xs more : List ℕ)
    → slice_split is_line_feed (xs ++ 10 ∷ more) ≡ slice_split is_line_feed xs ++ slice_split is_line_feed more
split_both [] more = slice_split-cons_yes is_line_feed 10 more refl
split_both (x ∷ xs) more = elim (is_line_feed x) as (λ b. is_line_feed x ≡ b
    → slice_split is_line_feed (x ∷ (xs ++ 10 ∷ more))
    ≡ slice_split is_line_feed (x ∷ xs) ++ slice_split is_line_feed more) [
      | true ↦ λ e.
          slice_split-cons_yes is_line_feed x (xs ++ 10 ∷ more) e
          ∙ ap (λ (pieces : List (List ℕ)). [] ∷ pieces) (split_both xs more)
          ∙ ap (λ (pieces : List (List ℕ)). pieces ++ slice_split is_line_feed more)
          (sym (slice_split-cons_yes is_line_feed x xs e))
      | false ↦ λ e.
          slice_split-cons_no is_line_feed x (xs ++ 10 ∷ more) e
          ∙ ap (onto_first x) (split_both xs more)
          ∙ onto_both (slice_split is_line_feed xs) (first_piece xs)
          ∙ ap (λ (pieces : List (List ℕ)). pieces ++ slice_split is_line_feed more)
          (sym (slice_split-cons_no is_line_feed x xs e))
    ] refl
  where
    onto_both : (pieces : List (List ℕ)) → (first : List ℕ) × (others : List (List ℕ)) × (pieces ≡ first ∷ others)
        → onto_first x (pieces ++ slice_split is_line_feed more)
        ≡ onto_first x pieces ++ slice_split is_line_feed more
    onto_both [] some = let none = some.2 in cc
    onto_both (piece ∷ pieces) some = refl

-- only the last piece can be left out
without_both : (pieces : List (List ℕ)) (next : List ℕ) (rest : List (List ℕ))
    → without_empty_last (pieces ++ next ∷ rest) ≡ pieces ++ without_empty_last (next ∷ rest)
without_both [] next rest = refl
without_both (piece ∷ []) next rest = refl
without_both (piece ∷ other ∷ pieces) next rest =
    ap (λ (l : List (List ℕ)). piece ∷ l) (without_both (other ∷ pieces) next rest)

without_all : (pieces others : List (List ℕ))
    → (first : List ℕ) × (rest : List (List ℕ)) × (others ≡ first ∷ rest)
    → without_empty_last (pieces ++ others) ≡ pieces ++ without_empty_last others
without_all pieces [] some = let none = some.2 in cc
without_all pieces (next ∷ rest) some = without_both pieces next rest

-- the lines on both sides of a line feed
lines_front : (xs more : List ℕ)
    → lines (xs ++ 10 ∷ more) ≡ map strip_carriage_return (slice_split is_line_feed xs) ++ lines more
lines_front xs more =
    let front = slice_split is_line_feed xs in
    let behind = slice_split is_line_feed more in
    ap (λ (pieces : List (List ℕ)). map strip_carriage_return (without_empty_last pieces)) (split_both xs more)
    ∙ ap (map strip_carriage_return) (without_all front behind (first_piece more))
    ∙ map-append strip_carriage_return front (without_empty_last behind)

lines_both : (xs more : List ℕ) → lines (xs ++ 10 ∷ more) ≡ lines (xs ++ 10 ∷ []) ++ lines more
lines_both xs more =
    let front = map strip_carriage_return (slice_split is_line_feed xs) in
    lines_front xs more
    ∙ ap (λ (l : List (List ℕ)). l ++ lines more) (sym (lines_front xs [] ∙ append-nil front))

-- a text that ends in a line feed
ends_in : (text : List ℕ) → 0 < length text → IsEmptyOrEndsWith text 10
    → text ≡ take (length text - 1) text ++ 10 ∷ []
ends_in text some ends =
    let wide : length text ≡ suc (length text - 1) = omega arith in
    sym (take-length text)
    ∙ ap (λ (n : ℕ). take n text) wide
    ∙ take-suc text (length text - 1) 0 (omega arith)
    ∙ ap (λ (byte : ℕ). take (length text - 1) text ++ byte ∷ []) (ends some)

-- what follows it begins a line
pub input_both : (heading : Heading) (text more : List ℕ) → IsEmptyOrEndsWith text 10
    → input_lines heading (text ++ more) ≡ input_lines heading text ++ input_lines heading more
input_both heading [] more ends = refl
input_both heading (x ∷ xs) more ends =
    let front : List ℕ = take (length (x ∷ xs) - 1) (x ∷ xs) in
    let text_is : x ∷ xs ≡ front ++ 10 ∷ [] = ends_in (x ∷ xs) (omega arith) ends in
    ap (λ (text : List ℕ). input_lines heading (text ++ more)) text_is
    ∙ ap (input_lines heading) (append_assoc front (10 ∷ []) more)
    ∙ ap (map (line_under heading)) (lines_both front more)
    ∙ map-append (line_under heading) (lines (front ++ 10 ∷ [])) (lines more)
    ∙ ap (λ (text : List ℕ). input_lines heading text ++ input_lines heading more) (sym text_is)

-- the outputs for lines and more
output_both : (places : List Place) (lines more : List MarkedLine)
    → output_from places (lines ++ more) ≡ output_from places lines ++ output_from (reopened places lines) more
output_both places lines more =
    ap (flat_map text_of_answer) (answers_go_on_from places lines more)
    ∙ flat_map-append text_of_answer (answers_from places lines) (answers_from (reopened places lines) more)

marks_both : (places : List Place) (lines more : List MarkedLine)
    → map tells_memory (answers_from places (lines ++ more))
    ≡ map tells_memory (answers_from places lines) ++ map tells_memory (answers_from (reopened places lines) more)
marks_both places lines more =
    ap (map tells_memory) (answers_go_on_from places lines more)
    ∙ map-append tells_memory (answers_from places lines) (answers_from (reopened places lines) more)

-- texts are joined
pub texts_are_joined : TextsAreJoined
texts_are_joined opened text more lines later ends first rest = record {
  each =
      map-append (λ (g : MarkedLine). g.0) lines later
      ∙ ap (λ (ls : List Line). ls ++ map (λ (g : MarkedLine). g.0) later) first.each
      ∙ ap (λ (ls : List Line). input_lines opened.heading text ++ ls) rest.each
      ∙ sym (input_both opened.heading text more ends);
  marks =
      map-append (λ (g : MarkedLine). g.1) lines later
      ∙ ap (λ (bs : List Bool). bs ++ map (λ (g : MarkedLine). g.1) later) first.marks
      ∙ ap (λ (bs : List Bool). map tells_memory (answers_from opened.places lines) ++ bs) rest.marks
      ∙ sym (marks_both opened.places lines later);
}

-- lines that are as many as two lists are two lists
record IsParted (whole : List MarkedLine) (front behind : List Line) : Type 0 where
  pub lines : List MarkedLine
  pub later : List MarkedLine
  pub both : whole ≡ lines ++ later
  pub first : map (λ g. g.0) lines ≡ front
  pub rest : map (λ g. g.0) later ≡ behind

parted : (whole : List MarkedLine) (front behind : List Line) → map (λ (g : MarkedLine). g.0) whole ≡ front ++ behind
    → IsParted whole front behind
parted whole [] behind same = record { lines = []; later = whole; both = refl; first = refl; rest = same }
parted [] (line ∷ front) behind same = cc
parted (given ∷ whole) (line ∷ front) behind same =
    let more : map (λ (g : MarkedLine). g.0) whole ≡ front ++ behind = cc in
    let head : given.0 ≡ line = cc in
    let p = parted whole front behind more in
    record {
      lines = given ∷ p.lines;
      later = p.later;
      both = ap (λ (ls : List MarkedLine). given ∷ ls) p.both;
      first = ap (λ (l : Line). l ∷ map (λ (g : MarkedLine). g.0) p.lines) head
          ∙ ap (λ (ls : List Line). line ∷ ls) p.first;
      rest = p.rest;
    }

-- two lists that are equal and begin with lists of one length agree on both parts
parts_agree : (xs ys front behind : List Bool) → length xs ≡ length front → xs ++ ys ≡ front ++ behind
    → (xs ≡ front) × (ys ≡ behind)
parts_agree [] ys [] behind wide same = (refl, same)
parts_agree [] ys (b ∷ front) behind wide same = absurd (omega arith)
parts_agree (x ∷ xs) ys [] behind wide same = absurd (omega arith)
parts_agree (x ∷ xs) ys (b ∷ front) behind wide same =
    let head : x ≡ b = cc in
    let more : xs ++ ys ≡ front ++ behind = cc in
    let fewer : length xs ≡ length front = omega arith in
    let p = parts_agree xs ys front behind fewer more in
    (ap (λ (c : Bool). c ∷ xs) head ∙ ap (λ (l : List Bool). b ∷ l) p.0, p.1)

answers_wide : (places : List Place) (lines : List MarkedLine)
    → length (map (λ (g : MarkedLine). g.1) lines) ≡ length (map tells_memory (answers_from places lines))
answers_wide places [] = refl
answers_wide places (given ∷ rest) = ap suc (answers_wide (after_line places given) rest)

pub texts_are_cut : TextsAreCut
texts_are_cut opened text more whole ends are =
    let p = parted whole (input_lines opened.heading text) (input_lines opened.heading more)
    (are.each ∙ input_both opened.heading text more ends) in
    let marks : map (λ (g : MarkedLine). g.1) p.lines ++ map (λ (g : MarkedLine). g.1) p.later
    ≡ map tells_memory (answers_from opened.places p.lines)
    ++ map tells_memory (answers_from (reopened opened.places p.lines) p.later) =
    sym (map-append (λ (g : MarkedLine). g.1) p.lines p.later)
    ∙ ap (map (λ (g : MarkedLine). g.1)) (sym p.both) ∙ are.marks
    ∙ ap (λ (ls : List MarkedLine). map tells_memory (answers_from opened.places ls)) p.both
    ∙ marks_both opened.places p.lines p.later in
    let agree = parts_agree _ _ _ _ (answers_wide opened.places p.lines) marks in
    record {
      lines = p.lines;
      later = p.later;
      both = p.both;
      first = record { each = p.first; marks = agree.0 };
      rest = record { each = p.rest; marks = agree.1 };
      output = ap (output_from opened.places) p.both ∙ output_both opened.places p.lines p.later;
    }

pub outputs_go_on_from : OutputsGoOnFrom
outputs_go_on_from opened text more ends =
    ap (λ (ls : List Line). output_from opened.places (map unmarked ls)) (input_both opened.heading text more ends)
    ∙ ap (output_from opened.places)
    (map-append unmarked (input_lines opened.heading text) (input_lines opened.heading more))
    ∙ output_both opened.places (map unmarked (input_lines opened.heading text))
    (map unmarked (input_lines opened.heading more))
