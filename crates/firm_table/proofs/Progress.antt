-- The invariant of the service from line to line.
use Rattle.std.proofs.Common.{◌≡◌, ℕ, ◌≤◌, List, [], ◌∷◌, ◌++◌, take, drop, length, refl, sym, ap, subst, ◌∙◌}
use Rattle.std.proofs.Common.{append_assoc, append-nil, take-append-drop}
use Rattle.std.specs.Prelude.{Bool, Option, Result, Ok, Err, OnOk, OnErr, map}
use Rattle.std.specs.List.{flat_map}
use Rattle.std.specs.Io.KnownBytes.{Appends}
use Rattle.std.proofs.KnownBytes.{Appends-nil, Appends-trans}
use Rattle.std.proofs.lemmas.List.{map-append}
use Rattle.std.proofs.lemmas.Grind.{flat_map-append}
use Rattle.std.proofs.Math.Seq.{take-append_seam, take-length}
use Rattle.firm_tenant.specs.Laws.{UnmarkedStepsAreGranted}
use Rattle.firm_text.specs.Inputs.{input_lines, line_under}
use Rattle.firm_text.specs.LineLaws.{RefusesForTheForm}
use Rattle.firm_text.specs.Lines.{lines}
use Rattle.firm_text.specs.declared.headings.Heading.{Heading}
use Rattle.firm_text.specs.declared.inputs.Line.{Line}
use Rattle.firm_table.specs.Opened.{Opened}
use Rattle.firm_table.specs.Places.{MarkedLine, Place, after_lines}
use Rattle.firm_table.specs.Answers.{answer_of, tells_memory, text_of_answer}
use Rattle.firm_table.specs.declared.answers.LineAnswer.{LineAnswer}
use Rattle.firm_table.specs.Output.{answers_from, output_from, unmarked, AreLinesFrom}
use Rattle.firm_table.specs.Service.{AnswersFrom, BeginsAnswersFrom, Device, UpToDate}
use Rattle.firm_table.specs.Adding.{NothingIsTold, OneMoreIsTold, FrontIsWritten, ToldBegins, AllIsWritten}
use Rattle.firm_table.specs.Adding.{OneMoreBegins}
use Rattle.firm_table.specs.Progress.{Shows, State, Told, state_is}
use Rattle.firm_table.proofs.Stays.{after_lines-append, answers_from-append}
use Rattle.firm_table.proofs.Unmarked.{IsOfText, unmarked_answer}

-- the output for these lines and more
output_from-append : (places : List Place) (lines more : List MarkedLine)
    → output_from places (lines ++ more)
    ≡ output_from places lines ++ flat_map text_of_answer
    (answers_from (after_lines places lines) more)
output_from-append places lines more =
    ap (flat_map text_of_answer) (answers_from-append places lines more)
    ∙ flat_map-append text_of_answer (answers_from places lines)
    (answers_from (after_lines places lines) more)

-- lines that follow these, with marks that are right after them
lines_more : (opened : Opened) (text after : List ℕ) (lines more : List MarkedLine)
    → AreLinesFrom opened text lines
    → input_lines opened.heading after ≡ input_lines opened.heading text ++ map (λ (g : MarkedLine). g.0) more
    → map (λ (g : MarkedLine). g.1) more
    ≡ map tells_memory (answers_from (after_lines opened.places lines) more)
    → AreLinesFrom opened after (lines ++ more)
lines_more opened text after lines more are each marks = record {
  each =
      map-append (λ (g : MarkedLine). g.0) lines more
      ∙ ap (λ (ls : List Line). ls ++ map (λ (g : MarkedLine). g.0) more) are.each
      ∙ sym each;
  marks =
      let behind = answers_from (after_lines opened.places lines) more in
      map-append (λ (g : MarkedLine). g.1) lines more
      ∙ ap (λ (bs : List Bool). bs ++ map (λ (g : MarkedLine). g.1) more) are.marks
      ∙ ap (λ (bs : List Bool). map tells_memory (answers_from opened.places lines) ++ bs) marks
      ∙ sym (map-append tells_memory (answers_from opened.places lines) behind)
      ∙ sym (ap (map tells_memory) (answers_from-append opened.places lines more));
}

-- no line was answered yet
pub nothing_told : NothingIsTold
nothing_told opened written = (
  record {
    lines = [];
    are_lines = record { each = refl; marks = refl };
    shows = record { register = refl; books = refl };
    sent = [];
    wrote = Appends-nil written;
    whole = refl;
  },
  refl,
)

-- one line more was answered
pub one_more : OneMoreIsTold
one_more state text after written now tenants pending line p more a =
    let mark : Bool = tells_memory a.answer in
    let given : MarkedLine = (line, mark) in
    let places : List Place = after_lines state.opening.places p.lines in
    let here : answer_of places given ≡ a.answer = sym (a.right.answers places p.shows) in (
      record {
        lines = p.lines ++ given ∷ [];
        are_lines = lines_more state.opening text after p.lines (given ∷ []) p.are_lines more
            (ap (λ (x : LineAnswer). tells_memory x ∷ []) (sym here));
        shows = subst (Shows tenants) (sym (after_lines-append state.opening.places p.lines (given ∷ [])))
            (a.right.leaves places p.shows);
        sent = p.sent;
        wrote = p.wrote;
        whole =
            ap (λ (l : List ℕ). p.sent ++ l) a.text
            ∙ sym (append_assoc p.sent state.pending (text_of_answer a.answer))
            ∙ ap (λ (l : List ℕ). l ++ text_of_answer a.answer) p.whole
            ∙ ap (λ (l : List ℕ). output_from state.opening.places p.lines ++ l)
            (sym (append-nil (text_of_answer a.answer))
            ∙ ap (λ (x : LineAnswer). flat_map text_of_answer (x ∷ [])) (sym here))
            ∙ sym (output_from-append state.opening.places p.lines (given ∷ []));
      },
      refl,
      answers_from-append state.opening.places p.lines (given ∷ [])
          ∙ ap (λ (x : LineAnswer). answers_from state.opening.places p.lines ++ x ∷ []) here,
    )

-- the front of what was to be written was, and the lines are the same
pub front_written_of_lines : (state : State) (text : List ℕ) (written now later : Option (List ℕ))
    (front held : List ℕ)
    → (p : Told state text written now) → state.pending ≡ front ++ held → Appends now later front
    → (told : Told (state_is state.opening state.tenants held) text written later) × (told.lines ≡ p.lines)
front_written_of_lines state text written now later front held p parts wrote = (
  record {
    lines = p.lines;
    are_lines = p.are_lines;
    shows = p.shows;
    sent = p.sent ++ front;
    wrote = Appends-trans written now later p.sent front p.wrote wrote;
    whole = append_assoc p.sent front held ∙ ap (λ (l : List ℕ). p.sent ++ l) (sym parts) ∙ p.whole;
  },
  refl,
)

pub front_written : FrontIsWritten
front_written state text written now later front held p parts wrote =
    (front_written_of_lines state text written now later front held p parts wrote).0

-- what was sent begins what follows it
begins_with : (opened : Opened) (text : List ℕ) (written now : Option (List ℕ)) (lines : List MarkedLine)
    (sent rest : List ℕ)
    → AreLinesFrom opened text lines → Appends written now sent → output_from opened.places lines ≡ sent ++ rest
    → BeginsAnswersFrom opened text written now
begins_with opened text written now lines sent rest are wrote whole = record {
  lines = lines;
  are_lines = are;
  count = length sent;
  wrote = subst (Appends written now) (sym (ap (take (length sent)) whole ∙ take-append_seam sent rest)) wrote;
}

pub told_begins : ToldBegins
told_begins state text written now p =
    begins_with state.opening text written now p.lines p.sent state.pending p.are_lines p.wrote (sym p.whole)

-- nothing is to be written
pub all_is_written : AllIsWritten
all_is_written state text written now p empty = record {
  lines = p.lines;
  are_lines = p.are_lines;
  wrote = subst (Appends written now) (sym (append-nil p.sent) ∙ ap (λ (l : List ℕ). p.sent ++ l) (sym empty)
      ∙ p.whole) p.wrote;
}

-- a line that stands last in an input is that of a text
last_of_text : (heading : Heading) (texts : List (List ℕ)) (before : List Line) (line : Line)
    → map (line_under heading) texts ≡ before ++ line ∷ []
    → IsOfText line
last_of_text heading [] [] line e = cc
last_of_text heading [] (first ∷ before) line e = cc
last_of_text heading (text ∷ rest) [] line e = (heading, text, cc)
last_of_text heading (text ∷ rest) (first ∷ before) line e =
    let more : map (line_under heading) rest ≡ before ++ line ∷ [] = cc in
    last_of_text heading rest before line more

-- the answer to one line more was not made
pub one_more_begins : UnmarkedStepsAreGranted → RefusesForTheForm → OneMoreBegins
one_more_begins granted formal state text after written now line p more =
    let others : List MarkedLine = unmarked line ∷ [] in
    let places : List Place = after_lines state.opening.places p.lines in
    let behind = flat_map text_of_answer (answers_from places others) in
    begins_with state.opening after written now (p.lines ++ others) p.sent (state.pending ++ behind)
    (lines_more state.opening text after p.lines others p.are_lines more
    (ap (λ (b : Bool). b ∷ [])
    (sym (unmarked_answer granted formal places line
    (last_of_text state.opening.heading (lines after) (input_lines state.opening.heading text) line more)))))
    p.wrote
    (output_from-append state.opening.places p.lines others ∙ ap (λ (l : List ℕ). l ++ behind) (sym p.whole)
    ∙ append_assoc p.sent state.pending behind)

-- all that was to be written was
pub all_written_now : (state : State) (text held : List ℕ) (written now later : Option (List ℕ))
    → Told state text written now → Appends now later state.pending
    → held ≡ [] → Told (state_is state.opening state.tenants held) text written later
all_written_now state text held written now later p wrote empty =
    front_written state text written now later state.pending held p (sym (append-nil state.pending)
    ∙ ap (λ (l : List ℕ). state.pending ++ l) (sym empty)) wrote

-- some of it was
pub partly_written : (state : State) (text : List ℕ) (written now later : Option (List ℕ)) (count : ℕ)
    → Told state text written now
    → Appends now later (take count state.pending)
    → Told (state_is state.opening state.tenants (drop count state.pending)) text written later
partly_written state text written now later count p wrote =
    front_written state text written now later (take count state.pending) (drop count state.pending) p
    (sym (take-append-drop count state.pending)) wrote

-- this much of it was written, whether the call succeeded or not
pub so_much_written : {T E : Type 0} (r : Result T E) (now later : Option (List ℕ)) (pending : List ℕ)
    → OnOk r (Appends now later pending)
    → OnErr r ((count : ℕ) × (count ≤ length pending) × Appends now later (take count pending)) → (count : ℕ)
    × Appends now later (take count pending)
so_much_written (Ok x) now later pending all part =
    (length pending, subst (Appends now later) (sym (take-length pending)) all)
so_much_written (Err e) now later pending all part = (part.0, part.2)

-- the claims about lines are the output for them, where nothing is left to write
pub answers_up_to_date : (opened : Opened) (state : State) (reader writer : Device) → state.opening ≡ opened
    → state.pending ≡ []
    → UpToDate (Told state) reader writer → UpToDate (AnswersFrom opened) reader writer
answers_up_to_date opened state reader writer same empty u = record {
  lines = u.lines;
  rest = u.rest;
  read = u.read;
  whole = u.whole;
  in_line = u.in_line;
  told = subst (λ (o : Opened). AnswersFrom o u.lines writer.before writer.after) same
      (all_is_written state u.lines writer.before writer.after u.told empty);
}
