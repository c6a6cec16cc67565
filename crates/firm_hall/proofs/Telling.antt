-- The claims, as one line more is answered, and as rounds come back.
use Rattle.std.proofs.Common.{◌≡◌, ℕ, ◌+◌, ◌≤◌, List, [], ◌∷◌, ◌++◌, drop, length, take, refl, sym, ap, ◌∙◌, subst}
use Rattle.std.proofs.Common.{arith}
use Rattle.std.proofs.Common.{append_assoc}
use Rattle.std.specs.Prelude.{Option}
use Rattle.std.specs.Io.KnownBytes.{Appends}
use Rattle.std.proofs.KnownBytes.{Appends-trans}
use Rattle.std.proofs.lemmas.List.{length-map, take-append-drop}
use Rattle.std.proofs.Math.Seq.{take-append_seam}
use Rattle.firm_table.specs.Opened.{Opened}
use Rattle.firm_text.specs.Inputs.{input_lines}
use Rattle.firm_text.specs.declared.inputs.Line.{Line}
use Rattle.firm_table.specs.Places.{MarkedLine}
use Rattle.firm_table.specs.Answers.{tells_memory}
use Rattle.firm_table.specs.declared.answers.LineAnswer.{LineAnswer}
use Rattle.firm_table.specs.Output.{answers_from, output_from}
use Rattle.firm_table.specs.Service.{BeginsAnswersFrom}
use Rattle.firm_table.specs.Tenants.{TenantsState}
use Rattle.firm_table.specs.Progress.{State, IsAnswer, state_is}
use Rattle.firm_table.specs.Adding.{OneMoreBegins, OneMoreIsTold}
use Rattle.firm_hall.specs.Counts.{rounds_in, round_of, refusal_in, refusals_in}
use Rattle.firm_hall.specs.inner.Serving.{Begun, Tells}

-- the counts, with one line more
rounds_more : (lines : List MarkedLine) (answers : List LineAnswer) (given : MarkedLine) (answer : LineAnswer)
    → length lines ≡ length answers
    → rounds_in (lines ++ given ∷ []) (answers ++ answer ∷ []) ≡ rounds_in lines answers + round_of given.0 answer
rounds_more [] [] given answer long = omega arith
rounds_more [] (a ∷ answers) given answer long = absurd (omega arith)
rounds_more (l ∷ lines) [] given answer long = absurd (omega arith)
rounds_more (l ∷ lines) (a ∷ answers) given answer long =
    let rest : rounds_in (lines ++ given ∷ []) (answers ++ answer ∷ [])
    ≡ rounds_in lines answers + round_of given.0 answer =
    rounds_more lines answers given answer (omega arith) in omega arith

refusals_more : (answers : List LineAnswer) (answer : LineAnswer)
    → refusals_in (answers ++ answer ∷ []) ≡ refusals_in answers + refusal_in answer
refusals_more [] answer = omega arith
refusals_more (a ∷ answers) answer =
    let rest : refusals_in (answers ++ answer ∷ []) ≡ refusals_in answers + refusal_in answer =
    refusals_more answers answer in omega arith

-- the number of rounds that one line more requests
pub record AddsAnswer (asked later : ℕ) (line : Line) (answer : LineAnswer) : Type 0 where
  pub least : later ≤ asked + round_of line answer
  pub most : asked + round_of line answer ≤ later + refusal_in answer

pub tells_more : OneMoreIsTold
    → (state : State) (tenants : TenantsState) (pending : List ℕ) (line : Line) (asked later : ℕ) (text after : List ℕ)
    (written now : Option (List ℕ))
    → input_lines state.opening.heading after ≡ input_lines state.opening.heading text ++ line ∷ []
    → (a : IsAnswer state.tenants tenants line state.pending pending) → AddsAnswer asked later line a.answer
    → Tells state asked text written now → Tells (state_is state.opening tenants pending) later after written now
tells_more one_more state tenants pending line asked later text after written now more a adds tells =
    let q = one_more state text after written now tenants pending line tells.told more a in
    let old = tells.told.lines in
    let answers = answers_from state.opening.places old in
    let given : MarkedLine = (line, tells_memory a.answer) in
    let long : length old ≡ length answers =
    sym (length-map old (λ (g : MarkedLine). g.1)) ∙ ap length tells.told.are_lines.marks
    ∙ length-map answers tells_memory in
    let rounds : rounds_in q.0.lines (answers_from state.opening.places q.0.lines)
    ≡ rounds_in old answers + round_of line a.answer =
    ap (λ (ls : List MarkedLine). rounds_in ls (answers_from state.opening.places q.0.lines)) q.1
    ∙ ap (λ (xs : List LineAnswer). rounds_in (old ++ given ∷ []) xs) q.2
    ∙ rounds_more old answers given a.answer long in
    let refusals : refusals_in (answers_from state.opening.places q.0.lines)
    ≡ refusals_in answers + refusal_in a.answer =
    ap refusals_in q.2 ∙ refusals_more answers a.answer in
    let counted = tells.counted in
    record {
      told = q.0;
      counted = record {
        least = omega (arith, counted.least, adds.least, rounds);
        most = omega (arith, counted.most, adds.most, rounds, refusals);
      };
    }

-- some of what is still to be written was
pub tells_begins : (state : State) (asked : ℕ) (text : List ℕ) (written now later : Option (List ℕ)) (count : ℕ)
    (front held : List ℕ) → Tells state asked text written now
    → state.pending ≡ front ++ held → Appends now later (take count front) → Begun state.opening text written later
tells_begins state asked text written now later count front held tells both wrote =
    let t = tells.told in
    let rest = drop count front ++ held in
    let cut : take count front ++ rest ≡ state.pending =
    sym (append_assoc (take count front) (drop count front) held)
    ∙ ap (λ (l : List ℕ). l ++ held) (take-append-drop count front) ∙ sym both in
    record {
      state = state_is state.opening state.tenants rest;
      opened = refl;
      told = record {
        lines = t.lines;
        are_lines = t.are_lines;
        shows = t.shows;
        sent = t.sent ++ take count front;
        wrote = Appends-trans written now later t.sent (take count front) t.wrote wrote;
        whole = append_assoc t.sent (take count front) rest ∙ ap (λ (l : List ℕ). t.sent ++ l) cut ∙ t.whole;
      };
    }

-- what was written begins the output for the answered lines
pub begun_answers : (opening : Opened) (text : List ℕ) (written now : Option (List ℕ))
    → Begun opening text written now → BeginsAnswersFrom opening text written now
begun_answers opening text written now begun =
    let t = begun.told in
    let front : take (length t.sent) (output_from begun.state.opening.places t.lines) ≡ t.sent =
    ap (take (length t.sent)) (sym t.whole) ∙ take-append_seam t.sent begun.state.pending in
    subst (λ (o : Opened). BeginsAnswersFrom o text written now) begun.opened
    (record {
      lines = t.lines;
      are_lines = t.are_lines;
      count = length t.sent;
      wrote = subst (Appends written now) (sym front) t.wrote;
    })

-- and that for one more line
pub begun_more : OneMoreBegins
    → (opening : Opened) (text after : List ℕ) (written now : Option (List ℕ)) (line : Line)
    → input_lines opening.heading after ≡ input_lines opening.heading text ++ line ∷ [] → Begun opening text written now
    → BeginsAnswersFrom opening after written now
begun_more short opening text after written now line more begun =
    subst (λ (o : Opened). BeginsAnswersFrom o after written now) begun.opened
    (short begun.state text after written now line begun.told
    (subst (λ (o : Opened). input_lines o.heading after ≡ input_lines o.heading text ++ line ∷ []) (sym begun.opened)
    more))

-- the front of it was
pub tells_written : (state : State) (asked : ℕ) (text : List ℕ) (written now later : Option (List ℕ))
    (front held : List ℕ) → Tells state asked text written now
    → state.pending ≡ front ++ held → Appends now later front
    → Tells (state_is state.opening state.tenants held) asked text written later
tells_written state asked text written now later front held tells both wrote =
    let t = tells.told in
    record {
      told = record {
        lines = t.lines;
        are_lines = t.are_lines;
        shows = t.shows;
        sent = t.sent ++ front;
        wrote = Appends-trans written now later t.sent front t.wrote wrote;
        whole = append_assoc t.sent front held ∙ ap (λ (l : List ℕ). t.sent ++ l) (sym both) ∙ t.whole;
      };
      counted = tells.counted;
    }
