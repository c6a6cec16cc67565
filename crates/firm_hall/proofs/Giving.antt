-- Known answers are taken off the front, and written.
use Rattle.std.proofs.Common.{◌≡◌, ℕ, ◌≤◌, List, [], ◌∷◌, ◌++◌, length, take, get_or, refl, sym, ap, ◌∙◌, subst}
use Rattle.std.proofs.Common.{append-nil}
use Rattle.std.specs.Prelude.{false, map, Option, Result, Ok, Err, OnErr, OnOk}
use Rattle.std.proofs.Math.Seq.{take-length}
use Rattle.std.specs.Io.KnownBytes.{Appends}
use Rattle.std.proofs.KnownBytes.{Appends-nil}
use Rattle.firm_table.specs.Opened.{Opened}
use Rattle.firm_text.specs.declared.registers.Entry.{Entry}
use Rattle.firm_table.specs.Service.{AnswersFrom}
use Rattle.firm_rounds.specs.Rounds.{weigh}
use Rattle.firm_rounds.specs.Passes.{QueueId}
use Rattle.firm_held.specs.Held.{FirstIsKnown, HeldIs, known_text}
use Rattle.firm_hall.specs.inner.Reckoned.{Mark, Reckoned, reckon}
use Rattle.firm_hall.specs.inner.Serving.{ServingIs, Stands, Keeps, Passes, Begins, Begun, serving_is}
use Rattle.firm_hall.specs.inner.Serving.{AreDeskStates, ArePlaced, DeskStateIs, TellsParts, TellsReckoned}
use Rattle.firm_hall.specs.inner.Serving.{asked_at, before_held, book_at, state_after}
use Rattle.firm_hall.specs.declared.desk_states.DeskState.{DeskState}
use Rattle.firm_held.specs.declared.held.HeldAnswer.{HeldAnswer}
use Rattle.firm_held.specs.declared.held.HeldAnswer.TheVariants.{Known, Waiting}
use Rattle.firm_held.specs.Laws.{known_waits}
use Rattle.firm_hall.proofs.Reckoning.{behind, reckon_front, with_front}
use Rattle.firm_hall.proofs.DeskStates.{desk_state_pop}
use Rattle.firm_hall.proofs.Telling.{tells_begins, tells_written}

-- the first answer is taken
pub popped_desk_states : (queue : QueueId) (answers rest : List HeldAnswer) (answer : HeldAnswer)
    (desk_states : List DeskState)
    → answers ≡ answer ∷ rest
    → FirstIsKnown answers
    → AreDeskStates queue answers desk_states → AreDeskStates queue rest desk_states
popped_desk_states queue answers rest answer desk_states is known are =
    let known' = subst FirstIsKnown is known in
    record {
      long = are.long;
      each = λ place default low. desk_state_pop queue place answer rest (get_or desk_states place default)
          (known_waits place answer rest known')
          (subst (λ (xs : List HeldAnswer). DeskStateIs queue place xs (get_or desk_states place default)) is
          (are.each place default low));
    }

pub popped_placed : (answers rest : List HeldAnswer) (answer : HeldAnswer) → answers ≡ answer ∷ rest → ArePlaced answers
    → ArePlaced rest
popped_placed answers rest answer is placed = (subst ArePlaced is placed).1

-- no mark for any answer
abbrev unmarked : ℕ → Mark
unmarked at = (false, false)

-- and its text is still to be written
pub popped_tells : (opening : Opened) (register : List Entry) (desk_states : List DeskState)
    (answers rest : List HeldAnswer)
    (answer : HeldAnswer) (output later : List ℕ) → answers ≡ answer ∷ rest → FirstIsKnown answers
    → later ≡ output ++ known_text answer
    → (text : List ℕ) (written now : Option (List ℕ))
    → TellsParts opening register desk_states answers output text written now
    → TellsParts opening register desk_states rest later text written now
popped_tells opening register desk_states answers rest (Known answer) output later is known added text written now told
    marks =
    let all : ℕ → Mark = behind (false, false) marks in
    subst (λ (l : List ℕ). TellsReckoned opening register (reckon marks (before_held desk_states l) rest) text written
    now) (sym added)
    (subst (λ (xs : List HeldAnswer). TellsReckoned opening register (reckon all (before_held desk_states output) xs)
    text written now) is (told all))
popped_tells opening register desk_states answers rest (Waiting place name command) output later is known added text
    written now told marks = absurd (subst FirstIsKnown is known)

-- what is to be written begins with the text before the held answers
front_is : (desk_states : List DeskState) (answers : List HeldAnswer) (output : List ℕ) (marks : ℕ → Mark)
    → reckon marks (before_held desk_states output) answers
    ≡ with_front output (reckon marks (before_held desk_states []) answers)
front_is desk_states answers output marks =
    ap (λ (l : List ℕ). reckon marks (record {
      books = map book_at desk_states;
      text = l;
      asked = weigh asked_at desk_states;
    }) answers) (sym (append-nil output))
    ∙ reckon_front output marks (before_held desk_states []) answers

-- some of that was written
pub partly : (opening : Opened) (register : List Entry) (desk_states : List DeskState)
    (answers : List HeldAnswer)
    (output text : List ℕ) (written now later : Option (List ℕ)) (count : ℕ)
    → Appends now later (take count output) → TellsParts opening register desk_states answers output text written now
    → Begun opening text written later
partly opening register desk_states answers output text written now later count wrote told =
    let held = reckon unmarked (before_held desk_states []) answers in
    let state = state_after opening register (with_front output held) in
    tells_begins state held.asked text written now later count output held.text
    (subst (λ (r : Reckoned). TellsReckoned opening register r text written now)
    (front_is desk_states answers output unmarked) (told unmarked)) refl wrote

pub wholly : (opening : Opened) (register : List Entry) (desk_states : List DeskState)
    (answers : List HeldAnswer)
    (output text : List ℕ) (written now later : Option (List ℕ))
    → Appends now later output → TellsParts opening register desk_states answers output text written now
    → Begun opening text written later
wholly opening register desk_states answers output text written now later wrote told =
    partly opening register desk_states answers output text written now later (length output)
    (subst (Appends now later) (sym (take-length output)) wrote) told

-- or none yet
pub begun : (opening : Opened) (register : List Entry) (desk_states : List DeskState) (answers : List HeldAnswer)
    (output text : List ℕ) (written now : Option (List ℕ))
    → TellsParts opening register desk_states answers output text written now
    → Begun opening text written now
begun opening register desk_states answers output text written now told =
    partly opening register desk_states answers output text written now now 0 (Appends-nil now) told

-- or all
pub written_all : (opening : Opened) (register : List Entry) (desk_states : List DeskState)
    (answers : List HeldAnswer)
    (output held text : List ℕ) (written now later : Option (List ℕ)) → held ≡ []
    → Appends now later output → TellsParts opening register desk_states answers output text written now
    → TellsParts opening register desk_states answers held text written later
written_all opening register desk_states answers output held text written now later none wrote told marks =
    let behind : Reckoned = reckon marks (before_held desk_states []) answers in
    subst (λ (l : List ℕ). TellsReckoned opening register (reckon marks (before_held desk_states l) answers) text
    written later) (sym none)
    (tells_written (state_after opening register (with_front output behind)) behind.asked text written now later output
    behind.text
    (subst (λ (r : Reckoned). TellsReckoned opening register r text written now)
    (front_is desk_states answers output marks) (told marks)) refl wrote)

-- nothing is still to be written: what was is the output
pub answers_all : (opening : Opened) (register : List Entry) (desk_states : List DeskState)
    (answers : List HeldAnswer)
    (output text : List ℕ) (written now : Option (List ℕ)) → answers ≡ [] → output ≡ []
    → TellsParts opening register desk_states answers output text written now → AnswersFrom opening text written now
answers_all opening register desk_states answers output text written now none_held none told =
    let t = (told unmarked).told in
    let empty : (reckon unmarked (before_held desk_states output) answers).text ≡ [] =
    ap (λ (xs : List HeldAnswer). (reckon unmarked (before_held desk_states output) xs).text) none_held ∙ none in
    record {
      lines = t.lines;
      are_lines = t.are_lines;
      wrote = subst (Appends written now) (sym (append-nil t.sent) ∙ ap (λ (l : List ℕ). t.sent ++ l) (sym empty)
          ∙ t.whole) t.wrote;
    }

-- what holds anyway holds where a call failed
pub on_err_always : {T E : Type 0} (r : Result T E) {P : Type 0} → P → OnErr r P
on_err_always (Ok x) p = tt
on_err_always (Err e) p = p

-- what holds where a call went well, together
pub both_ok : {T E : Type 0} (r : Result T E) (P Q : Type 0) → OnOk r P → OnOk r Q → OnOk r (P × Q)
both_ok (Ok x) P Q p q = (p, q)
both_ok (Err e) P Q p q = tt

-- what a write leaves of the service
pub record Wrote {T E : Type 0} (r : Result T E) (old new : ServingIs) (now later : Option (List ℕ)) : Type 0 where
  pub passes : OnOk r (Passes old new now later)
  pub begins : Begins old now later

pub wrote : {T E : Type 0} (r : Result T E) (queue : QueueId) (register : List Entry) (desk_states : List DeskState)
    (held after : HeldIs) (now later : Option (List ℕ)) → OnOk r (Appends now later held.output)
    → OnOk r (after.output ≡ []) → after.answers ≡ held.answers
    → OnErr r ((count : ℕ) × (count ≤ length held.output) × Appends now later (take count held.output))
    → Wrote r (serving_is queue register desk_states held) (serving_is queue register desk_states after) now later
wrote (Ok x) queue register desk_states held after now later all none same part = record {
  passes = λ opening text written told.
      subst (λ (xs : List HeldAnswer). TellsParts opening register desk_states xs after.output text written later)
      (sym same)
      (written_all opening register desk_states held.answers held.output after.output text written now later none all
      told);
  begins = λ opening text written told.
      wholly opening register desk_states held.answers held.output text written now later all told;
}
wrote (Err e) queue register desk_states held after now later all none same part = record {
  passes = tt;
  begins = λ opening text written told.
      partly opening register desk_states held.answers held.output text written now later part.0 part.2 told;
}

-- nothing is written yet
pub nothing_written : (old : ServingIs) (now : Option (List ℕ)) → Begins old now now
nothing_written old now opening text written told =
    begun opening old.register old.desk_states old.answers old.output text written now told

-- the first answer is put after the output
pub popped_stands : (queue : QueueId) (register : List Entry) (desk_states : List DeskState) (held after : HeldIs)
    (first : HeldAnswer) → Stands (serving_is queue register desk_states held) → held.answers ≡ first ∷ after.answers
    → FirstIsKnown held.answers → Stands (serving_is queue register desk_states after)
popped_stands queue register desk_states held after first stands is known = record {
  desk_states = popped_desk_states queue held.answers after.answers first desk_states is known stands.desk_states;
  fits = stands.fits;
  placed = popped_placed held.answers after.answers first is stands.placed;
}

pub popped_keeps : (queue : QueueId) (register : List Entry) (desk_states : List DeskState) (held after : HeldIs)
    (first : HeldAnswer) → held.answers ≡ first ∷ after.answers → FirstIsKnown held.answers
    → after.output ≡ held.output ++ known_text first
    → Keeps (serving_is queue register desk_states held) (serving_is queue register desk_states after)
popped_keeps queue register desk_states held after first is known put opening text written now told =
    popped_tells opening register desk_states held.answers after.answers first held.output after.output is known put
    text written now told

-- what follows where a call failed
pub on_err_weaker : {T E P Q : Type 0} (r : Result T E) → (P → Q) → OnErr r P → OnErr r Q
on_err_weaker (Ok x) weaker p = tt
on_err_weaker (Err e) weaker p = weaker p
