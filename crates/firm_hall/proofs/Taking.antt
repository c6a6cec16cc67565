-- One line more is answered, asks a round, or waits for one.
use Rattle.std.proofs.Common.{◌≡◌, ◌≢◌, ℕ, ◌+◌, ◌<◌, List, [], ◌∷◌, ◌++◌, length, set, get_or, refl, sym, ap, ◌∙◌}
use Rattle.std.proofs.Common.{subst, arith, append-nil, ne_eqb}
use Rattle.std.specs.Prelude.{Bool, true, false, map, Option, Some, None}
use Rattle.std.proofs.Math.Seq.{map-set_same}
use Rattle.std.proofs.lemmas.List.{length-map}
use Rattle.firm_table.specs.Opened.{Opened}
use Rattle.firm_rules.specs.Book.{Book}
use Rattle.firm_rules.specs.declared.commands.Command.{Command}
use Rattle.firm_rules.specs.declared.commands.Command.TheVariants.{Round}
use Rattle.firm_rules.specs.declared.replies.Reply.{Reply}
use Rattle.firm_tenant.specs.Step.{step, is_memory}
use Rattle.firm_tenant.specs.Laws.{RepliesTellTheirMarks}
use Rattle.firm_text.specs.Inputs.{input_lines}
use Rattle.firm_text.specs.Registers.{IsRegister, place_in}
use Rattle.firm_text.specs.Rosters.{most_places}
use Rattle.firm_text.specs.declared.inputs.Line.{Line}
use Rattle.firm_text.specs.declared.inputs.Line.TheVariants.{Nothing, For}
use Rattle.firm_text.specs.declared.registers.Entry.{Entry}
use Rattle.firm_table.specs.declared.answers.LineAnswer.{LineAnswer}
use Rattle.firm_table.specs.declared.answers.LineAnswer.TheVariants.{Silent, UnknownTenant, Replied}
use Rattle.firm_table.specs.Tenants.{tenants_are}
use Rattle.firm_table.specs.Progress.{IsAnswer, IsRight}
use Rattle.firm_table.specs.Adding.{OneMoreIsTold, TenantsAreAnswered, StrangersAreAnswered}
use Rattle.firm_rounds.specs.Rounds.{weigh}
use Rattle.firm_rounds.specs.Passes.{QueueId}
use Rattle.firm_hall.specs.Desks.{DeskIs}
use Rattle.firm_hall.specs.Counts.{round_of}
use Rattle.firm_held.specs.Held.{HeldIs, NoneWaits, held_answer, held_is, waits_for}
use Rattle.firm_hall.specs.inner.Reckoned.{Mark, Reckoned, reckon, reckon_command, reckon_one}
use Rattle.firm_hall.specs.inner.DeskStates.{Answered, IsBack, IsTakenAt, Went, with_waiting}
use Rattle.firm_hall.specs.inner.Serving.{DeskStateIs, IsPlaced, ServingIs, Stands, Takes, TellsParts}
use Rattle.firm_hall.specs.inner.Serving.{TellsReckoned, asked_at, before_held, book_at, desk_state_counts, serving_is}
use Rattle.firm_hall.specs.inner.Serving.{state_after}
use Rattle.firm_hall.specs.declared.desk_states.DeskState.{DeskState}
use Rattle.firm_hall.specs.declared.desk_states.DeskState.TheVariants.{Home, Away, Empty, Gone}
use Rattle.firm_held.specs.declared.held.HeldAnswer.{HeldAnswer}
use Rattle.firm_held.specs.declared.held.HeldAnswer.TheVariants.{Known, Waiting}
use Rattle.firm_hall.proofs.Asking.{answered_asks, asks_least, asks_most}
use Rattle.firm_hall.proofs.Coming.{fill_told, here, same_told, within}
use Rattle.firm_hall.proofs.DeskStates.{asked_set, book_here, books_same, books_set, desk_state_push, desk_states_set}
use Rattle.firm_held.specs.Laws.{filled_push, first_here, none_push}
use Rattle.firm_hall.proofs.Placed.{placed_push}
use Rattle.firm_hall.proofs.Reckoning.{book_behind, put_at, reckon_apart, reckon_push}
use Rattle.firm_hall.proofs.Telling.{AddsAnswer, tells_more}

-- what one line makes of the tenants and of what is to be written, however memory is granted to the commands before it
pub record LineStep (register later_register : List Entry) (before after : Reckoned) (line : Line) : Type 0 where
  pub answer : IsAnswer (tenants_are register before.books) (tenants_are later_register after.books) line before.text
      after.text
  pub adds : AddsAnswer before.asked after.asked line answer.answer

pub one_told : OneMoreIsTold
    → (opening : Opened) (register later_register : List Entry) (before after : Reckoned) (line : Line)
    → LineStep register later_register before after line
    → (text text_after : List ℕ) (written now : Option (List ℕ))
    → input_lines opening.heading text_after ≡ input_lines opening.heading text ++ line ∷ []
    → TellsReckoned opening register before text written now
    → TellsReckoned opening later_register after text_after written now
one_told one_more opening register later_register before after line s text text_after written now more told =
    tells_more one_more (state_after opening register before) (tenants_are later_register after.books) after.text line
    before.asked after.asked text text_after written now more s.answer s.adds told

-- one more line is claimed
abbrev pub Tells : Opened → List Entry → List Entry → List DeskState → List DeskState → List HeldAnswer
    → List HeldAnswer → List ℕ → Line → Type 0
Tells opening register later_register desk_states after answers later output line =
    (text text_after : List ℕ) (written now : Option (List ℕ))
    → input_lines opening.heading text_after ≡ input_lines opening.heading text ++ line ∷ []
    → TellsParts opening register desk_states answers output text written now
    → TellsParts opening later_register after later output text_after written now

-- a line that no tenant answers
module _ (one_more : OneMoreIsTold) (opening : Opened) (register : List Entry) (desk_states : List DeskState)
    (answers : List HeldAnswer) (output : List ℕ) (line : Line) where
  pub nothing_told : line ≡ Nothing
      → Tells opening register register desk_states desk_states answers answers output line
  nothing_told is text text_after written now more told marks =
      let before = reckon marks (before_held desk_states output) answers in
      one_told one_more opening register register before before Nothing
      (record {
        answer = record {
          answer = Silent;
          right = record { answers = λ places shows. refl; leaves = λ places shows. shows };
          text = sym (append-nil before.text);
        };
        adds = record { least = omega arith; most = omega arith };
      }) text text_after written now (more
      ∙ ap (λ (l : Line). input_lines opening.heading text ++ l ∷ []) is) (told marks)

  -- and which changes the book of a place for which no command waits
  pub changed_told : (later_register : List Entry) (after : List DeskState) (answer : LineAnswer) (place : ℕ)
      (book : Option Book) → NoneWaits place answers
      → map book_at after ≡ set (map book_at desk_states) place book
      → weigh asked_at after ≡ weigh asked_at desk_states
      → ((books : List (Option Book)) → IsRight (tenants_are register books)
      (tenants_are later_register (set books place book)) line answer)
      → round_of line answer ≡ 0
      → Tells opening register later_register desk_states after answers (answers ++ Known answer ∷ []) output line
  changed_told later_register after answer place book none books asked right no_round text text_after written now more
      told marks =
      let before = reckon marks (before_held desk_states output) answers in
      let start : before_held after output ≡ put_at place book 0 (before_held desk_states output) =
      ap (λ (bs : List (Option Book)). record { books = bs; text = output; asked = weigh asked_at after }) books
      ∙ ap (λ (n : ℕ). record { books = set (map book_at desk_states) place book; text = output; asked = n })
      (let sums : weigh asked_at after ≡ weigh asked_at desk_states + 0 = omega (arith, asked) in sums) in
      let same : reckon marks (before_held after output) answers ≡ put_at place book 0 before =
      ap (λ (r : Reckoned). reckon marks r answers) start
      ∙ reckon_apart place book 0 marks (before_held desk_states output) answers none in
      let last : Mark = marks (length answers) in
      subst (λ (r : Reckoned). TellsReckoned opening later_register r text_after written now)
      (sym (reckon_push marks (before_held after output) answers (Known answer)
      ∙ ap (λ (r : Reckoned). reckon_one last r (Known answer)) same))
      (one_told one_more opening register later_register before
      (reckon_one last (put_at place book 0 before) (Known answer)) line
      (record {
        answer = record { answer = answer; right = right before.books; text = refl };
        adds = record { least = omega (arith, no_round); most = omega (arith, no_round) };
      }) text text_after written now more (told marks))

  -- and which changes none
  pub known_told : (answer : LineAnswer)
      → ((books : List (Option Book)) → IsRight (tenants_are register books) (tenants_are register books) line answer)
      → round_of line answer ≡ 0
      → Tells opening register register desk_states desk_states answers (answers ++ Known answer ∷ []) output line
  known_told answer right no_round text text_after written now more told marks =
      let before = reckon marks (before_held desk_states output) answers in
      let last : Mark = marks (length answers) in
      subst (λ (r : Reckoned). TellsReckoned opening register r text_after written now)
      (sym (reckon_push marks (before_held desk_states output) answers (Known answer)))
      (one_told one_more opening register register before (reckon_one last before (Known answer)) line
      (record {
        answer = record { answer = answer; right = right before.books; text = refl };
        adds = record { least = omega (arith, no_round); most = omega (arith, no_round) };
      }) text text_after written now more (told marks))

-- a command of a tenant that is not there
pub stranger_told : OneMoreIsTold → StrangersAreAnswered
    → (opening : Opened) (register : List Entry) (desk_states : List DeskState) (answers : List HeldAnswer)
    (output name : List ℕ) (command : Command) → place_in register name ≡ None
    → Tells opening register register desk_states desk_states answers (answers ++ Known UnknownTenant ∷ []) output
    (For name command)
stranger_told one_more strangers opening register desk_states answers output name command none =
    known_told one_more opening register desk_states answers output (For name command) UnknownTenant
    (λ books. strangers (tenants_are register books) name command none) refl

-- a command of a tenant that is there, whose turn comes
command_step : TenantsAreAnswered → RepliesTellTheirMarks
    → (register : List Entry) (mark : Mark) (place : ℕ) (name : List ℕ) (command : Command) (before : Reckoned)
    (book : Book)
    → IsRegister register → place_in register name ≡ Some place → get_or before.books place None ≡ Some book
    → LineStep register register before (reckon_command mark place name command before (Some book)) (For name command)
command_step known tell register mark place name command before book sound named found =
    let reply : Reply = (step book command mark.0).0 in
    record {
      answer = record {
        answer = Replied name reply;
        right = known (tenants_are register before.books) name command place book (step book command mark.0).1 reply
            sound named found (sym (tell book command mark.0));
        text = refl;
      };
      adds = record {
        least = omega (arith, asks_least command reply mark.1);
        most = omega (arith, asks_most command reply mark.1);
      };
    }

waiting_step : TenantsAreAnswered → RepliesTellTheirMarks
    → (register : List Entry) (mark : Mark) (place : ℕ) (name : List ℕ) (command : Command) (before : Reckoned)
    (book : Book)
    → IsRegister register → place_in register name ≡ Some place → get_or before.books place None ≡ Some book
    → LineStep register register before (reckon_one mark before (Waiting place name command)) (For name command)
waiting_step known tell register mark place name command before book sound named found =
    subst (λ (b : Option Book). LineStep register register before (reckon_command mark place name command before b)
    (For name command)) (sym found)
    (command_step known tell register mark place name command before book sound named found)

pub waiting_told : OneMoreIsTold → TenantsAreAnswered → RepliesTellTheirMarks
    → (opening : Opened) (register : List Entry) (desk_states : List DeskState) (answers : List HeldAnswer)
    (output : List ℕ) (place : ℕ) (name : List ℕ) (command : Command) (book : Book)
    → IsRegister register → place_in register name ≡ Some place → place < length desk_states
    → get_or (map book_at desk_states) place None ≡ Some book
    → Tells opening register register desk_states desk_states answers (answers ++ Waiting place name command ∷ [])
    output (For name command)
waiting_told one_more known tell opening register desk_states answers output place name command book sound named low
    found text text_after written now more told marks =
    let start = before_held desk_states output in
    let before = reckon marks start answers in
    let there = book_behind place marks start answers book
    (let within : place < length (map book_at desk_states) = omega (arith, length-map desk_states book_at, low) in
    within) found in
    let mark : Mark = marks (length answers) in
    subst (λ (r : Reckoned). TellsReckoned opening register r text_after written now)
    (sym (reckon_push marks start answers (Waiting place name command)))
    (one_told one_more opening register register before (reckon_one mark before (Waiting place name command))
    (For name command)
    (waiting_step known tell register mark place name command before there.0 sound named there.1) text text_after
    written now more (told marks))

-- the service, once one line more is taken
pub record Took (old new : ServingIs) (line : Line) : Type 0 where
  pub stands : Stands new
  pub takes : Takes old new line

-- an answer that waits for nothing, after the others
pub known_stands : (queue : QueueId) (register : List Entry) (desk_states : List DeskState) (held : HeldIs)
    (answer : LineAnswer)
    → Stands (serving_is queue register desk_states held)
    → Stands (serving_is queue register desk_states (held_is (held.answers ++ Known answer ∷ []) held.output))
known_stands queue register desk_states held answer stands = record {
  desk_states = record {
    long = stands.desk_states.long;
    each = λ place default low.
        desk_state_push queue place held.answers (Known answer) (get_or desk_states place default) (λ back. refl)
        (stands.desk_states.each place default low);
  };
  fits = stands.fits;
  placed = placed_push held.answers (Known answer) stands.placed tt;
}

-- a command of the tenant of a place
module _ (one_more : OneMoreIsTold) (known : TenantsAreAnswered) (tell : RepliesTellTheirMarks) (queue : QueueId)
    (register : List Entry) (desk_states : List DeskState) (held : HeldIs) (place : ℕ) (default : DeskState)
    (name : List ℕ) (command : Command) (stands : Stands (serving_is queue register desk_states held))
    (low : place < most_places) (sound : IsRegister register) (named : place_in register name ≡ Some place) where
  took : (before last : DeskState) (answer : HeldAnswer) → before ≡ get_or desk_states place default
      → desk_state_counts last ≡ desk_state_counts before
      → DeskStateIs queue place (held.answers ++ answer ∷ []) last
      → ((other : ℕ) → other ≢ place → waits_for other answer ≡ false) → IsPlaced answer
      → ((opening : Opened) → Tells opening register register desk_states (set desk_states place last) held.answers
      (held.answers ++ answer ∷ []) held.output (For name command))
      → Took (serving_is queue register desk_states held)
      (serving_is queue register (set desk_states place last) (held_is (held.answers ++ answer ∷ []) held.output))
      (For name command)
  took before last answer at counts is out placed tells = record {
    stands = record {
      desk_states = desk_states_set desk_states place before last default
          (within queue register desk_states held place before last default stands low at) at queue held.answers
          (held.answers ++ answer ∷ []) stands.desk_states is
          (λ other desk_state differ was.
          desk_state_push queue other held.answers answer desk_state (λ back. out other differ) was);
      fits = map-set_same desk_state_counts desk_states place last default (counts ∙ ap desk_state_counts at)
          ∙ stands.fits;
      placed = placed_push held.answers answer stands.placed placed;
    };
    takes = tells;
  }

  -- its answer is held, as one that waits
  waits_told : (before last : DeskState) (book : Book) → before ≡ get_or desk_states place default
      → book_at before ≡ Some book → (opening : Opened)
      → Tells opening register register desk_states desk_states held.answers
      (held.answers ++ Waiting place name command ∷ []) held.output (For name command)
  waits_told before last book at found opening =
      let low_here = within queue register desk_states held place before last default stands low at in
      waiting_told one_more known tell opening register desk_states held.answers held.output place name command book
      sound named low_here (book_here desk_states place before last default low_here at None ∙ found)

  others_out : (other : ℕ) → other ≢ place → waits_for other (Waiting place name command) ≡ false
  others_out other differ = ne_eqb place other (λ e. differ (sym e))

  -- the desk at home answered it, for which none waited
  answered : (desk after : DeskIs) (waits still : Bool) (reply : Reply)
      → Home desk waits ≡ get_or desk_states place default → waits ≡ false → Answered desk command after reply
      → Took (serving_is queue register desk_states held)
      (serving_is queue register (set desk_states place (Home after still))
      (held_is (held.answers ++ Known (Replied name reply) ∷ []) held.output)) (For name command)
  answered desk after waits still reply at idle a =
      let before = Home desk waits in
      let last = Home after still in
      let is = here queue register desk_states held place before last default stands low at in
      let low_here = within queue register desk_states held place before last default stands low at in
      let none : NoneWaits place held.answers = is.2 idle in
      let put : after.put ≡ desk.put = ap (λ (d : DeskIs). d.put) a.stepped.same_desk in
      let sums : weigh asked_at (set desk_states place last) ≡ weigh asked_at desk_states + 0 =
      omega (arith, asked_set desk_states place before last default low_here at, put) in
      let waiting : List HeldAnswer = held.answers ++ Waiting place name command ∷ [] in
      took before last (Known (Replied name reply)) at
      (ap (λ (d : DeskIs). (true, d.admissions)) a.stepped.same_desk) (
        ap (λ (d : DeskIs). d.queue) a.stepped.same_desk ∙ is.0,
        ap (λ (d : DeskIs). d.place) a.stepped.same_desk ∙ is.1,
        λ same. none_push place held.answers (Known (Replied name reply)) none refl,
      ) (λ other differ. refl) tt
      (λ opening text text_after written now more told.
      subst (λ (xs : List HeldAnswer). TellsParts opening register (set desk_states place last) xs held.output
      text_after written now) (filled_push place name command reply held.answers none)
      (fill_told opening register desk_states (set desk_states place last) waiting held.output place
      (is_memory reply, false) command reply desk.book after.book 0
      (first_here place command held.answers (Waiting place name command) none (refl, refl))
      (book_here desk_states place before last default low_here at None) a.stepped.stepped
      (answered_asks command reply a.why) (books_set desk_states place before last default low_here at) sums text_after
      written now
      (waits_told before last desk.book at refl opening text text_after written now more told)))

  -- or asked for the round
  went : (desk asked : DeskIs) (waits : Bool) → Home desk waits ≡ get_or desk_states place default → waits ≡ false
      → Went desk command asked
      → Took (serving_is queue register desk_states held)
      (serving_is queue register (set desk_states place (Away asked))
      (held_is (held.answers ++ Waiting place name command ∷ []) held.output)) (For name command)
  went desk asked waits at idle w =
      let before = Home desk waits in
      let last = Away asked in
      let is = here queue register desk_states held place before last default stands low at in
      let low_here = within queue register desk_states held place before last default stands low at in
      let none : NoneWaits place held.answers = is.2 idle in
      let put : asked.put ≡ desk.put + 1 = ap (λ (d : DeskIs). d.put) w.asked_is in
      let book : asked.book ≡ desk.book = ap (λ (d : DeskIs). d.book) w.asked_is in
      let sums : weigh asked_at (set desk_states place last) ≡ weigh asked_at desk_states =
      omega (arith, asked_set desk_states place before last default low_here at, put) in
      let waiting : List HeldAnswer = held.answers ++ Waiting place name command ∷ [] in
      took before last (Waiting place name command) at (ap (λ (d : DeskIs). (true, d.admissions)) w.asked_is)
      (record {
        queue_is = ap (λ (d : DeskIs). d.queue) w.asked_is ∙ is.0;
        place_is = ap (λ (d : DeskIs). d.place) w.asked_is ∙ is.1;
        some = omega (arith, put);
        left = subst (λ (b : Book). b.given < b.rows.limits.life) (sym book) w.left;
        first = first_here place Round held.answers (Waiting place name command) none (refl, w.round);
      }) others_out low
      (λ opening text text_after written now more told.
      same_told opening register desk_states (set desk_states place last) waiting held.output place
      (books_same desk_states place before last default low_here at (ap Some book)) sums text_after written now
      (waits_told before last desk.book at refl opening text text_after written now more told))

  -- it waits, as its tenant's round is away or finds no room
  held_back : (before : DeskState) (book : Book) → before ≡ get_or desk_states place default
      → book_at before ≡ Some book → book_at (with_waiting true before) ≡ book_at before
      → asked_at (with_waiting true before) ≡ asked_at before
      → desk_state_counts (with_waiting true before) ≡ desk_state_counts before
      → DeskStateIs queue place (held.answers ++ Waiting place name command ∷ []) (with_waiting true before)
      → Took (serving_is queue register desk_states held)
      (serving_is queue register (set desk_states place (with_waiting true before))
      (held_is (held.answers ++ Waiting place name command ∷ []) held.output)) (For name command)
  held_back before book at found books asked counts is =
      let last = with_waiting true before in
      let low_here = within queue register desk_states held place before last default stands low at in
      let sums : weigh asked_at (set desk_states place last) ≡ weigh asked_at desk_states =
      omega (arith, asked_set desk_states place before last default low_here at, asked) in
      let waiting : List HeldAnswer = held.answers ++ Waiting place name command ∷ [] in
      took before last (Waiting place name command) at counts is others_out low
      (λ opening text text_after written now more told.
      same_told opening register desk_states (set desk_states place last) waiting held.output place
      (books_same desk_states place before last default low_here at books) sums text_after written now
      (waits_told before last book at found opening text text_after written now more told))

  pub hold : (before : DeskState) → before ≡ get_or desk_states place default
      → (desk_state_counts before).0 ≡ true
      → Took (serving_is queue register desk_states held)
      (serving_is queue register (set desk_states place (with_waiting true before))
      (held_is (held.answers ++ Waiting place name command ∷ []) held.output)) (For name command)
  hold (Home desk waits) at has =
      let is = here queue register desk_states held place (Home desk waits) (Home desk true) default stands low at in
      held_back (Home desk waits) desk.book at refl refl refl refl
      (is.0, is.1, λ idle. absurd (let both : true ≡ false = idle in cc))
  hold (Away asked) at has =
      held_back (Away asked) asked.book at refl refl refl refl
      (desk_state_push queue place held.answers (Waiting place name command) (Away asked) (λ back. absurd back)
      (here queue register desk_states held place (Away asked) (Away asked) default stands low at))
  hold (Empty empty) at has = absurd (cc)
  hold Gone at has = absurd (cc)

  pub take : (before last : DeskState) (reply : Option Reply) → before ≡ get_or desk_states place default
      → IsBack before → IsTakenAt before command last reply
      → Took (serving_is queue register desk_states held)
      (serving_is queue register (set desk_states place last)
      (held_is (held.answers ++ held_answer place name command reply ∷ []) held.output)) (For name command)
  take (Home desk waits) (Home after still) (Some reply) at idle taken =
      answered desk after waits still reply at idle taken.0
  take (Home desk waits) (Away asked) None at idle taken = went desk asked waits at idle taken
  take (Home desk waits) (Home after still) None at idle taken = absurd taken
  take (Home desk waits) (Away asked) (Some reply) at idle taken = absurd taken
  take (Home desk waits) (Empty empty) reply at idle taken = absurd taken
  take (Home desk waits) Gone reply at idle taken = absurd taken
  take (Away asked) last reply at idle taken = absurd taken
  take (Empty empty) last reply at idle taken = absurd taken
  take Gone last reply at idle taken = absurd taken
