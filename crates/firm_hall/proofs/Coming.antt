-- A round that comes back, and a command that waited for it, preserve the claims.
use Rattle.std.proofs.Common.{◌≡◌, ◌≢◌, ℕ, ◌+◌, ◌<◌, List, length, set, get_or, refl, sym, ap}
use Rattle.std.proofs.Common.{◌∙◌, subst, arith}
use Rattle.std.specs.Prelude.{Bool, map, Option, Some, None, true, false}
use Rattle.std.proofs.Math.Seq.{map-set_same}
use Rattle.std.proofs.lemmas.List.{set-get_or}
use Rattle.firm_table.specs.Opened.{Opened}
use Rattle.firm_rules.specs.Book.{Book}
use Rattle.firm_rules.specs.declared.commands.Command.{Command}
use Rattle.firm_rules.specs.declared.commands.Command.TheVariants.{Round}
use Rattle.firm_rules.specs.declared.replies.Reply.{Reply}
use Rattle.firm_tenant.specs.Step.{step, is_memory}
use Rattle.firm_text.specs.Rosters.{most_places}
use Rattle.firm_text.specs.declared.registers.Entry.{Entry}
use Rattle.firm_rounds.specs.Rounds.{weigh}
use Rattle.firm_rounds.specs.Passes.{QueueId}
use Rattle.firm_hall.specs.Desks.{DeskIs, IsStep}
use Rattle.firm_held.specs.Held.{FirstIs, HeldIs, NoneWaits, filled, held_is}
use Rattle.firm_hall.specs.inner.Reckoned.{Mark, Reckoned, asks, reckon}
use Rattle.firm_hall.specs.inner.DeskStates.{Answered, IsAway, IsHome, IsTakenAt, IsTurned, Went, with_waiting}
use Rattle.firm_hall.specs.inner.Serving.{ArePlaced, DeskStateIs, Follows, IsAskedAt, IsOpen, Keeps, ServingIs, Stands}
use Rattle.firm_hall.specs.inner.Serving.{TellsParts, TellsReckoned, asked_at, before_held, book_at, desk_state_counts}
use Rattle.firm_hall.specs.inner.Serving.{serving_is}
use Rattle.firm_hall.specs.declared.desk_states.DeskState.{DeskState}
use Rattle.firm_hall.specs.declared.desk_states.DeskState.TheVariants.{Home, Away, Empty, Gone}
use Rattle.firm_held.specs.declared.held.HeldAnswer.{HeldAnswer}
use Rattle.firm_hall.proofs.Asking.{answered_asks, round_asks}
use Rattle.firm_hall.proofs.DeskStates.{asked_set, book_here, books_same, books_set, desk_state_other, desk_states_set}
use Rattle.firm_held.specs.Laws.{length_filled, not_none}
use Rattle.firm_hall.proofs.Placed.{placed_filled}
use Rattle.firm_hall.proofs.Reckoning.{put_at, reckon_filled}

-- one change behind another
pub follows_then : {old between new : ServingIs} → Follows old between → Follows between new → Follows old new
follows_then first second =
    record {
      same_hall = second.same_hall ∙ first.same_hall;
      same_register = second.same_register ∙ first.same_register;
      fewer = omega (arith, first.fewer, second.fewer);
    }

-- a service that went on is open still
pub stays_open : {id : QueueId} {old new : ServingIs} → Follows old new → IsOpen id old → IsOpen id new
stays_open follows before = follows.same_hall ∙ before

-- a command that waits is done: its reply is the one that a mark tells
module _ (opening : Opened) (register : List Entry) (desk_states after : List DeskState)
    (answers : List HeldAnswer) (output : List ℕ) (place : ℕ) where
  pub fill_told : (mark : Mark) (command : Command) (reply : Reply) (book later : Book) (more : ℕ)
      → FirstIs place command answers → get_or (map book_at desk_states) place None ≡ Some book
      → (reply, later) ≡ step book command mark.0 → more ≡ asks command reply mark.1
      → map book_at after ≡ set (map book_at desk_states) place (Some later)
      → weigh asked_at after ≡ weigh asked_at desk_states + more
      → (text : List ℕ) (written now : Option (List ℕ))
      → TellsParts opening register desk_states answers output text written now
      → TellsParts opening register after (filled place reply answers) output text written now
  fill_told mark command reply book later more first found stepped count books asked text written now told marks =
      let done = reckon_filled place mark command reply book later more marks (before_held desk_states output) answers
      first found stepped count in
      let start : before_held after output ≡ put_at place (Some later) more (before_held desk_states output) =
      ap (λ (bs : List (Option Book)). record { books = bs; text = output; asked = weigh asked_at after }) books
      ∙ ap (λ (n : ℕ). record {
        books = set (map book_at desk_states) place (Some later);
        text = output;
        asked = n;
      }) asked in
      subst (λ (r : Reckoned). TellsReckoned opening register r text written now)
      (sym (ap (λ (r : Reckoned). reckon marks r (filled place reply answers)) start ∙ done.1))
      (told done.0)

  -- a round is requested, or nothing changes
  pub same_told : map book_at after ≡ map book_at desk_states → weigh asked_at after ≡ weigh asked_at desk_states
      → (text : List ℕ) (written now : Option (List ℕ))
      → TellsParts opening register desk_states answers output text written now
      → TellsParts opening register after answers output text written now
  same_told books asked text written now told marks =
      let start : before_held desk_states output ≡ before_held after output =
      ap (λ (bs : List (Option Book)). record { books = bs; text = output; asked = weigh asked_at desk_states })
      (sym books)
      ∙ ap (λ (n : ℕ). record { books = map book_at after; text = output; asked = n }) (sym asked) in
      subst (λ (r : Reckoned). TellsReckoned opening register (reckon marks r answers) text written now) start
      (told marks)

-- the service, once what stands at one place changed
pub record Moved (old new : ServingIs) : Type 0 where
  pub stands : Stands new
  pub follows : Follows old new
  pub keeps : Keeps old new

module _ (queue : QueueId) (register : List Entry) (desk_states : List DeskState) (held : HeldIs) (place : ℕ)
    (before last default : DeskState) (stands : Stands (serving_is queue register desk_states held))
    (low : place < most_places) (at : before ≡ get_or desk_states place default) where
  pub within : place < length desk_states
  within = omega (arith, stands.desk_states.long)

  pub here : DeskStateIs queue place held.answers before
  here = subst (DeskStateIs queue place held.answers) (sym at) (stands.desk_states.each place default low)

  moved : (later : List HeldAnswer) → desk_state_counts last ≡ desk_state_counts before
      → DeskStateIs queue place later last
      → ((other : ℕ) (desk_state : DeskState) → other ≢ place → DeskStateIs queue other held.answers desk_state
      → DeskStateIs queue other later desk_state)
      → ArePlaced later → length later ≡ length held.answers
      → ((opening : Opened) (text : List ℕ) (written now : Option (List ℕ))
      → TellsParts opening register desk_states held.answers held.output text written now
      → TellsParts opening register (set desk_states place last) later held.output text written now)
      → Moved (serving_is queue register desk_states held)
      (serving_is queue register (set desk_states place last) (held_is later held.output))
  moved later counts is others placed long tells = record {
    stands = record {
      desk_states = desk_states_set desk_states place before last default within at queue held.answers later
          stands.desk_states is others;
      fits = map-set_same desk_state_counts desk_states place last default (counts ∙ ap desk_state_counts at)
          ∙ stands.fits;
      placed = placed;
    };
    follows = record { same_hall = refl; same_register = refl; fewer = omega (arith, long) };
    keeps = tells;
  }

  -- a command that waits is done
  filled_moves : (mark : Mark) (command : Command) (reply : Reply) (book later : Book) (more : ℕ)
      → FirstIs place command held.answers → book_at before ≡ Some book
      → (reply, later) ≡ step book command mark.0 → more ≡ asks command reply mark.1
      → desk_state_counts last ≡ desk_state_counts before → book_at last ≡ Some later
      → asked_at last ≡ asked_at before + more → DeskStateIs queue place (filled place reply held.answers) last
      → Moved (serving_is queue register desk_states held)
      (serving_is queue register (set desk_states place last)
      (held_is (filled place reply held.answers) held.output))
  filled_moves mark command reply book later more first found stepped count counts books asked is =
      let sums : weigh asked_at (set desk_states place last) ≡ weigh asked_at desk_states + more =
      omega (arith, asked_set desk_states place before last default within at, asked) in
      moved (filled place reply held.answers) counts is
      (λ other desk_state differ was.
      desk_state_other queue place other command reply held.answers desk_state first differ was)
      (placed_filled place reply held.answers stands.placed) (length_filled place reply held.answers)
      (λ opening text written now told.
      fill_told opening register desk_states (set desk_states place last) held.answers held.output place mark command
      reply book later more first (book_here desk_states place before last default within at None ∙ found) stepped
      count
      (books_set desk_states place before last default within at
      ∙ ap (set (map book_at desk_states) place) books) sums text written now told)

  -- none is, and the books are as they were
  same_moves : desk_state_counts last ≡ desk_state_counts before → book_at last ≡ book_at before
      → asked_at last ≡ asked_at before → DeskStateIs queue place held.answers last
      → Moved (serving_is queue register desk_states held)
      (serving_is queue register (set desk_states place last) (held_is held.answers held.output))
  same_moves counts books asked is =
      let sums : weigh asked_at (set desk_states place last) ≡ weigh asked_at desk_states =
      omega (arith, asked_set desk_states place before last default within at, asked) in
      moved held.answers counts is (λ other desk_state differ was. was) stands.placed refl
      (λ opening text written now told.
      same_told opening register desk_states (set desk_states place last) held.answers held.output place
      (books_same desk_states place before last default within at books) sums text written now told)

-- a desk came back
came : (queue : QueueId) (register : List Entry) (desk_states : List DeskState) (held : HeldIs) (place : ℕ)
    (asked desk : DeskIs) (waits : Bool) (default : DeskState) (reply : Reply)
    → Stands (serving_is queue register desk_states held) → place < most_places
    → Away asked ≡ get_or desk_states place default → IsStep asked Round reply desk → waits ≡ true
    → Moved (serving_is queue register desk_states held)
    (serving_is queue register (set desk_states place (Home desk waits))
    (held_is (filled place reply held.answers) held.output))
came queue register desk_states held place asked desk waits default reply stands low at step waiting =
    let is : IsAskedAt queue place held.answers asked =
    here queue register desk_states held place (Away asked) (Home desk waits) default stands low at in
    let put : desk.put ≡ asked.put = ap (λ (d : DeskIs). d.put) step.same_desk in
    filled_moves queue register desk_states held place (Away asked) (Home desk waits) default stands low at
    (is_memory reply, true) Round reply asked.book desk.book 1 is.first refl step.stepped
    (round_asks asked.book (is_memory reply) is.left
    ∙ ap (λ (p : Reply × Book). asks Round p.0 true) (sym step.stepped))
    (ap (λ (d : DeskIs). (true, d.admissions)) step.same_desk) refl (omega (arith, put, is.some)) (
      ap (λ (d : DeskIs). d.queue) step.same_desk ∙ is.queue_is,
      ap (λ (d : DeskIs). d.place) step.same_desk ∙ is.place_is,
      λ none. absurd (let both : true ≡ false = sym waiting ∙ none in cc),
    )

pub came_back : (queue : QueueId) (register : List Entry) (desk_states : List DeskState) (held : HeldIs) (place : ℕ)
    (before last default : DeskState) (reply : Reply) → Stands (serving_is queue register desk_states held)
    → place < most_places
    → before ≡ get_or desk_states place default → IsTurned before last (Some reply)
    → Moved (serving_is queue register desk_states held)
    (serving_is queue register (set desk_states place last) (held_is (filled place reply held.answers) held.output))
came_back queue register desk_states held place (Away asked) (Home desk waits) default reply stands low at turn =
    came queue register desk_states held place asked desk waits default reply stands low at turn.0 turn.1
came_back queue register desk_states held place (Away asked) (Away other) default reply stands low at turn = absurd turn
came_back queue register desk_states held place (Away asked) (Empty other) default reply stands low at turn =
    absurd turn
came_back queue register desk_states held place (Away asked) Gone default reply stands low at turn = absurd turn
came_back queue register desk_states held place (Home desk waits) last default reply stands low at turn = absurd turn
came_back queue register desk_states held place (Empty empty) last default reply stands low at turn = absurd turn
came_back queue register desk_states held place Gone last default reply stands low at turn = absurd turn

-- and where none came
pub stayed_away : (desk_states : List DeskState) (place : ℕ) (before last default : DeskState)
    → before ≡ get_or desk_states place default
    → IsTurned before last None → set desk_states place last ≡ desk_states
stayed_away desk_states place before last default at same =
    ap (set desk_states place) (same ∙ at) ∙ set-get_or desk_states place default

-- the desk at home answered the command
answered_moves : (queue : QueueId) (register : List Entry) (desk_states : List DeskState) (held : HeldIs) (place : ℕ)
    (desk after : DeskIs) (waits still : Bool) (default : DeskState) (command : Command) (reply : Reply)
    → Stands (serving_is queue register desk_states held) → place < most_places
    → Home desk waits ≡ get_or desk_states place default → FirstIs place command held.answers
    → (still ≡ false → NoneWaits place (filled place reply held.answers))
    → Answered desk command after reply
    → Moved (serving_is queue register desk_states held)
    (serving_is queue register (set desk_states place (Home after still))
    (held_is (filled place reply held.answers) held.output))
answered_moves queue register desk_states held place desk after waits still default command reply stands low at first
    none a =
    let is = here queue register desk_states held place (Home desk waits) (Home after still) default stands low at in
    let put : after.put ≡ desk.put = ap (λ (d : DeskIs). d.put) a.stepped.same_desk in
    filled_moves queue register desk_states held place (Home desk waits) (Home after still) default stands low at
    (is_memory reply, false) command reply desk.book after.book 0 first refl a.stepped.stepped
    (answered_asks command reply a.why)
    (ap (λ (d : DeskIs). (true, d.admissions)) a.stepped.same_desk) refl (omega (arith, put)) (
      ap (λ (d : DeskIs). d.queue) a.stepped.same_desk ∙ is.0,
      ap (λ (d : DeskIs). d.place) a.stepped.same_desk ∙ is.1,
      none,
    )

-- or asked for the round
went_moves : (queue : QueueId) (register : List Entry) (desk_states : List DeskState) (held : HeldIs) (place : ℕ)
    (desk asked : DeskIs) (waits : Bool) (default : DeskState) (command : Command)
    → Stands (serving_is queue register desk_states held) → place < most_places
    → Home desk waits ≡ get_or desk_states place default → FirstIs place command held.answers → Went desk command asked
    → Moved (serving_is queue register desk_states held)
    (serving_is queue register (set desk_states place (Away asked)) (held_is held.answers held.output))
went_moves queue register desk_states held place desk asked waits default command stands low at first w =
    let is = here queue register desk_states held place (Home desk waits) (Away asked) default stands low at in
    let put : asked.put ≡ desk.put + 1 = ap (λ (d : DeskIs). d.put) w.asked_is in
    let book : asked.book ≡ desk.book = ap (λ (d : DeskIs). d.book) w.asked_is in
    same_moves queue register desk_states held place (Home desk waits) (Away asked) default stands low at
    (ap (λ (d : DeskIs). (true, d.admissions)) w.asked_is) (ap Some book) (omega (arith, put))
    (record {
      queue_is = ap (λ (d : DeskIs). d.queue) w.asked_is ∙ is.0;
      place_is = ap (λ (d : DeskIs). d.place) w.asked_is ∙ is.1;
      some = omega (arith, put);
      left = subst (λ (b : Book). b.given < b.rows.limits.life) (sym book) w.left;
      first = subst (λ (c : Command). FirstIs place c held.answers) w.round first;
    })

-- what a command that waits makes of the service
module _ (queue : QueueId) (register : List Entry) (desk_states : List DeskState) (held : HeldIs) (place : ℕ)
    (default : DeskState) (command : Command) (stands : Stands (serving_is queue register desk_states held))
    (low : place < most_places) (first : FirstIs place command held.answers) where
  pub given_moves : (before last : DeskState) (reply : Reply) → before ≡ get_or desk_states place default
      → IsTakenAt before command last (Some reply)
      → Moved (serving_is queue register desk_states held)
      (serving_is queue register (set desk_states place last)
      (held_is (filled place reply held.answers) held.output))
  given_moves (Home desk waits) (Home after still) reply at taken =
      let is = here queue register desk_states held place (Home desk waits) (Home after still) default stands low at in
      answered_moves queue register desk_states held place desk after waits still default command reply stands low at
      first (λ none. not_none place command held.answers first (is.2 (sym taken.1 ∙ none))) taken.0
  given_moves (Home desk waits) (Away asked) reply at taken = absurd taken
  given_moves (Home desk waits) (Empty empty) reply at taken = absurd taken
  given_moves (Home desk waits) Gone reply at taken = absurd taken
  given_moves (Away asked) last reply at taken = absurd taken
  given_moves (Empty empty) last reply at taken = absurd taken
  given_moves Gone last reply at taken = absurd taken

  pub asked_moves : (before last : DeskState) → before ≡ get_or desk_states place default
      → IsTakenAt before command last None
      → Moved (serving_is queue register desk_states held)
      (serving_is queue register (set desk_states place last) (held_is held.answers held.output))
  asked_moves (Home desk waits) (Home after still) at taken = absurd taken
  asked_moves (Home desk waits) (Away asked) at taken =
      went_moves queue register desk_states held place desk asked waits default command stands low at first taken
  asked_moves (Home desk waits) (Empty empty) at taken = absurd taken
  asked_moves (Home desk waits) Gone at taken = absurd taken
  asked_moves (Away asked) last at taken = absurd taken
  asked_moves (Empty empty) last at taken = absurd taken
  asked_moves Gone last at taken = absurd taken

-- a desk that answered is home
pub answered_home : (before last : DeskState) (command : Command) (reply : Reply)
    → IsTakenAt before command last (Some reply) → IsHome last
answered_home (Home desk waits) (Home after still) command reply taken = tt
answered_home (Home desk waits) (Away asked) command reply taken = absurd taken
answered_home (Home desk waits) (Empty empty) command reply taken = absurd taken
answered_home (Home desk waits) Gone command reply taken = absurd taken
answered_home (Away asked) last command reply taken = absurd taken
answered_home (Empty empty) last command reply taken = absurd taken
answered_home Gone last command reply taken = absurd taken

-- no command waits for the place any longer
pub settled_moves : (queue : QueueId) (register : List Entry) (desk_states : List DeskState) (held : HeldIs) (place : ℕ)
    (before default : DeskState) → Stands (serving_is queue register desk_states held) → place < most_places
    → before ≡ get_or desk_states place default → NoneWaits place held.answers
    → Moved (serving_is queue register desk_states held)
    (serving_is queue register (set desk_states place (with_waiting false before)) (held_is held.answers held.output))
settled_moves queue register desk_states held place (Home desk waits) default stands low at none =
    let is = here queue register desk_states held place (Home desk waits) (Home desk false) default stands low at in
    same_moves queue register desk_states held place (Home desk waits) (Home desk false) default stands low at refl refl
    refl (is.0, is.1, λ same. none)
settled_moves queue register desk_states held place (Away asked) default stands low at none =
    same_moves queue register desk_states held place (Away asked) (Away asked) default stands low at refl refl refl
    (here queue register desk_states held place (Away asked) (Away asked) default stands low at)
settled_moves queue register desk_states held place (Empty empty) default stands low at none =
    same_moves queue register desk_states held place (Empty empty) (Empty empty) default stands low at refl refl refl
    (here queue register desk_states held place (Empty empty) (Empty empty) default stands low at)
settled_moves queue register desk_states held place Gone default stands low at none =
    absurd (here queue register desk_states held place Gone Gone default stands low at)

-- an answer waits for a round that is away
pub round_waits : (queue : QueueId) (register : List Entry) (desk_states : List DeskState) (held : HeldIs) (place : ℕ)
    (before default : DeskState) → Stands (serving_is queue register desk_states held) → place < most_places
    → before ≡ get_or desk_states place default → IsAway before → FirstIs place Round held.answers
round_waits queue register desk_states held place (Away asked) default stands low at away =
    let is : IsAskedAt queue place held.answers asked =
    here queue register desk_states held place (Away asked) (Away asked) default stands low at in is.first
round_waits queue register desk_states held place (Home desk waits) default stands low at away = absurd away
round_waits queue register desk_states held place (Empty empty) default stands low at away = absurd away
round_waits queue register desk_states held place Gone default stands low at away = absurd away
