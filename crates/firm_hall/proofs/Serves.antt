-- The result of serving.
use Rattle.std.proofs.Common.{◌≡◌, ℕ, zero, suc, List, [], ◌∷◌, ◌++◌, length, refl, sym, ap, subst, ◌∙◌, append-nil}
use Rattle.std.proofs.Common.{length-append, arith, inl}
use Rattle.std.specs.Prelude.{Bool, false, Option}
use Rattle.std.specs.Io.KnownBytes.{Appends}
use Rattle.std.proofs.KnownBytes.{Appends-nil, Appends-kept, Consumes-nil}
use Rattle.firm_table.specs.Opened.{Opened}
use Rattle.firm_text.specs.declared.registers.Entry.{Entry}
use Rattle.firm_table.specs.Output.{output_from}
use Rattle.firm_table.specs.Service.{Device, device, ServedFrom, StoppedFrom}
use Rattle.firm_table.specs.Telling.{ToldToTheEnd}
use Rattle.firm_table.specs.declared.faults.ServeFault.TheVariants.{Memory}
use Rattle.firm_rounds.specs.Rounds.{weigh}
use Rattle.firm_rounds.specs.Passes.{QueueId, pop_is, new_pops}
use Rattle.firm_hall.specs.Counts.{ServedWithFrom}
use Rattle.firm_hall.specs.inner.Reckoned.{Mark, reckon}
use Rattle.firm_hall.specs.inner.Serving.{TellsParts, TellsReckoned, asked_at, before_held}
use Rattle.firm_hall.specs.declared.desk_states.DeskState.{DeskState}
use Rattle.firm_held.specs.declared.held.HeldAnswer.{HeldAnswer}

-- nothing was read yet
pub unread : (opening : Opened) (most : ℕ) (left written : Option (List ℕ)) (read_failed write_failed : Bool)
    → read_failed ≡ false → write_failed ≡ false
    → StoppedFrom opening most (device left left read_failed) (device written written write_failed) Memory
unread opening most left written read_failed write_failed reads writes = record {
  answered = [];
  rest = [];
  read = Consumes-nil left;
  whole = inl (λ some. absurd (omega arith));
  cause = (reads, writes);
  begins = record {
    lines = [];
    are_lines = record { each = refl; marks = refl };
    count = 0;
    wrote =
        Appends-nil written;
  };
}

-- all was read, and nothing is still to be written
pub served_with : (opening : Opened) (register : List Entry) (desk_states : List DeskState)
    (answers : List HeldAnswer)
    (output : List ℕ) (most : ℕ) (reader writer : Device) → answers ≡ [] → output ≡ []
    → ToldToTheEnd (TellsParts opening register desk_states answers output) most reader writer
    → ServedFrom opening most reader writer → ServedWithFrom opening most reader writer (weigh asked_at desk_states)
served_with opening register desk_states answers output most reader writer none_held none end served =
    let marks : ℕ → Mark = λ at. (false, false) in
    let tells : TellsReckoned opening register (before_held desk_states output) end.input writer.before
    end.told.until =
    subst (λ (xs : List HeldAnswer). TellsReckoned opening register (reckon marks (before_held desk_states output) xs)
    end.input writer.before end.told.until) none_held (end.told.told marks) in
    let t = tells.told in
    let whole : t.sent ≡ output_from opening.places t.lines =
    sym (append-nil t.sent) ∙ ap (λ (l : List ℕ). t.sent ++ l) (sym none) ∙ t.whole in
    let counted = tells.counted in
    record {
      served = record {
        input = end.input;
        read = end.read;
        at_end = end.at_end;
        within = end.within;
        answers = record {
          lines = t.lines;
          are_lines = t.are_lines;
          wrote = Appends-kept writer.before end.told.until writer.after (output_from opening.places t.lines)
              (subst (Appends writer.before end.told.until) whole t.wrote) end.told.kept;
        };
        reads = served.reads;
        writes = served.writes;
      };
      counted = counted;
      exact = λ all. omega (arith, counted.least, counted.most, all);
    }

-- the same, of the places that a body knows to be these, and of a count that it knows
pub served_by : (opening own now : Opened) (register : List Entry) (desk_states : List DeskState)
    (answers : List HeldAnswer)
    (output : List ℕ) (most asked : ℕ) (reader writer : Device) → own ≡ opening → now ≡ own
    → asked ≡ weigh asked_at desk_states → answers ≡ [] → output ≡ []
    → ToldToTheEnd (TellsParts now register desk_states answers output) most reader writer
    → ServedFrom own most reader writer
    → ServedWithFrom opening most reader writer asked
served_by opening own now register desk_states answers output most asked reader writer is same all none_held none end
    served =
    let here : ServedWithFrom now most reader writer (weigh asked_at desk_states) =
    served_with now register desk_states answers output most reader writer none_held none end
    (subst (λ (r : Opened). ServedFrom r most reader writer) (sym same) served) in
    subst (λ (r : Opened). ServedWithFrom r most reader writer asked) (same ∙ is)
    (subst (λ (n : ℕ). ServedWithFrom now most reader writer n) (sym all) here)

-- a pass for each worker
pub pops_wide : (id : QueueId) (n : ℕ) → length (new_pops id n) ≡ n
pops_wide id zero = refl
pops_wide id (suc n) = omega (arith, pops_wide id n, length-append (new_pops id n) (pop_is id [] ∷ []))
