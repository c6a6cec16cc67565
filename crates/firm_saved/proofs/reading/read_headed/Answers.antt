use Rattle.std.proofs.Common.{◌≡◌, ◌∙◌, ◌-◌, ℕ, List, Result, Ok, ap, sym, inl, inr, take, drop, length}
use Rattle.std.specs.List.{slice_split}
use Rattle.firm_text.specs.Commands.{◌>>=◌}
use Rattle.firm_text.specs.Lines.{is_line_feed}
use Rattle.firm_text.specs.declared.headings.Heading.{Heading}
use Rattle.firm_saved.specs.Reading.{headed_state}
use Rattle.firm_saved.specs.Saved.{SavedIs, saved_with}
use Rattle.firm_saved.specs.declared.faults.StateFault.{StateFault}
use Rattle.firm_saved.specs.declared.saved.SavedPlace.{SavedPlace}
use Rattle.firm_saved.proofs.Cuts.{behind_mark}
use Rattle.firm_saved.proofs.States.{rows_fit}
use Rattle.firm_saved.proofs.reading.read_headed.Goals as goal

-- the rest behind a line feed
abbrev after : List ℕ → List ℕ
after back = take (length back - 1) (drop 1 back)

-- the state of this heading and of these places, or their fault
abbrev headed : Heading → Result (List SavedPlace) StateFault → Result SavedIs StateFault
headed heading read = read >>= λ places. Ok (saved_with heading places)

pub with_places-requires : goal.with_places-requires
with_places-requires c = record {
  places = c.in-Ok.ensures.sound;
  fit = rows_fit c.args.heading (slice_split is_line_feed (after c.args.behind.now)) c.in-Ok.places
      c.in-Ok.ensures.read;
}

pub returns-in-Ok-clause-read : goal.returns-in-Ok-clause-read
returns-in-Ok-clause-read c =
    ap (headed_state c.args.heading) (behind_mark is_line_feed c.args.behind.now c.in-len1-up.len_at_least)
    ∙ ap (headed c.args.heading) c.in-Ok.ensures.read ∙ ap Ok (sym c.with_places.ensures)

pub returns-in-Err-clause-read : goal.returns-in-Err-clause-read
returns-in-Err-clause-read c =
    elim c.in-Err.ensures.read [
      | inl memory ↦ inl memory
      | inr refused ↦
          inr (ap (headed_state c.args.heading) (behind_mark is_line_feed c.args.behind.now c.in-len1-up.len_at_least)
          ∙ ap (headed c.args.heading) refused)
    ]
