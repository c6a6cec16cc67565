-- The bytes written before the first line and at the last flush.
use Rattle.std.proofs.Common.{ℕ, List, [], length, refl, sym, subst}
use Rattle.std.specs.Prelude.{Option}
use Rattle.std.specs.Io.KnownBytes.{Appends, Keeps}
use Rattle.std.proofs.KnownBytes.{Appends-nil, Appends-kept}
use Rattle.std.proofs.Math.Seq.{take-length}
use Rattle.firm_table.specs.Output.{output_from}
use Rattle.firm_table.specs.Opened.{Opened}
use Rattle.firm_table.specs.Service.{AnswersFrom, BeginsAnswersFrom}

-- nothing was read, and nothing written
pub nothing_written : (opened : Opened) (written : Option (List ℕ)) → BeginsAnswersFrom opened [] written written
nothing_written opened written = record {
  lines = [];
  are_lines = record { each = refl; marks = refl };
  count = 0;
  wrote = Appends-nil written;
}

-- all was written, and what came then wrote nothing
pub all_written : (opened : Opened) (input : List ℕ) (written now later : Option (List ℕ))
    → AnswersFrom opened input written now → Keeps now later → BeginsAnswersFrom opened input written later
all_written opened input written now later a kept = record {
  lines = a.lines;
  are_lines = a.are_lines;
  count = length (output_from opened.places a.lines);
  wrote =
      subst (Appends written later) (sym (take-length (output_from opened.places a.lines)))
      (Appends-kept written now later _ a.wrote kept);
}

pub answers_kept : (opened : Opened) (input : List ℕ) (written now later : Option (List ℕ))
    → AnswersFrom opened input written now → Keeps now later → AnswersFrom opened input written later
answers_kept opened input written now later a kept = record {
  lines = a.lines;
  are_lines = a.are_lines;
  wrote = Appends-kept written now later _ a.wrote kept;
}
