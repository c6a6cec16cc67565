use Rattle.std.proofs.Common.{◌≡◌, ◌∙◌, Ok, ap, codes, refl, sym}
use Rattle.std.specs.Prelude.{map, unwrap_or}
use Rattle.std.specs.Str.Parse.{ExplainsUnsignedError, HasUnsignedDigitsIfOk, ParsesUnsigned}
use Rattle.clap.proofs.WalkLemmas.{one_text-rows}
use Rattle.clap.specs.Words.{found_of, one_of, without_minus}
use Rattle.firm_program.specs.Laws.{fails_by_faults, finds, finds_value}
use Rattle.firm_words.specs.CommandLine.{command_line}
use Rattle.firm_words.proofs.Options.{reads_number, simple, simple_and_free}
use Rattle.firm_words.proofs.command_line.read.Goals as goal

pub unwrap-workers-requires : goal.unwrap-workers-requires
unwrap-workers-requires g c =
    let m = c.in_ok-matches.matches in
    let has = c.in_ok-command_line.ensures.workers m c.in_ok-matches.ensures.parsed in
    let number = reads_number
    (λ bs r. ParsesUnsigned 8 10 bs r × ExplainsUnsignedError 10 bs r × HasUnsignedDigitsIfOk bs r) (λ u x read. read.0)
    m has c.get_one.result (c.get_one.ensures.value (without_minus has.text) has.read) in
    rw number.is refl

pub returns-clause-faults : goal.returns-clause-faults
returns-clause-faults g c =
    fails_by_faults command_line simple_and_free c.in_ok-command_line.field-0 c.in_ok-command_line.ensures.app _
    (Ok c.in_ok-matches.matches) c.in_ok-matches.ensures.kinds

pub returns-clause-given : goal.returns-clause-given
returns-clause-given g c =
    let m = c.in_ok-matches.matches in
    let has = c.in_ok-command_line.ensures.workers m c.in_ok-matches.ensures.parsed in
    let number = reads_number
    (λ bs r. ParsesUnsigned 8 10 bs r × ExplainsUnsignedError 10 bs r × HasUnsignedDigitsIfOk bs r) (λ u x read. read.0)
    m has c.get_one.result (c.get_one.ensures.value (without_minus has.text) has.read) in
    let words = map g.S.AsStr.text c.args.words.now in
    let found = finds command_line simple c.in_ok-command_line.field-0 c.in_ok-command_line.ensures.app words m
    c.in_ok-matches.ensures.matches in
    let workers : c.from.result ≡ number.number =
    c.from.ensures ∙ ap (λ o. unwrap_or o 0) (sym c.unwrap-workers.ensures ∙ number.is) in
    record {
      paths = record {
        roster_path =
            finds_value command_line words m (codes "roster") c.get_str-roster.result found c.get_str-roster.ensures;
        state_path =
            finds_value command_line words m (codes "state") c.get_str-state.result found c.get_str-state.ensures;
      };
      text = without_minus has.text;
      found = ap (one_of (codes "workers")) (sym found)
          ∙ (sym (one_text-rows (found_of m) (codes "workers")) ∙ has.read);
      numeral = number.numeral;
      number = workers ∙ number.value;
      least = rw workers number.least;
      most = rw workers number.most;
    }
