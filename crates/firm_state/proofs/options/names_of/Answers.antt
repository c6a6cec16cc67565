use Rattle.std.proofs.Common.{◌≡◌, ◌∙◌, [], ℕ, List, refl, sym}
use Rattle.std.specs.Prelude.{Option, Some, None}
use Rattle.std.specs.Borrow.{Bor}
use Rattle.std.proofs.lemmas.List.{get_or-map}
use Rattle.firm_rules.specs.Names.{name_of}
use Rattle.firm_state.proofs.Naming.{no_name_at, one_more}
use Rattle.firm_state.specs.CommandLine.{NotAName}
use Rattle.firm_state.proofs.options.names_of.Goals as goal

pub returns-in_default : goal.returns-in_default
returns-in_default c =
    let bytes = c.as_bytes.result.now in
    let none : ◌≡◌ {A = Option (List ℕ)} None (name_of bytes) = cc (c.in_default.is, c.read.ensures) in
    NotAName (no_name_at c.args.words.now c.loop-word.word-index bytes c.loop-word-test.true
    (c.as_bytes.ensures.value
    ∙ sym (get_or-map (λ (w : Bor (List ℕ)). w.now) c.args.words.now c.loop-word.word-index _ [] c.loop-word-test.true))
    none) refl

pub loop-word-preserved : goal.loop-word-preserved
loop-word-preserved c =
    let bytes = c.as_bytes.result.now in
    let some : Some c.in-Some.name ≡ name_of bytes = cc (c.in-Some.is, c.read.ensures) in
    one_more c.args.words.now c.loop-word.word-index bytes c.loop-word.names.items c.push.new.self.items c.in-Some.name
    c.loop-word-test.true
    (c.as_bytes.ensures.value
    ∙ sym (get_or-map (λ (w : Bor (List ℕ)). w.now) c.args.words.now c.loop-word.word-index _ [] c.loop-word-test.true))
    some c.loop-word.invariant c.in_ok-push.ensures.items
