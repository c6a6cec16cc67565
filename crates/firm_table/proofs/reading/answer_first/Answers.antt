use Rattle.std.proofs.Common.{◌≡◌, ◌∙◌, refl, rules, sym, ap, take, drop, List, ℕ, [], ◌∷◌, ◌++◌, append-nil, true}
use Rattle.std.proofs.lemmas.List.{append_cancel_right, take-append-drop}
use Rattle.std.specs.List.{position_or_len}
use Rattle.firm_text.specs.declared.headings.Heading.{Heading}
use Rattle.firm_text.specs.Lines.{is_line_feed}
use Rattle.firm_table.proofs.Pieces.{cut_at, both_ended, ended_more, halts_at, input_more, taken_line}
use Rattle.firm_table.proofs.reading.answer_first.Goals as goal

pub returns-in-Err-clause-halted : goal.returns-in-Err-clause-halted
returns-in-Err-clause-halted g c =
    let heading : Heading = (g.C.Clerk.opening c.args.clerk.now).heading in
    let bytes : List ℕ = take (position_or_len is_line_feed c.args.piece.now) c.args.piece.now in
    let ended : c.feed-fed.result.ended ≡ true = search rules in
    let behind : drop c.feed-fed.result.used c.args.piece.now ≡ c.split_at.result.1.now = cc in
    let whole : c.args.piece.now ≡ (bytes ++ 10 ∷ []) ++ c.split_at.result.1.now =
    cut_at c.args.piece.now c.feed-fed.result.used (sym c.feed-fed.ensures.ended ∙ ended) c.feed-fed.ensures.used
    ∙ ap (λ (l : List ℕ). (bytes ++ 10 ∷ []) ++ l) behind in
    λ heard written h.
    let stands = c.feed-fed.ensures.stands h.rest h.stands in
    halts_at (g.C.Clerk.opening c.args.clerk.now) heard h.text h.rest bytes c.args.piece.now c.split_at.result.1.now
    written _ h.both whole
    (ended_more h.text (h.rest ++ bytes) h.ended stands.in_line).ends
    (c.in-Err.ensures.begins h.text (h.text ++ ((h.rest ++ bytes) ++ 10 ∷ [])) written
    (input_more heading h.text (h.rest ++ bytes) h.ended stands.in_line
    ∙ taken_line heading c.heading.result h.text (h.rest ++ bytes) c.take_under-line.result c.heading.ensures
    (c.take_under-line.ensures.line (h.rest ++ bytes) stands))
    h.told)

pub returns-in-Ok-clause-heard : goal.returns-in-Ok-clause-heard
returns-in-Ok-clause-heard g c heard front written cut h =
    let heading : Heading = (g.C.Clerk.opening c.args.clerk.now).heading in
    let bytes : List ℕ = take (position_or_len is_line_feed c.args.piece.now) c.args.piece.now in
    let ended : c.feed-fed.result.ended ≡ true = search rules in
    let behind : drop c.feed-fed.result.used c.args.piece.now ≡ c.split_at.result.1.now = cc in
    let whole : c.args.piece.now ≡ (bytes ++ 10 ∷ []) ++ c.split_at.result.1.now =
    cut_at c.args.piece.now c.feed-fed.result.used (sym c.feed-fed.ensures.ended ∙ ended) c.feed-fed.ensures.used
    ∙ ap (λ (l : List ℕ). (bytes ++ 10 ∷ []) ++ l) behind in
    let same : front ≡ bytes ++ 10 ∷ [] =
    append_cancel_right front (bytes ++ 10 ∷ []) c.split_at.result.1.now (sym cut ∙ whole) in
    let stands = c.feed-fed.ensures.stands h.rest h.stands in
    record {
      text = h.text ++ ((h.rest ++ bytes) ++ 10 ∷ []);
      rest = [];
      both = both_ended heard h.text h.rest bytes front h.both same ∙ sym (append-nil _);
      ended = ended_more h.text (h.rest ++ bytes) h.ended stands.in_line;
      stands = c.take_under-line.ensures.stands;
      told = c.in-Ok.ensures.told h.text (h.text ++ ((h.rest ++ bytes) ++ 10 ∷ [])) written
          (input_more heading h.text (h.rest ++ bytes) h.ended stands.in_line
          ∙ taken_line heading c.heading.result h.text (h.rest ++ bytes) c.take_under-line.result c.heading.ensures
          (c.take_under-line.ensures.line (h.rest ++ bytes) stands))
          h.told;
    }

pub returns-in-Err-clause-part : goal.returns-in-Err-clause-part
returns-in-Err-clause-part g c = tt

pub returns-in-Err-clause-shorter : goal.returns-in-Err-clause-shorter
returns-in-Err-clause-shorter g c = tt

pub returns-in-Err-clause-heard : goal.returns-in-Err-clause-heard
returns-in-Err-clause-heard g c = tt

pub returns-in-Err-clause-cut : goal.returns-in-Err-clause-cut
returns-in-Err-clause-cut g c = tt

pub returns-in-Err-clause-well : goal.returns-in-Err-clause-well
returns-in-Err-clause-well g c = tt

pub returns-in-Err-clause-cause : goal.returns-in-Err-clause-cause
returns-in-Err-clause-cause g c =
    c.in-Err.ensures.cause

pub returns-in-Ok-clause-halted : goal.returns-in-Ok-clause-halted
returns-in-Ok-clause-halted g c = tt

pub returns-in-Ok-clause-cause : goal.returns-in-Ok-clause-cause
returns-in-Ok-clause-cause g c = tt

pub returns-then-not-fed-clause-halted : goal.returns-then-not-fed-clause-halted
returns-then-not-fed-clause-halted g c = tt

pub returns-then-not-fed-clause-cause : goal.returns-then-not-fed-clause-cause
returns-then-not-fed-clause-cause g c = tt

pub returns-then-not-fed-clause-part : goal.returns-then-not-fed-clause-part
returns-then-not-fed-clause-part g c = (
  c.split_at.result.0.now,
  rw (c.split_at.ensures.front, c.split_at.ensures.back)
      (sym (take-append-drop c.feed-fed.result.used c.args.piece.now)),
)

pub returns-in-Ok-clause-part : goal.returns-in-Ok-clause-part
returns-in-Ok-clause-part g c = (
  c.split_at.result.0.now,
  rw (c.split_at.ensures.front, c.split_at.ensures.back)
      (sym (take-append-drop c.feed-fed.result.used c.args.piece.now)),
)

pub returns-then-not-fed-clause-open : goal.returns-then-not-fed-clause-open
returns-then-not-fed-clause-open g c = c.requires.open

pub returns-then-not-fed-clause-opening : goal.returns-then-not-fed-clause-opening
returns-then-not-fed-clause-opening g c = refl

pub returns-then-not-fed-clause-kept : goal.returns-then-not-fed-clause-kept
returns-then-not-fed-clause-kept g c = refl

pub returns-then-not-fed-clause-well : goal.returns-then-not-fed-clause-well
returns-then-not-fed-clause-well g c = c.requires.writer

pub returns-in-Ok-clause-open : goal.returns-in-Ok-clause-open
returns-in-Ok-clause-open g c = c.in-Ok.ensures.open

pub returns-in-Ok-clause-opening : goal.returns-in-Ok-clause-opening
returns-in-Ok-clause-opening g c = c.in-Ok.ensures.opening

pub returns-in-Ok-clause-kept : goal.returns-in-Ok-clause-kept
returns-in-Ok-clause-kept g c = c.in-Ok.ensures.kept

pub returns-in-Ok-clause-well : goal.returns-in-Ok-clause-well
returns-in-Ok-clause-well g c = c.in-Ok.ensures.well

pub returns-in-Err-clause-open : goal.returns-in-Err-clause-open
returns-in-Err-clause-open g c = c.in-Err.ensures.open

pub returns-in-Err-clause-opening : goal.returns-in-Err-clause-opening
returns-in-Err-clause-opening g c = c.in-Err.ensures.opening

pub returns-in-Err-clause-kept : goal.returns-in-Err-clause-kept
returns-in-Err-clause-kept g c = c.in-Err.ensures.kept
