use Rattle.std.proofs.Common.{List, length, ap, ◌∙◌, arith}
use Rattle.firm_sequence.specs.Items.{Items}
use Rattle.firm_sequence.specs.Kept.{kept}
use Rattle.firm_sequence.proofs.KeptItems.{kept-push, gaps-more}
use Rattle.std.proofs.lemmas.List.{length_push}
use Rattle.std.proofs.Common.{◌++◌, ◌∷◌, []}
use Rattle.firm_sequence.proofs.sequence.Sequence.push.Goals as goal

pub invariant_of-self-2 : goal.invariant_of-self-2
invariant_of-self-2 g c =
    gaps-more c.self.inside.gaps.items 0 (length c.self.inside.slots.items) (length c.push.new.self.items)
    c.self.invariant
    (omega (
      arith,
      ap (λ (l : List g.row.T.Denot). length l) c.in_ok-push.ensures.items,
      length_push c.self.inside.slots.items c.args.item,
    ))

pub returns-clause-ok : goal.returns-clause-ok
returns-clause-ok g c =
    ap (λ (l : List g.row.T.Denot). kept l c.self.inside.gaps.items) c.in_ok-push.ensures.items
    ∙ kept-push c.self.inside.slots.items c.self.inside.gaps.items 0 c.args.item c.self.invariant
    ∙ ap (λ (l : List g.row.T.Denot). l ++ c.args.item ∷ [])
    (ap (λ (v : Items g.row.T.Denot). v.items) c.self.view_is ∙ c.make_room.ensures.items)
