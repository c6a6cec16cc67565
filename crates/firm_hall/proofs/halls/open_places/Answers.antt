use Rattle.std.proofs.Common.{◌≡◌, List, All, length, sym, ap, ◌∙◌, subst, arith}
use Rattle.std.proofs.lemmas.List.{length-take-le}
use Rattle.std.proofs.lemmas.List.Elements.{All-take, All-drop}
use Rattle.firm_rounds.specs.Passes.{PutIs}
use Rattle.firm_hall.proofs.Opening.{front_of, rest_of}
use Rattle.firm_hall.proofs.halls.open_places.Goals as goal

pub split_off-requires : goal.split_off-requires
split_off-requires c = omega (arith, c.len.ensures.length, c.requires.count, c.args.passes.ok.0)

pub open_empty-requires : goal.open_empty-requires
open_empty-requires c =
    subst (All (λ (p : PutIs). p.put ≡ 0)) (sym c.in_ok-rest.ensures.tail)
    (All-drop (λ (p : PutIs). p.put ≡ 0) c.len.result c.args.passes.items c.requires.unused)

pub open_desks-requires-clause-count : goal.open_desks-requires-clause-count
open_desks-requires-clause-count c =
    ap (λ (ps : List PutIs). length ps) c.in_ok-rest.ensures.items
    ∙ length-take-le c.len.result c.args.passes.items (omega (arith, c.len.ensures.length, c.requires.count))
    ∙ c.len.ensures.length

pub open_desks-requires-clause-unused : goal.open_desks-requires-clause-unused
open_desks-requires-clause-unused c =
    subst (All (λ (p : PutIs). p.put ≡ 0)) (sym c.in_ok-rest.ensures.items)
    (All-take (λ (p : PutIs). p.put ≡ 0) c.len.result c.args.passes.items c.requires.unused)

pub returns-clause-desks : goal.returns-clause-desks
returns-clause-desks c id places low all =
    c.in_ok-desks.ensures id (front_of id (length c.args.roster.now.rows) places c.len.result c.args.passes.items
    c.split_off.new.self.items c.len.ensures.length low all c.in_ok-rest.ensures.items)

pub returns-clause-empty : goal.returns-clause-empty
returns-clause-empty c id places low all =
    c.in_ok-empty.ensures
    ∙ rest_of id (length c.args.roster.now.rows) places c.len.result c.args.passes.items c.in_ok-rest.rest.items
    c.len.ensures.length low all c.in_ok-rest.ensures.tail
