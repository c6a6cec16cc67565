use Rattle.std.proofs.Common.{Bool, ap, inr, length, refl, subst, sym, ◌∙◌, arith}
use Rattle.std.proofs.lemmas.Bool.{false≢true}
use Rattle.firm_paths.specs.Paths.{IsTightPath}
use Rattle.firm_graph.specs.View.{spot_of}
use Rattle.firm_canon.specs.inner.Keys.{key_of}
use Rattle.firm_canon.specs.inner.Turns.{IsLooseAt}
use Rattle.firm_canon.specs.inner.State.{prefix, price, root, view}
use Rattle.firm_canon.specs.declared.choosing.Choosing.{Choosing}
use Rattle.firm_canon.proofs.Ways.{own_bare, own_key, own_spent, own_tail, out_closed, idle_none, flows_at}
use Rattle.firm_canon.proofs.Returns.{round_by, round_back}
use Rattle.firm_canon.proofs.States.{goes_still}
use Rattle.firm_canon.proofs.choosing.Choosing.take.Goals as goal

pub go_round-requires-clause-round : goal.go_round-requires-clause-round
go_round-requires-clause-round c row steps there path =
    let s : Choosing = c.args.self.now in
    round_by (view s) (price s) (prefix s) c.requires.ready.keeps c.requires.next _
    (key_of (length (prefix s)) c.args.arc) c.own_arc-arc.result row steps
    (own_key (view s) (price s) (prefix s) c.requires.ready.keeps c.requires.next c.args.arc c.requires.arc)
    c.own_arc-arc.ensures.value
    (ap (spot_of (view s)) (own_tail (view s) (price s) (prefix s) c.requires.ready.keeps c.requires.next c.args.arc)
    ∙ ap (root (view s) (length (prefix s))) (sym c.if-not-at_hub.true))
    there path

pub returns-then-not-at_hub-clause-spent : goal.returns-then-not-at_hub-clause-spent
returns-then-not-at_hub-clause-spent c e =
    let s : Choosing = c.args.self.now in
    own_spent (view s) (price s) (prefix s) c.requires.ready.keeps c.requires.next c.args.at_hub c.args.arc
    c.requires.arc (c.if-carries.ensures.no refl) c.requires.ways.hub
    (out_closed (view s) (price s) (prefix s) c.requires.ready.keeps c.requires.next c.args.at_hub c.args.arc
    c.own_arc-arc.result c.requires.arc c.own_arc-arc.ensures.value
    (c.go_round.ensures.lost e))

pub returns-then-not-at_hub-clause-bare : goal.returns-then-not-at_hub-clause-bare
returns-then-not-at_hub-clause-bare c e j leads =
    let s : Choosing = c.args.self.now in
    own_bare (view s) (price s) (prefix s) c.requires.ready.keeps c.requires.next c.args.at_hub c.args.arc j
    c.requires.arc leads (c.if-carries.ensures.no refl) c.requires.ways.hub
    (out_closed (view s) (price s) (prefix s) c.requires.ready.keeps c.requires.next c.args.at_hub c.args.arc
    c.own_arc-arc.result c.requires.arc c.own_arc-arc.ensures.value
    (c.go_round.ensures.lost e))

pub returns-then-not-is_tight_arc-clause-spent : goal.returns-then-not-is_tight_arc-clause-spent
returns-then-not-is_tight_arc-clause-spent c e =
    let s : Choosing = c.args.self.now in
    own_spent (view s) (price s) (prefix s) c.requires.ready.keeps c.requires.next c.args.at_hub c.args.arc
    c.requires.arc (c.if-carries.ensures.no refl) c.requires.ways.hub
    (inr (
      c.if-not-at_hub.false,
      subst (IsLooseAt s.graph.now.net (price s)) c.own_arc-wide.ensures.value
          (c.if-not-is_tight_arc.ensures.loose refl),
    ))

pub returns-then-not-is_tight_arc-clause-bare : goal.returns-then-not-is_tight_arc-clause-bare
returns-then-not-is_tight_arc-clause-bare c e j leads =
    let s : Choosing = c.args.self.now in
    own_bare (view s) (price s) (prefix s) c.requires.ready.keeps c.requires.next c.args.at_hub c.args.arc j
    c.requires.arc leads (c.if-carries.ensures.no refl) c.requires.ways.hub
    (inr (
      c.if-not-at_hub.false,
      subst (IsLooseAt s.graph.now.net (price s)) c.own_arc-wide.ensures.value
          (c.if-not-is_tight_arc.ensures.loose refl),
    ))

pub go_round-requires-2-clause-round : goal.go_round-requires-2-clause-round
go_round-requires-2-clause-round c row steps there path =
    let s : Choosing = c.args.self.now in
    round_back (view s) (price s) (prefix s) c.requires.ready.keeps c.requires.next c.args.arc c.own_arc-arc.result
    c.own_arc-wide.result row steps c.requires.arc c.own_arc-arc.ensures.value c.own_arc-wide.ensures.value
    (c.requires.ways.hub c.if-not-at_hub.false) (c.if-not-is_tight_arc.ensures.tight refl) there
    (subst (λ (b : Bool). IsTightPath s.graph.now.net (price s) row.head.id.place (root (view s) (length (prefix s)) b)
    steps) c.if-not-at_hub.false path)

pub returns-clause-spent : goal.returns-clause-spent
returns-clause-spent c e =
    let s : Choosing = c.args.self.now in
    own_spent (view s) (price s) (prefix s) c.requires.ready.keeps c.requires.next c.args.at_hub c.args.arc
    c.requires.arc (c.if-carries.ensures.no refl) c.requires.ways.hub
    (out_closed (view s) (price s) (prefix s) c.requires.ready.keeps c.requires.next c.args.at_hub c.args.arc
    c.own_arc-arc.result c.requires.arc c.own_arc-arc.ensures.value
    (c.go_round-2.ensures.lost e))

pub returns-clause-bare : goal.returns-clause-bare
returns-clause-bare c e j leads =
    let s : Choosing = c.args.self.now in
    own_bare (view s) (price s) (prefix s) c.requires.ready.keeps c.requires.next c.args.at_hub c.args.arc j
    c.requires.arc leads (c.if-carries.ensures.no refl) c.requires.ways.hub
    (out_closed (view s) (price s) (prefix s) c.requires.ready.keeps c.requires.next c.args.at_hub c.args.arc
    c.own_arc-arc.result c.requires.arc c.own_arc-arc.ensures.value
    (c.go_round-2.ensures.lost e))

pub returns-then-carries-clause-goes_on : goal.returns-then-carries-clause-goes_on
returns-then-carries-clause-goes_on c = goes_still c.args.self.now c.requires.ready

pub go_round-requires-clause-idle : goal.go_round-requires-clause-idle
go_round-requires-clause-idle c =
    idle_none (view c.args.self.now) (key_of (length (prefix c.args.self.now)) c.args.arc) c.own_arc-arc.result
    c.own_arc-arc.ensures.value (c.if-carries.ensures.no refl)

pub go_round-requires-2-clause-idle : goal.go_round-requires-2-clause-idle
go_round-requires-2-clause-idle c =
    idle_none (view c.args.self.now) (key_of (length (prefix c.args.self.now)) c.args.arc) c.own_arc-arc.result
    c.own_arc-arc.ensures.value (c.if-carries.ensures.no refl)

pub returns-then-not-is_tight_arc-clause-goes_on : goal.returns-then-not-is_tight_arc-clause-goes_on
returns-then-not-is_tight_arc-clause-goes_on c = goes_still c.args.self.now c.requires.ready

pub returns-then-not-at_hub-clause-yes : goal.returns-then-not-at_hub-clause-yes
returns-then-not-at_hub-clause-yes c e =
    omega (
      arith,
      (c.go_round.ensures.won e).more,
      flows_at (view c.args.self.now) (view c.go_round.new.self) (key_of (length (prefix c.args.self.now)) c.args.arc)
          c.own_arc-arc.result c.go_round.ensures.goes_on.same.case c.own_arc-arc.ensures.value,
    )

pub returns-clause-yes : goal.returns-clause-yes
returns-clause-yes c e =
    omega (
      arith,
      (c.go_round-2.ensures.won e).more,
      flows_at (view c.args.self.now) (view c.go_round-2.new.self) (key_of (length (prefix c.args.self.now)) c.args.arc)
          c.own_arc-arc.result c.go_round-2.ensures.goes_on.same.case c.own_arc-arc.ensures.value,
    )

pub returns-then-carries-clause-yes : goal.returns-then-carries-clause-yes
returns-then-carries-clause-yes c e = omega (arith, c.if-carries.ensures.yes refl)

pub returns-then-not-at_hub-clause-none : goal.returns-then-not-at_hub-clause-none
returns-then-not-at_hub-clause-none c e = c.if-carries.ensures.no refl

pub returns-then-not-is_tight_arc-clause-none : goal.returns-then-not-is_tight_arc-clause-none
returns-then-not-is_tight_arc-clause-none c e = c.if-carries.ensures.no refl

pub returns-clause-none : goal.returns-clause-none
returns-clause-none c e = c.if-carries.ensures.no refl

pub returns-then-carries-clause-spent : goal.returns-then-carries-clause-spent
returns-then-carries-clause-spent c e = absurd (false≢true (sym e))

pub returns-then-carries-clause-bare : goal.returns-then-carries-clause-bare
returns-then-carries-clause-bare c e = absurd (false≢true (sym e))
