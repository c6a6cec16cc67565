use Rattle.std.proofs.Common.{◌≡◌, ◌∙◌, ℕ, ◌≤◌, length, ap, arith, refl, sym, subst, true, ◌<◌}
use Rattle.std.proofs.lemmas.Bool.{false≢true}
use Rattle.firm_net.specs.Net.{Net, IsArc, row_at}
use Rattle.firm_net.specs.declared.row.ArcId.{ArcId}
use Rattle.firm_graph.specs.declared.network.Node.TheVariants.{Hub}
use Rattle.firm_graph.specs.declared.network.Key.{Key}
use Rattle.firm_graph.specs.declared.network.Key.TheVariants.{Through, Wide}
use Rattle.firm_graph.specs.View.{flows, spot_of, flow_of_row}
use Rattle.firm_graph.specs.Graph.{Graph}
use Rattle.firm_graph.specs.Ids.{view_of}
use Rattle.firm_canon.specs.inner.Choosing.{IsSpent, best}
use Rattle.firm_canon.specs.inner.Placed.{guests}
use Rattle.firm_canon.specs.inner.State.{prefix, price, view, HasWaysBack}
use Rattle.firm_canon.specs.declared.choosing.Choosing.{Choosing}
use Rattle.firm_canon.proofs.Tries.{there_at, flow_is, low_is}
use Rattle.firm_canon.proofs.Choices.{through_held}
use Rattle.firm_canon.proofs.Ways.{closed_at, flows_at, through_spent, through_tail, wide_full, idle_read}
use Rattle.firm_canon.proofs.Returns.{round_by}
use Rattle.firm_canon.proofs.States.{still_on, goes_more, goes_still, case_on}
use Rattle.firm_canon.proofs.choosing.Choosing.bring.Goals as goal
use Rattle.firm_canon.proofs.choosing.Choosing.bring.Goals.{Else-go_round}

pub has_surplus_on-requires : goal.has_surplus_on-requires
has_surplus_on-requires c =
    let s : Choosing = c.args.self.now in
    subst (λ (n : Net). IsArc n c.through_arc-arc.result) (sym c.net.ensures.value)
    (there_at (view s) (price s) (prefix s) (Through c.args.machine) c.through_arc-arc.result c.requires.ready.keeps
    c.requires.machine c.through_arc-arc.ensures)

pub returns-then-has_surplus_on-clause-yes : goal.returns-then-has_surplus_on-clause-yes
returns-then-has_surplus_on-clause-yes c e =
    let s : Choosing = c.args.self.now in
    omega (
      arith,
      c.if-has_surplus_on.ensures.yes refl,
      flow_is (view s) c.net.result.now c.through_arc-arc.result (Through c.args.machine) _ c.net.ensures.value
          c.through_arc-arc.ensures refl,
      low_is (view s) c.net.result.now c.through_arc-arc.result (Through c.args.machine) _ c.net.ensures.value
          c.through_arc-arc.ensures refl,
      c.requires.ready.keeps.lows (Through c.args.machine) c.requires.machine,
    )

pub go_round-requires-clause-there : goal.go_round-requires-clause-there
go_round-requires-clause-there c =
    let s : Choosing = c.args.self.now in
    there_at (view s) (price s) (prefix s) (Through c.args.machine) c.through_arc-arc.result c.requires.ready.keeps
    c.requires.machine c.through_arc-arc.ensures

pub go_round-requires-clause-round : goal.go_round-requires-clause-round
go_round-requires-clause-round c row steps there path =
    let s : Choosing = c.args.self.now in
    round_by (view s) (price s) (prefix s) c.requires.ready.keeps c.requires.next (spot_of (view s) Hub)
    (Through c.args.machine) c.through_arc-arc.result row steps c.requires.machine c.through_arc-arc.ensures
    (through_tail (view s) (price s) (prefix s) c.requires.ready.keeps c.requires.next c.args.machine) there path

-- the machine has no unit to spare
few : (c : Else-go_round) → flows (view c.args.self.now) (Through c.args.machine)
    ≤ guests (view c.args.self.now).case (prefix c.args.self.now) c.args.machine
few c =
    let s : Choosing = c.args.self.now in
    omega (
      arith,
      c.if-has_surplus_on.ensures.no refl,
      flow_is (view s) c.net.result.now c.through_arc-arc.result (Through c.args.machine) _ c.net.ensures.value
          c.through_arc-arc.ensures refl,
      low_is (view s) c.net.result.now c.through_arc-arc.result (Through c.args.machine) _ c.net.ensures.value
          c.through_arc-arc.ensures refl,
      c.requires.ready.keeps.lows (Through c.args.machine) c.requires.machine,
    )

spent : (c : Else-go_round) → IsSpent (view c.args.self.now).case (prefix c.args.self.now)
    (best (view c.args.self.now) (prefix c.args.self.now)) (Through c.args.machine)
spent c =
    let s : Choosing = c.args.self.now in
    through_spent (view s) (price s) (prefix s) c.requires.ready.keeps c.requires.next c.args.machine
    c.requires.machine (few c)
    (closed_at (view s) (price s) (prefix s) c.requires.ready.keeps c.requires.next (spot_of (view s) Hub)
    (Through c.args.machine) c.through_arc-arc.result c.requires.machine c.through_arc-arc.ensures
    (c.if-go_round.ensures.lost refl))

pub returns-clause-spent : goal.returns-clause-spent
returns-clause-spent c e = spent (goal.at.returns-clause-spent c).Else-go_round

pub pass-requires-clause-spent : goal.pass-requires-clause-spent
pass-requires-clause-spent c =
    let lost = c.if-go_round.ensures in
    still_on (λ v z b. IsSpent v.case b (best v b) (Through c.args.machine)) c.args.self.now c.go_round.new.self 0
    lost.goes_on (lost.unchanged refl) (spent (goal.at.pass-requires-clause-spent c).Else-go_round)

pub returns-then-machine-self-clause-spent : goal.returns-then-machine-self-clause-spent
returns-then-machine-self-clause-spent c e = c.requires.ready.spent c.args.machine c.if-machine-self.true

pub returns-then-go_round-clause-hub : goal.returns-then-go_round-clause-hub
returns-then-go_round-clause-hub c =
    let s : Choosing = c.args.self.now in
    let wide : Key = Wide (length (prefix s)) in
    let won = c.if-go_round.ensures in
    omega (
      arith,
      c.requires.ways.hub refl,
      ap flow_of_row ((won.won refl).others ((view s).arc wide)
          (λ e. apart (c.requires.ready.keeps.shows.arcs_apart wide (Through c.args.machine) c.requires.next
          c.requires.machine (e ∙ c.through_arc-arc.ensures)))
          (wide_full (view s) (price s) (prefix s) c.requires.ready.keeps c.requires.next c.args.machine
          c.through_arc-arc.result c.requires.machine c.through_arc-arc.ensures (c.requires.ways.hub refl))),
      flows_at (view s) (view c.go_round.new.self) wide ((view s).arc wide) won.goes_on.same.case refl,
    )
  where
    apart : {n j : ℕ} → Wide n ≡ Through j → ⊥
    apart {n} {j} e = cc

pub returns-then-go_round-clause-yes : goal.returns-then-go_round-clause-yes
returns-then-go_round-clause-yes c e =
    let s : Choosing = c.args.self.now in
    omega (
      arith,
      (c.if-go_round.ensures.won refl).more,
      through_held (view s) (price s) (prefix s) c.args.machine c.requires.ready.keeps c.requires.machine,
      ap (λ (a : ArcId). flow_of_row (row_at s.graph.now.net a)) c.through_arc-arc.ensures,
      flows_at (view s) (view c.go_round.new.self) (Through c.args.machine) c.through_arc-arc.result
          c.if-go_round.ensures.goes_on.same.case c.through_arc-arc.ensures,
    )

pub returns-then-machine-self-clause-goes_on : goal.returns-then-machine-self-clause-goes_on
returns-then-machine-self-clause-goes_on c = goes_still c.args.self.now c.requires.ready

pub returns-then-has_surplus_on-clause-goes_on : goal.returns-then-has_surplus_on-clause-goes_on
returns-then-has_surplus_on-clause-goes_on c = goes_still c.args.self.now c.requires.ready

pub go_round-requires-clause-idle : goal.go_round-requires-clause-idle
go_round-requires-clause-idle c =
    idle_read c.args.self.now.graph.now.net c.net.result.now c.through_arc-arc.result c.net.ensures.value
    (c.if-has_surplus_on.ensures.no refl)

pub pass-requires-clause-machine : goal.pass-requires-clause-machine
pass-requires-clause-machine c =
    case_on (λ d b. c.args.machine < length d.slots) c.args.self.now c.go_round.new.self 0 c.go_round.ensures.goes_on
    c.requires.machine

pub returns-clause-goes_on : goal.returns-clause-goes_on
returns-clause-goes_on c =
    goes_more c.args.self.now c.go_round.new.self c.pass.new.self 0 c.go_round.ensures.goes_on c.pass.ensures.goes_on

pub returns-clause-unchanged : goal.returns-clause-unchanged
returns-clause-unchanged c e =
    ap (λ (z : Choosing). z.graph.now) c.pass.ensures.same ∙ c.if-go_round.ensures.unchanged refl

pub returns-clause-hub : goal.returns-clause-hub
returns-clause-hub c =
    ap (λ (g : Graph). flows (view_of g) (Wide (length (prefix c.args.self.now)))) (returns-clause-unchanged c refl)
    ∙ c.requires.ways.hub refl

pub returns-clause-ways : goal.returns-clause-ways
returns-clause-ways c e =
    let ways = c.if-go_round.ensures.ways refl in
    subst (λ (z : Choosing). HasWaysBack z true) (sym c.pass.ensures.same)
    (record { ways = ways.ways; hub = ways.hub })

pub returns-then-machine-self-clause-yes : goal.returns-then-machine-self-clause-yes
returns-then-machine-self-clause-yes c e = absurd (false≢true e)

pub returns-then-has_surplus_on-clause-spent : goal.returns-then-has_surplus_on-clause-spent
returns-then-has_surplus_on-clause-spent c e = absurd (false≢true (sym e))

pub returns-then-go_round-clause-spent : goal.returns-then-go_round-clause-spent
returns-then-go_round-clause-spent c e = absurd (false≢true (sym e))

pub returns-clause-yes : goal.returns-clause-yes
returns-clause-yes c e = absurd (false≢true e)
