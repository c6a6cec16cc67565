use Rattle.std.proofs.Common.{◌≤◌, ◌<◌, ℕ, length, sym, subst, ◌∙◌, ⊎_elim, arith}
use Rattle.std.proofs.lemmas.Bool.{cases_lt}
use Rattle.std.proofs.lemmas.List.{get_or-replicate, get_or_past, length-replicate}
use lib.ListN.{replicate}
use Rattle.firm_rules.specs.declared.rounds.Choice.TheVariants.{Wait}
use Rattle.firm_rules.specs.Placement.{load, IsLegal}
use Rattle.firm_rents.specs.inner.Classes.{level_rents, SuitsLoad}
use Rattle.firm_rents.proofs.first.shows_first.Goals as goal

pub counts_loads-requires : goal.counts_loads-requires
counts_loads-requires c =
    λ j. ⊎_elim (λ (inside : j < 4096). get_or-replicate 4096 j 0 0 inside)
    (λ (past : 4096 ≤ j). get_or_past (replicate 4096 0) j 0 (omega (arith, past, length-replicate {A = ℕ} 4096 0)))
    (cases_lt j 4096)

pub machines_suit-requires-clause-room : goal.machines_suit-requires-clause-room
machines_suit-requires-clause-room c =
    let legal : IsLegal c.args.case.now c.args.placement.now =
    (c.legality_is_judged.ensures c.args.case.now c.args.placement.now).yes
    (sym c.counts_loads.ensures.legal ∙ c.if-not-counts_loads.false) in
    λ j l. omega (arith, legal.room j l, c.counts_loads.ensures.loads c.if-not-counts_loads.false j l)

pub tasks_suit-requires-clause-one_each : goal.tasks_suit-requires-clause-one_each
tasks_suit-requires-clause-one_each c =
    let legal : IsLegal c.args.case.now c.args.placement.now =
    (c.legality_is_judged.ensures c.args.case.now c.args.placement.now).yes
    (sym c.counts_loads.ensures.legal ∙ c.if-not-counts_loads.false) in
    legal.one_each

pub tasks_suit-requires-clause-places : goal.tasks_suit-requires-clause-places
tasks_suit-requires-clause-places c =
    let legal : IsLegal c.args.case.now c.args.placement.now =
    (c.legality_is_judged.ensures c.args.case.now c.args.placement.now).yes
    (sym c.counts_loads.ensures.legal ∙ c.if-not-counts_loads.false) in
    λ i l. legal.places i Wait l

pub returns-clause-first : goal.returns-clause-first
returns-clause-first c =
    let case = c.args.case.now in
    let rents = level_rents c.args.rents.now in
    let legal : IsLegal c.args.case.now c.args.placement.now =
    (c.legality_is_judged.ensures c.args.case.now c.args.placement.now).yes
    (sym c.counts_loads.ensures.legal ∙ c.if-not-counts_loads.false) in
    let suited : (j : ℕ) → j < length case.slots → SuitsLoad case rents j (load c.args.placement.now j) =
    λ j l. subst (SuitsLoad case rents j) (c.counts_loads.ensures.loads c.if-not-counts_loads.false j l)
    (c.machines_suit.ensures c.if-not-machines_suit.false j l) in
    λ e. c.rents_show_first.ensures case rents c.args.placement.now legal
    (record {
      cheapest = c.tasks_suit.ensures.suits e;
      worth = λ j l. (suited j l).worth;
      free = λ j l. (suited j l).free;
    })
