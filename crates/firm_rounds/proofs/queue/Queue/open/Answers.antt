use Rattle.std.proofs.Common.{◌≡◌, ℕ, ◌+◌, ◌-◌, ◌<◌, ◌≤◌, All, refl, sym, subst, ap, ◌∙◌, arith}
use Rattle.crossbeam_queue.specs.Passes.{view}
use Rattle.firm_rounds.specs.Passes.{QueueId, PutIs, PopIs, new_puts, new_pops, queue_of}
use Rattle.firm_rounds.proofs.Cutting.{all_grown, grown_again, grown_start, held_again, held_grown}
use Rattle.firm_rounds.proofs.Opened.{puts_of, puts_unused, pops_of, same_queue}
use Rattle.firm_rounds.proofs.queue.Queue.open.Goals as goal

held : (puts pops all : ℕ) → all ≡ puts + pops → 0 < pops → puts ≤ all - 1
held puts pops all = omega arith

pub grow-requires : goal.grow-requires
grow-requires c =
    let ring = c.in_ok-ring.ensures in (ring.1, grown_start (view c.in_ok-ring.keep) ring.3)

pub grow-requires-2 : goal.grow-requires-2
grow-requires-2 c = (c.grow.ensures.0, grown_again (view c.grow.new.keep) _ c.grow.ensures.1)

pub cut_puts-requires : goal.cut_puts-requires
cut_puts-requires c =
    let all : (view c.grow-2.new.keep).all ≡ c.args.puts + c.args.pops =
    all_grown (view c.in_ok-ring.keep) (view c.grow.new.keep) (view c.grow-2.new.keep) c.args.puts c.args.pops
    c.in_ok-ring.ensures.3 c.grow.ensures.1 c.grow-2.ensures.1 c.requires.1 in (
      c.grow-2.ensures.0,
      c.requires.0,
      held c.args.puts c.args.pops (view c.grow-2.new.keep).all all c.requires.1,
      held_grown (view c.grow-2.new.keep) _ c.grow-2.ensures.1,
    )

pub cut_pops-requires : goal.cut_pops-requires
cut_pops-requires c =
    let kept = c.in_ok-put_passes.ensures.kept in (
      kept.0,
      c.requires.1,
      kept.1
          ∙ all_grown (view c.in_ok-ring.keep) (view c.grow.new.keep) (view c.grow-2.new.keep) c.args.puts c.args.pops
          c.in_ok-ring.ensures.3 c.grow.ensures.1 c.grow-2.ensures.1 c.requires.1,
      held_again (view c.cut_puts.new.keep) c.args.puts (view c.grow-2.new.keep).all kept.2 kept.1,
    )

pub returns-clause-passes : goal.returns-clause-passes
returns-clause-passes c =
    let id : QueueId =
    record {
      table = c.in_ok-ring.ring.table.shared.table_id;
      all = c.args.puts + c.args.pops;
      bell = c.in_ok-bell.bell;
    } in
    let all : (view c.grow-2.new.keep).all ≡ c.args.puts + c.args.pops =
    all_grown (view c.in_ok-ring.keep) (view c.grow.new.keep) (view c.grow-2.new.keep) c.args.puts c.args.pops
    c.in_ok-ring.ensures.3 c.grow.ensures.1 c.grow-2.ensures.1 c.requires.1 in (
      c.in_ok-put_passes.ensures.passes
          ∙ ap (λ (q : QueueId). new_puts q c.args.puts)
          (same_queue (queue_of c.in_ok-bell.bell c.grow-2.new.keep) id c.grow-2.ensures.0.0 all refl),
      c.in_ok-pop_passes.ensures
          ∙ ap (λ (q : QueueId). new_pops q c.args.pops) (same_queue (queue_of c.in_ok-bell.bell c.cut_puts.new.keep) id
          c.in_ok-put_passes.ensures.kept.0.0 (c.in_ok-put_passes.ensures.kept.1 ∙ all) refl),
    )

pub returns-clause-of_this : goal.returns-clause-of_this
returns-clause-of_this c =
    let id : QueueId =
    record {
      table = c.in_ok-ring.ring.table.shared.table_id;
      all = c.args.puts + c.args.pops;
      bell = c.in_ok-bell.bell;
    } in
    let passes = returns-clause-passes c in (
      subst (All (λ (p : PutIs). p.queue ≡ id)) (sym passes.0) (puts_of id c.args.puts),
      subst (All (λ (p : PopIs). p.queue ≡ id)) (sym passes.1) (pops_of id c.args.pops),
    )

pub returns-clause-unused : goal.returns-clause-unused
returns-clause-unused c =
    let id : QueueId =
    record {
      table = c.in_ok-ring.ring.table.shared.table_id;
      all = c.args.puts + c.args.pops;
      bell = c.in_ok-bell.bell;
    } in
    subst (All (λ (p : PutIs). p.put ≡ 0)) (sym (returns-clause-passes c).0) (puts_unused id c.args.puts)
